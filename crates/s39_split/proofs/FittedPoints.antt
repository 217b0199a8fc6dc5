-- The random bytes by which a split has known shares: there is one list of them.
use Rattle.std.proofs.Common.{◌≡◌, ℕ, ◌+◌, ◌-◌, ◌*◌, ◌<◌, ◌≤◌, List, [], ◌∷◌, ◌++◌, Some, length, map, get_or, take, refl, sym, ap, ◌∙◌, subst}
use Rattle.std.proofs.Common.{inl, inr, arith, length-append, append_assoc, zero-add}
use Rattle.std.specs.List.{All, concat, range_with_len, enumerate_from}
use Rattle.std.proofs.lemmas.List.{take_at, same_lists, get_or-take, get_or-append_right, get_or_append_left, get_or_at, get_or-append-add}
use Rattle.std.proofs.lemmas.List.{get_or_push, get_or_default, append-nil}
use Rattle.std.proofs.lemmas.List.Elements.{All-append, All-cons, All-nil}
use Rattle.std.proofs.lemmas.List.FromFn.{length-enumerate_from, get_or-enumerate_from, get_or-map-range_with_len}
use Rattle.std.proofs.lemmas.Option.{slice_get-get_or}
use Rattle.std.proofs.lemmas.Bool.{cases_lt}
use Rattle.s39_field.specs.Interpolation.{InterpolatesBytes}
use Rattle.s39_field.proofs.Strings.{strings_have_one_value}
use Rattle.s39_kdf.specs.Bytes.{AreBytes}
use Rattle.s39_split.specs.Shares.{AreDistinct}
use Rattle.s39_split.specs.Sharing.{most_shares, digest_place, secret_place, digest_length, digest_share, base_points, IsSplit}
use Rattle.s39_split.specs.Recovery.{AreSharesOf}
use Rattle.s39_split.specs.Fitting.{Fits}
use Rattle.s39_lists.proofs.Pushes.{concat-push}
use Rattle.s39_split.proofs.Pieces.{length-concat}
use Rattle.s39_split.proofs.Interpolations.{none, interpolates_itself, interpolates_by_others}
use Rattle.s39_split.proofs.BasePoints.{length-base_points}
use Rattle.s39_split.proofs.SplitPoints.{base_of, split_base}
use Rattle.s39_split.proofs.SplitLaws.{ArePoints, value_at_place, value_interpolated, length-digest_share, polynomial_split}

-- shares two fewer than the threshold, and the key of a digest
pub record AreKnown (threshold : ℕ) (secret key : List ℕ) (known : List (ℕ × List ℕ)) : Type 0 where
  pub several : 1 < threshold
  pub few : threshold ≤ most_shares
  pub key_length : length key + digest_length ≡ length secret
  pub number : length known + 2 ≡ threshold
  pub distinct : AreDistinct known
  pub indices : All (λ s. s.0 < most_shares) known
  pub lengths : All (λ s. length s.1 ≡ length secret) known

-- the points that determine the split: the known shares, the digest share and the secret
abbrev pub fitting_points : List ℕ → List ℕ → List (ℕ × List ℕ) → List (ℕ × List ℕ)
fitting_points secret key known = known ++ (digest_place, digest_share key secret) ∷ (secret_place, secret) ∷ []

-- what holds of the known shares, of the digest share and of the secret holds of the points
pub fitting_points-all : (secret key : List ℕ) (known : List (ℕ × List ℕ)) (P : ℕ × List ℕ → Type 0) → All P known
    → P (digest_place, digest_share key secret) → P (secret_place, secret) → All P (fitting_points secret key known)
fitting_points-all secret key known P of_known of_digest of_secret =
    All-append P known ((digest_place, digest_share key secret) ∷ (secret_place, secret) ∷ []) of_known
    (All-cons P (digest_place, digest_share key secret) ((secret_place, secret) ∷ []) of_digest
    (All-cons P (secret_place, secret) [] of_secret (All-nil P)))

-- what holds of the random shares with their indices, of the digest share and of the secret holds of the base points
base_points-each : (random_shares : List (List ℕ)) (digest secret : List ℕ) (P : ℕ × List ℕ → Type 0)
    → ((k : ℕ) (d : List ℕ) → k < length random_shares → P (k, get_or random_shares k d))
    → P (digest_place, digest) → P (secret_place, secret) → All P (base_points random_shares digest secret)
base_points-each random_shares digest secret P of_random of_digest of_secret =
    All-append P (enumerate_from 0 random_shares) ((digest_place, digest) ∷ (secret_place, secret) ∷ [])
    (λ k d within.
    let in_shares : k < length random_shares = omega (arith, length-enumerate_from 0 random_shares) in
    let at : get_or (enumerate_from 0 random_shares) k d ≡ (k, get_or random_shares k d.1) =
    get_or-enumerate_from 0 random_shares k d in_shares ∙ ap (λ i. (i, get_or random_shares k d.1)) (zero-add k) in
    subst P (sym at) (of_random k d.1 in_shares))
    (All-cons P (digest_place, digest) ((secret_place, secret) ∷ []) of_digest
    (All-cons P (secret_place, secret) [] of_secret (All-nil P)))

-- byte strings that the points interpolate at 0, 1, .. follow the key
pub record AreFitted (points : List (ℕ × List ℕ)) (key : List ℕ) (count : ℕ) (random : List ℕ) : Type 0 where
  pub strings : List (List ℕ)
  pub number : length strings ≡ count
  pub each : (j : ℕ) (d : List ℕ) → j < count → InterpolatesBytes points j (get_or strings j d)
  pub begins : random ≡ key ++ concat strings

-- none at first
pub AreFitted-none : (points : List (ℕ × List ℕ)) (key random : List ℕ) → random ≡ key → AreFitted points key 0 random
AreFitted-none points key random is = record {
  strings = [];
  number = refl;
  each = λ j d below. absurd (omega arith);
  begins = is ∙ sym (append-nil key);
}

-- then one more
pub AreFitted-more : (points : List (ℕ × List ℕ)) (key random string : List ℕ) (count : ℕ) → AreFitted points key count random
    → InterpolatesBytes points count string → AreFitted points key (count + 1) (random ++ string)
AreFitted-more points key random string count fitted interpolated = record {
  strings = fitted.strings ++ string ∷ [];
  number = length-append fitted.strings (string ∷ []) ∙ ap (λ n. n + 1) fitted.number;
  each = λ j d below. elim (cases_lt j count) [
    | inl earlier ↦
        subst (InterpolatesBytes points j) (sym (get_or_append_left fitted.strings (string ∷ []) d j (omega (arith, fitted.number))))
        (fitted.each j d earlier)
    | inr last ↦
        let at : j ≡ count = omega arith in
        rw at (subst (InterpolatesBytes points count) (sym (get_or_push fitted.strings string d count fitted.number)) interpolated)
  ];
  begins = ap (λ xs. xs ++ string) fitted.begins ∙ append_assoc key (concat fitted.strings) string
      ∙ ap (λ xs. key ++ xs) (sym (concat-push fitted.strings string));
}

-- how long they are
pub length-fitted : (points : List (ℕ × List ℕ)) (key random : List ℕ) (count n : ℕ) → 0 < length points
    → All (λ s. length s.1 ≡ n) points → AreFitted points key count random → length random ≡ length key + count * n
length-fitted points key random count n some lengths fitted =
    let long : All (λ y. length y ≡ n) fitted.strings =
    λ j d within. sym ((fitted.each j d (omega (arith, fitted.number))).one_length 0 none some) ∙ lengths 0 none some in
    ap length fitted.begins ∙ length-append key (concat fitted.strings)
    ∙ ap (λ m. length key + m) (length-concat fitted.strings n long ∙ ap (λ k. k * n) fitted.number)

module _ (threshold : ℕ) (secret key : List ℕ) (known : List (ℕ × List ℕ)) (are : AreKnown threshold secret key known) where
  pub length-points : length (fitting_points secret key known) ≡ threshold
  length-points = length-append known ((digest_place, digest_share key secret) ∷ (secret_place, secret) ∷ []) ∙ are.number

  at_known : (k : ℕ) (d : ℕ × List ℕ) → k < length known → get_or (fitting_points secret key known) k d ≡ get_or known k d
  at_known k d within = get_or_append_left known ((digest_place, digest_share key secret) ∷ (secret_place, secret) ∷ []) d k within

  at_digest : (k : ℕ) (d : ℕ × List ℕ) → k ≡ length known → get_or (fitting_points secret key known) k d ≡ (digest_place, digest_share key secret)
  at_digest k d at = get_or_at known (digest_place, digest_share key secret) ((secret_place, secret) ∷ []) d k (sym at)

  at_secret : (k : ℕ) (d : ℕ × List ℕ) → k ≡ length known + 1 → get_or (fitting_points secret key known) k d ≡ (secret_place, secret)
  at_secret k d at =
      ap (λ n. get_or (fitting_points secret key known) n d) at
      ∙ get_or-append-add known ((digest_place, digest_share key secret) ∷ (secret_place, secret) ∷ []) 1 d

  -- behind the known shares
  behind : (k : ℕ) (d : ℕ × List ℕ) → length known ≤ k → k < threshold
      → (get_or (fitting_points secret key known) k d).0 + length known ≡ k + digest_place
  behind k d high within = elim (cases_lt (length known) k) [
    | inl last ↦
        let at = at_secret k d (omega (arith, are.number)) in
        omega (arith, ap (λ s. s.0) at, are.number)
    | inr first ↦
        let at = at_digest k d (omega arith) in
        omega (arith, ap (λ s. s.0) at)
  ]

  pub points_places : All (λ s. s.0 < 256) (fitting_points secret key known)
  points_places = fitting_points-all secret key known (λ s. s.0 < 256) (λ k d within. omega (arith, are.indices k d within)) (omega arith) (omega arith)

  pub points_lengths : All (λ s. length s.1 ≡ length secret) (fitting_points secret key known)
  points_lengths = fitting_points-all secret key known (λ s. length s.1 ≡ length secret) are.lengths (length-digest_share key secret are.key_length) refl

  pub points_distinct : AreDistinct (fitting_points secret key known)
  points_distinct i j d before within same = elim (cases_lt j (length known)) [
    | inl low ↦
        are.distinct i j d before low (sym (ap (λ s. s.0) (at_known i d (omega arith))) ∙ same ∙ ap (λ s. s.0) (at_known j d low))
    | inr high ↦
        let at_j = behind j d high (omega (arith, length-points)) in
        elim (cases_lt i (length known)) [
          | inl low ↦
              let index : (get_or known i d).0 < most_shares = are.indices i d low in
              omega (arith, ap (λ s. s.0) (at_known i d low))
          | inr both ↦ omega (arith, behind i d both (omega (arith, length-points)))
        ]
  ]

  some_points : 0 < length (fitting_points secret key known)
  some_points = omega (arith, length-points, are.several)

  -- bytes by which a split has the known shares are of such strings
  are_fitted : (count : ℕ) (random rest : List ℕ) (shares : List (List ℕ)) → random ≡ key ++ rest → IsSplit threshold count secret random shares
      → AreSharesOf shares known → AreFitted (fitting_points secret key known) key (threshold - 2) random
  are_fitted count random rest shares begins split among =
      let m = length secret - digest_length in
      let base = split_base threshold count secret random shares are.several split in
      let b = base.1 in
      let keys : base.0 ≡ key =
      sym (take_at base.0 (concat (take (threshold - 2) shares)) m b.key_length) ∙ ap (take m) (sym b.consumed ∙ begins)
      ∙ take_at key rest m (omega (arith, are.key_length)) in
      let by_base : (x : ℕ) (y : List ℕ) → InterpolatesBytes (base_of threshold base.0 secret shares) x y
      → InterpolatesBytes (fitting_points secret key known) x y =
      λ x y h.
      interpolates_by_others (base_of threshold base.0 secret shares) b.distinct b.places (fitting_points secret key known) x y
      (length-points ∙ sym b.number)
      (fitting_points-all secret key known (λ s. InterpolatesBytes (base_of threshold base.0 secret shares) s.0 s.1)
      (λ k d within. b.share_interpolated (get_or known k d).0 (get_or known k d).1 (among.belong k d within))
      (subst (λ k. InterpolatesBytes (base_of threshold base.0 secret shares) digest_place (digest_share k secret)) keys b.digest_interpolated)
      b.secret_interpolated) h in
      record {
        strings = take (threshold - 2) shares;
        number = b.random_number;
        each = λ j d low.
            let at : get_or (take (threshold - 2) shares) j d ≡ get_or shares j d = get_or-take (threshold - 2) shares j d low in
            let in_shares : j < length shares = let enough = split.enough in omega (arith, split.number) in
            subst (InterpolatesBytes (fitting_points secret key known) j) (sym at)
            (by_base j (get_or shares j d) (b.share_interpolated j (get_or shares j d) (slice_get-get_or shares j d in_shares)));
        begins = b.consumed ∙ ap (λ k. k ++ concat (take (threshold - 2) shares)) keys;
      }

  -- of which there are no others
  fitted_once : (random other : List ℕ) → AreFitted (fitting_points secret key known) key (threshold - 2) random
      → AreFitted (fitting_points secret key known) key (threshold - 2) other → random ≡ other
  fitted_once random other f g =
      let same : f.strings ≡ g.strings =
      same_lists f.strings g.strings (f.number ∙ sym g.number)
      (λ j d within.
      let low : j < threshold - 2 = omega (arith, f.number) in
      strings_have_one_value (fitting_points secret key known) j (get_or f.strings j d) (get_or g.strings j d)
      some_points points_places points_distinct (f.each j d low) (g.each j d low)) in
      f.begins ∙ ap (λ ss. key ++ concat ss) same ∙ sym g.begins

  -- two splits of the secret that have the key and the known shares in common have all random bytes in common
  pub one_split_by_known : (count : ℕ) (random other rest more : List ℕ) (shares others : List (List ℕ)) → random ≡ key ++ rest → other ≡ key ++ more
      → IsSplit threshold count secret random shares → IsSplit threshold count secret other others
      → AreSharesOf shares known → AreSharesOf others known → random ≡ other
  one_split_by_known count random other rest more shares others begins also split another among in_others =
      fitted_once random other (are_fitted count random rest shares begins split among) (are_fitted count other more others also another in_others)

  module _ (bytes : All (λ s. AreBytes s.1) (fitting_points secret key known)) where
    abbrev pub are_points : ArePoints (length secret) (fitting_points secret key known)
    are_points = record {
      places = points_places;
      bytes = bytes;
      lengths = points_lengths;
      distinct = points_distinct;
    }

    abbrev pub value : ℕ → List ℕ
    value = value_at_place (length secret) (fitting_points secret key known) are_points

    pub interpolated : (x : ℕ) → InterpolatesBytes (fitting_points secret key known) x (value x)
    interpolated x = value_interpolated (length secret) (fitting_points secret key known) are_points x

    -- each point is interpolated at its place
    itself : (k : ℕ) (s : ℕ × List ℕ) → k < threshold → get_or (fitting_points secret key known) k none ≡ s
        → InterpolatesBytes (fitting_points secret key known) s.0 s.1
    itself k s within at =
        let Q : ℕ × List ℕ → Type 0 = λ p. InterpolatesBytes (fitting_points secret key known) p.0 p.1 in
        subst Q at (interpolates_itself (fitting_points secret key known) k 0 (value 0) (omega (arith, length-points)) (interpolated 0))

    module _ (random : List ℕ) (fitted : AreFitted (fitting_points secret key known) key (threshold - 2) random) where
      -- the base points are interpolated, so they interpolate what the points do
      from_base : (x : ℕ) → InterpolatesBytes (base_points fitted.strings (digest_share key secret) secret) x (value x)
      from_base x =
          interpolates_by_others (fitting_points secret key known) points_distinct points_places
          (base_points fitted.strings (digest_share key secret) secret) x (value x)
          (length-base_points fitted.strings (digest_share key secret) secret ∙ omega (arith, fitted.number, length-points, are.several))
          (base_points-each fitted.strings (digest_share key secret) secret (λ s. InterpolatesBytes (fitting_points secret key known) s.0 s.1)
          (λ k d within. fitted.each k d (omega (arith, fitted.number)))
          (itself (length known) (digest_place, digest_share key secret) (omega (arith, are.number)) (at_digest (length known) none refl))
          (itself (length known + 1) (secret_place, secret) (omega (arith, are.number)) (at_secret (length known + 1) none refl)))
          (interpolated x)

      abbrev fitted_shares : List (List ℕ)
      fitted_shares = fitted.strings ++ map value (range_with_len (threshold - 2) (most_shares - (threshold - 2)))

      -- each share is interpolated at its index
      share_at : (i : ℕ) → i < most_shares → InterpolatesBytes (fitting_points secret key known) i (get_or fitted_shares i [])
      share_at i within = elim (cases_lt i (threshold - 2)) [
        | inl low ↦
            subst (InterpolatesBytes (fitting_points secret key known) i)
            (sym (get_or_append_left fitted.strings (map value (range_with_len (threshold - 2) (most_shares - (threshold - 2)))) [] i
            (omega (arith, fitted.number))))
            (fitted.each i [] low)
        | inr high ↦
            subst (InterpolatesBytes (fitting_points secret key known) i)
            (sym (get_or-append_right fitted.strings (map value (range_with_len (threshold - 2) (most_shares - (threshold - 2)))) (threshold - 2) i []
            fitted.number high
            ∙ get_or-map-range_with_len value (threshold - 2) (most_shares - (threshold - 2)) (i - (threshold - 2)) i [] (omega arith) (omega arith)))
            (interpolated i)
      ]

      pub fits : Fits threshold secret key known random
      fits =
          let split = polynomial_split threshold most_shares key secret fitted.strings value are.key_length fitted.number from_base
          are.several are.few (omega arith) in
          record {
            rest = concat fitted.strings;
            begins = fitted.begins;
            shares = fitted_shares;
            split = subst (λ r. IsSplit threshold most_shares secret r fitted_shares) (sym fitted.begins) split;
            known_among = record {
              distinct = are.distinct;
              belong = λ k d within.
                  let s = get_or known k d in
                  let index : s.0 < most_shares = are.indices k d within in
                  let here = itself k s (omega (arith, are.number)) (at_known k none within ∙ get_or_default known k none d within) in
                  slice_get-get_or fitted_shares s.0 [] (omega (arith, split.number))
                  ∙ ap Some (strings_have_one_value (fitting_points secret key known) s.0 (get_or fitted_shares s.0 []) s.1
                  some_points points_places points_distinct
                  (share_at s.0 index) here);
            };
          }

      -- and no other bytes do
      pub fits_only : (other : List ℕ) → Fits threshold secret key known other → other ≡ random
      fits_only other f = fitted_once other random (are_fitted most_shares other f.rest f.shares f.begins f.split f.known_among) fitted
