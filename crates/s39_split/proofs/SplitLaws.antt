-- Laws of splits: their random bytes, their shares, and that there is one.
use Rattle.std.proofs.Common.{◌≡◌, ℕ, ◌+◌, ◌-◌, ◌*◌, ◌<◌, ◌≤◌, List, [], ◌++◌, Some, length, map, get_or, take, drop, replicate, refl, sym, ap, ap₂}
use Rattle.std.proofs.Common.{◌∙◌, subst, inl, inr, arith, length-append, length-drop}
use Rattle.std.specs.List.{All, concat, slice_get, range_with_len}
use Rattle.std.proofs.lemmas.List.{take_at, drop_at, length-take-le, take-append-drop, take-append-le, nil_from_length, same_lists, get_or_default}
use Rattle.std.proofs.lemmas.List.{get_or-take, get_or-append_right, length-replicate}
use Rattle.std.proofs.lemmas.List.Elements.{All-append, All-take, All-drop, All-replicate}
use Rattle.std.proofs.lemmas.List.FromFn.{length-map-range_with_len, get_or-map-range_with_len}
use Rattle.std.proofs.lemmas.Option.{slice_get-get_or, slice_get_within, get_or_from_slice_get}
use Rattle.std.proofs.lemmas.Bool.{cases_lt}
use Rattle.std.proofs.lemmas.Bool.Decides.{eqb_tells}
use Rattle.s39_field.specs.FieldProduct.{byte_field}
use Rattle.s39_field.specs.Interpolation.{InterpolatesBytes, interpolated_bytes}
use Rattle.s39_field.specs.Theory.Powers.{byte_field_is_field}
use Rattle.s39_field.proofs.Values.{value_at-element}
use Rattle.s39_field.proofs.Strings.{strings_have_a_value, strings_have_one_value}
use Rattle.s39_kdf.specs.Bytes.{AreBytes}
use Rattle.s39_kdf.specs.Hmac.{hmac}
use Rattle.s39_kdf.proofs.Lengths.{length-hmac}
use Rattle.s39_kdf.proofs.ByteValues.{AreBytes-hmac}
use Rattle.s39_split.specs.Shares.{AreDistinct}
use Rattle.s39_split.specs.Sharing.{most_shares, digest_length, digest_of, digest_share, random_needed, base_points, IsSplit}
use Rattle.s39_split.specs.Sharing.{SplitsTakeTheBytesNeeded, SharesAreBytes, HaveASplit, HaveOneSplit, FirstSharesAreASplit}
use Rattle.s39_split.proofs.BasePoints.{base_points-places, base_points-distinct, base_points-all}
use Rattle.s39_split.proofs.Pieces.{length-concat, same_pieces, pieces, length-pieces, All-pieces, concat-pieces, AreBytes-pieces}
use Rattle.s39_split.proofs.SplitPoints.{base_of, split_base}
use Rattle.s39_split.proofs.Choices.{length-shares}

-- where several shares are needed, R and the random shares
pub random_needed-several : (threshold n : ℕ) → 1 < threshold → random_needed threshold n ≡ (n - digest_length) + (threshold - 2) * n
random_needed-several threshold n several = elim (eqb_tells threshold 1) [
  | inl one ↦ absurd (omega (arith, one.1))
  | inr other ↦ rw other.0 refl
]

-- the random bytes of a split are as many as are needed
pub splits_take_the_bytes_needed : SplitsTakeTheBytesNeeded
splits_take_the_bytes_needed threshold count secret random shares split = elim (cases_lt 1 threshold) [
  | inl several ↦
      let n = length secret in
      let base = split_base threshold count secret random shares several split in
      let random_shares = take (threshold - 2) shares in
      let long : All (λ s. length s ≡ n) random_shares =
      All-take (λ s. length s ≡ n) (threshold - 2) shares (length-shares threshold count secret random shares split) in
      let joined : length (concat random_shares) ≡ (threshold - 2) * n = length-concat random_shares n long ∙ ap (λ k. k * n) base.1.random_number in
      ap length base.1.consumed ∙ length-append base.0 (concat random_shares)
      ∙ omega (arith, base.1.key_length) ∙ sym (random_needed-several threshold n several)
  | inr one ↦
      let is : threshold ≡ 1 = omega (arith, split.positive) in
      rw is (ap length (split.one_needed is).0)
]

-- what is interpolated at the place of a byte consists of bytes
pub AreBytes-interpolated : (strings : List (ℕ × List ℕ)) (x : ℕ) (y : List ℕ) → x < 256 → InterpolatesBytes strings x y → AreBytes y
AreBytes-interpolated strings x y place h k d within =
    let p = h.each k within in
    let P : ℕ → Type 0 = λ byte. byte < 256 in
    subst P (p.takes ∙ get_or_default y k 0 d within) (value_at-element byte_field byte_field_is_field p.coefficients x p.elements place)

-- the shares of a split consist of bytes
pub shares_are_bytes : SharesAreBytes
shares_are_bytes threshold count secret random shares split of_secret of_random k d within = elim (cases_lt 1 threshold) [
  | inl several ↦
      let base = split_base threshold count secret random shares several split in
      AreBytes-interpolated (base_of threshold base.0 secret shares) k (get_or shares k d) (omega (arith, split.number, split.few))
      (base.1.share_interpolated k (get_or shares k d) (slice_get-get_or shares k d within))
  | inr one ↦ subst AreBytes (sym ((split.one_needed (omega (arith, split.positive))).1 k d within)) of_secret
]

-- a digest share has the secret's length, and consists of bytes
pub length-digest_share : (key secret : List ℕ) → length key + digest_length ≡ length secret → length (digest_share key secret) ≡ length secret
length-digest_share key secret long =
    let digest : length (digest_of key secret) ≡ digest_length = length-take-le digest_length (hmac key secret) (omega (arith, length-hmac key secret)) in
    omega (arith, length-append (digest_of key secret) key)

pub AreBytes-digest_share : (key secret : List ℕ) → AreBytes key → AreBytes (digest_share key secret)
AreBytes-digest_share key secret bytes =
    All-append (λ byte. byte < 256) (digest_of key secret) key (All-take (λ byte. byte < 256) digest_length (hmac key secret) (AreBytes-hmac key secret)) bytes

-- points with strings of n bytes at distinct places
pub record ArePoints (n : ℕ) (points : List (ℕ × List ℕ)) : Type 0 where
  pub places : All (λ p. p.0 < 256) points
  pub bytes : All (λ p. AreBytes p.1) points
  pub lengths : All (λ p. length p.1 ≡ n) points
  pub distinct : AreDistinct points

-- what they interpolate at a place
pub value_at_place : (n : ℕ) (points : List (ℕ × List ℕ)) → ArePoints n points → ℕ → List ℕ
value_at_place n points are x = interpolated_bytes points x n

pub value_interpolated : (n : ℕ) (points : List (ℕ × List ℕ)) (are : ArePoints n points) (x : ℕ) → InterpolatesBytes points x (value_at_place n points are x)
unfolding value_at_place
value_interpolated n points are x = (strings_have_a_value points x n are.places are.bytes are.lengths are.distinct).2

-- random shares, the digest share and the secret are such points
pub are_base_points : (random_shares : List (List ℕ)) (key secret : List ℕ) → length random_shares + 2 ≤ most_shares
    → length key + digest_length ≡ length secret → AreBytes key → AreBytes secret
    → All AreBytes random_shares → All (λ s. length s ≡ length secret) random_shares
    → ArePoints (length secret) (base_points random_shares (digest_share key secret) secret)
are_base_points random_shares key secret few long of_key of_secret bytes lengths = record {
  places = base_points-places random_shares (digest_share key secret) secret few;
  bytes = base_points-all random_shares (digest_share key secret) secret AreBytes bytes (AreBytes-digest_share key secret of_key) of_secret;
  lengths = base_points-all random_shares (digest_share key secret) secret (λ s. length s ≡ length secret) lengths
      (length-digest_share key secret long) refl;
  distinct = base_points-distinct random_shares (digest_share key secret) secret few;
}

-- R, random shares and what they interpolate are a split
pub polynomial_split : (threshold count : ℕ) (key secret : List ℕ) (random_shares : List (List ℕ)) (value : ℕ → List ℕ)
    → length key + digest_length ≡ length secret → length random_shares ≡ threshold - 2
    → ((x : ℕ) → InterpolatesBytes (base_points random_shares (digest_share key secret) secret) x (value x))
    → 1 < threshold → threshold ≤ count → count ≤ most_shares
    → IsSplit threshold count secret (key ++ concat random_shares)
    (random_shares ++ map value (range_with_len (threshold - 2) (count - (threshold - 2))))
polynomial_split threshold count key secret random_shares value long number interpolated several enough few =
    let others = map value (range_with_len (threshold - 2) (count - (threshold - 2))) in
    let taken : take (threshold - 2) (random_shares ++ others) ≡ random_shares = take_at random_shares others (threshold - 2) number in
    let size : length others ≡ count - (threshold - 2) = length-map-range_with_len value (threshold - 2) (count - (threshold - 2)) in
    record {
      positive = omega arith;
      enough = enough;
      few = few;
      number = omega (arith, length-append random_shares others);
      one_needed = λ one. absurd (omega arith);
      more_needed = λ _. record {
        key = key;
        key_length = omega arith;
        consumed = ap (λ ss. key ++ concat ss) (sym taken);
        interpolated = λ index share later is.
            let within = slice_get_within (random_shares ++ others) index share is in
            let at : share ≡ value index =
            sym (get_or_from_slice_get (random_shares ++ others) index share [] is)
            ∙ get_or-append_right random_shares others (threshold - 2) index [] number later
            ∙ get_or-map-range_with_len value (threshold - 2) (count - (threshold - 2)) (index - (threshold - 2)) index []
            (omega (arith, length-append random_shares others)) (omega arith) in
            rw (taken, at) (interpolated index);
      };
    }

-- a secret and random bytes have a split
pub have_a_split : HaveASplit
have_a_split threshold count secret random positive enough few long of_secret of_random needed = elim (cases_lt 1 threshold) [
  | inl several ↦
      let n = length secret in
      let m = n - digest_length in
      let key = take m random in
      let whole : length random ≡ m + (threshold - 2) * n = needed ∙ random_needed-several threshold n several in
      let rest : length (drop m random) ≡ (threshold - 2) * n = omega (arith, length-drop m random) in
      let key_length : length key + digest_length ≡ n = omega (arith, length-take-le m random (omega arith)) in
      let random_shares = pieces (threshold - 2) n (drop m random) in
      let number = length-pieces (threshold - 2) n (drop m random) in
      let are = are_base_points random_shares key secret (omega arith) key_length (All-take (λ byte. byte < 256) m random of_random) of_secret
      (AreBytes-pieces n (threshold - 2) (drop m random) (All-drop (λ byte. byte < 256) m random of_random))
      (All-pieces n (threshold - 2) (drop m random) rest) in
      let value = value_at_place n (base_points random_shares (digest_share key secret) secret) are in
      let split = polynomial_split threshold count key secret random_shares value key_length number
      (value_interpolated n (base_points random_shares (digest_share key secret) secret) are) several enough few in
      let taken : key ++ concat random_shares ≡ random =
      ap (λ xs. key ++ xs) (concat-pieces n (threshold - 2) (drop m random) rest) ∙ take-append-drop m random in
      (random_shares ++ map value (range_with_len (threshold - 2) (count - (threshold - 2))), rw taken at split)
  | inr one ↦
      let is : threshold ≡ 1 = omega arith in
      let none : length random ≡ random_needed 1 (length secret) = rw is at needed in (
        replicate count secret,
        record {
          positive = positive;
          enough = enough;
          few = few;
          number = length-replicate count secret;
          one_needed = λ _. (nil_from_length random none, All-replicate (λ share. share ≡ secret) count secret refl);
          more_needed = λ several. absurd (several is);
        },
      )
]

-- and no other
pub have_one_split : HaveOneSplit
have_one_split threshold count secret random shares other a b = same_lists shares other (a.number ∙ sym b.number) (λ k d within.
    elim (cases_lt 1 threshold) [
      | inl several ↦
          let n = length secret in
          let base = split_base threshold count secret random shares several a in
          let base' = split_base threshold count secret random other several b in
          let whole : base.0 ++ concat (take (threshold - 2) shares) ≡ base'.0 ++ concat (take (threshold - 2) other) =
          sym base.1.consumed ∙ base'.1.consumed in
          let m = n - digest_length in
          let keys : base.0 ≡ base'.0 =
          sym (take_at base.0 (concat (take (threshold - 2) shares)) m base.1.key_length) ∙ ap (take m) whole
          ∙ take_at base'.0 (concat (take (threshold - 2) other)) m base'.1.key_length in
          let rests : concat (take (threshold - 2) shares) ≡ concat (take (threshold - 2) other) =
          sym (drop_at base.0 (concat (take (threshold - 2) shares)) m base.1.key_length) ∙ ap (drop m) whole
          ∙ drop_at base'.0 (concat (take (threshold - 2) other)) m base'.1.key_length in
          let random_shares : take (threshold - 2) shares ≡ take (threshold - 2) other =
          same_pieces (take (threshold - 2) shares) (take (threshold - 2) other) n
          (All-take (λ s. length s ≡ n) (threshold - 2) shares (length-shares threshold count secret random shares a))
          (All-take (λ s. length s ≡ n) (threshold - 2) other (length-shares threshold count secret random other b))
          (base.1.random_number ∙ sym base'.1.random_number) rests in
          let bases : base_of threshold base'.0 secret other ≡ base_of threshold base.0 secret shares =
          ap₂ (λ key ss. base_points ss (digest_share key secret) secret) (sym keys) (sym random_shares) in
          let in_other : k < length other = omega (arith, a.number, b.number) in
          strings_have_one_value (base_of threshold base.0 secret shares) k (get_or shares k d) (get_or other k d) (omega (arith, base.1.number))
          base.1.places base.1.distinct
          (base.1.share_interpolated k (get_or shares k d) (slice_get-get_or shares k d within))
          (rw bases at (base'.1.share_interpolated k (get_or other k d) (slice_get-get_or other k d in_other)))
      | inr one ↦
          let is : threshold ≡ 1 = omega (arith, a.positive) in
          (a.one_needed is).1 k d within ∙ sym ((b.one_needed is).1 k d (omega (arith, a.number, b.number)))
    ])

-- the first shares are the split into these
pub first_shares_are_a_split : FirstSharesAreASplit
first_shares_are_a_split threshold count fewer secret random shares split enough within =
    let number : length (take fewer shares) ≡ fewer = length-take-le fewer shares (omega (arith, split.number)) in
    record {
      positive = split.positive;
      enough = enough;
      few = omega (arith, split.few);
      number = number;
      one_needed = λ one.
          let p = split.one_needed one in
          (p.0, All-take (λ share. share ≡ secret) fewer shares p.1);
      more_needed = λ several.
          let p = split.more_needed several in
          let same : take (threshold - 2) (take fewer shares) ≡ take (threshold - 2) shares =
          sym (take-append-le (threshold - 2) (take fewer shares) (drop fewer shares) (omega arith))
          ∙ ap (take (threshold - 2)) (take-append-drop fewer shares) in
          record {
            key = p.key;
            key_length = p.key_length;
            consumed = p.consumed ∙ ap (λ ss. p.key ++ concat ss) (sym same);
            interpolated = λ index share later is.
                let below = slice_get_within (take fewer shares) index share is in
                let at : get_or shares index [] ≡ share =
                sym (get_or-take fewer shares index [] (omega arith)) ∙ get_or_from_slice_get (take fewer shares) index share [] is in
                let here : slice_get shares index ≡ Some share = slice_get-get_or shares index [] (omega (arith, split.number)) ∙ ap Some at in
                rw same (p.interpolated index share later here);
          };
    }
