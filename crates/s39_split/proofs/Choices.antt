-- Any shares of a split, as many as the threshold, combine to its secret.
use Rattle.std.proofs.Common.{◌≡◌, ◌≢◌, ℕ, ◌<◌, ◌≤◌, List, [], ◌∷◌, Option, Some, length, get_or, take, drop, refl, sym, ap, ◌∙◌, inl, inr, arith}
use Rattle.std.specs.List.{All, slice_get}
use Rattle.std.proofs.lemmas.Option.{slice_get-get_or, slice_get_within, get_or_from_slice_get}
use Rattle.std.proofs.lemmas.Bool.{cases_lt}
use Rattle.s39_field.specs.Interpolation.{InterpolatesBytes}
use Rattle.s39_field.proofs.Strings.{strings_have_one_value}
use Rattle.s39_split.specs.Sharing.{most_shares, digest_place, secret_place, digest_length, digest_share, digest_of, SharesAreAsLong}
use Rattle.s39_split.specs.Recovery.{Combines, CombinesSeveral, AreSharesOf, AnySharesCombine}
use Rattle.s39_split.specs.Shares.{AreDistinct}
use Rattle.s39_split.proofs.Interpolations.{interpolates_by_others}
use Rattle.s39_split.proofs.SplitPoints.{base_of, SplitBase, split_base}

module _ (chosen : List (ℕ × List ℕ)) (secret digest : List ℕ) where
  -- shares that interpolate a secret and a digest share that is accepted give the secret
  pub combines_accepted : InterpolatesBytes chosen secret_place secret → InterpolatesBytes chosen digest_place digest
      → take digest_length digest ≡ digest_of (drop digest_length digest) secret → CombinesSeveral chosen (Some secret)
  combines_accepted at_secret at_digest same = record {
    secret = secret;
    digest = digest;
    secret_interpolated = at_secret;
    digest_interpolated = at_digest;
    accepted = λ _. refl;
    refused = λ other. absurd (other same);
  }

  module _ (distinct : AreDistinct chosen) (places : All (λ s. s.0 < 256) chosen) (some : 0 < length chosen) where
    -- they give nothing else
    pub accepted_once : InterpolatesBytes chosen secret_place secret → InterpolatesBytes chosen digest_place digest
        → take digest_length digest ≡ digest_of (drop digest_length digest) secret
        → (outcome : Option (List ℕ)) → CombinesSeveral chosen outcome → outcome ≡ Some secret
    accepted_once at_secret at_digest same outcome c =
        let s : c.secret ≡ secret = strings_have_one_value chosen secret_place c.secret secret some places distinct c.secret_interpolated at_secret in
        let d : c.digest ≡ digest = strings_have_one_value chosen digest_place c.digest digest some places distinct c.digest_interpolated at_digest in
        c.accepted (rw (d, s) same) ∙ ap Some s

module _ (threshold : ℕ) (secret random key : List ℕ) (shares : List (List ℕ)) (several : 1 < threshold)
    (base : SplitBase threshold secret random shares key) (few : length shares ≤ most_shares)
    (chosen : List (ℕ × List ℕ)) (choice : AreSharesOf shares chosen) (as_many : length chosen ≡ threshold) where
  chosen_places : All (λ s. s.0 < 256) chosen
  chosen_places k d within =
      let below = slice_get_within shares (get_or chosen k d).0 (get_or chosen k d).1 (choice.belong k d within) in
      omega arith

  from_chosen : (x : ℕ) (y : List ℕ) → InterpolatesBytes (base_of threshold key secret shares) x y → InterpolatesBytes chosen x y
  from_chosen x y h =
      interpolates_by_others (base_of threshold key secret shares) base.distinct base.places chosen x y (as_many ∙ sym base.number)
      (λ k d within. base.share_interpolated (get_or chosen k d).0 (get_or chosen k d).1 (choice.belong k d within)) h

  several_combine : Combines threshold chosen (Some secret)
      × ((outcome : Option (List ℕ)) → Combines threshold chosen outcome → outcome ≡ Some secret)
  several_combine =
      let at_secret = from_chosen secret_place secret base.secret_interpolated in
      let at_digest = from_chosen digest_place (digest_share key secret) base.digest_interpolated in (
        record {
          number = as_many;
          one_needed = λ one. absurd (omega arith);
          more_needed = λ _. combines_accepted chosen secret (digest_share key secret) at_secret at_digest base.accepted;
        },
        λ outcome c. accepted_once chosen secret (digest_share key secret) choice.distinct chosen_places (omega arith) at_secret at_digest base.accepted
            outcome (c.more_needed (omega arith)),
      )

-- where one share is enough, it is the secret
one_combines : (secret : List ℕ) (shares : List (List ℕ)) (chosen : List (ℕ × List ℕ)) → All (λ share. share ≡ secret) shares
    → AreSharesOf shares chosen → length chosen ≡ 1
    → Combines 1 chosen (Some secret)
    × ((outcome : Option (List ℕ)) → Combines 1 chosen outcome → outcome ≡ Some secret)
one_combines secret shares [] same choice as_many = absurd (omega arith)
one_combines secret shares (s ∷ t ∷ rest) same choice as_many = absurd (omega arith)
one_combines secret shares (s ∷ []) same choice as_many =
    let at : slice_get shares s.0 ≡ Some s.1 = choice.belong 0 s (omega arith) in
    let within = slice_get_within shares s.0 s.1 at in
    let is : s.1 ≡ secret = sym (get_or_from_slice_get shares s.0 s.1 [] at) ∙ same s.0 [] within in (
      record {
        number = refl;
        one_needed = λ _. (s.0, s.1, refl, ap Some (sym is));
        more_needed = λ other. absurd (other refl);
      },
      λ outcome c.
          let o = c.one_needed refl in
          let e : s.1 ≡ o.1 = cc in
          o.3 ∙ ap Some (sym e ∙ is),
    )

pub any_shares_combine : AnySharesCombine
any_shares_combine threshold count secret random shares chosen split choice as_many =
    elim (cases_lt 1 threshold) [
      | inl several ↦
          let base = split_base threshold count secret random shares several split in
          several_combine threshold secret random base.0 shares several base.1 (omega (arith, split.number, split.few)) chosen choice as_many
      | inr one ↦
          let is : threshold ≡ 1 = omega (arith, split.positive) in
          rw is (one_combines secret shares chosen (split.one_needed is).1 choice (as_many ∙ is))
    ]

-- several shares, as many as the threshold, combine to what they interpolate
pub several_combine_to : (threshold : ℕ) (chosen : List (ℕ × List ℕ)) (outcome : Option (List ℕ)) → threshold ≢ 1 → length chosen ≡ threshold
    → CombinesSeveral chosen outcome → Combines threshold chosen outcome
several_combine_to threshold chosen outcome several number c = record {
  number = number;
  one_needed = λ one. absurd (several one);
  more_needed = λ _. c;
}

-- one share is the secret, and nothing else
pub one_combines_to : (chosen : List (ℕ × List ℕ)) (share : List ℕ) (d : ℕ × List ℕ) → length chosen ≡ 1 → share ≡ (get_or chosen 0 d).1
    → Combines 1 chosen (Some share)
one_combines_to [] share d one is = absurd (omega arith)
one_combines_to (s ∷ t ∷ rest) share d one is = absurd (omega arith)
one_combines_to (s ∷ []) share d one is = record {
  number = refl;
  one_needed = λ _. (s.0, s.1, refl, ap Some is);
  more_needed = λ other. absurd (other refl);
}

-- all shares of a split are as long as its secret
pub length-shares : SharesAreAsLong
length-shares threshold count secret random shares split k d within =
    elim (cases_lt 1 threshold) [
      | inl several ↦
          let base = split_base threshold count secret random shares several split in
          base.1.share_length k (get_or shares k d) (slice_get-get_or shares k d within)
      | inr one ↦ ap length ((split.one_needed (omega (arith, split.positive))).1 k d within)
    ]
