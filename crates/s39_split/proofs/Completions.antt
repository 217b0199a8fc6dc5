-- Points of a split, as many as its threshold, complete to its shares.
use Rattle.std.proofs.Common.{◌≡◌, ◌≢◌, ◌⊎◌, ℕ, ◌<◌, ◌≤◌, List, [], ◌∷◌, Option, Some, None, length, get_or, slice_index, refl, sym, ap, ◌∙◌, inl, inr, arith}
use Rattle.std.specs.List.{All, slice_get}
use Rattle.std.specs.Option.{option_map}
use Rattle.std.proofs.lemmas.List.Elements.{All-nil, All-cons}
use Rattle.std.proofs.lemmas.List.Kept.{AllPairs-cons}
use Rattle.std.proofs.lemmas.Option.{slice_get_within, get_or_from_slice_get}
use Rattle.std.proofs.lemmas.Bool.{cases_lt}
use Rattle.s39_field.specs.FieldProduct.{byte_field}
use Rattle.s39_field.specs.Polynomial.{value_at}
use Rattle.s39_field.specs.Interpolation.{InterpolatesBytes}
use Rattle.s39_field.specs.Theory.Powers.{byte_field_is_field}
use Rattle.s39_field.proofs.Values.{value_at-cons, mul-zero_left}
use Rattle.s39_kdf.specs.Bytes.{AreBytes}
use Rattle.s39_split.specs.Sharing.{most_shares, digest_place, secret_place, digest_share, IsSplit}
use Rattle.s39_split.specs.Recovery.{Combines, interpolated, combined}
use Rattle.s39_split.specs.Completion.{Completes, completed, ArePointsOf, SharesArePoints, AnyPointsComplete, PointsCompleteOnce, PointsComplete}
use Rattle.s39_split.proofs.Interpolations.{interpolates_by_others}
use Rattle.s39_split.proofs.SplitPoints.{base_of, SplitBase, split_base}
use Rattle.s39_split.proofs.Choices.{combines_accepted, one_combines_to, several_combine_to}
use Rattle.s39_lists.proofs.Pairs.{All-from_same}
use Rattle.s39_split.proofs.SplitLaws.{ArePoints}
use Rattle.s39_split.proofs.OneOutcome.{interpolates, interpolated_once, combine_once, shares_combine}

-- a polynomial of one coefficient has its value everywhere
constant_value : (c x : ℕ) → c < 256 → value_at byte_field (c ∷ []) x ≡ c
constant_value c x below =
    value_at-cons byte_field byte_field_is_field c [] x below
    ∙ ap (byte_field.add c) (mul-zero_left byte_field byte_field_is_field x)
    ∙ byte_field_is_field.add_zero c

-- one point of bytes interpolates its own string everywhere
one_point : (place x : ℕ) (string : List ℕ) → AreBytes string → InterpolatesBytes ((place, string) ∷ []) x string
one_point place x string bytes = record {
  one_length = All-cons (λ s. length s.1 ≡ length string) (place, string) [] refl (All-nil (λ s. length s.1 ≡ length string));
  each = λ position below.
      let byte = slice_index string position in
      let element : byte < 256 = bytes position 0 below in
      record {
        coefficients = byte ∷ [];
        elements = All-cons (λ c. c < 256) byte [] element (All-nil (λ c. c < 256));
        no_longer = omega arith;
        through = All-cons (λ p. value_at byte_field (byte ∷ []) p.0 ≡ p.1) (place, byte) [] (constant_value byte place element)
            (All-nil (λ p. value_at byte_field (byte ∷ []) p.0 ≡ p.1));
        takes = constant_value byte x element;
      };
}

-- points complete to nothing else than what is computed
pub complete_once : PointsCompleteOnce
complete_once threshold points index None some places distinct c =
    ap (option_map (λ secret. interpolated points index)) (combine_once threshold points None some places distinct c)
complete_once threshold points index (Some share) some places distinct c =
    ap Some (interpolated_once points index share some places distinct c.1)
    ∙ ap (option_map (λ secret. interpolated points index)) (combine_once threshold points (Some c.0.0) some places distinct c.0.1)

-- the places of a split's points
module _ (secret : List ℕ) (shares : List (List ℕ)) (chosen : List (ℕ × List ℕ)) (choice : ArePointsOf secret shares chosen)
    (few : length shares ≤ most_shares) where
  pub point_places : All (λ p. p.0 < 256) chosen
  point_places k d within = elim (choice.belong k d within) [
    | inl share ↦
        let below = slice_get_within shares (get_or chosen k d).0 (get_or chosen k d).1 share in
        omega arith
    | inr whole ↦ omega (arith, whole.0)
  ]

module _ (threshold : ℕ) (secret random key : List ℕ) (shares : List (List ℕ)) (several : 1 < threshold)
    (base : SplitBase threshold secret random shares key) (few : length shares ≤ most_shares)
    (chosen : List (ℕ × List ℕ)) (choice : ArePointsOf secret shares chosen) (as_many : length chosen ≡ threshold) where
  from_points : (x : ℕ) (y : List ℕ) → InterpolatesBytes (base_of threshold key secret shares) x y → InterpolatesBytes chosen x y
  from_points x y h =
      interpolates_by_others (base_of threshold key secret shares) base.distinct base.places chosen x y (as_many ∙ sym base.number)
      (λ k d within. elim (choice.belong k d within) [
        | inl share ↦ base.share_interpolated (get_or chosen k d).0 (get_or chosen k d).1 share
        | inr whole ↦ rw (whole.0, whole.1) base.secret_interpolated
      ]) h

  several_combine_to_it : Combines threshold chosen (Some secret)
  several_combine_to_it =
      several_combine_to threshold chosen (Some secret) (omega arith) as_many
      (combines_accepted chosen secret (digest_share key secret) (from_points secret_place secret base.secret_interpolated)
      (from_points digest_place (digest_share key secret) base.digest_interpolated) base.accepted)

  several_complete : (index : ℕ) (share : List ℕ) → slice_get shares index ≡ Some share → Completes threshold chosen index (Some share)
  several_complete index share is = ((secret, several_combine_to_it), from_points index share (base.share_interpolated index share is))

-- where one share is enough, the one point has the secret
one_point_is : (secret : List ℕ) (shares : List (List ℕ)) (point : ℕ × List ℕ) → All (λ share. share ≡ secret) shares
    → ArePointsOf secret shares (point ∷ []) → point.1 ≡ secret
one_point_is secret shares point same choice = elim (choice.belong 0 point (omega arith)) [
  | inl at ↦ sym (get_or_from_slice_get shares point.0 point.1 [] at) ∙ same point.0 [] (slice_get_within shares point.0 point.1 at)
  | inr at ↦ at.1
]

one_combines : (secret : List ℕ) (shares : List (List ℕ)) (chosen : List (ℕ × List ℕ)) → All (λ share. share ≡ secret) shares
    → ArePointsOf secret shares chosen → length chosen ≡ 1 → Combines 1 chosen (Some secret)
one_combines secret shares [] same choice as_many = absurd (omega arith)
one_combines secret shares (s ∷ t ∷ rest) same choice as_many = absurd (omega arith)
one_combines secret shares (s ∷ []) same choice as_many = one_combines_to (s ∷ []) secret s refl (sym (one_point_is secret shares s same choice))

-- any points of a split, as many as the threshold, combine to its secret
pub any_points_combine : (threshold count : ℕ) (secret random : List ℕ) (shares : List (List ℕ)) (chosen : List (ℕ × List ℕ))
    → IsSplit threshold count secret random shares → ArePointsOf secret shares chosen → length chosen ≡ threshold
    → Combines threshold chosen (Some secret)
any_points_combine threshold count secret random shares chosen split choice as_many = elim (cases_lt 1 threshold) [
  | inl several ↦
      let base = split_base threshold count secret random shares several split in
      several_combine_to_it threshold secret random base.0 shares several base.1 (omega (arith, split.number, split.few)) chosen choice as_many
  | inr one ↦
      let is : threshold ≡ 1 = omega (arith, split.positive) in
      rw is (one_combines secret shares chosen (split.one_needed is).1 choice (as_many ∙ is))
]

-- and then each share is the secret too
one_completes : (secret : List ℕ) (shares : List (List ℕ)) (chosen : List (ℕ × List ℕ)) (index : ℕ) (share : List ℕ)
    → All (λ point. AreBytes point.1) chosen → All (λ share. share ≡ secret) shares
    → ArePointsOf secret shares chosen → length chosen ≡ 1 → slice_get shares index ≡ Some share → Completes 1 chosen index (Some share)
one_completes secret shares [] index share bytes same choice as_many is = absurd (omega arith)
one_completes secret shares (s ∷ t ∷ rest) index share bytes same choice as_many is = absurd (omega arith)
one_completes secret shares (s ∷ []) index share bytes same choice as_many is =
    let first : s.1 ≡ secret = one_point_is secret shares s same choice in
    let here : share ≡ s.1 =
    sym (get_or_from_slice_get shares index share [] is) ∙ same index [] (slice_get_within shares index share is) ∙ sym first in
    ((s.1, one_combines_to (s ∷ []) s.1 s refl refl), rw here (one_point s.0 index s.1 (bytes 0 s (omega arith))))

-- any points of a split, as many as the threshold, complete to its shares, and to nothing else
pub any_points_complete : AnyPointsComplete
any_points_complete threshold count secret random shares chosen index share bytes split choice as_many is =
    let few : length shares ≤ most_shares = omega (arith, split.number, split.few) in
    let completes : Completes threshold chosen index (Some share) = elim (cases_lt 1 threshold) [
      | inl several ↦
          let base = split_base threshold count secret random shares several split in
          several_complete threshold secret random base.0 shares several base.1 few chosen choice as_many index share is
      | inr one ↦
          let threshold_is : threshold ≡ 1 = omega (arith, split.positive) in
          rw threshold_is (one_completes secret shares chosen index share bytes (split.one_needed threshold_is).1 choice (as_many ∙ threshold_is) is)
    ] in
    let once : (outcome : Option (List ℕ)) → Completes threshold chosen index outcome → outcome ≡ completed chosen index =
    λ outcome. complete_once threshold chosen index outcome (omega (arith, split.positive))
    (point_places secret shares chosen choice few) choice.distinct in
    (completes, λ outcome other. once outcome other ∙ sym (once (Some share) completes))

-- points of bytes, equally long and at distinct places, complete to it
pub points_complete : PointsComplete
points_complete threshold points index positive number places bytes one_length distinct =
    by (combined points) (shares_combine threshold points positive number places bytes one_length distinct)
  where
    by : (outcome : Option (List ℕ)) → Combines threshold points outcome
        → Completes threshold points index (option_map (λ secret. interpolated points index) outcome)
    by None c = c
    by (Some secret) c =
        let same = All-from_same (λ s. length s.1) points one_length in
        let are : ArePoints same.0 points = record { places = places; bytes = bytes; lengths = same.1; distinct = distinct } in
        ((secret, c), interpolates same.0 points index are (omega arith))

-- shares are points, and no share has the secret's place
pub shares_are_points : SharesArePoints
shares_are_points threshold count secret random shares chosen split choice =
    let few : length shares ≤ most_shares = omega (arith, split.number, split.few) in
    let other : All (λ point. secret_place ≢ point.0) chosen =
    λ k d within same.
    let below = slice_get_within shares (get_or chosen k d).0 (get_or chosen k d).1 (choice.belong k d within) in
    omega arith in
    let Belongs : ℕ × List ℕ → Type 0 =
    λ point. (slice_get shares point.0 ≡ Some point.1) ⊎ ((point.0 ≡ secret_place) × (point.1 ≡ secret)) in
    let belong : All Belongs chosen = λ k d within. inl (choice.belong k d within) in (
      record { distinct = choice.distinct; belong = belong },
      record {
        distinct = AllPairs-cons (λ a b. a.0 ≢ b.0) (secret_place, secret) chosen other choice.distinct;
        belong = All-cons Belongs (secret_place, secret) chosen (inr (refl, refl)) belong;
      },
    )
