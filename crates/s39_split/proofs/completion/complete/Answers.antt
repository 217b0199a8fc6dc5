use Rattle.std.proofs.Common.{◌≡◌, ℕ, ◌<◌, ◌⊎◌, List, Some, None, length, ap, sym, arith, rules, ◌∙◌, inl, inr}
use Rattle.std.specs.Borrow.{Bor}
use Rattle.std.specs.List.{All}
use Rattle.std.specs.Option.{option_map}
use Rattle.std.proofs.lemmas.List.{length-map}
use Rattle.arrayvec.specs.ArrayVec.{ArrayVec}
use Rattle.s39_split.specs.Recovery.{interpolated, combined}
use Rattle.s39_split.specs.Sharing.{most_shares, secret_place}
use Rattle.s39_split.specs.Shares.{indexed_bytes}
use Rattle.s39_lists.proofs.Pairs.{All-from_same}
use Rattle.s39_split.proofs.Columns.{same_length}
use Rattle.s39_split.proofs.Completions.{any_points_combine, any_points_complete, complete_once}
use Rattle.s39_split.proofs.OneOutcome.{interpolated_once, combine_once}
use Rattle.s39_split.proofs.completion.complete.Goals as goal

-- there are as many points as are lent
count : (points : List (ℕ × Bor (ArrayVec ℕ))) (t : ℕ) → length points ≡ t → length (indexed_bytes points) ≡ t
count points t number = length-map points (λ s. (s.0, s.1.now.items)) ∙ number

-- their places are bytes
byte_places : (points : List (ℕ × List ℕ)) → All (λ p. (p.0 < most_shares) ⊎ (p.0 ≡ secret_place)) points → All (λ p. p.0 < 256) points
byte_places points places k d within = elim (places k d within) [ inl low ↦ omega arith | inr whole ↦ omega arith ]

pub combine_points-requires-clause-places : goal.combine_points-requires-clause-places
combine_points-requires-clause-places c = byte_places (indexed_bytes c.args.points.now) c.requires.places

pub interpolate-requires-clause-one_length : goal.interpolate-requires-clause-one_length
interpolate-requires-clause-one_length c = All-from_same (λ s. length s.1) (indexed_bytes c.args.points.now) c.requires.one_length

pub returns-in_err-combine_points-clause-completed : goal.returns-in_err-combine_points-clause-completed
returns-in_err-combine_points-clause-completed c =
    let points = indexed_bytes c.args.points.now in
    let none : None ≡ combined points = c.in_err-combine_points.ensures.combined in
    search (rules, ap (option_map (λ secret. interpolated points c.args.index)) none)

pub returns-in_err-combine_points-clause-of_a_split : goal.returns-in_err-combine_points-clause-of_a_split
returns-in_err-combine_points-clause-of_a_split c = λ count' secret random shares share split choice at.
    let points = indexed_bytes c.args.points.now in
    let number = count c.args.points.now c.args.t c.requires.number in
    let none : None ≡ Some secret =
    c.in_err-combine_points.ensures.combined
    ∙ sym (combine_once c.args.t points (Some secret) (omega (arith, c.requires.positive)) (byte_places points c.requires.places) c.requires.distinct
    (any_points_combine c.args.t count' secret random shares points split choice number)) in
    absurd (cc)

pub returns-clause-completed : goal.returns-clause-completed
returns-clause-completed c =
    let points = indexed_bytes c.args.points.now in
    let number = count c.args.points.now c.args.t c.requires.number in
    ap Some (interpolated_once points c.args.index c.interpolate.result.items (omega (arith, c.requires.positive)) (byte_places points c.requires.places)
    c.requires.distinct c.interpolate.ensures.value)
    ∙ ap (option_map (λ secret. interpolated points c.args.index)) c.in_ok-combine_points.ensures.combined

pub returns-clause-of_a_split : goal.returns-clause-of_a_split
returns-clause-of_a_split c = λ count' secret random shares share split choice at.
    let points = indexed_bytes c.args.points.now in
    let number = count c.args.points.now c.args.t c.requires.number in
    let completes = any_points_complete c.args.t count' secret random shares points c.args.index share c.interpolate.ensures.of_bytes
    split choice number at in
    let same : Some c.interpolate.result.items ≡ Some share =
    returns-clause-completed c
    ∙ sym (complete_once c.args.t points c.args.index (Some share) (omega (arith, c.requires.positive)) (byte_places points c.requires.places)
    c.requires.distinct completes.0) in
    cc

pub returns-clause-length : goal.returns-clause-length
returns-clause-length c = λ n rows.
    let points = indexed_bytes c.args.points.now in
    let number = count c.args.points.now c.args.t c.requires.number in
    same_length points (length c.interpolate.result.items) n (omega (arith, c.requires.positive)) rows c.interpolate.ensures.value.one_length
