use Rattle.std.proofs.Common.{◌≡◌, ℕ, List, Some, Result, Ok, Err, length, sym, arith, ◌∙◌}
use Rattle.std.specs.Option.{option_map}
use Rattle.std.specs.Result.{result_ok, IsOkAnd}
use Rattle.arrayvec.specs.ArrayVec.{ArrayVec}
use Rattle.std.proofs.lemmas.List.{length-map}
use Rattle.s39_split.specs.Shares.{indexed_bytes}
use Rattle.s39_split.proofs.Indices.{few_lent}
use Rattle.s39_split.proofs.OneOutcome.{combine_once}
use Rattle.s39_split.proofs.recovery.combine.Goals as goal

-- an answer that says the one secret has it
ok_with : {E : Type 0} (answer : Result (ArrayVec ℕ) E) (secret : List ℕ) → option_map (λ found. found.items) (result_ok answer) ≡ Some secret
    → IsOkAnd answer (λ found. found.items ≡ secret)
ok_with (Ok found) secret is = cc
ok_with (Err error) secret is = absurd (cc)

pub combine_points-requires-clause-few : goal.combine_points-requires-clause-few
combine_points-requires-clause-few c =
    omega (arith, c.requires.number, few_lent c.args.shares.now c.requires.distinct c.requires.indices)

pub returns-clause-of_a_split : goal.returns-clause-of_a_split
returns-clause-of_a_split c = λ count secret random shares split choice.
    let chosen = indexed_bytes c.args.shares.now in
    let number : length chosen ≡ c.args.t = length-map c.args.shares.now (λ s. (s.0, s.1.now.items)) ∙ c.requires.number in
    let combined = c.any_shares_combine.ensures c.args.t count secret random shares chosen split choice number in
    ok_with c.combine_points.result secret
    (c.combine_points.ensures.combined
    ∙ sym (combine_once c.args.t chosen (Some secret) (omega (arith, c.requires.positive))
    (λ k d within. let low = c.requires.indices k d within in omega arith) c.requires.distinct combined.0))
