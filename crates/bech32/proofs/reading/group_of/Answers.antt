use Rattle.std.proofs.Common.{◌≡◌, ℕ, ◌<◌, nat_eq, false, get_or, ap, sym, ◌∙◌, arith}
use Rattle.std.proofs.lemmas.Bool.{eq-eqb}
use Rattle.std.proofs.lemmas.List.Sums.{position_or_len_is}
use Rattle.bech32.specs.Segwit.{letters, group_of}
use Rattle.bech32.proofs.reading.group_of.Goals as goal

pub returns-then-from-letter-clause-group : goal.returns-then-from-letter-clause-group
unfolding group_of
returns-then-from-letter-clause-group c =
    sym (position_or_len_is (λ l. nat_eq l c.args.letter) letters c.loop-group.group 0 (omega arith) c.loop-group.invariant
    (λ _. eq-eqb (get_or letters c.loop-group.group 0) c.args.letter (ap (λ k. get_or letters k 0) (sym c.from.ensures) ∙ c.if-from-letter.true)))

pub returns-clause-group : goal.returns-clause-group
unfolding group_of
returns-clause-group c =
    let end : c.loop-group.group ≡ 32 = omega arith in
    let before : (k : ℕ) → k < 32 → nat_eq (get_or letters k 0) c.args.letter ≡ false =
    λ k l. c.loop-group.invariant k (omega arith) in
    sym (position_or_len_is (λ l. nat_eq l c.args.letter) letters 32 0 (omega arith) before (λ l. absurd (omega arith)))
