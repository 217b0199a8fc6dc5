use Rattle.std.proofs.Common.{◌≡◌, ℕ, ◌<◌, nat_eq, false, get_or, sym, ◌∙◌, arith}
use Rattle.std.proofs.lemmas.Bool.{eq-eqb}
use Rattle.std.proofs.lemmas.List.Sums.{position_or_len_is}
use Rattle.base58.specs.Base58.{letters, digit_of}
use Rattle.base58.proofs.reading.digit_of.Goals as goal

pub returns-then-letter-character-clause-digit : goal.returns-then-letter-character-clause-digit
unfolding digit_of
returns-then-letter-character-clause-digit c =
    let same = sym c.letter.ensures ∙ c.if-letter-character.true in
    sym (position_or_len_is (λ l. nat_eq l c.args.character) letters c.loop-digit.digit 0 (omega arith) c.loop-digit.invariant
    (λ _. eq-eqb (get_or letters c.loop-digit.digit 0) c.args.character same))

pub returns-clause-digit : goal.returns-clause-digit
unfolding digit_of
returns-clause-digit c =
    let end : c.loop-digit.digit ≡ 58 = omega arith in
    let before : (k : ℕ) → k < 58 → nat_eq (get_or letters k 0) c.args.character ≡ false =
    λ k l. c.loop-digit.invariant k (omega arith) in
    sym (position_or_len_is (λ l. nat_eq l c.args.character) letters 58 0 (omega arith) before (λ l. absurd (omega arith)))
