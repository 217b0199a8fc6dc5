use borrow.Author.Count.{below_more}
use Rattle.std.proofs.Common.{◌≡◌, ◌<◌, ◌≤◌, nat_le, false, length, get_or, sym, arith}
use Rattle.std.proofs.lemmas.Bool.{le-leb, lt-leb}
use Rattle.std.proofs.lemmas.List.Sums.{position_or_len_is}
use Rattle.base58.specs.Base58.{digit_of}
use Rattle.base58.proofs.reading.first_bad_letter.Goals as goal

pub returns-then-digit_of-eq58 : goal.returns-then-digit_of-eq58
returns-then-digit_of-eq58 c =
    let text = c.args.text.now in
    let i = c.loop-i.i in
    let none : 58 ≤ digit_of (get_or text i 0) = omega (arith, c.digit_of.ensures.digit) in
    sym (position_or_len_is (λ x. nat_le 58 (digit_of x)) text i 0 (omega arith) c.loop-i.invariant
    (λ _. le-leb 58 (digit_of (get_or text i 0)) none))

pub loop-i-preserved : goal.loop-i-preserved
loop-i-preserved c =
    let text = c.args.text.now in
    let i = c.loop-i.i in
    let some : digit_of (get_or text i 0) < 58 = omega (arith, c.digit_of.ensures.digit, c.digit_of.ensures.most) in
    below_more (λ k. nat_le 58 (digit_of (get_or text k 0)) ≡ false) i c.loop-i.invariant (lt-leb 58 (digit_of (get_or text i 0)) some)

pub returns : goal.returns
returns c =
    let text = c.args.text.now in
    let end : c.loop-i.i ≡ length text = omega arith in
    sym (position_or_len_is (λ x. nat_le 58 (digit_of x)) text (length text) 0 (omega arith)
    (λ k l. c.loop-i.invariant k (omega arith)) (λ l. absurd (omega arith)))
