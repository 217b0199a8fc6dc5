use borrow.Author.Count.{below_more}
use Rattle.std.proofs.Common.{◌≡◌, ◌<◌, ◌≤◌, nat_le, false, length, get_or, sym, arith}
use Rattle.std.proofs.lemmas.Bool.{le-leb, lt-leb}
use Rattle.std.proofs.lemmas.List.Sums.{position_or_len_is}
use Rattle.bech32.specs.Segwit.{group_of}
use Rattle.bech32.proofs.reading.first_bad_letter.Goals as goal

pub returns-then-group_of-eq32 : goal.returns-then-group_of-eq32
returns-then-group_of-eq32 c =
    let text = c.args.letters.now in
    let i = c.loop-i.i in
    let none : 32 ≤ group_of (get_or text i 0) = omega (arith, c.group_of.ensures.group) in
    sym (position_or_len_is (λ x. nat_le 32 (group_of x)) text i 0 (omega arith) c.loop-i.invariant
    (λ _. le-leb 32 (group_of (get_or text i 0)) none))

pub loop-i-preserved : goal.loop-i-preserved
loop-i-preserved c =
    let text = c.args.letters.now in
    let i = c.loop-i.i in
    let some : group_of (get_or text i 0) < 32 = omega (arith, c.group_of.ensures.group, c.group_of.ensures.most) in
    below_more (λ k. nat_le 32 (group_of (get_or text k 0)) ≡ false) i c.loop-i.invariant (lt-leb 32 (group_of (get_or text i 0)) some)

pub returns : goal.returns
returns c =
    let text = c.args.letters.now in
    let end : c.loop-i.i ≡ length text = omega arith in
    sym (position_or_len_is (λ x. nat_le 32 (group_of x)) text (length text) 0 (omega arith)
    (λ k l. c.loop-i.invariant k (omega arith)) (λ l. absurd (omega arith)))
