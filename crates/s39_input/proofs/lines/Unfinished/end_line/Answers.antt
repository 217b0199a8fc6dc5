use Rattle.std.proofs.Common.{◌≡◌, [], ◌∷◌, ◌++◌, Ok, Err, length, subst, arith, rules}
use Rattle.std.proofs.lemmas.List.{nil_from_length}
use Rattle.std.proofs.lemmas.Result.{err_from_is_err_and}
use Rattle.s39_input.specs.Midway.{IsMidway}
use Rattle.s39_input.proofs.Taking.Reading.{midway_after_part, midway_after_line, stops_after_line, stops_further, reaches_after_part}
use Rattle.s39_input.proofs.lines.Unfinished.end_line.Goals as goal

pub returns-then-part-le-MAX_LINE_BYTES-clause-taken : goal.returns-then-part-le-MAX_LINE_BYTES-clause-taken
returns-then-part-le-MAX_LINE_BYTES-clause-taken g c = λ came first m.
    let zero_length : length c.args.self.now.line.items ≡ 0 = search rules in
    let none = nil_from_length c.args.self.now.line.items zero_length in
    let part = c.args.part.now in
    let begun = subst (λ u. IsMidway g.T.TakeLine.takes came u c.args.self.now.number first c.args.taker.now) none m in
    reaches_after_part g.T.TakeLine.takes came part part c.args.self.now.line.items c.args.self.now.number c.take_numbered.new.number
    c.take_numbered.result first c.args.taker.now c.take_numbered.new.taker
    c.take_numbered.ensures.taken c.take_numbered.ensures.next c.take_numbered.ensures.refused none
    (midway_after_part g.T.TakeLine.takes came [] part c.args.self.now.number first c.args.taker.now begun c.requires.part
    (omega (arith, c.if-part-le-MAX_LINE_BYTES.true)))

pub returns-in_err-keep-clause-taken : goal.returns-in_err-keep-clause-taken
returns-in_err-keep-clause-taken g c = λ came first m.
    let p = err_from_is_err_and c.from_residual.result c.from_residual.ensures.1 in
    let part = c.args.part.now in
    rw (p.1, p.2)
    (stops_further g.T.TakeLine.takes (came ++ part) (10 ∷ []) c.in_err-keep.field-0.0 first c.args.taker.now
    (c.in_err-keep.ensures.taken came first c.args.taker.now m))

pub returns-in_err-take_numbered-clause-taken : goal.returns-in_err-take_numbered-clause-taken
returns-in_err-take_numbered-clause-taken g c = λ came first m.
    let p = err_from_is_err_and c.from_residual-in_err-take_numbered.result c.from_residual-in_err-take_numbered.ensures.1 in
    let part = c.args.part.now in
    let refused = c.in_err-take_numbered.ensures.refused in
    rw (p.1, p.2)
    (stops_after_line g.T.TakeLine.takes (came ++ part) c.keep.new.self.line.items c.in_err-take_numbered.field-0.0 c.keep.new.self.number first
    c.args.taker.now c.take_numbered-2.new.taker
    (c.in_ok-keep.ensures.taken came first c.args.taker.now m) (subst (λ line. g.T.TakeLine.takes c.args.taker.now line
    (Err c.in_err-take_numbered.field-0.0.refusal) c.take_numbered-2.new.taker) c.deref.ensures.0 refused.0) refused.1)

pub returns-clause-taken : goal.returns-clause-taken
returns-clause-taken g c = λ came first m.
    let part = c.args.part.now in
    let taken = subst (λ line. g.T.TakeLine.takes c.args.taker.now line (Ok tt) c.take_numbered-2.new.taker) c.deref.ensures.0
    c.in_ok-take_numbered.ensures.taken in
    let none : c.clear.new.self.items ≡ [] = search rules in
    rw none
    (midway_after_line g.T.TakeLine.takes (came ++ part) c.keep.new.self.line.items c.keep.new.self.number c.take_numbered-2.new.number first
    c.args.taker.now c.take_numbered-2.new.taker
    (c.in_ok-keep.ensures.taken came first c.args.taker.now m) taken c.in_ok-take_numbered.ensures.next)
