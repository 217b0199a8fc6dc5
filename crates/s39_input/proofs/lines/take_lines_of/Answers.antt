use Rattle.std.proofs.Common.{[], true, Ok, Err, subst}
use Rattle.std.proofs.lemmas.List.{append-nil}
use Rattle.std.proofs.lemmas.Result.{err_from_is_err_and}
use Rattle.s39_input.specs.declared.fault.Stop.TheVariants.{AtLine}
use Rattle.s39_input.specs.Input.{whole}
use Rattle.s39_input.specs.Midway.{RunsOver}
use Rattle.s39_input.proofs.Taking.Reading.{midway_at_start, runs_to_end, runs_to_refusal}
use Rattle.s39_input.proofs.lines.take_lines_of.Goals as goal

pub returns-in_err-take_piece : goal.returns-in_err-take_piece
returns-in_err-take_piece g c =
    let p = err_from_is_err_and c.from_residual.result c.from_residual.ensures.1 in
    rw (p.1, p.2) (subst (λ bytes. RunsOver g.T.TakeLine.takes (whole bytes) c.args.taker.now c.take_piece.new.taker
    (Err (AtLine c.in_err-take_piece.field-0.0))) (append-nil c.args.bytes.now)
    (c.in_err-take_piece.ensures.taken [] c.args.taker.now (rw c.new.ensures (midway_at_start g.T.TakeLine.takes c.args.taker.now)) [] true))

pub returns-in_err-take_numbered : goal.returns-in_err-take_numbered
returns-in_err-take_numbered g c =
    let p = err_from_is_err_and c.from_residual-in_err-take_numbered.result c.from_residual-in_err-take_numbered.ensures.1 in
    let midway = c.in_ok-take_piece.ensures.taken [] c.args.taker.now (rw c.new.ensures (midway_at_start g.T.TakeLine.takes c.args.taker.now)) in
    let refused = c.in_err-take_numbered.ensures.refused in
    rw (p.1, p.2) (runs_to_refusal g.T.TakeLine.takes c.args.bytes.now c.take_piece.new.self.line.items c.take_piece.new.self.number
    c.in_err-take_numbered.field-0.0 c.args.taker.now c.take_piece.new.taker c.take_numbered.new.taker midway
    (subst (λ line. g.T.TakeLine.takes c.take_piece.new.taker line (Err c.in_err-take_numbered.field-0.0.refusal) c.take_numbered.new.taker) c.deref.ensures.0
    refused.0) refused.1)

pub returns : goal.returns
returns g c =
    let midway = c.in_ok-take_piece.ensures.taken [] c.args.taker.now (rw c.new.ensures (midway_at_start g.T.TakeLine.takes c.args.taker.now)) in
    runs_to_end g.T.TakeLine.takes c.args.bytes.now c.take_piece.new.self.line.items c.take_piece.new.self.number c.args.taker.now c.take_piece.new.taker
    c.take_numbered.new.taker midway
    (subst (λ line. g.T.TakeLine.takes c.take_piece.new.taker line (Ok tt) c.take_numbered.new.taker) c.deref.ensures.0 c.in_ok-take_numbered.ensures.taken)
