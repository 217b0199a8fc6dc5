use Rattle.std.proofs.Common.{Ok, Err}
use Rattle.std.proofs.lemmas.Result.{err_from_is_err_and}
use Rattle.s39_input.specs.Input.{whole}
use Rattle.s39_input.proofs.Sets.Collected.{runs_read, accepted}
use Rattle.s39_input.proofs.collect.set_in.Goals as goal

pub returns-in_err-take_lines_of-clause-read : goal.returns-in_err-take_lines_of-clause-read
returns-in_err-take_lines_of-clause-read c =
    let p = err_from_is_err_and c.from_residual.result c.from_residual.ensures.1 in
    rw (p.1, p.2) (runs_read (whole c.args.bytes.now) c.new-shares.result c.take_lines_of.new.taker (Err c.in_err-take_lines_of.field-0.0)
    c.new-shares.ensures c.in_err-take_lines_of.ensures)

pub returns-clause-read : goal.returns-clause-read
returns-clause-read c =
    runs_read (whole c.args.bytes.now) c.new-shares.result c.take_lines_of.new.taker (Ok tt) c.new-shares.ensures c.in_ok-take_lines_of.ensures

pub returns-clause-is_set : goal.returns-clause-is_set
returns-clause-is_set c =
    (accepted (whole c.args.bytes.now) c.take_lines_of.new.taker (runs_read (whole c.args.bytes.now) c.new-shares.result c.take_lines_of.new.taker
    (Ok tt) c.new-shares.ensures c.in_ok-take_lines_of.ensures)).0
