use Rattle.std.proofs.Common.{refl}
use Rattle.std.proofs.lemmas.Result.{err_from_is_err_and}
use Rattle.s39_input.specs.Input.{whole}
use Rattle.s39_reading.proofs.Statuses.{puts_of_set}
use Rattle.s39_reading.proofs.status.status_lines.Goals as goal

pub returns-in_err-set : goal.returns-in_err-set
returns-in_err-set c =
    let p = err_from_is_err_and c.from_residual.result c.from_residual.ensures.1 in
    rw (p.1, p.2) (c.in_err-set.ensures.refused, refl)

pub returns : goal.returns
returns c =
    puts_of_set (whole c.args.lines.now) c.in_ok-set.set c.in_ok-set.ensures.accepted c.args.text.now c.set_status.new.text c.set_status.result
    c.set_status.ensures
