use Rattle.std.proofs.Common.{refl}
use Rattle.std.proofs.lemmas.Result.{err_from_is_err_and}
use Rattle.s39_input.specs.Steps.{refuses}
use Rattle.s39_reading.proofs.status.shares_in.Goals as goal

pub returns-in_err-set_in-clause-refused : goal.returns-in_err-set_in-clause-refused
returns-in_err-set_in-clause-refused c =
    let p = err_from_is_err_and c.from_residual.result c.from_residual.ensures.1 in
    rw (p.1, p.2) (refuses c.in_err-set_in.field-0.0 c.in_err-set_in.ensures.read refl)
