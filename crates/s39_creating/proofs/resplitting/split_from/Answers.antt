use Rattle.std.proofs.Common.{refl}
use Rattle.std.proofs.lemmas.Result.{err_from_is_err_and}
use Rattle.s39_input.specs.Steps.{gives, refuses}
use Rattle.s39_creating.proofs.resplitting.split_from.Goals as goal

pub returns-in_err-set : goal.returns-in_err-set
returns-in_err-set c =
    let p = err_from_is_err_and c.from_residual.result c.from_residual.ensures.1 in
    rw (p.1, p.2) (refuses c.in_err-set.field-0.0 c.in_err-set.ensures.read refl)

pub returns : goal.returns
returns c = gives c.in_ok-set.set c.in_ok-set.ensures.read c.split_of.ensures
