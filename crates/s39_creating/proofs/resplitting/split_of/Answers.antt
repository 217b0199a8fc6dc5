use Rattle.std.proofs.Common.{refl}
use Rattle.std.proofs.lemmas.Result.{err_from_is_err_and}
use Rattle.s39_input.specs.Steps.{gives, refuses}
use Rattle.s39_creating.proofs.resplitting.split_of.Goals as goal

pub returns-in_err-resplit : goal.returns-in_err-resplit
returns-in_err-resplit c =
    let p = err_from_is_err_and c.from_residual.result c.from_residual.ensures.1 in
    rw (p.1, p.2) (refuses c.in_err-resplit.field-0.0 c.in_err-resplit.ensures.refused refl)

pub returns : goal.returns
returns c = gives c.resplit.new.out c.in_ok-resplit.ensures.resplit refl
