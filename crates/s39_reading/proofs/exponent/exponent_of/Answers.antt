use Rattle.std.proofs.Common.{refl, ap, Ok}
use Rattle.std.proofs.lemmas.Result.{err_from_is_err_and}
use Rattle.s39_input.specs.Steps.{gives, refuses}
use Rattle.s39_reading.proofs.Exponents.{exponent_of_params}
use Rattle.s39_reading.proofs.exponent.exponent_of.Goals as goal

pub returns-in_err-quorum : goal.returns-in_err-quorum
returns-in_err-quorum c =
    let p = err_from_is_err_and c.from_residual.result c.from_residual.ensures.1 in
    rw (p.1, p.2) (refuses c.in_err-quorum.field-0.0 c.in_err-quorum.ensures.lack refl)

pub returns : goal.returns
returns c = gives c.in_ok-quorum.quorum c.in_ok-quorum.ensures.first (ap Ok (exponent_of_params c.args.set.now c.params_of.result c.params_of.ensures))
