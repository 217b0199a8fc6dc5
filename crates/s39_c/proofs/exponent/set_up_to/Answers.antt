use Rattle.std.proofs.Common.{◌<◌, ◌≤◌, refl, sym, ap, ◌∙◌, Err, arith}
use Rattle.std.proofs.lemmas.Result.{err_from_is_err_and}
use Rattle.s39_input.specs.Steps.{gives, refuses}
use Rattle.s39_c.proofs.MostExponents.{up_to_high, up_to_low}
use Rattle.s39_c.proofs.exponent.set_up_to.Goals as goal

pub returns-in_err-set : goal.returns-in_err-set
returns-in_err-set c =
    let p = err_from_is_err_and c.from_residual.result c.from_residual.ensures.1 in
    rw (p.1, p.2) (refuses c.in_err-set.field-0.0 c.in_err-set.ensures.checked refl)

pub returns-in_err-exponent : goal.returns-in_err-exponent
returns-in_err-exponent c =
    let p = err_from_is_err_and c.from_residual-in_err-exponent.result c.from_residual-in_err-exponent.ensures.1 in
    rw (p.1, p.2) (gives c.in_ok-set.set c.in_ok-set.ensures.checked (refuses c.in_err-exponent.field-0.0 c.in_err-exponent.ensures refl))

pub returns-then-most-said : goal.returns-then-most-said
returns-then-most-said c =
    let above : c.args.most < c.in_ok-exponent.exponent = omega (arith, c.from-said.ensures, c.if-most-said.true) in
    gives c.in_ok-set.set c.in_ok-set.ensures.checked (gives c.in_ok-exponent.exponent c.in_ok-exponent.ensures
    (ap Err c.high_exponent.ensures ∙ sym (up_to_high c.args.most c.in_ok-exponent.exponent c.in_ok-set.set above)))

pub returns : goal.returns
returns c =
    let within : c.in_ok-exponent.exponent ≤ c.args.most = omega (arith, c.from-said.ensures, c.if-most-said.false) in
    gives c.in_ok-set.set c.in_ok-set.ensures.checked (gives c.in_ok-exponent.exponent c.in_ok-exponent.ensures
    (sym (up_to_low c.args.most c.in_ok-exponent.exponent c.in_ok-set.set within)))
