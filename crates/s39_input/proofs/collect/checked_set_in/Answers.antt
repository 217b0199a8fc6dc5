use Rattle.std.proofs.Common.{refl}
use Rattle.std.proofs.lemmas.Result.{err_from_is_err_and}
use Rattle.s39_input.specs.Steps.{gives, refuses}
use Rattle.s39_input.proofs.collect.checked_set_in.Goals as goal

pub returns-in_err-check_passphrase-clause-checked : goal.returns-in_err-check_passphrase-clause-checked
returns-in_err-check_passphrase-clause-checked c =
    let p = err_from_is_err_and c.from_residual.result c.from_residual.ensures.1 in
    rw (p.1, p.2) (refuses c.in_err-check_passphrase.field-0.0 c.in_err-check_passphrase.ensures.first refl)

pub returns-in_err-set_in-clause-checked : goal.returns-in_err-set_in-clause-checked
returns-in_err-set_in-clause-checked c =
    let p = err_from_is_err_and c.from_residual-in_err-set_in.result c.from_residual-in_err-set_in.ensures.1 in
    let stop = c.in_err-set_in.field-0.0 in
    rw (p.1, p.2) (gives tt (c.in_ok-check_passphrase.ensures.accepted.0 refl) (refuses stop c.in_err-set_in.ensures.read refl))

pub returns-clause-checked : goal.returns-clause-checked
returns-clause-checked c =
    gives tt (c.in_ok-check_passphrase.ensures.accepted.0 refl) (gives c.in_ok-set_in.field-0 c.in_ok-set_in.ensures.read refl)
