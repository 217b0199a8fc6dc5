use Rattle.std.proofs.Common.{refl}
use Rattle.std.proofs.lemmas.Result.{err_from_is_err_and, IfOk-weaker, IfErr-weaker}
use Rattle.s39_input.specs.Steps.{gives, refuses}
use Rattle.s39_reading.proofs.encrypted.encrypted_in.Goals as goal

pub returns-in_err-set_in-clause-refused : goal.returns-in_err-set_in-clause-refused
returns-in_err-set_in-clause-refused c =
    let p = err_from_is_err_and c.from_residual.result c.from_residual.ensures.1 in
    rw (p.1, p.2) (refuses c.in_err-set_in.field-0.0 c.in_err-set_in.ensures.read refl)

pub returns-clause-encrypted : goal.returns-clause-encrypted
returns-clause-encrypted c =
    IfOk-weaker c.encrypted_of.result _ _ (λ found so. gives c.in_ok-set_in.field-0 c.in_ok-set_in.ensures.read so) c.encrypted_of.ensures.encrypted

pub returns-clause-refused : goal.returns-clause-refused
returns-clause-refused c =
    IfErr-weaker c.encrypted_of.result _ _ (λ fault so. gives c.in_ok-set_in.field-0 c.in_ok-set_in.ensures.read so) c.encrypted_of.ensures.refused
