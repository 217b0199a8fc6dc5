use Rattle.std.proofs.Common.{refl, sym}
use Rattle.std.proofs.lemmas.Result.{err_from_is_err_and, IfOk-weaker, IfErr-weaker}
use Rattle.s39_input.specs.Steps.{gives, refuses}
use Rattle.s39_reading.proofs.recover.recover_set.Goals as goal

pub returns-in_err-quorum-clause-refused : goal.returns-in_err-quorum-clause-refused
returns-in_err-quorum-clause-refused c =
    let p = err_from_is_err_and c.from_residual.result c.from_residual.ensures.1 in
    rw (p.1, p.2) (refuses c.in_err-quorum.field-0.0 c.in_err-quorum.ensures.lack refl)

pub returns-in_err-secret-clause-refused : goal.returns-in_err-secret-clause-refused
returns-in_err-secret-clause-refused c =
    let p = err_from_is_err_and c.from_residual-in_err-secret.result c.from_residual-in_err-secret.ensures.1 in
    rw (p.1, p.2) (gives c.in_ok-quorum.quorum c.in_ok-quorum.ensures.first
    (refuses c.in_err-secret.field-0.0 c.in_err-secret.ensures.mismatch refl))

pub returns-clause-secret : goal.returns-clause-secret
returns-clause-secret c =
    IfOk-weaker c.as_expected.result _ _ (λ secret is. gives c.in_ok-quorum.quorum c.in_ok-quorum.ensures.first
    (gives c.in_ok-secret.secret.items c.in_ok-secret.ensures.secret (sym is))) c.as_expected.ensures.secret

pub returns-clause-refused : goal.returns-clause-refused
returns-clause-refused c =
    IfErr-weaker c.as_expected.result _ _ (λ fault is. gives c.in_ok-quorum.quorum c.in_ok-quorum.ensures.first
    (gives c.in_ok-secret.secret.items c.in_ok-secret.ensures.secret (sym is))) c.as_expected.ensures.refused
