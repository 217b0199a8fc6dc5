use Rattle.std.proofs.Common.{refl, sym, subst}
use Rattle.std.proofs.lemmas.Result.{err_from_is_err_and, IfOk-weaker, IfErr-weaker}
use Rattle.s39_kdf.specs.Cipher.{IsEncryption}
use Rattle.s39_input.specs.Steps.{gives, refuses}
use Rattle.s39_reading.proofs.encrypted.decrypt_secret.Goals as goal

pub returns-in_err-check_passphrase-clause-refused : goal.returns-in_err-check_passphrase-clause-refused
returns-in_err-check_passphrase-clause-refused c =
    let p = err_from_is_err_and c.from_residual.result c.from_residual.ensures.1 in
    rw (p.1, p.2) (refuses c.in_err-check_passphrase.field-0.0 c.in_err-check_passphrase.ensures.first refl)

pub returns-in_err-bytes-clause-refused : goal.returns-in_err-bytes-clause-refused
returns-in_err-bytes-clause-refused c =
    let p = err_from_is_err_and c.from_residual-in_err-bytes.result c.from_residual-in_err-bytes.ensures.1 in
    rw (p.1, p.2) (gives tt (c.in_ok-check_passphrase.ensures.accepted.0 refl) (refuses c.in_err-bytes.field-0.0
    (λ is. let bad = c.in_err-bytes.ensures.accepted.1 is in absurd (cc), c.in_err-bytes.ensures.length) refl))

pub returns-clause-secret : goal.returns-clause-secret
returns-clause-secret c =
    let encryption = subst (IsEncryption c.decrypt.result.items c.args.passphrase.now c.args.params) c.in_ok-bytes.ensures.unchanged c.decrypt.ensures.value in
    IfOk-weaker c.as_expected.result _ _ (λ secret is. gives tt (c.in_ok-check_passphrase.ensures.accepted.0 refl)
    (gives tt (c.in_ok-bytes.ensures.accepted.0 refl) (c.decrypt.result.items, encryption, sym is))) c.as_expected.ensures.secret

pub returns-clause-refused : goal.returns-clause-refused
returns-clause-refused c =
    let encryption = subst (IsEncryption c.decrypt.result.items c.args.passphrase.now c.args.params) c.in_ok-bytes.ensures.unchanged c.decrypt.ensures.value in
    IfErr-weaker c.as_expected.result _ _ (λ fault is. gives tt (c.in_ok-check_passphrase.ensures.accepted.0 refl)
    (gives tt (c.in_ok-bytes.ensures.accepted.0 refl) (c.decrypt.result.items, encryption, sym is))) c.as_expected.ensures.refused
