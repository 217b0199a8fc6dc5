use Rattle.std.proofs.Common.{refl, subst}
use Rattle.std.proofs.lemmas.Result.{err_from_is_err_and}
use Rattle.s39_input.specs.Steps.{gives, refuses}
use Rattle.s39_kdf.specs.Rounds.{IsUndone}
use Rattle.s39_reading.proofs.rounds.decrypt_round.Goals as goal

pub returns-in_err-check_passphrase-clause-refused : goal.returns-in_err-check_passphrase-clause-refused
returns-in_err-check_passphrase-clause-refused c =
    let p = err_from_is_err_and c.from_residual.result c.from_residual.ensures.1 in
    rw (p.1, p.2) (refuses c.in_err-check_passphrase.field-0.0 c.in_err-check_passphrase.ensures.first refl)

pub returns-in_err-bytes-clause-refused : goal.returns-in_err-bytes-clause-refused
returns-in_err-bytes-clause-refused c =
    let p = err_from_is_err_and c.from_residual-in_err-bytes.result c.from_residual-in_err-bytes.ensures.1 in
    rw (p.1, p.2) (gives tt (c.in_ok-check_passphrase.ensures.accepted.0 refl) (refuses c.in_err-bytes.field-0.0
    (λ is. let bad = c.in_err-bytes.ensures.accepted.1 is in absurd (cc), c.in_err-bytes.ensures.length) refl))

pub returns-clause-undone : goal.returns-clause-undone
returns-clause-undone c =
    let undone = c.undo_round.result.items in
    let is = subst (λ text. IsUndone c.args.passphrase.now c.args.params c.args.round.number text undone) c.in_ok-bytes.ensures.unchanged
    c.undo_round.ensures.value in
    gives tt (c.in_ok-check_passphrase.ensures.accepted.0 refl) (gives tt (c.in_ok-bytes.ensures.accepted.0 refl) (undone, is, refl))
