use Rattle.std.proofs.Common.{◌≡◌, ◌∙◌, ◌+◌, false, refl, ap, sym, Ok}
use Rattle.std.proofs.lemmas.Result.{err_from_is_err_and}
use Rattle.s39_input.specs.declared.fault.Refusal.TheVariants.{Passphrase}
use Rattle.s39_input.specs.Fault.{fault_of, read_failures_in, write_failures_in}
use Rattle.s39_input.specs.Steps.{gives, refuses}
use Rattle.s39_input.proofs.Sets.Checked.{writing}
use Rattle.s39_input.proofs.Runs.Devices.{OfInput-map}
use Rattle.s39_input.proofs.Runs.Causes.{is_passphrase, not_of_passphrase}
use Rattle.s39_reading.proofs.Runs.Recovering.{recovered_fault}
use Rattle.s39_reading.proofs.recover.recovered_line.Goals as goal

pub returns-in_err-set-clause-refused : goal.returns-in_err-set-clause-refused
returns-in_err-set-clause-refused g c =
    let p = err_from_is_err_and c.from_residual.result c.from_residual.ensures.1 in
    rw (p.1, p.2) (OfInput-map c.in_err-set.ensures.checked (λ input checked. refuses c.in_err-set.field-0.0 checked refl))

pub returns-in_err-secret-clause-refused : goal.returns-in_err-secret-clause-refused
returns-in_err-secret-clause-refused g c =
    let p = err_from_is_err_and c.from_residual-in_err-secret.result c.from_residual-in_err-secret.ensures.1 in
    let fault = c.in_err-secret.field-0.0 in
    rw (p.1, p.2) (OfInput-map c.in_ok-set.ensures.checked
    (λ input checked. gives c.in_ok-set.set checked (refuses fault c.in_err-secret.ensures.refused refl)))

pub returns-in_err-secret-clause-read_failures : goal.returns-in_err-secret-clause-read_failures
returns-in_err-secret-clause-read_failures g c =
    let p = err_from_is_err_and c.from_residual-in_err-secret.result c.from_residual-in_err-secret.ensures.1 in
    let fault = c.in_err-secret.field-0.0 in
    rw (p.1, p.2) (c.in_ok-set.ensures.read_failures ∙ ap (λ n. c.args.input.now.failures + n)
    (sym (recovered_fault (λ f. read_failures_in f.refusal ≡ 0) (λ lack. refl) (λ mismatch. refl) refl c.args.expected c.args.passphrase.now
    c.in_ok-set.set fault c.in_err-secret.ensures.refused)))

pub returns-in_err-secret-clause-write_failures : goal.returns-in_err-secret-clause-write_failures
returns-in_err-secret-clause-write_failures g c =
    let p = err_from_is_err_and c.from_residual-in_err-secret.result c.from_residual-in_err-secret.ensures.1 in
    rw (p.1, p.2) (recovered_fault (λ f. write_failures_in f.refusal ≡ 0) (λ lack. refl) (λ mismatch. refl) refl c.args.expected c.args.passphrase.now
    c.in_ok-set.set c.in_err-secret.field-0.0 c.in_err-secret.ensures.refused)

-- what the set is refused for isn't the passphrase
pub returns-in_err-secret-clause-unread : goal.returns-in_err-secret-clause-unread
returns-in_err-secret-clause-unread g c = λ bad is.
    let p = err_from_is_err_and c.from_residual-in_err-secret.result c.from_residual-in_err-secret.ensures.1 in
    let fault = c.in_err-secret.field-0.0 in
    let same : fault_of (Passphrase bad) ≡ fault = cc (is, p.1, p.2) in
    absurd (not_of_passphrase bad fault same (recovered_fault (λ f. is_passphrase f.refusal ≡ false) (λ lack. refl) (λ mismatch. refl) refl
    c.args.expected c.args.passphrase.now c.in_ok-set.set fault c.in_err-secret.ensures.refused))

pub returns-clause-line : goal.returns-clause-line
returns-clause-line g c =
    OfInput-map c.in_ok-set.ensures.checked (λ input checked. gives c.in_ok-set.set checked (gives c.in_ok-secret.secret.items c.in_ok-secret.ensures.secret
    (ap (writing (Ok tt)) c.secret_line.ensures)))
