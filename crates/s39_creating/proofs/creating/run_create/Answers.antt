use Rattle.std.proofs.Common.{◌∙◌, ◌+◌, inl, inr, refl, ap, sym, subst, arith, Ok}
use Rattle.std.proofs.lemmas.Result.{err_from_is_err_and}
use Rattle.s39_backup.specs.declared.create_error.CreateError.TheVariants.{Passphrase, SecretLength}
use Rattle.s39_input.specs.Create.{ArePrintedLines}
use Rattle.s39_input.proofs.Runs.Devices.{OfInput-map, of_nothing}
use Rattle.s39_input.proofs.Runs.Writing.{nothing_written, run_whole, run_part}
use Rattle.s39_creating.proofs.Runs.Creating.{creation_reads, creation_writes, created_of_all, refused_of_all}
use Rattle.s39_creating.proofs.creating.run_create.Goals as goal

pub returns-in_err-check_passphrase-clause-runs : goal.returns-in_err-check_passphrase-clause-runs
returns-in_err-check_passphrase-clause-runs g c =
    let p = err_from_is_err_and c.from_residual.result c.from_residual.ensures.1 in
    let bad = c.in_err-check_passphrase.field-0.0 in
    rw (p.1, p.2) (run_whole (nothing_written g.W.Write.contents c.args.output.now)
    (of_nothing g.R.Read.remaining c.args.input.now _ (λ input. (refl, inl (Passphrase bad, c.in_err-check_passphrase.ensures.first, tt, refl))))
    (omega arith) refl)

pub returns-in_err-check_secret-clause-runs : goal.returns-in_err-check_secret-clause-runs
returns-in_err-check_secret-clause-runs g c =
    let p = err_from_is_err_and c.from_residual-in_err-check_secret.result c.from_residual-in_err-check_secret.ensures.1 in
    let bad = c.in_err-check_secret.field-0.0 in
    rw (p.1, p.2) (run_whole (nothing_written g.W.Write.contents c.args.output.now)
    (of_nothing g.R.Read.remaining c.args.input.now _ (λ input. (
      refl,
      inl (
        SecretLength bad,
        (
          c.in_ok-check_passphrase.ensures.accepted.0 refl,
          (λ h. (let no = c.in_err-check_secret.ensures.accepted.1 h in absurd (cc))),
          c.in_err-check_secret.ensures.length,
        ),
        tt,
        refl,
      ),
    )))
    (omega arith) refl)

pub returns-in_err-random-clause-runs : goal.returns-in_err-random-clause-runs
returns-in_err-random-clause-runs g c =
    let p = err_from_is_err_and c.from_residual-in_err-random.result c.from_residual-in_err-random.ensures.1 in
    let needed = c.random_needed-needed.ensures.needed in
    rw (p.1, p.2) (run_whole (nothing_written g.W.Write.contents c.args.output.now)
    (OfInput-map c.in_err-random.ensures.read
    (λ input read. (
      refl,
      inr (
        record {
          failed = read.0;
          printable = c.in_ok-check_passphrase.ensures.accepted.0 refl;
          secret_length = c.in_ok-check_secret.ensures.accepted.0 refl;
          few = let fewer = read.1 in omega arith;
        },
        refl,
      ),
    )))
    c.in_err-random.ensures.failures refl)

pub returns-in_err-create-clause-runs : goal.returns-in_err-create-clause-runs
returns-in_err-create-clause-runs g c =
    let p = err_from_is_err_and c.from_residual-in_err-create.result c.from_residual-in_err-create.ensures.1 in
    let error = c.in_err-create.field-0.0 in
    rw (p.1, p.2) (run_whole (nothing_written g.W.Write.contents c.args.output.now)
    (OfInput-map c.in_ok-random.ensures.read
    (λ input read. refused_of_all _ input (c.random_needed-needed.result + 1) c.deref.result.now
    (ap (λ n. n + 1) c.random_needed-needed.ensures.needed) (c.deref.ensures.0 ∙ read.0) read.1 error c.in_err-create.ensures.refused))
    (c.in_ok-random.ensures.failures ∙ ap (λ n. c.args.input.now.failures + n) (sym (creation_reads error))) (creation_writes error))

pub returns-in_err-write_mnemonics-clause-runs : goal.returns-in_err-write_mnemonics-clause-runs
returns-in_err-write_mnemonics-clause-runs g c =
    let p = err_from_is_err_and c.from_residual-in_err-write_mnemonics.result c.from_residual-in_err-write_mnemonics.ensures.1 in
    let (text, printed, part) = c.in_err-write_mnemonics.ensures in
    rw (p.1, p.2) (run_part (Ok tt) part
    (OfInput-map c.in_ok-random.ensures.read
    (λ input read. created_of_all _ input (c.random_needed-needed.result + 1) c.deref.result.now
    (ap (λ n. n + 1) c.random_needed-needed.ensures.needed) (c.deref.ensures.0 ∙ read.0) read.1 c.create.new.out text c.in_ok-create.ensures.created
    (subst (λ shares. ArePrintedLines shares text) c.shares-shares.ensures.shares printed)))
    (omega (arith, c.in_ok-random.ensures.failures)))

pub returns-clause-runs : goal.returns-clause-runs
returns-clause-runs g c =
    let (text, printed, written) = c.in_ok-write_mnemonics.ensures in
    run_whole written
    (OfInput-map c.in_ok-random.ensures.read
    (λ input read. created_of_all _ input (c.random_needed-needed.result + 1) c.deref.result.now
    (ap (λ n. n + 1) c.random_needed-needed.ensures.needed) (c.deref.ensures.0 ∙ read.0) read.1 c.create.new.out text c.in_ok-create.ensures.created
    (subst (λ shares. ArePrintedLines shares text) c.shares-shares.ensures.shares printed)))
    c.in_ok-random.ensures.failures refl
