use Rattle.std.proofs.Common.{List, ℕ, Ok, arith, refl, subst, sym}
use Rattle.std.proofs.lemmas.Result.{err_from_is_err_and}
use Rattle.s39_input.specs.Runs.{OfInput}
use Rattle.s39_input.proofs.Runs.Writing.{nothing_written, run_whole, run_part, Runs-map}
use Rattle.s39_reading.specs.Recover.{IsRecoverOutput}
use Rattle.s39_reading.proofs.recover.run_recover.Goals as goal

pub returns-in_err-line-clause-runs : goal.returns-in_err-line-clause-runs
returns-in_err-line-clause-runs g c =
    let p = err_from_is_err_and c.from_residual.result c.from_residual.ensures.1 in
    let refused = c.in_err-line.ensures in
    rw (p.1, p.2) (run_whole (nothing_written g.W.Write.contents c.args.output.now) refused.refused refused.read_failures refused.write_failures)

pub returns-in_err-write_text-clause-runs : goal.returns-in_err-write_text-clause-runs
returns-in_err-write_text-clause-runs g c =
    let p = err_from_is_err_and c.from_residual-in_err-write_text.result c.from_residual-in_err-write_text.ensures.1 in
    rw (p.1, p.2) (run_part (Ok tt) c.in_err-write_text.ensures
    (subst (λ (text : List ℕ). OfInput g.R.Read.remaining c.args.input.now c.recovered_line.new.input
    (λ input. IsRecoverOutput c.args.form c.args.expected c.args.passphrase.now input text (Ok tt))) (sym c.as_slice.ensures.value) c.in_ok-line.ensures.line)
    (omega (arith, c.in_ok-line.ensures.read_failures)))

pub returns-clause-runs : goal.returns-clause-runs
returns-clause-runs g c =
    run_whole c.in_ok-write_text.ensures
    (subst (λ (text : List ℕ). OfInput g.R.Read.remaining c.args.input.now c.recovered_line.new.input
    (λ input. IsRecoverOutput c.args.form c.args.expected c.args.passphrase.now input text (Ok tt))) (sym c.as_slice.ensures.value) c.in_ok-line.ensures.line)
    c.in_ok-line.ensures.read_failures refl

-- ---- mnemonics of a created backup

pub returns-in_err-line-clause-created : goal.returns-in_err-line-clause-created
returns-in_err-line-clause-created g c = Runs-map (returns-in_err-line-clause-runs g c)
    (c.created_backups_recover.ensures c.args.form c.args.expected c.args.passphrase.now)

pub returns-in_err-write_text-clause-created : goal.returns-in_err-write_text-clause-created
returns-in_err-write_text-clause-created g c =
    Runs-map (returns-in_err-write_text-clause-runs g c) (c.created_backups_recover.ensures c.args.form c.args.expected c.args.passphrase.now)

pub returns-clause-created : goal.returns-clause-created
returns-clause-created g c = Runs-map (returns-clause-runs g c) (c.created_backups_recover.ensures c.args.form c.args.expected c.args.passphrase.now)
