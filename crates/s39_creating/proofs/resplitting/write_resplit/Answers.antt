use Rattle.std.proofs.Common.{◌+◌, ◌∙◌, refl, sym, ap, subst, arith, Ok, Err}
use Rattle.std.proofs.lemmas.Result.{err_from_is_err_and}
use Rattle.s39_input.specs.Create.{ArePrintedLines}
use Rattle.s39_input.specs.Steps.{gives, refuses}
use Rattle.s39_input.proofs.Sets.Checked.{stop_reads, stop_writes}
use Rattle.s39_input.proofs.Runs.Devices.{OfInput-map}
use Rattle.s39_input.proofs.Runs.Writing.{nothing_written, run_whole, run_part}
use Rattle.s39_creating.proofs.Resplits.Outputs.{split_reads, split_writes}
use Rattle.s39_creating.proofs.resplitting.write_resplit.Goals as goal

pub returns-in_err-set-clause-runs : goal.returns-in_err-set-clause-runs
returns-in_err-set-clause-runs g c =
    let p = err_from_is_err_and c.from_residual.result c.from_residual.ensures.1 in
    let stop = c.in_err-set.field-0.0 in
    rw (p.1, p.2) (run_whole (nothing_written g.W.Write.contents c.args.output.now)
    (OfInput-map c.in_err-set.ensures.read (λ input read. (Err _, refuses stop read refl, (refl, refl))))
    (c.in_err-set.ensures.failures ∙ ap (λ n. c.args.input.now.failures + n) (sym (stop_reads stop))) (stop_writes stop))

pub returns-in_err-resplit-clause-runs : goal.returns-in_err-resplit-clause-runs
returns-in_err-resplit-clause-runs g c =
    let p = err_from_is_err_and c.from_residual-in_err-resplit.result c.from_residual-in_err-resplit.ensures.1 in
    let error = c.in_err-resplit.field-0.0 in
    rw (p.1, p.2) (run_whole (nothing_written g.W.Write.contents c.args.output.now)
    (OfInput-map c.in_ok-set.ensures.read
    (λ input read. (Err _, gives c.in_ok-set.set read (refuses error c.in_err-resplit.ensures.refused refl), (refl, refl))))
    (c.in_ok-set.ensures.failures ∙ ap (λ n. c.args.input.now.failures + n) (sym (split_reads error))) (split_writes error))

pub returns-in_err-write_mnemonics-clause-runs : goal.returns-in_err-write_mnemonics-clause-runs
returns-in_err-write_mnemonics-clause-runs g c =
    let p = err_from_is_err_and c.from_residual-in_err-write_mnemonics.result c.from_residual-in_err-write_mnemonics.ensures.1 in
    let (text, printed, part) = c.in_err-write_mnemonics.ensures in
    rw (p.1, p.2) (run_part (Ok tt) part
    (OfInput-map c.in_ok-set.ensures.read
    (λ input read. (
      Ok c.resplit.new.out,
      gives c.in_ok-set.set read (gives c.resplit.new.out c.in_ok-resplit.ensures.resplit refl),
      (subst (λ shares. ArePrintedLines shares text) c.shares-shares.ensures.shares printed, refl),
    )))
    (omega (arith, c.in_ok-set.ensures.failures)))

pub returns-clause-runs : goal.returns-clause-runs
returns-clause-runs g c =
    let (text, printed, written) = c.in_ok-write_mnemonics.ensures in
    run_whole written
    (OfInput-map c.in_ok-set.ensures.read
    (λ input read. (
      Ok c.resplit.new.out,
      gives c.in_ok-set.set read (gives c.resplit.new.out c.in_ok-resplit.ensures.resplit refl),
      (subst (λ shares. ArePrintedLines shares text) c.shares-shares.ensures.shares printed, refl),
    )))
    c.in_ok-set.ensures.failures refl
