use Rattle.std.proofs.Common.{◌+◌, ◌∙◌, refl, sym, ap, subst, arith, Ok, Err}
use Rattle.std.proofs.lemmas.Result.{err_from_is_err_and}
use Rattle.s39_input.specs.Create.{ArePrintedLines}
use Rattle.s39_input.proofs.Sets.Checked.{stop_reads, stop_writes}
use Rattle.s39_input.proofs.Runs.Devices.{OfInput-map, of_nothing}
use Rattle.s39_input.proofs.Runs.Writing.{nothing_written, run_whole, run_part}
use Rattle.s39_creating.proofs.Reissues.Faults.{not_of_name, of_set}
use Rattle.s39_creating.proofs.Reissues.Outputs.{names_refused, set_refused, set_gives}
use Rattle.s39_creating.proofs.reissuing.write_reissued.Goals as goal

pub returns-in_err-check_names-clause-runs : goal.returns-in_err-check_names-clause-runs
returns-in_err-check_names-clause-runs g c =
    let p = err_from_is_err_and c.from_residual.result c.from_residual.ensures.1 in
    let name = c.in_err-check_names.field-0.0 in
    rw (p.1, p.2) (run_whole (nothing_written g.W.Write.contents c.args.output.now)
    (of_nothing g.R.Read.remaining c.args.input.now _ (λ input.
    let (read, is, set) = c.every_input_is_read.ensures input in (
      Err _,
      (
        read,
        is,
        names_refused c.args.plan.now.group_threshold c.args.plan.now.groups.items c.args.names.now c.pairs-pairs.result.now
            c.pairs-pairs.ensures.same read (name.group, name.member) c.in_err-check_names.ensures.other,
      ),
      (refl, refl),
    )))
    (omega arith) refl)

pub returns-in_err-set-clause-runs : goal.returns-in_err-set-clause-runs
returns-in_err-set-clause-runs g c =
    let p = err_from_is_err_and c.from_residual-in_err-set.result c.from_residual-in_err-set.ensures.1 in
    let stop = c.in_err-set.field-0.0 in
    rw (p.1, p.2) (run_whole (nothing_written g.W.Write.contents c.args.output.now)
    (OfInput-map c.in_err-set.ensures.read
    (λ input read. (
      Err _,
      (
        Err stop,
        read,
        set_refused c.args.plan.now.group_threshold c.args.plan.now.groups.items c.args.names.now
            c.pairs-pairs.result.now c.pairs-pairs.ensures.same stop c.in_ok-check_names.ensures.all,
      ),
      (refl, refl),
    )))
    (c.in_err-set.ensures.failures ∙ ap (λ n. c.args.input.now.failures + n) (sym (stop_reads stop))) (stop_writes stop))

pub returns-in_err-created-clause-runs : goal.returns-in_err-created-clause-runs
returns-in_err-created-clause-runs g c =
    let p = err_from_is_err_and c.from_residual-in_err-created.result c.from_residual-in_err-created.ensures.1 in
    let plan = c.args.plan.now in
    let fault = c.in_err-created.field-0.0 in
    let of = of_set plan.group_threshold plan.groups.items c.pairs-pairs.result.now c.in_ok-set.set fault c.in_err-created.ensures in
    rw (p.1, p.2) (run_whole (nothing_written g.W.Write.contents c.args.output.now)
    (OfInput-map c.in_ok-set.ensures.read
    (λ input read. (
      Err fault,
      (
        Ok c.in_ok-set.set,
        read,
        set_gives c.args.plan.now.group_threshold c.args.plan.now.groups.items c.args.names.now
            c.pairs-pairs.result.now c.pairs-pairs.ensures.same c.in_ok-set.set c.in_ok-check_names.ensures.all c.in_err-created.ensures,
      ),
      (refl, refl),
    )))
    (c.in_ok-set.ensures.failures ∙ ap (λ n. c.args.input.now.failures + n) (sym of.reads)) of.writes)

pub returns-in_err-created-clause-unread : goal.returns-in_err-created-clause-unread
returns-in_err-created-clause-unread g c =
    let p = err_from_is_err_and c.from_residual-in_err-created.result c.from_residual-in_err-created.ensures.1 in
    let plan = c.args.plan.now in
    let fault = c.in_err-created.field-0.0 in
    let of = of_set plan.group_threshold plan.groups.items c.pairs-pairs.result.now c.in_ok-set.set fault c.in_err-created.ensures in
    λ group member is. absurd (not_of_name group member fault (cc) of.elsewhere)

pub returns-in_err-write_mnemonics-clause-runs : goal.returns-in_err-write_mnemonics-clause-runs
returns-in_err-write_mnemonics-clause-runs g c =
    let p = err_from_is_err_and c.from_residual-in_err-write_mnemonics.result c.from_residual-in_err-write_mnemonics.ensures.1 in
    let (text, printed, part) = c.in_err-write_mnemonics.ensures in
    rw (p.1, p.2) (run_part (Ok tt) part
    (OfInput-map c.in_ok-set.ensures.read
    (λ input read. (
      Ok c.in_ok-created.created,
      (
        Ok c.in_ok-set.set,
        read,
        set_gives c.args.plan.now.group_threshold c.args.plan.now.groups.items c.args.names.now
            c.pairs-pairs.result.now c.pairs-pairs.ensures.same c.in_ok-set.set c.in_ok-check_names.ensures.all c.in_ok-created.ensures,
      ),
      (subst (λ shares. ArePrintedLines shares text) c.shares-shares.ensures.shares printed, refl),
    )))
    (omega (arith, c.in_ok-set.ensures.failures)))

pub returns-clause-runs : goal.returns-clause-runs
returns-clause-runs g c =
    let (text, printed, written) = c.in_ok-write_mnemonics.ensures in
    run_whole written
    (OfInput-map c.in_ok-set.ensures.read
    (λ input read. (
      Ok c.in_ok-created.created,
      (
        Ok c.in_ok-set.set,
        read,
        set_gives c.args.plan.now.group_threshold c.args.plan.now.groups.items c.args.names.now
            c.pairs-pairs.result.now c.pairs-pairs.ensures.same c.in_ok-set.set c.in_ok-check_names.ensures.all c.in_ok-created.ensures,
      ),
      (subst (λ shares. ArePrintedLines shares text) c.shares-shares.ensures.shares printed, refl),
    )))
    c.in_ok-set.ensures.failures refl
