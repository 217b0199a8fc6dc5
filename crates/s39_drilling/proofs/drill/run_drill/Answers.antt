use Rattle.std.proofs.Common.{arith}
use Rattle.std.specs.Option.{option_copied}
use Rattle.std.proofs.lemmas.Result.{err_from_is_err_and}
use Rattle.s39_input.proofs.Sets.Checked.{printable_of_checked}
use Rattle.s39_input.proofs.Runs.Devices.{some_input}
use Rattle.s39_input.proofs.Runs.Writing.{Runs-map}
use Rattle.s39_drilling.proofs.Drills.Running.{drilled_run, failed_run, setless_run, start_is_quorum, no_drill_run}
use Rattle.s39_drilling.proofs.Drills.Told.{sees_all, sees_first}
use Rattle.s39_drilling.proofs.drill.run_drill.Goals as goal

pub list_from-requires-clause-printable : goal.list_from-requires-clause-printable
list_from-requires-clause-printable g c =
    let (input, checked) = some_input g.R.Read.remaining c.args.input.now c.checked_set.new.input _ c.in_ok-set.ensures.checked in
    printable_of_checked c.args.passphrase.now input c.in_ok-set.set checked

pub list_from-requires-clause-quorum : goal.list_from-requires-clause-quorum
list_from-requires-clause-quorum g c =
    start_is_quorum c.in_ok-set.set (option_copied c.args.after) c.in_ok-start.start c.in_ok-start.ensures.start

pub found-requires-clause-some : goal.found-requires-clause-some
found-requires-clause-some g c = c.in_ok-start.ensures.start.no_lack

pub returns-in_err-set-clause-runs : goal.returns-in_err-set-clause-runs
returns-in_err-set-clause-runs g c =
    let p = err_from_is_err_and c.from_residual.result c.from_residual.ensures.1 in
    let refused = c.in_err-set.ensures in
    rw (p.1, p.2) (setless_run g.R.Read.remaining g.W.Write.contents c.args.form c.args.passphrase.now (option_copied c.args.after) c.args.limit
    c.args.input.now c.checked_set.new.input c.args.output.now c.in_err-set.field-0.0 refused.checked refused.read_failures refused.write_failures)

pub returns-in_err-start-clause-runs : goal.returns-in_err-start-clause-runs
returns-in_err-start-clause-runs g c =
    let p = err_from_is_err_and c.from_residual-in_err-start.result c.from_residual-in_err-start.ensures.1 in
    rw (p.1, p.2) (no_drill_run g.R.Read.remaining g.W.Write.contents c.args.form c.args.passphrase.now (option_copied c.args.after) c.args.limit
    c.args.input.now c.checked_set.new.input c.in_ok-set.set c.in_ok-set.ensures.checked (omega (arith, c.in_ok-set.ensures.read_failures))
    c.args.output.now c.in_err-start.field-0.0 c.in_err-start.ensures.refused)

pub returns-in_err-list_from-clause-runs : goal.returns-in_err-list_from-clause-runs
returns-in_err-list_from-clause-runs g c =
    let p = err_from_is_err_and c.from_residual-in_err-list_from.result c.from_residual-in_err-list_from.ensures.1 in
    let starts = c.in_ok-start.ensures.start in
    rw (p.1, p.2) (failed_run g.R.Read.remaining g.W.Write.contents c.args.form c.args.passphrase.now (option_copied c.args.after) c.args.limit
    c.args.input.now c.checked_set.new.input c.in_ok-set.set c.in_ok-set.ensures.checked (omega (arith, c.in_ok-set.ensures.read_failures))
    c.args.output.now c.list_from.new.output c.in_ok-start.start c.in_err-list_from.field-0.0 starts
    (c.in_err-list_from.ensures.lines (option_copied c.args.after) starts.starts))

pub returns-clause-runs : goal.returns-clause-runs
returns-clause-runs g c =
    let starts = c.in_ok-start.ensures.start in
    drilled_run g.R.Read.remaining g.W.Write.contents c.args.form c.args.passphrase.now (option_copied c.args.after) c.args.limit
    c.args.input.now c.checked_set.new.input c.in_ok-set.set c.in_ok-set.ensures.checked (omega (arith, c.in_ok-set.ensures.read_failures))
    c.args.output.now c.list_from.new.output c.in_ok-start.start c.in_ok-list_from.field-0 starts
    (c.in_ok-list_from.ensures.lines (option_copied c.args.after) starts.starts)

-- ---- mnemonics of a created backup

pub returns-in_err-set-clause-complete : goal.returns-in_err-set-clause-complete
returns-in_err-set-clause-complete g c = Runs-map (returns-in_err-set-clause-runs g c) (c.created_backups_drill.ensures _ _ _ _)

pub returns-in_err-start-clause-complete : goal.returns-in_err-start-clause-complete
returns-in_err-start-clause-complete g c = Runs-map (returns-in_err-start-clause-runs g c) (c.created_backups_drill.ensures _ _ _ _)

pub returns-in_err-list_from-clause-complete : goal.returns-in_err-list_from-clause-complete
returns-in_err-list_from-clause-complete g c = Runs-map (returns-in_err-list_from-clause-runs g c) (c.created_backups_drill.ensures _ _ _ _)

pub returns-clause-complete : goal.returns-clause-complete
returns-clause-complete g c = Runs-map (returns-clause-runs g c) (c.created_backups_drill.ensures _ _ _ _)

-- ---- what is told

pub returns-clause-seen : goal.returns-clause-seen
returns-clause-seen g c =
    let after = option_copied c.args.after in
    let (listed, listing) = c.one_listing.ensures.exists c.in_ok-set.set after c.args.limit c.in_ok-start.ensures.is_set in
    sees_all g.R.Read.remaining g.P.Watch.counts g.P.Watch.finds c.args.watch.now c.found.new.self c.list_from.new.watch
    c.in_ok-set.ensures.checked listing c.found.ensures
    (c.in_ok-list_from.ensures.seen after listed c.in_ok-start.ensures.start.starts listing)

pub returns-in_err-list_from-clause-cut : goal.returns-in_err-list_from-clause-cut
returns-in_err-list_from-clause-cut g c =
    let p = err_from_is_err_and c.from_residual-in_err-list_from.result c.from_residual-in_err-list_from.ensures.1 in
    let after = option_copied c.args.after in
    let (listed, listing) = c.one_listing.ensures.exists c.in_ok-set.set after c.args.limit c.in_ok-start.ensures.is_set in
    rw p.1 (λ _. sees_first g.R.Read.remaining g.P.Watch.counts g.P.Watch.finds c.args.watch.now c.found.new.self c.list_from.new.watch
    c.in_ok-set.ensures.checked listing c.found.ensures
    (c.in_err-list_from.ensures.seen after listed c.in_ok-start.ensures.start.starts listing))
