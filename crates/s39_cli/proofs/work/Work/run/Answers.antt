use Rattle.std.proofs.Common.{ℕ, List, Option, refl, subst, sym}
use Rattle.std.specs.Option.{option_copied}
use Rattle.s39_set.specs.Names.{Names}
use Rattle.s39_input.specs.Create.{IsCreateOutput}
use Rattle.s39_drilling.specs.Drill.{IsDrillOutput}
use Rattle.s39_reading.specs.Recover.{IsRecoverOutput}
use Rattle.s39_input.specs.Runs.{Runs}
use Rattle.s39_input.specs.Show.{IsShowOutput}
use Rattle.s39_cli.specs.declared.work.Work.{Work}
use Rattle.s39_cli.specs.declared.work.Work.TheVariants as work
use Rattle.s39_set.specs.Status.{is_enough}
use Rattle.s39_creating.specs.Reissue.{IsReissueOutput}
use Rattle.s39_creating.specs.Resplit.{IsResplitOutput}
use Rattle.s39_reading.specs.Status.{IsStatusOutput}
use Rattle.s39_cli.specs.Outcome.{where_done, without_mismatches}
use Rattle.s39_cli.specs.Said.{SaysInRun}
use Rattle.s39_cli.specs.Work.{IsWorkOutput}
use Rattle.s39_cli.proofs.SaidByRuns.{said_by_drill, said_by_recovery, said_judged, unmoved, unsaid_work}
use Rattle.s39_cli.proofs.Works.{Runs-judged}
use Rattle.s39_cli.proofs.work.Work.run.Goals as goal

pub returns-in-Show-clause-runs : goal.returns-in-Show-clause-runs
returns-in-Show-clause-runs g c =
    subst (λ (w : Work). Runs g.R.Read.remaining g.W.Write.contents (IsWorkOutput w) c.args.input.now c.run_show.new.input c.args.output.now
    c.run_show.new.output c.where_done.result) (sym c.in-Show.is)
    (Runs-judged g.R.Read.remaining g.W.Write.contents where_done IsShowOutput (IsWorkOutput work.Show) c.args.input.now c.run_show.new.input
    c.args.output.now c.run_show.new.output c.run_show.result c.where_done.result c.run_show.ensures c.where_done.ensures
    (λ input text full output. (full, output, refl)))

pub returns-in-Create-clause-runs : goal.returns-in-Create-clause-runs
returns-in-Create-clause-runs g c =
    let creation = c.in-Create.creation in
    subst (λ (w : Work). Runs g.R.Read.remaining g.W.Write.contents (IsWorkOutput w) c.args.input.now c.run_create.new.input c.args.output.now
    c.run_create.new.output c.where_done-in-Create.result) (sym c.in-Create.is)
    (Runs-judged g.R.Read.remaining g.W.Write.contents where_done _ (IsWorkOutput (work.Create creation)) c.args.input.now c.run_create.new.input
    c.args.output.now c.run_create.new.output c.run_create.result c.where_done-in-Create.result c.run_create.ensures.runs
    c.where_done-in-Create.ensures
    (λ input text full output. (
      full,
      subst (λ (secret : List ℕ). IsCreateOutput (record {
        secret = secret;
        passphrase = creation.passphrase.now;
        group_threshold = creation.plan.group_threshold;
        groups = creation.plan.groups.items;
        options = creation.options;
      }) input text full) c.as_slice.ensures.value output,
      refl,
    )))

pub returns-in-Recover-clause-runs : goal.returns-in-Recover-clause-runs
returns-in-Recover-clause-runs g c =
    let passphrase = c.in-Recover.passphrase in
    let form = c.in-Recover.form in
    let expected = c.in-Recover.expected in
    subst (λ (w : Work). Runs g.R.Read.remaining g.W.Write.contents (IsWorkOutput w) c.args.input.now c.run_recover.new.input c.args.output.now
    c.run_recover.new.output c.where_done-in-Recover.result) (sym c.in-Recover.is)
    (Runs-judged g.R.Read.remaining g.W.Write.contents where_done (IsRecoverOutput form expected passphrase.now)
    (IsWorkOutput (work.Recover passphrase form expected))
    c.args.input.now c.run_recover.new.input c.args.output.now c.run_recover.new.output c.run_recover.result
    c.where_done-in-Recover.result c.run_recover.ensures.runs c.where_done-in-Recover.ensures
    (λ input text full output. (full, output, refl)))

pub returns-in-Drill-clause-runs : goal.returns-in-Drill-clause-runs
returns-in-Drill-clause-runs g c =
    let drill = c.in-Drill.drill in
    subst (λ (w : Work). Runs g.R.Read.remaining g.W.Write.contents (IsWorkOutput w) c.args.input.now c.run_drill.new.input c.args.output.now
    c.run_drill.new.output c.without_mismatches.result) (sym c.in-Drill.is)
    (Runs-judged g.R.Read.remaining g.W.Write.contents without_mismatches (IsDrillOutput drill.form drill.passphrase.now drill.after drill.limit)
    (IsWorkOutput (work.Drill drill)) c.args.input.now c.run_drill.new.input c.args.output.now c.run_drill.new.output c.run_drill.result
    c.without_mismatches.result
    (subst (λ (after : Option Names). Runs g.R.Read.remaining g.W.Write.contents (IsDrillOutput drill.form drill.passphrase.now after drill.limit)
    c.args.input.now c.run_drill.new.input c.args.output.now c.run_drill.new.output c.run_drill.result) c.as_ref.ensures.value c.run_drill.ensures.runs)
    c.without_mismatches.ensures (λ input text full output. (full, output, refl)))

pub returns-in-Status-clause-runs : goal.returns-in-Status-clause-runs
returns-in-Status-clause-runs g c =
    subst (λ (w : Work). Runs g.R.Read.remaining g.W.Write.contents (IsWorkOutput w) c.args.input.now c.run_status.new.input c.args.output.now
    c.run_status.new.output c.with_enough.result) (sym c.in-Status.is)
    (Runs-judged g.R.Read.remaining g.W.Write.contents is_enough IsStatusOutput (IsWorkOutput work.Status) c.args.input.now c.run_status.new.input
    c.args.output.now c.run_status.new.output c.run_status.result c.with_enough.result c.run_status.ensures.runs c.with_enough.ensures
    (λ input text full output. (full, output, refl)))

pub returns-in-Repair-clause-runs : goal.returns-in-Repair-clause-runs
returns-in-Repair-clause-runs g c =
    subst (λ (w : Work). Runs g.R.Read.remaining g.W.Write.contents (IsWorkOutput w) c.args.input.now c.run_repair.new.input c.args.output.now
    c.run_repair.new.output c.run_repair.result) (sym c.in-Repair.is) c.run_repair.ensures

pub returns-in-Reissue-clause-runs : goal.returns-in-Reissue-clause-runs
returns-in-Reissue-clause-runs g c =
    let reissue = c.in-Reissue.reissue in
    subst (λ (w : Work). Runs g.R.Read.remaining g.W.Write.contents (IsWorkOutput w) c.args.input.now c.run_reissue.new.input c.args.output.now
    c.run_reissue.new.output c.where_done-in-Reissue.result) (sym c.in-Reissue.is)
    (Runs-judged g.R.Read.remaining g.W.Write.contents where_done
    (IsReissueOutput reissue.plan.group_threshold reissue.plan.groups.items reissue.names) (IsWorkOutput (work.Reissue reissue)) c.args.input.now
    c.run_reissue.new.input c.args.output.now c.run_reissue.new.output c.run_reissue.result c.where_done-in-Reissue.result
    c.run_reissue.ensures.runs c.where_done-in-Reissue.ensures (λ input text full output. (full, output, refl)))

pub returns-in-Resplit-clause-runs : goal.returns-in-Resplit-clause-runs
returns-in-Resplit-clause-runs g c =
    let resplit = c.in-Resplit.resplit in
    subst (λ (w : Work). Runs g.R.Read.remaining g.W.Write.contents (IsWorkOutput w) c.args.input.now c.run_resplit.new.input c.args.output.now
    c.run_resplit.new.output c.where_done-in-Resplit.result) (sym c.in-Resplit.is)
    (Runs-judged g.R.Read.remaining g.W.Write.contents where_done
    (IsResplitOutput resplit.plan.group_threshold resplit.plan.groups.items resplit.random.now) (IsWorkOutput (work.Resplit resplit)) c.args.input.now
    c.run_resplit.new.input c.args.output.now c.run_resplit.new.output c.run_resplit.result c.where_done-in-Resplit.result
    c.run_resplit.ensures.runs c.where_done-in-Resplit.ensures (λ input text full output. (full, output, refl)))

-- ---- what is said

pub returns-in-Show-clause-said : goal.returns-in-Show-clause-said
returns-in-Show-clause-said g c =
    let person = c.args.person.now in
    unsaid_work g.R.Read.remaining g.E.Write.contents person.terminals person.is_bare c.args.input.now.device c.args.self.now work.Show c.where_done.result
    person c.in-Show.is (λ _. refl) refl

pub returns-in-Create-clause-said : goal.returns-in-Create-clause-said
returns-in-Create-clause-said g c =
    let person = c.args.person.now in
    unsaid_work g.R.Read.remaining g.E.Write.contents person.terminals person.is_bare c.args.input.now.device c.args.self.now (work.Create c.in-Create.creation) c.where_done-in-Create.result
    person c.in-Create.is (λ _. refl) refl

pub returns-in-Status-clause-said : goal.returns-in-Status-clause-said
returns-in-Status-clause-said g c =
    let person = c.args.person.now in
    unsaid_work g.R.Read.remaining g.E.Write.contents person.terminals person.is_bare c.args.input.now.device c.args.self.now work.Status c.with_enough.result
    person c.in-Status.is (λ _. refl) refl

pub returns-in-Reissue-clause-said : goal.returns-in-Reissue-clause-said
returns-in-Reissue-clause-said g c =
    let person = c.args.person.now in
    unsaid_work g.R.Read.remaining g.E.Write.contents person.terminals person.is_bare c.args.input.now.device c.args.self.now (work.Reissue c.in-Reissue.reissue) c.where_done-in-Reissue.result
    person c.in-Reissue.is (λ _. refl) refl

pub returns-in-Repair-clause-said : goal.returns-in-Repair-clause-said
returns-in-Repair-clause-said g c =
    let person = c.args.person.now in
    unsaid_work g.R.Read.remaining g.E.Write.contents person.terminals person.is_bare c.args.input.now.device c.args.self.now work.Repair c.run_repair.result
    person c.in-Repair.is (λ _. refl) refl

pub returns-in-Resplit-clause-said : goal.returns-in-Resplit-clause-said
returns-in-Resplit-clause-said g c =
    let person = c.args.person.now in
    unsaid_work g.R.Read.remaining g.E.Write.contents person.terminals person.is_bare c.args.input.now.device c.args.self.now (work.Resplit c.in-Resplit.resplit) c.where_done-in-Resplit.result
    person c.in-Resplit.is (λ _. refl) refl

pub returns-in-Recover-clause-said : goal.returns-in-Recover-clause-said
returns-in-Recover-clause-said g c =
    let person = c.args.person.now in
    let runs = c.run_recover.ensures in
    subst (λ (w : Work). SaysInRun g.R.Read.remaining g.E.Write.contents person.terminals person.is_bare w c.args.input.now.device
    c.where_done-in-Recover.result person c.run_recover.new.watch) (sym c.in-Recover.is)
    (said_judged g.R.Read.remaining g.E.Write.contents person.terminals person.is_bare c.args.input.now.device where_done
    (work.Recover c.in-Recover.passphrase c.in-Recover.form c.in-Recover.expected) c.run_recover.result c.where_done-in-Recover.result person
    c.run_recover.new.watch c.where_done-in-Recover.ensures
    (said_by_recovery g.R.Read.remaining g.E.Write.contents person.terminals person.is_bare c.args.input.now c.run_recover.new.input
    c.in-Recover.passphrase c.in-Recover.form c.in-Recover.expected c.run_recover.result person c.run_recover.new.watch refl refl runs.told runs.cut
    (unmoved c.run_recover.result _ _ runs.untouched)))

pub returns-in-Drill-clause-said : goal.returns-in-Drill-clause-said
returns-in-Drill-clause-said g c =
    let person = c.args.person.now in
    let runs = c.run_drill.ensures in
    subst (λ (w : Work). SaysInRun g.R.Read.remaining g.E.Write.contents person.terminals person.is_bare w c.args.input.now.device
    c.without_mismatches.result person c.run_drill.new.watch) (sym c.in-Drill.is)
    (said_judged g.R.Read.remaining g.E.Write.contents person.terminals person.is_bare c.args.input.now.device without_mismatches
    (work.Drill c.in-Drill.drill) c.run_drill.result c.without_mismatches.result person c.run_drill.new.watch c.without_mismatches.ensures
    (said_by_drill g.R.Read.remaining g.E.Write.contents person.terminals person.is_bare c.args.input.now c.run_drill.new.input c.in-Drill.drill
    (option_copied c.as_ref.result) c.run_drill.result person c.run_drill.new.watch refl c.as_ref.ensures.value runs.runs.read_failures_are runs.seen
    _ runs.cut (unmoved c.run_drill.result _ _ runs.untouched)))
