use Rattle.std.proofs.Common.{[], subst, sym}
use Rattle.s39_command.specs.declared.command.Job.{Job}
use Rattle.s39_cli.specs.Outcome.{HasBadPlan}
use Rattle.s39_cli.proofs.Ends.{bad_plan}
use Rattle.s39_cli.proofs.Said.{said_of_plan, said_undrawn}
use Rattle.s39_cli.proofs.runner.by_job.Goals as goal

pub returns-in-Err-clause-ends : goal.returns-in-Err-clause-ends
returns-in-Err-clause-ends g c =
    bad_plan (g.S.Shelf.told c.args.shelf.now) g.R.Read.remaining g.W.Write.contents c.args.job c.args.texts.secret.now c.args.texts.passphrase.now
    c.args.input c.args.output c.in-Some.plan c.in-Some.name c.in-Some.ensures.some c.in-Err.error c.unbegun.result c.in-Err.ensures.reading
    c.unbegun.ensures.ends

pub returns-in-Err-clause-said : goal.returns-in-Err-clause-said
returns-in-Err-clause-said g c =
    let person = c.args.person.now in
    said_of_plan g.E.Write.contents g.R.Read.remaining person.terminals person.is_bare c.args.job c.args.input person c.unbegun.new.person [] c.in-Err.error
    c.unbegun.result (subst (λ (j : Job). HasBadPlan j [] c.in-Err.error) (sym c.in-Some.ensures.some) c.in-Err.ensures.reading) c.unbegun.ensures.said

pub returns-in-Err-Failed-clause-said : goal.returns-in-Err-Failed-clause-said
returns-in-Err-Failed-clause-said g c =
    let person = c.args.person.now in
    said_undrawn g.E.Write.contents g.R.Read.remaining person.terminals person.is_bare c.args.job c.args.input person c.without_value.new.person
    _ c.in-Some.name.now c.without_value.result (c.without_value.ensures.failed (λ bad same. cc)) c.without_value.ensures.said
    c.without_value.ensures.not_begun
