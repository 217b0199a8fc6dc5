use Rattle.std.proofs.Common.{◌≡◌, ◌∙◌, Bool, ap, subst, sym}
use Rattle.s39_cli.specs.declared.person.Terminals.{Terminals}
use Rattle.s39_cli.specs.declared.runner.Ended.TheVariants.{With}
use Rattle.s39_cli.specs.Ending.{IsFlushed}
use Rattle.s39_cli.specs.Outcome.{status_of}
use Rattle.s39_cli.specs.Said.{SaysInRun, tells_last}
use Rattle.s39_cli.specs.Work.{IsWorkOutput}
use Rattle.s39_cli.proofs.Deliveries.{delivers_behind}
use Rattle.s39_cli.proofs.Ends.{does_work}
use Rattle.s39_cli.proofs.Untouched.{run_untouched, same_if_one, work_alike}
use Rattle.s39_cli.proofs.Said.{said_by_work, said_unbegun}
use Rattle.s39_cli.proofs.SaidByRuns.{said_behind}
use Rattle.s39_cli.proofs.runner.by_texts.Goals as goal

pub returns-clause-ends : goal.returns-clause-ends
returns-clause-ends g c =
    let held = g.W.Write.contents in
    let inner : c.new-writer.result.device.output ≡ c.args.output = ap (λ p. p.output) c.new-writer.ensures.device ∙ c.new.ensures.output in
    does_work g.R.Read.remaining held c.args.job c.args.texts.secret.now c.args.texts.passphrase.now c.args.input c.args.output c.in-Ok.work
    (status_of c.flushed-answer.result.0) c.into_inner-2.result c.flushed-answer.result.1 _ c.in-Ok.ensures.work
    (delivers_behind g.R.Read.remaining held (IsWorkOutput c.in-Ok.work) c.new-reader.result c.run-answer.new.input c.new-writer.result
    c.run-answer.new.output c.flushed-answer.result.1 c.run-answer.result c.flushed-answer.result.0 c.run-answer.ensures.runs
    (subst (λ p. IsFlushed (held p.output) (held c.flushed-answer.result.1) c.run-answer.result c.flushed-answer.result.0) c.into_inner.ensures
    c.flushed-answer.ensures.kept)
    c.args.input c.into_inner-2.result c.args.output c.new-reader.ensures.device c.into_inner-2.ensures inner)
    (ap (λ s. With s c.into_inner-2.result c.flushed-answer.result.1) c.tell_answer-status.ensures.status)

pub returns-clause-untouched : goal.returns-clause-untouched
returns-clause-untouched g c =
    run_untouched c.args.output c.args.job c.flushed-answer.result.0 c.into_inner-2.result c.flushed-answer.result.1 _
    (ap (λ s. With s c.into_inner-2.result c.flushed-answer.result.1) c.tell_answer-status.ensures.status) (λ at one.
    let same = same_if_one (g.W.Write.contents c.into_inner.result.output) (g.W.Write.contents c.flushed-answer.result.1) c.run-answer.result
    c.flushed-answer.result.0 c.flushed-answer.ensures.kept one in
    let kept = c.run-answer.ensures.untouched
    (work_alike c.args.job c.args.texts.secret.now c.args.texts.passphrase.now c.in-Ok.work c.in-Ok.ensures.work at) (sym (ap status_of same) ∙ one) in
    let inner : c.into_inner.result ≡ c.new.result = c.into_inner.ensures ∙ ap (λ w. w.device) kept.1 ∙ c.new-writer.ensures.device in
    c.flushed-answer.ensures.untouched (ap (λ p. p.is_written) inner ∙ c.new.ensures.unwritten) ∙ ap (λ p. p.output) inner ∙ c.new.ensures.output)

pub returns-in-Err-clause-said : goal.returns-in-Err-clause-said
returns-in-Err-clause-said g c =
    let person = c.args.person.now in
    said_unbegun g.E.Write.contents g.R.Read.remaining person.terminals person.is_bare c.args.job c.args.input person c.unbegun.new.person
    c.args.texts.secret.now c.in-Err.no_work c.unbegun.result c.in-Err.ensures.refused c.unbegun.ensures.said

pub returns-clause-said : goal.returns-clause-said
returns-clause-said g c =
    let held = g.W.Write.contents in
    let person = c.args.person.now in
    let mid = c.say_if.new.self in
    let late = c.run-answer.new.person in
    let inner : c.new-writer.result.device.output ≡ c.args.output = ap (λ p. p.output) c.new-writer.ensures.device ∙ c.new.ensures.output in
    said_by_work g.E.Write.contents g.R.Read.remaining c.args.job c.args.texts.secret.now c.args.texts.passphrase.now person.terminals person.is_bare
    c.types_mnemonics-types.result c.asks-is_asked.result c.tells_last-tells_of_none.result c.in-Ok.work c.args.input person mid late
    c.tell_answer-status.new.person c.in-Ok.ensures.work c.types_mnemonics-types.ensures c.asks-is_asked.ensures.asked
    (c.tells_last-tells_of_none.ensures ∙ ap (tells_last c.in-Ok.work) c.hears_of_none.ensures)
    c.say_if.ensures.said held c.flushed-answer.result.0 c.into_inner-2.result c.args.output c.flushed-answer.result.1 _
    (delivers_behind g.R.Read.remaining held (IsWorkOutput c.in-Ok.work) c.new-reader.result c.run-answer.new.input c.new-writer.result
    c.run-answer.new.output c.flushed-answer.result.1 c.run-answer.result c.flushed-answer.result.0 c.run-answer.ensures.runs
    (subst (λ p. IsFlushed (held p.output) (held c.flushed-answer.result.1) c.run-answer.result c.flushed-answer.result.0) c.into_inner.ensures
    c.flushed-answer.ensures.kept)
    c.args.input c.into_inner-2.result c.args.output c.new-reader.ensures.device c.into_inner-2.ensures inner)
    (subst (λ (t : Terminals). SaysInRun g.R.Read.remaining g.E.Write.contents t person.is_bare c.in-Ok.work c.args.input c.flushed-answer.result.0 mid late)
    c.say_if.ensures.said.same_terminals
    (subst (λ (b : Bool). SaysInRun g.R.Read.remaining g.E.Write.contents mid.terminals b c.in-Ok.work c.args.input c.flushed-answer.result.0 mid late)
    c.say_if.ensures.bare
    (said_behind g.R.Read.remaining g.E.Write.contents mid.terminals mid.is_bare c.new-reader.result.device c.args.input c.in-Ok.work
    (held c.into_inner.result.output) (held c.flushed-answer.result.1) mid late c.run-answer.result c.flushed-answer.result.0
    c.new-reader.ensures.device c.run-answer.ensures.said c.flushed-answer.ensures.kept)))
    c.tell_answer-status.ensures.said (ap (λ s. With s c.into_inner-2.result c.flushed-answer.result.1) c.tell_answer-status.ensures.status)
