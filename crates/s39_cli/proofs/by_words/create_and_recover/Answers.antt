use Rattle.std.proofs.Common.{ℕ, Bor, List, Some, None, ap, map, refl, subst}
use Rattle.s39_input.specs.Input.{whole}
use Rattle.s39_command.specs.declared.command.Job.TheVariants.{Create, Recover}
use Rattle.s39_cli.specs.Ending.{IsOutcome}
use Rattle.s39_cli.specs.Headline.{GivesSecret}
use Rattle.s39_cli.specs.Values.{text_of}
use Rattle.s39_cli.proofs.ByWords as by_words
use Rattle.s39_cli.proofs.by_words.create_and_recover.Goals as goal

pub returns-else-status-ne0-clause-recovered : goal.returns-else-status-ne0-clause-recovered
returns-else-status-ne0-clause-recovered g c plan exponent extendable form given again taken gives also_taken also_gives alike =
    let words = map (λ (word : Bor (List ℕ)). word.now) in
    let told = g.S.Shelf.told c.args.shelf.now in
    let secret = text_of None given.secret in
    let text = c.in-With.backup.items in
    by_words.created_then told g.R.Read.remaining (λ queue. Some queue.items) g.W.Write.contents c.args.person.now.terminals.input
    (words c.args.creating.now)
    (Create plan exponent extendable) given (by_words.Writes (Recover form None) again) c.args.random c.in-With.input c.new-backup.result
    c.in-With.backup c.args.output c.in-With.status text (GivesSecret form secret)
    (λ bytes line number creates recovers. c.created_jobs_recover.ensures plan exponent extendable form secret (text_of None given.passphrase)
    (text_of None again.secret) (whole bytes) text line number creates
    (subst (λ (p : List ℕ). IsOutcome (Recover form None) (text_of None again.secret) p (whole text) line number) alike recovers))
    (record { awaits_none = λ awaits. awaits; done_with = λ x is. is }) taken gives c.in-With.ensures.ends c.if-status-ne0.false
    (ap (λ (items : List ℕ). Some items) c.new-backup.ensures.items) refl
    c.program-in-With.result
    (by_words.run_plainly told (λ queue. Some queue.items) g.W.Write.contents c.program.new.person.terminals.input (words c.args.recovering.now) c.in-With.backup c.args.output
    (Recover form None) again (record { awaits_none = λ awaits. awaits; done_with = λ x is. is })
    also_taken also_gives tt (λ typed. typed) c.program-in-With.result c.program-in-With.ensures.ends)
