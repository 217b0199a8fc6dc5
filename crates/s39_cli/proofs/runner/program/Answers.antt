use Rattle.std.proofs.Common.{◌≡◌, ◌∙◌, ℕ, Bor, List, ap, map, option_map}
use Rattle.s39_cli.specs.declared.values.BadValue.{BadValue}
use Rattle.s39_cli.specs.declared.values.NoValue.TheVariants.{Bad}
use Rattle.s39_cli.proofs.Ends.{ends_by_job, ends_typed, ends_unread, ends_without_job}
use Rattle.s39_cli.proofs.Untouched.{job_untouched, jobless_untouched, typed_untouched, unread_untouched}
use Rattle.s39_cli.proofs.SaidOfWords.{said_of_job, said_typed, said_unread, said_without_job}
use Rattle.s39_cli.proofs.runner.program.Goals as goal

pub returns-in-Err-clause-ends : goal.returns-in-Err-clause-ends
returns-in-Err-clause-ends g c =
    let words = map (λ (word : Bor (List ℕ)). word.now) c.args.words.now in
    ends_without_job (g.S.Shelf.told c.args.shelf.now) g.R.Read.remaining g.W.Write.contents c.args.person.now.terminals.input words c.args.input c.args.output
    c.in-Err.no_job c.without_job.result
    c.in-Err.ensures.answer c.in-Err.ensures.memory c.without_job.ensures.ends

pub returns-then-types_random-clause-ends : goal.returns-then-types_random-clause-ends
returns-then-types_random-clause-ends g c =
    let words = map (λ (word : Bor (List ℕ)). word.now) c.args.words.now in
    ends_typed (g.S.Shelf.told c.args.shelf.now) g.R.Read.remaining g.W.Write.contents c.args.person.now.terminals.input words c.args.input c.args.output
    c.in-Ok.call c.in-Ok.ensures.call
    c.in-Ok.ensures.taken c.in-Ok.ensures.faultless c.typed.result (c.types_random.ensures.typed c.if-types_random.true) c.typed.ensures.ends

pub returns-in-Err-read-clause-ends : goal.returns-in-Err-read-clause-ends
returns-in-Err-read-clause-ends g c =
    let words = map (λ (word : Bor (List ℕ)). word.now) c.args.words.now in
    ends_unread (g.S.Shelf.told c.args.shelf.now) g.R.Read.remaining g.W.Write.contents c.args.person.now.terminals.input words c.args.input c.args.output
    c.in-Ok.call c.in-Ok.ensures.call
    c.in-Ok.ensures.taken c.in-Ok.ensures.faultless c.read.new.input c.without_value.result
    ((bad : BadValue) × (c.in-Err-read.unread.cause ≡ Bad bad)) (c.types_random.ensures.untyped c.if-types_random.false) c.in-Err-read.ensures.failed
    (λ caused. (caused.0, c.in-Err-read.ensures.bad caused.0 caused.1)) c.without_value.ensures.ends

pub returns-clause-ends : goal.returns-clause-ends
returns-clause-ends g c =
    let words = map (λ (word : Bor (List ℕ)). word.now) c.args.words.now in
    ends_by_job (g.S.Shelf.told c.args.shelf.now) g.R.Read.remaining g.W.Write.contents c.args.person.now.terminals.input words c.args.input c.args.output
    c.in-Ok.call c.in-Ok.ensures.call
    c.in-Ok.ensures.taken c.in-Ok.ensures.faultless (option_map (λ held. held.items) c.in-Ok-read.values.secret)
    (option_map (λ held. held.items) c.in-Ok-read.values.passphrase) c.texts-texts.result.secret.now c.texts-texts.result.passphrase.now c.read.new.input
    c.by_job.result (c.types_random.ensures.untyped c.if-types_random.false) c.in-Ok-read.ensures.values c.texts-texts.ensures.secret c.texts-texts.ensures.passphrase
    c.by_job.ensures.ends

pub returns-in-Err-clause-untouched : goal.returns-in-Err-clause-untouched
returns-in-Err-clause-untouched g c =
    jobless_untouched c.args.output g.W.Write.contents c.args.input c.in-Err.no_job (map (λ (word : Bor (List ℕ)). word.now) c.args.words.now)
    c.without_job.result c.without_job.ensures.ends

pub returns-then-types_random-clause-untouched : goal.returns-then-types_random-clause-untouched
returns-then-types_random-clause-untouched g c =
    typed_untouched c.args.output c.args.input (map (λ (word : Bor (List ℕ)). word.now) c.args.words.now) c.typed.result c.typed.ensures.ends

pub returns-in-Err-read-clause-untouched : goal.returns-in-Err-read-clause-untouched
returns-in-Err-read-clause-untouched g c =
    unread_untouched c.args.output ((bad : BadValue) × (c.in-Err-read.unread.cause ≡ Bad bad)) c.read.new.input (map (λ (word : Bor (List ℕ)). word.now) c.args.words.now)
    c.without_value.result c.without_value.ensures.ends

pub returns-clause-untouched : goal.returns-clause-untouched
returns-clause-untouched g c =
    job_untouched c.args.output (map (λ (word : Bor (List ℕ)). word.now) c.args.words.now) c.in-Ok.call c.in-Ok.ensures.call
    c.by_job.result c.by_job.ensures.untouched

pub returns-in-Err-clause-said : goal.returns-in-Err-clause-said
returns-in-Err-clause-said g c =
    let words = map (λ (word : Bor (List ℕ)). word.now) c.args.words.now in
    said_without_job (g.S.Shelf.told c.args.shelf.now) g.R.Read.remaining g.E.Write.contents c.args.person.now.terminals words c.args.input
    c.args.person.now c.without_job.new.person c.in-Err.no_job
    c.without_job.result c.in-Err.ensures.answer c.in-Err.ensures.memory c.without_job.ensures.said

pub returns-then-types_random-clause-said : goal.returns-then-types_random-clause-said
returns-then-types_random-clause-said g c =
    let words = map (λ (word : Bor (List ℕ)). word.now) c.args.words.now in
    said_typed (g.S.Shelf.told c.args.shelf.now) g.R.Read.remaining g.E.Write.contents c.args.person.now.terminals words c.args.input
    c.args.person.now c.typed.new.person c.in-Ok.call c.in-Ok.ensures.call
    c.in-Ok.ensures.taken c.in-Ok.ensures.faultless c.typed.result c.args.input c.args.output (c.types_random.ensures.typed c.if-types_random.true) c.typed.ensures.ends
    c.typed.ensures.said

pub returns-in-Err-read-clause-said : goal.returns-in-Err-read-clause-said
returns-in-Err-read-clause-said g c =
    let words = map (λ (word : Bor (List ℕ)). word.now) c.args.words.now in
    said_unread (g.S.Shelf.told c.args.shelf.now) g.R.Read.remaining g.E.Write.contents c.args.person.now.terminals words c.args.input
    c.args.person.now c.without_value.new.person c.in-Ok.call c.in-Ok.ensures.call
    c.in-Ok.ensures.taken c.in-Ok.ensures.faultless (c.types_random.ensures.untyped c.if-types_random.false) c.is_bare.result c.ask_for.new.self c.keep.new.self
    c.ask_for.ensures.said c.keep.ensures (λ (bad : BadValue). c.in-Err-read.unread.cause ≡ Bad bad) c.in-Err-read.ensures.bad c.in-Err-read.unread.name.now c.without_value.result
    c.without_value.ensures.not_begun c.in-Err-read.ensures.named c.without_value.ensures.said

pub returns-clause-said : goal.returns-clause-said
returns-clause-said g c =
    let words = map (λ (word : Bor (List ℕ)). word.now) c.args.words.now in
    said_of_job (g.S.Shelf.told c.args.shelf.now) g.R.Read.remaining g.E.Write.contents c.args.person.now.terminals words c.args.input
    c.args.person.now c.by_job.new.person c.in-Ok.call c.in-Ok.ensures.call
    c.in-Ok.ensures.taken c.in-Ok.ensures.faultless (c.types_random.ensures.untyped c.if-types_random.false) c.is_bare.result c.ask_for.new.self c.keep.new.self
    c.ask_for.ensures.said c.keep.ensures (option_map (λ held. held.items) c.in-Ok-read.values.secret)
    (option_map (λ held. held.items) c.in-Ok-read.values.passphrase) c.read.new.input c.by_job.result c.is_bare.ensures
    (ap (λ p. p.terminals) c.keep.ensures ∙ c.ask_for.ensures.said.same_terminals) c.in-Ok-read.ensures.values c.by_job.ensures.said
