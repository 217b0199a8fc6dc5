use Rattle.std.proofs.Common.{ℕ, Bor, List, map}
use Rattle.s39_cli.proofs.ByWords as by_words
use Rattle.s39_cli.proofs.by_words.run.Goals as goal

pub returns : goal.returns
returns g c job given taken gives ready untyped = by_words.run (g.S.Shelf.told c.args.shelf.now) g.R.Read.remaining g.W.Write.contents c.args.person.now.terminals.input
    (map (λ (word : Bor (List ℕ)). word.now) c.args.words.now) c.args.input c.args.output job given taken gives ready untyped
    c.program.result c.program.ensures.ends
