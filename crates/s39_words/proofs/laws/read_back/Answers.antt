use Rattle.std.proofs.Common.{sym, ◌∙◌}
use Rattle.s39_words.proofs.OneReading.{read_from_spelled}
use Rattle.s39_words.proofs.laws.read_back.Goals as goal

pub returns : goal.returns
returns c =
    sym c.parse.ensures.reading ∙ read_from_spelled c.deref.result.now c.args.share.now (rw c.deref.ensures.0 c.print.ensures.spells)
