use Rattle.std.proofs.Common.{ap, sym, ◌∙◌, ◌==◌, arith}
use Rattle.s39_words.proofs.DataWords.{flag_at, words-at_least}
use Rattle.s39_words.proofs.packing.has_flag.Goals as goal

pub returns : goal.returns
returns c =
    ap (λ n. n == 1) c.number_at.ensures.number
    ∙ sym (flag_at c.args.words.now c.requires.indices (omega (arith, words-at_least c.args.words.now c.requires.count)))
