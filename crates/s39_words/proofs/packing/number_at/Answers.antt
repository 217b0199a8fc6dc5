use Rattle.std.proofs.Common.{◌<◌, ◌^◌, subst, sym}
use Rattle.std.proofs.lemmas.Nat.{mod_below, pow_pos}
use Rattle.s39_words.proofs.TwoWords.{number_at-shifted}
use Rattle.s39_words.proofs.packing.number_at.Goals as goal

pub returns : goal.returns
returns c =
    let e = number_at-shifted c.args.words.now c.args.place c.args.width c.requires.indices c.requires.in_two_words c.requires.within c.from.result
    c.from-2.result c.from.ensures c.from-2.ensures c.requires.width in
    record { number = e; below = subst (λ n. n < 2 ^ c.args.width) (sym e) (mod_below _ (2 ^ c.args.width) (pow_pos c.args.width)) }
