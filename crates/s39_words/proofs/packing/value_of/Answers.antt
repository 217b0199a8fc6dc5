use Rattle.std.proofs.Common.{◌<◌, get_or, ◌++◌, sym, ap, ◌∙◌, arith, length, [], ◌∷◌}
use Rattle.std.proofs.lemmas.List.{take_all, take_more, length-take}
use Rattle.s39_kdf.specs.Limits.{longest_secret}
use Rattle.s39_words.specs.Reading.{share_value_at}
use Rattle.s39_words.proofs.DataWords.{value_byte, length-value}
use Rattle.s39_words.proofs.packing.value_of.Goals as goal

pub push-requires : goal.push-requires
push-requires c =
    let a = c.requires.count.at_most in
    let e = ap length c.loop-i.invariant ∙ length-take c.loop-i.i (share_value_at c.args.words.now) in
    let h : length c.loop-i.value.items < longest_secret = omega (arith, e) in
    (omega arith, h)

pub loop-i-preserved : goal.loop-i-preserved
loop-i-preserved c =
    let ws = c.args.words.now in
    let i = c.loop-i.i in
    let within : i < length (share_value_at ws) = omega (arith, length-value ws) in
    c.push.ensures.items
    ∙ ap (λ n. c.loop-i.value.items ++ n ∷ []) (c.number_at-in-loop-i.ensures.number ∙ sym (value_byte ws c.requires.count i within))
    ∙ ap (λ xs. xs ++ get_or (share_value_at ws) i 0 ∷ []) c.loop-i.invariant
    ∙ sym (take_more (share_value_at ws) i 0 within)

pub returns-clause-value : goal.returns-clause-value
returns-clause-value c = c.loop-i.invariant ∙ take_all c.loop-i.i (share_value_at c.args.words.now) (omega (arith, length-value c.args.words.now))
