use Rattle.std.proofs.Common.{◌≡◌, ◌∙◌, ◌<◌, ◌≤◌, map, length, ap, arith}
use Rattle.std.proofs.lemmas.List.{length-map}
use Rattle.std.proofs.lemmas.List.Elements.{All-same}
use Rattle.base58.specs.Base58.{digit_of}
use Rattle.base58.proofs.Alphabet.{digits-below}
use Rattle.base58.proofs.Converted.{digits-size}
use Rattle.base58.proofs.reading.decoded.Goals as goal

pub converted-requires-clause-digits : goal.converted-requires-clause-digits
converted-requires-clause-digits c =
    let text = c.args.text.now in
    let same : c.deref_mut.result.now ≡ map digit_of text = c.deref_mut.ensures.value ∙ c.digits_of.ensures in
    All-same (λ d. d < 58) c.deref_mut.result.now (map digit_of text) same (digits-below text c.requires.letters)

pub converted-requires-clause-size : goal.converted-requires-clause-size
converted-requires-clause-size c =
    let text = c.args.text.now in
    let same : c.deref_mut.result.now ≡ map digit_of text = c.deref_mut.ensures.value ∙ c.digits_of.ensures in
    let count : length c.deref_mut.result.now ≤ 112 = omega (arith, ap length same, length-map text digit_of) in
    digits-size c.deref_mut.result.now (All-same (λ d. d < 58) c.deref_mut.result.now (map digit_of text) same (digits-below text c.requires.letters)) count
