use Rattle.std.proofs.Common.{◌≡◌, ◌<◌, ◌∙◌, All, length, arith, ap}
use Rattle.std.proofs.lemmas.List.Elements.{All-same}
use Rattle.base58.specs.Base58.{converted}
use Rattle.base58.proofs.Converted.{bytes-size, converted-below, converted-length}
use Rattle.base58.proofs.writing.base58check.Goals as goal

pub converted-requires-clause-size : goal.converted-requires-clause-size
converted-requires-clause-size c =
    let bytes = c.deref_mut.result.now in
    bytes-size bytes (All-same (λ b. b < 256) bytes c.with_checksum.result.items c.deref_mut.ensures.value c.with_checksum.ensures.bytes) (omega arith)

pub letters_of-requires-clause-count : goal.letters_of-requires-clause-count
letters_of-requires-clause-count c =
    let bytes = c.deref_mut.result.now in
    let same : c.deref.result.now ≡ converted 256 58 bytes = c.deref.ensures.0 ∙ c.converted.ensures in
    let below : All (λ b. b < 256) bytes =
    All-same (λ b. b < 256) bytes c.with_checksum.result.items c.deref_mut.ensures.value c.with_checksum.ensures.bytes in
    omega (arith, ap length same, converted-length bytes below (omega arith))

pub letters_of-requires-clause-below : goal.letters_of-requires-clause-below
letters_of-requires-clause-below c =
    let bytes = c.deref_mut.result.now in
    let same : c.deref.result.now ≡ converted 256 58 bytes = c.deref.ensures.0 ∙ c.converted.ensures in
    All-same (λ d. d < 58) c.deref.result.now (converted 256 58 bytes) same (converted-below 256 58 bytes (omega arith))
