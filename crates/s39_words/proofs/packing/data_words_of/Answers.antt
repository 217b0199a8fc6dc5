use Rattle.std.proofs.Common.{◌≡◌, ◌+◌, ◌-◌, ◌*◌, ◌/◌, ◌%◌, ℕ, List, get_or, length, ap, ◌∙◌, arith}
use Rattle.std.proofs.lemmas.List.Elements.{All-same}
use Rattle.s39_words.specs.Layout.{IsIndex}
use Rattle.s39_words.specs.declared.share.ShareFields.{ShareFields}
use Rattle.s39_words.specs.Share.{header_number, value_words, data_words}
use Rattle.s39_lists.specs.Digits.{digits}
use Rattle.s39_lists.specs.Written.{Bits, bits_with}
use Rattle.s39_words.proofs.DataWords.{written_more, written-all, data_words-below}
use Rattle.s39_words.proofs.packing.data_words_of.Goals as goal

pub loop-byte-init : goal.loop-byte-init
loop-byte-init c =
    let same = c.as_slice-bytes.ensures.value ∙ ap (λ (f : ShareFields). f.value.items) c.fields-fields.ensures.fields in
    let n = ap length same in
    let size = length c.args.share.now.value.items in
    let written = (10 - 8 * length c.as_slice-bytes.result.now % 10) % 10 in
    let e : written ≡ 10 * value_words size - 8 * size + 8 * 0 = omega (arith, n) in
    let header : ShareFields → Bits = λ f. record { count = 40; number = header_number f } in
    c.write.ensures
    ∙ ap (λ (bits : Bits). bits_with bits written 0) (c.header_of-words.ensures ∙ ap header c.fields-fields.ensures.fields)
    ∙ ap (λ padding. bits_with (header c.args.share.now) padding 0) e

pub loop-byte-preserved : goal.loop-byte-preserved
loop-byte-preserved c =
    let same = c.as_slice-bytes.ensures.value ∙ ap (λ (f : ShareFields). f.value.items) c.fields-fields.ensures.fields in
    let n = ap length same in
    c.write-in-loop-byte.ensures
    ∙ ap (λ (bits : Bits). bits_with bits 8 c.from.result) c.loop-byte.invariant
    ∙ written_more c.args.share.now c.loop-byte.byte-index c.from.result (omega (arith, n)) (c.from.ensures
    ∙ ap (λ (bytes : List ℕ). get_or bytes c.loop-byte.byte-index 0) same)

pub write-requires-in-loop-byte-clause-room : goal.write-requires-in-loop-byte-clause-room
write-requires-in-loop-byte-clause-room c =
    let same = c.as_slice-bytes.ensures.value ∙ ap (λ (f : ShareFields). f.value.items) c.fields-fields.ensures.fields in
    let n = ap length same in
    let count = ap (λ (bits : Bits). bits.count) c.loop-byte.invariant in
    omega (arith, count, n, c.fields-fields.ensures.in_range.value.count)

pub returns : goal.returns
returns c =
    let same = c.as_slice-bytes.ensures.value ∙ ap (λ (f : ShareFields). f.value.items) c.fields-fields.ensures.fields in
    let n = ap length same in
    let words : c.into_words.result.items ≡ data_words c.args.share.now =
    c.into_words.ensures ∙ ap (λ (b : Bits). digits 10 (b.count / 10) b.number) c.loop-byte.invariant
    ∙ written-all c.args.share.now c.loop-byte.byte-index (omega (arith, n)) in
    record {
      same = words;
      in_list = All-same IsIndex c.into_words.result.items (data_words c.args.share.now) words (data_words-below c.args.share.now);
      in_range = c.fields-fields.ensures.in_range;
    }
