use Rattle.std.proofs.Common.{◌≤◌, ◌+◌, [], ◌∷◌, ◌++◌, length, get_or, take, ap, ◌∙◌, arith}
use Rattle.std.specs.Prelude.{map}
use Rattle.std.specs.List.{join_with_byte}
use Rattle.s39_words.specs.Layout.{longest_text}
use Rattle.s39_words.specs.Printing.{listed_word}
use Rattle.s39_words.proofs.Listed.{short_word, FitsRow-listed_word}
use Rattle.s39_words.proofs.Joined.{joined_first, joined_later}
use Rattle.s39_words.proofs.printing.text_of.Goals as goal
use Rattle.s39_words.proofs.printing.text_of.Goals.{then-i-gt0, else-i-gt0}

pub unwrap-requires : goal.unwrap-requires
unwrap-requires c =
    let index = get_or c.args.indices.now c.loop-i.i 0 in
    let in_list = c.requires.in_list c.loop-i.i 0 c.loop-i-test.true in
    let word_is = c.letters_of.ensures (listed_word index) (FitsRow-listed_word index in_list) c.row_at-row.ensures in
    let short = short_word index c.letters_of.result.now in_list word_is in
    let room : length c.if-i-gt0.text.items + length c.letters_of.result.now ≤ longest_text =
    elim c.if-i-gt0.branch [
      | then-i-gt0 w ↦ let t = ap (λ (v : _). length v.items) w.text-is in omega (arith, c.loop-i.invariant.short, w.push.ensures.len)
      | else-i-gt0 w ↦ let t = ap (λ (v : _). length v.items) w.text-is in omega (arith, c.loop-i.invariant.short)
    ] in
    c.try_extend_from_slice.ensures.variant.1 room

pub loop-i-preserved : goal.loop-i-preserved
loop-i-preserved c =
    let indices = c.args.indices.now in
    let i = c.loop-i.i in
    let word = listed_word (get_or indices i 0) in
    let in_list = c.requires.in_list i 0 c.loop-i-test.true in
    let word_is = c.letters_of.ensures word (FitsRow-listed_word (get_or indices i 0) in_list) c.row_at-row.ensures in
    let short = short_word (get_or indices i 0) c.letters_of.result.now in_list word_is in
    let appended = rw c.unwrap.ensures at c.try_extend_from_slice.ensures.ok in
    let grown = rw c.unwrap.ensures at c.try_extend_from_slice.ensures.len in
    elim c.if-i-gt0.branch [
      | then-i-gt0 w ↦
          let text = ap (λ (v : _). v.items) w.text-is in
          let count = ap length text in
          let later = joined_later indices i w.if-i-gt0.true c.loop-i-test.true in
          record {
            joined = appended ∙ ap (λ t. t ++ c.letters_of.result.now) (text ∙ w.push.ensures.items
                ∙ ap (λ t. t ++ 32 ∷ []) c.loop-i.invariant.joined) ∙ ap (λ t. (join_with_byte 32 (map listed_word (take i indices)) ++ 32 ∷ []) ++ t)
                word_is ∙ later;
            short = omega (arith, c.loop-i.invariant.short, w.push.ensures.len);
          }
      | else-i-gt0 w ↦
          let text = ap (λ (v : _). v.items) w.text-is in
          let count = ap length text in
          let first = joined_first indices i (omega arith) c.loop-i-test.true in
          record {
            joined = appended ∙ ap (λ t. t ++ c.letters_of.result.now) (text ∙ c.loop-i.invariant.joined)
                ∙ ap (λ t. join_with_byte 32 (map listed_word (take i indices)) ++ t) word_is ∙ first;
            short = omega (arith, c.loop-i.invariant.short);
          }
    ]
