use Rattle.std.proofs.Common.{sym, ap, ◌∙◌, length, arith}
use Rattle.s39_repair.proofs.Choices.{whole_word_is, no_whole_word}
use Rattle.s39_repair.proofs.mark.whole_word.Goals as goal
use Rattle.s39_repair.proofs.mark.whole_word.Goals.{else-range-via-then-range+else-word_at-mark, else-range-via-else-range}

pub returns-then-word_at-mark-clause-words : goal.returns-then-word_at-mark-clause-words
returns-then-word_at-mark-clause-words c =
    let range = c.words_beginning-range in
    whole_word_is c.args.mark.now range.result.first range.result.end range.ensures.range c.if-range.true range.ensures.in_list
    (sym (ap length c.word_at.ensures) ∙ c.if-word_at-mark.true)

pub returns-else-range-clause-words : goal.returns-else-range-clause-words
returns-else-range-clause-words c =
    let range = c.words_beginning-range in
    no_whole_word c.args.mark.now range.result.first range.result.end range.ensures.range range.ensures.in_list (λ some same.
    elim c.else-range.branch [
      | else-range-via-then-range+else-word_at-mark w ↦ w.if-word_at-mark.false (ap length w.word_at.ensures ∙ same)
      | else-range-via-else-range w ↦ absurd (omega (arith, w.if-range.false))
    ])
