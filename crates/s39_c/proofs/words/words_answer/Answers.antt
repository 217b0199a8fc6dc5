use Rattle.std.proofs.Common.{◌≡◌, ◌+◌, ◌-◌, ◌∙◌, map, take, drop, sym, ap, subst, inl, inr, rules}
use Rattle.s39_words.specs.Printing.{listed_word}
use Rattle.s39_words.specs.WordList.{word_list}
use Rattle.s39_input.specs.Input.{ended_line}
use Rattle.s39_c.specs.Answers.{done, too_short, Gives}
use Rattle.s39_c.proofs.WordLines.{word_lines, words_joined}
use Rattle.s39_c.proofs.words.words_answer.Goals as goal

pub put_lines-requires-clause-some : goal.put_lines-requires-clause-some
put_lines-requires-clause-some c =
    let first = c.words_beginning-words.result.first in
    let end = c.words_beginning-words.result.end in (
      map ended_line (take (end - first) (drop first word_list)),
      word_lines first end c.words_beginning-words.ensures.in_list
          (λ index line below given. (let is : line.items ≡ ended_line (listed_word (first + index)) = search rules in is)),
    )

pub returns-in-Ok : goal.returns-in-Ok
returns-in-Ok c =
    let first = c.words_beginning-words.result.first in
    let end = c.words_beginning-words.result.end in
    let words = take (end - first) (drop first word_list) in
    let (front, size) = c.in-Ok.ensures (map ended_line words)
    (word_lines first end c.words_beginning-words.ensures.in_list
    (λ index line below given. (let is : line.items ≡ ended_line (listed_word (first + index)) = search rules in is))) in
    subst (λ t. Gives t c.args.text.now c.put_lines.new.text c.done.result)
    (sym (words_joined c.args.letters.now words c.words_beginning-words.ensures.words))
    (inl (front.fits, front.bytes, c.done.ensures ∙ ap done size))

pub returns-in-Err : goal.returns-in-Err
returns-in-Err c =
    let first = c.words_beginning-words.result.first in
    let end = c.words_beginning-words.result.end in
    let words = take (end - first) (drop first word_list) in
    let (needed, long, same) = c.in-Err.ensures (map ended_line words)
    (word_lines first end c.words_beginning-words.ensures.in_list
    (λ index line below given. (let is : line.items ≡ ended_line (listed_word (first + index)) = search rules in is))) in
    subst (λ t. Gives t c.args.text.now c.put_lines.new.text c.too_short.result)
    (sym (words_joined c.args.letters.now words c.words_beginning-words.ensures.words))
    (inr (long, same, c.too_short.ensures ∙ ap too_short needed))
