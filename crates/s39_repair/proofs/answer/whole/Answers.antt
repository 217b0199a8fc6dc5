use Rattle.std.proofs.Common.{Err, sym, ap, subst, ◌∙◌}
use Rattle.s39_words.specs.Reading.{Reads}
use Rattle.s39_words.specs.Spelling.{Spells}
use Rattle.s39_words.proofs.OneReading.{spelled_from_read}
use Rattle.s39_repair.specs.Answer.{RefusesWords}
use Rattle.s39_repair.specs.Marks.{spelling}
use Rattle.s39_repair.proofs.Wholes.{whole_fits}
use Rattle.s39_repair.proofs.answer.whole.Goals as goal

pub returns-in-Ok : goal.returns-in-Ok
returns-in-Ok c =
    whole_fits c.args.ranges.now c.in-Ok.share c.requires.all c.requires.closed
    (subst (λ t. Spells t c.in-Ok.share)
    (c.deref-2.ensures.0 ∙ c.text_of.ensures ∙ ap spelling (c.deref.ensures.0 ∙ c.first_words-words.ensures.words))
    (spelled_from_read c.deref-2.result.now c.in-Ok.share c.in-Ok.ensures.reading))

pub refusal-requires-clause-reading : goal.refusal-requires-clause-reading
refusal-requires-clause-reading c =
    subst (λ t. Reads t (Err c.in-Err.error))
    (c.deref-2.ensures.0 ∙ c.text_of.ensures ∙ ap spelling (c.deref.ensures.0 ∙ c.first_words-words.ensures.words
    ∙ sym (c.deref-in-Err.ensures.0 ∙ c.first_words-words.ensures.words)))
    c.in-Err.ensures.reading

pub returns-in-Err : goal.returns-in-Err
returns-in-Err c = subst (λ ws. RefusesWords ws c.refusal.result) (c.deref-in-Err.ensures.0 ∙ c.first_words-words.ensures.words) c.refusal.ensures
