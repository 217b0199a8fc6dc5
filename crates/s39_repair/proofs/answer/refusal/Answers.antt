use Rattle.std.proofs.Common.{Err, subst}
use Rattle.s39_words.specs.Reading.{Reads}
use Rattle.s39_words.specs.declared.word_error.WordError.{WordError}
use Rattle.s39_repair.specs.Marks.{spelling}
use Rattle.s39_repair.proofs.Wholes.{no_unknown, no_other_count}
use Rattle.s39_repair.proofs.answer.refusal.Goals as goal

pub returns-in-UnknownWord : goal.returns-in-UnknownWord
returns-in-UnknownWord c =
    no_unknown c.args.words.now c.in-UnknownWord.position c.requires.in_list
    (subst (λ (e : WordError). Reads (spelling c.args.words.now) (Err e)) c.in-UnknownWord.is c.requires.reading)

pub returns-in-WordCount : goal.returns-in-WordCount
returns-in-WordCount c =
    no_other_count c.args.words.now c.in-WordCount.words c.requires.in_list c.requires.count
    (subst (λ (e : WordError). Reads (spelling c.args.words.now) (Err e)) c.in-WordCount.is c.requires.reading)
