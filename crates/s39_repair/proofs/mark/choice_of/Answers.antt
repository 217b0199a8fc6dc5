use Rattle.std.proofs.Common.{[], ◌∷◌, ◌∙◌, Some, None}
use Rattle.std.proofs.lemmas.Bool.Decides.{Decides-eqb}
use Rattle.std.proofs.lemmas.Slice.Eq.{strip_suffix_is}
use Rattle.s39_repair.proofs.Choices.{open_choices, other_choices}
use Rattle.s39_repair.proofs.mark.choice_of.Goals as goal

pub returns-in-Some-clause-words : goal.returns-in-Some-clause-words
returns-in-Some-clause-words c =
    let range = c.words_beginning in
    open_choices c.args.mark.now c.in-Some.letters.now range.result.first range.result.end
    (strip_suffix_is Decides-eqb c.args.mark.now (63 ∷ []) (Some c.in-Some.letters) c.in-Some.ensures.cases)
    range.ensures.range range.ensures.ordered range.ensures.in_list

pub returns-in-None-clause-words : goal.returns-in-None-clause-words
returns-in-None-clause-words c =
    other_choices c.args.mark.now (strip_suffix_is Decides-eqb c.args.mark.now (63 ∷ []) None c.in-None.ensures.cases) ∙ c.whole_word.ensures.words
