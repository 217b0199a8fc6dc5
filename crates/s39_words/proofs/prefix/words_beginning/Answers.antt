use Rattle.std.proofs.Common.{refl, ◌∙◌, sym, rules, subst}
use Rattle.s39_words.specs.Rows.{FitsRow}
use Rattle.s39_words.proofs.Prefixes.{range_is, range_ordered, none_begins, words_are}
use Rattle.s39_words.proofs.prefix.words_beginning.Goals as goal

pub returns-in_default-clause-range : goal.returns-in_default-clause-range
returns-in_default-clause-range c = none_begins c.args.letters.now (c.in_default.ensures.unfit refl)

pub returns-in_default-clause-words : goal.returns-in_default-clause-words
returns-in_default-clause-words c =
    words_are c.args.letters.now 0 0 (search rules) (search rules) (none_begins c.args.letters.now (c.in_default.ensures.unfit refl))

pub returns-clause-range : goal.returns-clause-range
returns-clause-range c =
    range_is c.args.letters.now c.as_slice-small.result.now c.first_from-first.result c.first_behind-end.result
    (c.as_slice-small.ensures.value ∙ c.in-Some.ensures.small)
    (subst FitsRow (sym c.as_slice-small.ensures.value) c.in-Some.ensures.fits)
    c.first_from-first.ensures.point c.first_behind-end.ensures.point

pub returns-clause-words : goal.returns-clause-words
returns-clause-words c =
    words_are c.args.letters.now c.first_from-first.result c.first_behind-end.result
    (range_ordered c.as_slice-small.result.now c.first_from-first.result c.first_behind-end.result
    c.first_from-first.ensures.point c.first_behind-end.ensures.point c.first_from-first.ensures.bound)
    c.first_behind-end.ensures.bound
    (range_is c.args.letters.now c.as_slice-small.result.now c.first_from-first.result c.first_behind-end.result
    (c.as_slice-small.ensures.value ∙ c.in-Some.ensures.small)
    (subst FitsRow (sym c.as_slice-small.ensures.value) c.in-Some.ensures.fits)
    c.first_from-first.ensures.point c.first_behind-end.ensures.point)

pub returns-clause-ordered : goal.returns-clause-ordered
returns-clause-ordered c =
    range_ordered c.as_slice-small.result.now c.first_from-first.result c.first_behind-end.result
    c.first_from-first.ensures.point c.first_behind-end.ensures.point c.first_from-first.ensures.bound
