use Rattle.std.proofs.Common.{◌≡◌, sym, ap, subst, ◌∙◌}
use Rattle.std.proofs.lemmas.Bool.{false≢true}
use Rattle.s39_words.specs.Spelling.{Spells}
use Rattle.s39_words.proofs.OneReading.{read_from_spelled, spelled_from_read}
use Rattle.s39_repair.specs.Marks.{HasWords, spelling}
use Rattle.s39_repair.proofs.Candidates.{is_lost, spells_lost, same_flag, other_flag}
use Rattle.s39_repair.proofs.candidate.fitting.Goals as goal

pub returns-then-not-are_in_ranges-clause-only : goal.returns-then-not-are_in_ranges-clause-only
returns-then-not-are_in_ranges-clause-only c = λ mnemonic share fits flag.
    let lost = is_lost c.args.ranges.now mnemonic c.deref.result.now c.lost_words-words.result.items share c.args.extendable
    c.args.places.first c.args.places.second c.args.places.third c.requires.all c.requires.closed
    (c.deref.ensures.0 ∙ c.first_words-first.ensures.words) c.lost_words-words.ensures.only fits flag in
    false≢true (sym c.if-not-are_in_ranges.true ∙ c.are_in_ranges.ensures.1 (subst (HasWords c.args.ranges.now) (sym (c.deref-2.ensures.0 ∙ lost)) fits.words))

pub returns-in_default-clause-only : goal.returns-in_default-clause-only
returns-in_default-clause-only c = λ mnemonic share fits flag.
    let lost = is_lost c.args.ranges.now mnemonic c.deref.result.now c.lost_words-words.result.items share c.args.extendable
    c.args.places.first c.args.places.second c.args.places.third c.requires.all c.requires.closed
    (c.deref.ensures.0 ∙ c.first_words-first.ensures.words) c.lost_words-words.ensures.only fits flag in
    let reads = sym c.parse.ensures.reading ∙ read_from_spelled c.deref-4.result.now share (spells_lost c.deref-4.result.now c.deref-3.result.now mnemonic share
    (c.deref-4.ensures.0 ∙ c.text_of.ensures) (c.deref-3.ensures.0 ∙ lost) fits.spells) in
    cc

pub returns-then-extendable-clause-only : goal.returns-then-extendable-clause-only
returns-then-extendable-clause-only c = λ mnemonic share fits flag.
    is_lost c.args.ranges.now mnemonic c.deref.result.now c.lost_words-words.result.items share c.args.extendable
    c.args.places.first c.args.places.second c.args.places.third c.requires.all c.requires.closed
    (c.deref.ensures.0 ∙ c.first_words-first.ensures.words) c.lost_words-words.ensures.only fits flag

pub returns-else-extendable-clause-only : goal.returns-else-extendable-clause-only
returns-else-extendable-clause-only c = λ mnemonic share fits flag.
    let lost = is_lost c.args.ranges.now mnemonic c.deref.result.now c.lost_words-words.result.items share c.args.extendable
    c.args.places.first c.args.places.second c.args.places.third c.requires.all c.requires.closed
    (c.deref.ensures.0 ∙ c.first_words-first.ensures.words) c.lost_words-words.ensures.only fits flag in
    let reads = sym c.parse.ensures.reading ∙ read_from_spelled c.deref-4.result.now share (spells_lost c.deref-4.result.now c.deref-3.result.now mnemonic share
    (c.deref-4.ensures.0 ∙ c.text_of.ensures) (c.deref-3.ensures.0 ∙ lost) fits.spells) in
    let same : c.in-Ok.share ≡ share = cc in
    other_flag c.extendable.result c.args.extendable c.if-extendable.false (c.extendable.ensures ∙ ap (λ s. s.extendable) same ∙ flag)

pub returns-then-extendable-clause-fits : goal.returns-then-extendable-clause-fits
returns-then-extendable-clause-fits c = record {
  words = subst (HasWords c.args.ranges.now) c.deref-2.ensures.0 (c.are_in_ranges.ensures.0 c.if-not-are_in_ranges.false);
  spells =
      subst (λ t. Spells t c.in-Ok.share) (c.deref-4.ensures.0 ∙ c.text_of.ensures ∙ ap spelling c.deref-3.ensures.0)
      (spelled_from_read c.deref-4.result.now c.in-Ok.share c.in-Ok.ensures.reading);
}

pub returns-then-extendable-clause-flag : goal.returns-then-extendable-clause-flag
returns-then-extendable-clause-flag c = sym c.extendable.ensures ∙ same_flag c.extendable.result c.args.extendable c.if-extendable.true
