use Rattle.std.proofs.Common.{◌≡◌, Ok, Err, sym, ap, subst, ◌∙◌}
use Rattle.std.specs.Prelude.{All}
use Rattle.std.proofs.lemmas.Bool.{false≢true}
use Rattle.std.proofs.lemmas.List.Elements.{All-set}
use Rattle.s39_words.specs.Layout.{IsIndex}
use Rattle.s39_words.specs.Spelling.{Spells}
use Rattle.s39_words.proofs.OneReading.{read_from_spelled, same_share, spelled_from_read}
use Rattle.s39_repair.specs.Marks.{spelling}
use Rattle.s39_repair.proofs.Candidates.{flags_equal}
use Rattle.s39_repair.proofs.LostWords.{changed, changed-in_range, locator-nonzero}
use Rattle.s39_repair.proofs.WrongPlaces.{is_one_change, mended_spells, wrong_from_spelled}
use Rattle.s39_repair.proofs.wrong_word.Search.finds.Goals as goal

pub returns-then-not-is_one_change-clause-only : goal.returns-then-not-is_one_change-clause-only
returns-then-not-is_one_change-clause-only c = λ wrong flag.
    absurd (false≢true (sym c.if-not-is_one_change.true ∙ c.is_one_change.ensures.1
    (is_one_change c.args.words.now c.args.place c.args.self.now c.requires.in_list c.requires.short c.requires.place c.requires.at wrong flag)))

pub inv-requires : goal.inv-requires
inv-requires c = λ e. locator-nonzero c.args.self.now.extendable c.args.place (sym c.requires.at.locator_is ∙ e)

pub text_of-requires-clause-in_list : goal.text_of-requires-clause-in_list
text_of-requires-clause-in_list c =
    let words = c.args.words.now in
    subst (All IsIndex) (sym (c.deref.ensures.0 ∙ c.changed-mended.ensures))
    (All-set IsIndex words c.args.place (changed words c.args.place c.from-by.result)
    (changed-in_range words c.args.place c.from-by.result c.requires.in_list c.from-by.ensures.1) c.requires.in_list)

pub returns-in-Ok-clause-wrong : goal.returns-in-Ok-clause-wrong
returns-in-Ok-clause-wrong c = λ _.
    let words = c.args.words.now in
    wrong_from_spelled words c.args.place (changed words c.args.place c.from-by.result) c.in-Ok.share c.requires.in_list c.requires.place
    (changed-in_range words c.args.place c.from-by.result c.requires.in_list c.from-by.ensures.1)
    (subst (λ t. Spells t c.in-Ok.share)
    (c.deref-2.ensures.0 ∙ c.text_of.ensures ∙ ap spelling (c.deref.ensures.0 ∙ c.changed-mended.ensures))
    (spelled_from_read c.deref-2.result.now c.in-Ok.share c.in-Ok.ensures.reading))

pub returns-in-Ok-clause-only : goal.returns-in-Ok-clause-only
returns-in-Ok-clause-only c = λ wrong flag.
    let spells =
    mended_spells c.args.words.now c.args.place c.args.self.now c.requires.in_list c.requires.short c.requires.place c.requires.at wrong flag
    c.deref-2.result.now c.deref.result.now c.inv.result c.from-by.result (c.deref-2.ensures.0 ∙ c.text_of.ensures)
    (c.deref.ensures.0 ∙ c.changed-mended.ensures) (c.from-by.ensures.0 ∙ c.mul.ensures.product) c.inv.ensures.inverse in
    let same : c.in-Ok.share ≡ wrong.share =
    same_share c.deref-2.result.now c.in-Ok.share wrong.share (spelled_from_read c.deref-2.result.now c.in-Ok.share c.in-Ok.ensures.reading) spells in
    flags_equal c.extendable.result c.args.self.now.extendable (c.extendable.ensures ∙ ap (λ s. s.extendable) same ∙ flag)

pub returns-in-Err-clause-only : goal.returns-in-Err-clause-only
returns-in-Err-clause-only c = λ wrong flag.
    let spells =
    mended_spells c.args.words.now c.args.place c.args.self.now c.requires.in_list c.requires.short c.requires.place c.requires.at wrong flag
    c.deref-2.result.now c.deref.result.now c.inv.result c.from-by.result (c.deref-2.ensures.0 ∙ c.text_of.ensures)
    (c.deref.ensures.0 ∙ c.changed-mended.ensures) (c.from-by.ensures.0 ∙ c.mul.ensures.product) c.inv.ensures.inverse in
    let reads : Err c.in-Err.field-0 ≡ Ok wrong.share = sym c.in-Err.ensures.reading ∙ read_from_spelled c.deref-2.result.now wrong.share spells in
    absurd cc
