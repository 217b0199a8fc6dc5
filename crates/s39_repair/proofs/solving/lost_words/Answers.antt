use Rattle.std.proofs.Common.{◌≡◌, ◌≢◌, ◌≤◌, ◌+◌, ◌++◌, ℕ, Bool, sym, ap, subst, ◌∙◌}
use Rattle.std.specs.Prelude.{All}
use Rattle.std.proofs.Math.ListN.{set}
use Rattle.s39_words.specs.Layout.{IsIndex, most_words}
use Rattle.s39_repair.specs.Sums.{locator}
use Rattle.s39_repair.proofs.LostWords.{locators_apart, locator-nonzero, changed, with_changes, with_changes-in_range, only_words, sums_from}
use Rattle.s39_repair.proofs.solving.lost_words.Goals as goal

apart : (extendable : Bool) (i j x y : ℕ) → x ≡ locator extendable i → y ≡ locator extendable j → i ≢ j → i ≤ most_words + 3 → j ≤ most_words + 3 → x ≢ y
apart extendable i j x y x_is y_is other high high' same = locators_apart extendable i j other high high' (sym x_is ∙ same ∙ y_is)

pub value_of_sums-first-requires-clause-nonzero : goal.value_of_sums-first-requires-clause-nonzero
value_of_sums-first-requires-clause-nonzero c = λ e. locator-nonzero c.args.extendable c.args.places.first (sym c.locator-x.ensures ∙ e)

pub value_of_sums-first-requires-clause-other : goal.value_of_sums-first-requires-clause-other
value_of_sums-first-requires-clause-other c =
    apart c.args.extendable c.args.places.first c.args.places.second c.locator-x.result c.locator-y.result c.locator-x.ensures c.locator-y.ensures
    c.requires.places.first_second c.requires.places.first_in_range c.requires.places.second_in_range

pub value_of_sums-first-requires-clause-another : goal.value_of_sums-first-requires-clause-another
value_of_sums-first-requires-clause-another c =
    apart c.args.extendable c.args.places.first c.args.places.third c.locator-x.result c.locator-z.result c.locator-x.ensures c.locator-z.ensures
    c.requires.places.first_third c.requires.places.first_in_range c.requires.places.third_in_range

pub value_of_sums-second-requires-clause-nonzero : goal.value_of_sums-second-requires-clause-nonzero
value_of_sums-second-requires-clause-nonzero c = λ e. locator-nonzero c.args.extendable c.args.places.second (sym c.locator-y.ensures ∙ e)

pub value_of_sums-second-requires-clause-other : goal.value_of_sums-second-requires-clause-other
value_of_sums-second-requires-clause-other c =
    apart c.args.extendable c.args.places.second c.args.places.first c.locator-y.result c.locator-x.result c.locator-y.ensures c.locator-x.ensures
    (λ e. c.requires.places.first_second (sym e)) c.requires.places.second_in_range c.requires.places.first_in_range

pub value_of_sums-second-requires-clause-another : goal.value_of_sums-second-requires-clause-another
value_of_sums-second-requires-clause-another c =
    apart c.args.extendable c.args.places.second c.args.places.third c.locator-y.result c.locator-z.result c.locator-y.ensures c.locator-z.ensures
    c.requires.places.second_third c.requires.places.second_in_range c.requires.places.third_in_range

pub value_of_sums-third-requires-clause-nonzero : goal.value_of_sums-third-requires-clause-nonzero
value_of_sums-third-requires-clause-nonzero c = λ e. locator-nonzero c.args.extendable c.args.places.third (sym c.locator-z.ensures ∙ e)

pub value_of_sums-third-requires-clause-other : goal.value_of_sums-third-requires-clause-other
value_of_sums-third-requires-clause-other c =
    apart c.args.extendable c.args.places.third c.args.places.first c.locator-z.result c.locator-x.result c.locator-z.ensures c.locator-x.ensures
    (λ e. c.requires.places.first_third (sym e)) c.requires.places.third_in_range c.requires.places.first_in_range

pub value_of_sums-third-requires-clause-another : goal.value_of_sums-third-requires-clause-another
value_of_sums-third-requires-clause-another c =
    apart c.args.extendable c.args.places.third c.args.places.second c.locator-z.result c.locator-y.result c.locator-z.ensures c.locator-y.ensures
    (λ e. c.requires.places.second_third (sym e)) c.requires.places.third_in_range c.requires.places.second_in_range

found : (c : goal.After-change-3) → c.change-3.new.found.items
    ≡ with_changes c.args.words.now c.args.places.first c.args.places.second c.args.places.third
    c.value_of_sums-first.result c.value_of_sums-second.result c.value_of_sums-third.result
found c =
    let words = c.args.words.now in
    let all : c.try_extend_from_slice.new.self.items ≡ words =
    (rw c.unwrap.ensures at c.try_extend_from_slice.ensures.ok) ∙ ap (λ l. l ++ words) c.new-found.ensures in
    c.change-3.ensures
    ∙ ap (λ l. set l c.args.places.third (changed words c.args.places.third c.value_of_sums-third.result))
    (c.change-2.ensures
    ∙ ap (λ l. set l c.args.places.second (changed words c.args.places.second c.value_of_sums-second.result))
    (c.change.ensures ∙ ap (λ l. set l c.args.places.first (changed words c.args.places.first c.value_of_sums-first.result)) all))

pub returns-clause-in_list : goal.returns-clause-in_list
returns-clause-in_list c =
    subst (All IsIndex) (sym (found c))
    (with_changes-in_range c.args.words.now c.args.places.first c.args.places.second c.args.places.third
    c.value_of_sums-first.result c.value_of_sums-second.result c.value_of_sums-third.result c.requires.in_list
    c.value_of_sums-first.ensures.in_list c.value_of_sums-second.ensures.in_list c.value_of_sums-third.ensures.in_list)

pub returns-clause-only : goal.returns-clause-only
returns-clause-only c = λ mnemonic all valid agree.
    let words = c.args.words.now in
    let i = c.args.places.first in
    let j = c.args.places.second in
    let k = c.args.places.third in
    let x = c.locator-x in
    let y = c.locator-y in
    let z = c.locator-z in
    let s = c.sums_with-sums in
    found c
    ∙ only_words c.args.extendable words i j k c.value_of_sums-first.result c.value_of_sums-second.result c.value_of_sums-third.result mnemonic
    c.requires.places agree c.requires.in_list all valid
    (sums_from c.args.extendable words i j k c.value_of_sums-first.result s.result.first s.result.second s.result.third x.result y.result z.result
    s.ensures.first s.ensures.second s.ensures.third x.ensures y.ensures z.ensures c.value_of_sums-first.ensures.value)
    (sums_from c.args.extendable words j i k c.value_of_sums-second.result s.result.first s.result.second s.result.third y.result x.result z.result
    s.ensures.first s.ensures.second s.ensures.third y.ensures x.ensures z.ensures c.value_of_sums-second.ensures.value)
    (sums_from c.args.extendable words k i j c.value_of_sums-third.result s.result.first s.result.second s.result.third z.result x.result y.result
    s.ensures.first s.ensures.second s.ensures.third z.ensures x.ensures y.ensures c.value_of_sums-third.ensures.value)
