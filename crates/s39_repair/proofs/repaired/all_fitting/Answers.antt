use Rattle.std.proofs.Common.{true, false, sym, subst}
use Rattle.s39_repair.specs.Answer.{AreAll}
use Rattle.s39_repair.specs.Marks.{FitsRanges}
use Rattle.s39_repair.proofs.Flags.{none_fits, one_fits, both_fit, plain_or_not, extendable_or_not}
use Rattle.s39_repair.proofs.repaired.all_fitting.Goals as goal

pub returns-clause-some : goal.returns-clause-some
returns-clause-some c =
    let one = c.in-Some in
    let other = c.in-Some-extendable-2 in
    subst (AreAll (FitsRanges c.args.ranges.now)) (sym c.in_order.ensures)
    (both_fit (FitsRanges c.args.ranges.now) (λ ws s fits. fits.spells)
    one.one.words.items other.other.words.items one.one.share other.other.share
    one.ensures.fits other.ensures.fits one.ensures.flag other.ensures.flag one.ensures.only other.ensures.only)

pub returns-in_default-extendable-clause-none : goal.returns-in_default-extendable-clause-none
returns-in_default-extendable-clause-none c = λ none. none_fits (FitsRanges c.args.ranges.now) c.in_default.ensures.only c.in_default-extendable.ensures.only

pub returns-in_default-clause-some : goal.returns-in_default-clause-some
returns-in_default-clause-some c =
    let other = c.in-Some-extendable in
    subst (AreAll (FitsRanges c.args.ranges.now)) (sym c.alone.ensures)
    (one_fits (FitsRanges c.args.ranges.now) other.other.words.items other.other.share true false
    other.ensures.fits other.ensures.only c.in_default.ensures.only extendable_or_not)

pub returns-in_default-extendable-2-clause-some : goal.returns-in_default-extendable-2-clause-some
returns-in_default-extendable-2-clause-some c =
    let one = c.in-Some in
    subst (AreAll (FitsRanges c.args.ranges.now)) (sym c.alone-in_default-extendable-2.ensures)
    (one_fits (FitsRanges c.args.ranges.now) one.one.words.items one.one.share false true
    one.ensures.fits one.ensures.only c.in_default-extendable-2.ensures.only plain_or_not)
