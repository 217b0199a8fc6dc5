use Rattle.std.proofs.Common.{refl, sym, subst, ◌∙◌, arith}
use Rattle.s39_repair.specs.Marks.{AreMarks}
use Rattle.s39_repair.proofs.MarksRead.{readable, open_count_is, fits_ranges}
use Rattle.s39_repair.proofs.Wholes.{all_of_line, repairs_whole, closed_from_count}
use Rattle.s39_repair.proofs.answer.repair.Goals as goal

pub returns-in-Err : goal.returns-in-Err
returns-in-Err c =
    let line = c.args.line.now in
    let ranges = c.as_slice-ranges.result.now in
    let m : AreMarks line ranges = subst (AreMarks line) (sym c.as_slice-ranges.ensures.value) c.in_ok-marks.ensures.found in
    let many = c.in-Err.ensures.many in
    (readable line ranges m, many.0 ∙ sym (open_count_is line ranges m), many.1)

pub whole-requires-clause-closed : goal.whole-requires-clause-closed
whole-requires-clause-closed c = closed_from_count c.as_slice-ranges.result.now (c.in-Ok.ensures.none c.if-places-ranges.true)

pub returns-then-places-ranges : goal.returns-then-places-ranges
returns-then-places-ranges c =
    let line = c.args.line.now in
    let ranges = c.as_slice-ranges.result.now in
    let m : AreMarks line ranges = subst (AreMarks line) (sym c.as_slice-ranges.ensures.value) c.in_ok-marks.ensures.found in
    repairs_whole line ranges m (c.in-Ok.ensures.none c.if-places-ranges.true) c.whole.result c.whole.ensures

pub returns-in-Some : goal.returns-in-Some
returns-in-Some c =
    let line = c.args.line.now in
    let ranges = c.as_slice-ranges.result.now in
    let m : AreMarks line ranges = subst (AreMarks line) (sym c.as_slice-ranges.ensures.value) c.in_ok-marks.ensures.found in (
      readable line ranges m,
      omega (arith, open_count_is line ranges m, c.in-Ok.ensures.few),
      all_of_line line ranges c.in-Some.repaired m c.in-Some.ensures.some,
    )

pub returns-in-None : goal.returns-in-None
returns-in-None c =
    let line = c.args.line.now in
    let ranges = c.as_slice-ranges.result.now in
    let m : AreMarks line ranges = subst (AreMarks line) (sym c.as_slice-ranges.ensures.value) c.in_ok-marks.ensures.found in
    let some = c.in-Ok.ensures.some c.if-places-ranges.false in (
      readable line ranges m,
      omega (arith, open_count_is line ranges m, some),
      omega (arith, open_count_is line ranges m, c.in-Ok.ensures.few),
      λ mnemonic share fits. c.in-None.ensures.none refl mnemonic share (fits_ranges line ranges mnemonic share m fits),
    )
