use Rattle.std.proofs.Common.{◌≡◌, ◌∙◌, ◌&&◌, true, false, Some, refl, sym, ap, subst}
use Rattle.std.specs.Prelude.{not}
use Rattle.std.proofs.Math.Bool.{and-true, and-false}
use Rattle.s39_input.specs.Output.{WritesPart, WritesWhole}
use Rattle.s39_input.specs.Repair.{fits_one}
use Rattle.s39_input.proofs.Runs.Repaired.{one_line, said_of}
use Rattle.s39_input.proofs.repair.RepairingTakeLine.take_line.Goals as goal

pub returns-then-is_some-clause-taken : goal.returns-then-is_some-clause-taken
returns-then-is_some-clause-taken g c =
    let repaired = c.in-Ok-Some.repaired in
    let lines = c.lines_of_repaired-lines.ensures in
    let two : fits_one (Some lines.lines) ≡ false =
    one_line repaired.first repaired.second lines.lines lines.printed ∙ ap not (sym c.is_some.ensures ∙ c.if-is_some.true) in (
      Some lines.lines,
      said_of c.args.line.now c.in-Ok-Some.field-0 repaired c.lines_of_repaired-lines.result.items c.in-Ok-Some.ensures.held c.in-Ok-Some.field-0-is lines,
      subst (λ text. WritesWhole g.W.Write.contents c.args.self.now.output.now text c.write_text.new.output) (c.deref.ensures.0 ∙ lines.text_is)
          c.in-Ok.ensures,
      (refl, sym (ap (λ b. c.args.self.now.one_each && (b && true)) two ∙ and-false c.args.self.now.one_each)),
    )

pub returns-else-is_some-clause-taken : goal.returns-else-is_some-clause-taken
returns-else-is_some-clause-taken g c =
    let repaired = c.in-Ok-Some.repaired in
    let lines = c.lines_of_repaired-lines.ensures in
    let one : fits_one (Some lines.lines) ≡ true =
    one_line repaired.first repaired.second lines.lines lines.printed ∙ ap not (sym c.is_some.ensures ∙ c.if-is_some.false) in (
      Some lines.lines,
      said_of c.args.line.now c.in-Ok-Some.field-0 repaired c.lines_of_repaired-lines.result.items c.in-Ok-Some.ensures.held c.in-Ok-Some.field-0-is lines,
      subst (λ text. WritesWhole g.W.Write.contents c.args.self.now.output.now text c.write_text.new.output) (c.deref.ensures.0 ∙ lines.text_is)
          c.in-Ok.ensures,
      (refl, sym (ap (λ b. c.args.self.now.one_each && (b && true)) one ∙ and-true c.args.self.now.one_each)),
    )

pub returns-in-Err-write_text-clause-taken : goal.returns-in-Err-write_text-clause-taken
returns-in-Err-write_text-clause-taken g c =
    let repaired = c.in-Ok-Some.repaired in
    let lines = c.lines_of_repaired-lines.ensures in (
      Some lines.lines,
      said_of c.args.line.now c.in-Ok-Some.field-0 repaired c.lines_of_repaired-lines.result.items c.in-Ok-Some.ensures.held c.in-Ok-Some.field-0-is lines,
      subst (λ text. WritesPart g.W.Write.contents c.args.self.now.output.now text c.write_text.new.output) (c.deref.ensures.0 ∙ lines.text_is)
          c.in-Err-write_text.ensures,
      (refl, sym (and-true c.args.self.now.one_each)),
    )
