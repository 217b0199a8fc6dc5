use Rattle.std.proofs.Common.{◌++◌, ◌∷◌, [], ◌∙◌, ap, sym, subst, Option}
use Rattle.std.specs.Option.{option_to_list}
use Rattle.s39_words.specs.declared.ShareFields.{ShareFields}
use Rattle.s39_input.specs.Create.{ArePrintedLines}
use Rattle.s39_input.specs.Input.{ended_line}
use Rattle.s39_input.proofs.Runs.PrintedLines.{printed_one, printed_both}
use Rattle.s39_input.proofs.repair.lines_of_repaired.Goals as goal

pub returns-in_default : goal.returns-in_default
returns-in_default c =
    let first = c.args.repaired.now.first in
    let (text, one, is) = c.push_mnemonic.ensures.line in
    subst (λ (second : Option ShareFields). ArePrintedLines (first ∷ option_to_list second) c.push_mnemonic.new.lines.items) (sym c.in_default.is)
    (subst (ArePrintedLines (first ∷ [])) (sym (is ∙ ap (λ t. t ++ ended_line text) c.new-lines.ensures)) (printed_one first text one))

pub returns-in-Some : goal.returns-in-Some
returns-in-Some c =
    let first = c.args.repaired.now.first in
    let second = c.in-Some.second in
    let (text, one, is) = c.push_mnemonic.ensures.line in
    let (last, other, ends) = c.push_mnemonic-in-Some.ensures.line in
    let begins = is ∙ ap (λ t. t ++ ended_line text) c.new-lines.ensures in
    subst (λ (o : Option ShareFields). ArePrintedLines (first ∷ option_to_list o) c.push_mnemonic-in-Some.new.lines.items) (sym c.in-Some.is)
    (subst (ArePrintedLines (first ∷ second ∷ [])) (sym (ends ∙ ap (λ t. t ++ ended_line last) begins))
    (printed_both (first ∷ []) (second ∷ []) (ended_line text) (ended_line last) (printed_one first text one) (printed_one second last other)))
