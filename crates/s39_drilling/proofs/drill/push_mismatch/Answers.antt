use Rattle.std.proofs.Common.{◌∙◌, ◌++◌, ap, append_assoc}
use Rattle.std.specs.Prelude.{codes}
use Rattle.std.specs.Fmt.{decimal}
use Rattle.s39_drilling.proofs.drill.push_mismatch.Goals as goal

pub returns-in-InGroup-clause-text : goal.returns-in-InGroup-clause-text
returns-in-InGroup-clause-text c =
    let line = c.args.line.now.items in
    let text = codes "digest mismatch in group " in
    rw c.in-InGroup.is (c.push_field.ensures.text ∙ append_assoc line text (decimal c.from.result) ∙ ap (λ n. line ++ (text ++ decimal n)) c.from.ensures)
