use Rattle.std.proofs.Common.{◌≡◌, ◌∙◌, [], get_or, ap, subst}
use Rattle.s39_input.specs.Input.{ended_line}
use Rattle.s39_creating.proofs.Runs.Creating.{printed_at}
use Rattle.s39_creating.proofs.creating.mnemonic_line.Goals as goal

pub returns : goal.returns
returns c = λ lines printed.
    let share = c.index-shares-from.result in
    let here = subst (λ k. share ≡ get_or c.args.shares.now k share) c.from.ensures c.index-shares-from.is in
    let is = printed_at lines c.args.shares.now printed c.args.index share c.requires here in
    let same = c.one_printed_form.ensures share c.print.result.items (get_or lines c.args.index []) c.print.ensures is in
    c.line_of.ensures ∙ ap ended_line (c.deref.ensures.0 ∙ same)
