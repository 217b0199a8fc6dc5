use Rattle.std.proofs.Common.{ap, ◌∙◌, Ok}
use Rattle.s39_lists.specs.Each.{and_then}
use Rattle.s39_input.specs.Accepted.{with_held}
use Rattle.s39_input.proofs.Sets.WithShare.{added}
use Rattle.s39_input.proofs.collect.ShareSetTakeLine.take_line.Goals as goal

pub returns-in-Ok-clause-taken : goal.returns-in-Ok-clause-taken
returns-in-Ok-clause-taken c =
    let taken = c.in-Ok.ensures in
    ap (and_then (with_held c.args.self.now)) (c.in_ok-share.ensures ∙ ap Ok c.in-Some.is)
    ∙ added c.args.self.now c.add.new.self c.in-Some.share c.in-Ok.field-0 taken.accepted taken.repeat taken.new taken.repeat_unchanged taken.is_set
