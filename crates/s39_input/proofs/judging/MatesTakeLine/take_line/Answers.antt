use Rattle.std.proofs.Common.{ap, sym, ◌∙◌, refl, Ok}
use Rattle.s39_lists.specs.Each.{and_then}
use Rattle.s39_input.specs.Accepted.{with_held}
use Rattle.s39_input.specs.Judging.{mate_in}
use Rattle.s39_input.proofs.Sets.Mates.{own_mate}
use Rattle.s39_input.proofs.Sets.WithShare.{added}
use Rattle.s39_input.proofs.judging.MatesTakeLine.take_line.Goals as goal

pub returns-in-Ok-clause-taken : goal.returns-in-Ok-clause-taken
returns-in-Ok-clause-taken c =
    let mates = c.args.self.now in
    let share = c.in-Some.share in
    let taken = c.in-Ok.ensures in (
      ap (and_then (λ held. with_held mates.set (mate_in mates.id held))) (c.in_ok-share.ensures ∙ ap Ok c.in-Some.is)
          ∙ ap (with_held mates.set) (own_mate mates.id share (sym c.id.ensures ∙ c.if-id-self.false))
          ∙ added mates.set c.add.new.self share c.in-Ok.field-0 taken.accepted taken.repeat taken.new taken.repeat_unchanged taken.is_set,
      refl,
    )
