use Rattle.std.proofs.Common.{ap, subst, ◌∙◌, sym, true, Ok}
use Rattle.s39_set.specs.ShareSet.{IsShareSet}
use Rattle.s39_input.specs.Judging.{judged}
use Rattle.s39_input.proofs.Sets.Mates.{beside_new, beside_own}
use Rattle.s39_input.proofs.judging.joins.Goals as goal

pub returns-in-Ok-New-clause-joined : goal.returns-in-Ok-New-clause-joined
returns-in-Ok-New-clause-joined c =
    let taken = c.in-Ok-New.ensures in
    beside_new c.args.set.now c.add.new.self c.args.share taken.accepted (taken.new (ap Ok c.in-Ok-New.field-0-is)) taken.is_set

pub returns-in-Ok-Repeat-clause-joined : goal.returns-in-Ok-Repeat-clause-joined
returns-in-Ok-Repeat-clause-joined c =
    let taken = c.in-Ok-Repeat.ensures in
    let again = ap Ok c.in-Ok-Repeat.field-0-is in
    let unchanged = taken.repeat_unchanged again in
    beside_own c.args.set.now c.args.share taken.accepted (taken.repeat.0 again) (subst IsShareSet unchanged taken.is_set)
    ∙ ap (λ set. Ok (judged c.args.share true set)) (sym unchanged)
