use Rattle.std.proofs.Common.{◌∙◌, ◌<◌, length, find, get_or, None, sym, ap, arith}
use Rattle.std.proofs.lemmas.List.{get_or_default}
use Rattle.s39_set.specs.ShareSet.{has_name}
use Rattle.s39_set.proofs.Slots.{share_in_slot}
use Rattle.s39_set.proofs.share_set.share_at.Goals as goal

pub returns-then-member-lt-MAX_MEMBERS-clause-share : goal.returns-then-member-lt-MAX_MEMBERS-clause-share
returns-then-member-lt-MAX_MEMBERS-clause-share c =
    let slots = c.set.inside.slots in
    let below : c.slot_of.result < length slots = omega arith in
    c.as_ref.ensures.value
    ∙ get_or_default slots c.slot_of.result c.index-set-slot_of.result None below
    ∙ ap (λ k. get_or slots k None) c.slot_of.ensures
    ∙ sym (share_in_slot slots c.set.invariant c.args.group c.args.member c.if-member-lt-MAX_MEMBERS.true)
    ∙ ap (find (has_name c.args.group c.args.member)) c.set.view_is
