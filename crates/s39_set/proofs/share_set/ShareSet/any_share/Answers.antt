use Rattle.std.proofs.Common.{◌<◌, ◌+◌, List, length, All, None, subst, sym, arith, ◌∙◌}
use Rattle.std.proofs.lemmas.List.{get_or_default}
use Rattle.s39_words.specs.declared.share.ShareFields.{ShareFields}
use Rattle.s39_set.specs.Slots.{IsBefore}
use Rattle.s39_set.proofs.Slots.{none_before_more}
use Rattle.s39_set.proofs.share_set.ShareSet.any_share.Goals as goal

pub loop-slot-preserved : goal.loop-slot-preserved
loop-slot-preserved c =
    let slots = c.self.inside.slots in
    let slot = c.loop-slot.slot in
    let below : slot < length slots = omega arith in
    let none_to : List ShareFields → _ → Type 0 = λ set to. All (λ s. ¬ IsBefore to s) set in
    subst (λ set. none_to set (slot + 1)) c.self.view_is
    (none_before_more slots c.self.invariant slot (get_or_default slots slot None c.index-self-slot.result below ∙ c.in_default.is)
    (subst (λ set. none_to set slot) (sym c.self.view_is) c.loop-slot.invariant))
