use Rattle.std.proofs.Common.{◌<◌, ◌≤◌, false, replicate, ⊎_elim, arith}
use Rattle.std.proofs.lemmas.Bool.{cases_lt}
use Rattle.std.proofs.lemmas.List.{get_or_past, get_or-replicate, length-replicate}
use Rattle.s39_set.specs.Names.{most_names}
use Rattle.s39_set.specs.Slots.{slot_of}
use Rattle.s39_set.proofs.masks.Masks.new.Goals as goal

pub returns : goal.returns
returns c = λ group member.
    ⊎_elim
    (λ (below : slot_of (group, member) < most_names). get_or-replicate most_names (slot_of (group, member)) false false below)
    (λ (past : most_names ≤ slot_of (group, member)).
    get_or_past (replicate most_names false) (slot_of (group, member)) false (omega (arith, length-replicate most_names false)))
    (cases_lt (slot_of (group, member)) most_names)
