-- Sets of names as masks. No public contract cites this.
use Rattle.std.specs.Prelude.{◌≡◌, ◌<◌, ℕ, Bool, false, IsTrue, ◌↔◌, ◌⊎◌, slice_index_or}
use Rattle.s39_set.specs.Names.{Name, most_members}
use Rattle.s39_set.specs.Slots.{slot_of}
use Rattle.s39_set.specs.declared.masks.Masks.{Masks}

-- the name of this group and member index is one of those in the masks
abbrev pub is_in : Masks → ℕ → ℕ → Bool
is_in masks group member = slice_index_or masks.flags (slot_of (group, member)) false

-- the masks have this name more
abbrev pub AddsName : Masks → Masks → Name → Type 0
AddsName old new name = (group member : ℕ) → member < most_members
    → (IsTrue (is_in new group member) ↔ (IsTrue (is_in old group member) ⊎ ((group, member) ≡ name)))
