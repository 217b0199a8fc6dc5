use Rattle.std.proofs.Common.{◌≡◌, ℕ, ◌/◌, ◌%◌, ◌<◌, find, None}
use Rattle.s39_set.specs.Names.{most_members}
use Rattle.s39_set.specs.ShareSet.{has_name}
use Rattle.s39_backup.proofs.at_hand.any_share.Given as goal

abbrev pub invariant-loop-place : goal.invariant-loop-place
invariant-loop-place l = (place : ℕ) → place < l.place → find (has_name (place / most_members) (place % most_members)) l.set ≡ None
