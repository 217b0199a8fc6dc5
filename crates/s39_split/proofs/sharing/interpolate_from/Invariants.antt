use Rattle.std.proofs.Common.{◌≡◌, ℕ, ◌+◌, ◌<◌, List, Some}
use Rattle.std.specs.List.{slice_get}
use Rattle.s39_field.specs.Interpolation.{InterpolatesBytes}
use Rattle.s39_split.specs.Shares.{bytes_of, indexed_bytes}
use Rattle.s39_split.proofs.sharing.interpolate_from.Given as goal

abbrev pub invariant-loop-i : goal.invariant-loop-i
invariant-loop-i l = (k : ℕ) → k < l.i → (share : List ℕ) → slice_get (bytes_of l.shares) k ≡ Some share
    → InterpolatesBytes (indexed_bytes l.points) (l.first + k) share
