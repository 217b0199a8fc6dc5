use Rattle.std.proofs.Common.{All}
use Rattle.s39_set.specs.Slots.{IsBefore}
use Rattle.s39_set.proofs.share_set.ShareSet.any_share.Given as goal

-- no share of the set has its slot among those so far
abbrev pub invariant-loop-slot : goal.invariant-loop-slot
invariant-loop-slot l = All (λ share. ¬ IsBefore l.slot share) l.self
