use Rattle.std.proofs.Common.{◌≡◌}
use Rattle.std.specs.List.{AllWithin}
use Rattle.s39_split.proofs.sharing.fill.Given as goal

abbrev pub invariant-loop-share : goal.invariant-loop-share
invariant-loop-share l = AllWithin (λ share. share.items ≡ l.secret.items) l.out 0 l.share-index
