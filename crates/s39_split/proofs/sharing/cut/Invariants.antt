use Rattle.std.proofs.Common.{◌≡◌, ◌*◌, length, take}
use Rattle.std.specs.List.{AllWithin, concat}
use Rattle.s39_split.specs.Shares.{bytes_of}
use Rattle.s39_split.proofs.sharing.cut.Given as goal

abbrev pub invariant-loop-i : goal.invariant-loop-i
invariant-loop-i l = (concat (bytes_of (take l.i l.shares)) ≡ take (l.i * l.n) l.bytes)
    × AllWithin (λ share. length share.items ≡ l.n) l.shares 0 l.i
