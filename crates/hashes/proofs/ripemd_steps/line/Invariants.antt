use Rattle.std.proofs.Common.{◌≡◌}
use Rattle.hashes.specs.Ripemd160.{line}
use Rattle.hashes.proofs.ripemd_steps.line.Given as goal

abbrev pub invariant-loop-j : goal.invariant-loop-j
invariant-loop-j l = l.v ≡ line l.right l.fn.h l.block l.j
