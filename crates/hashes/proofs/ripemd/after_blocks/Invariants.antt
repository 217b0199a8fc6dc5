use Rattle.std.proofs.Common.{◌≡◌}
use Rattle.hashes.specs.Blocks.{after_blocks}
use Rattle.hashes.specs.Ripemd160.{compress}
use Rattle.hashes.proofs.ripemd.after_blocks.Given as goal

abbrev pub invariant-loop-n : goal.invariant-loop-n
invariant-loop-n l = l.state ≡ after_blocks compress 64 l.fn.start l.bytes l.n
