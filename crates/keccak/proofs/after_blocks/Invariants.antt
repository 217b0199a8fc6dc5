use Rattle.std.proofs.Common.{◌≡◌}
use Rattle.hashes.specs.Blocks.{after_blocks}
use Rattle.keccak.specs.Keccak.{rate, absorb}
use Rattle.keccak.proofs.after_blocks.Given as goal

abbrev pub invariant-loop-n : goal.invariant-loop-n
invariant-loop-n l = l.state ≡ after_blocks absorb rate l.fn.start l.bytes l.n
