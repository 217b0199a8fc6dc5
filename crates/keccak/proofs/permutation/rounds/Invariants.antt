use Rattle.std.proofs.Common.{◌≡◌}
use Rattle.keccak.specs.Keccak.{rounds}
use Rattle.keccak.proofs.permutation.rounds.Given as goal

abbrev pub invariant-loop-n : goal.invariant-loop-n
invariant-loop-n l = l.state ≡ rounds l.fn.a l.n
