use Rattle.std.proofs.Common.{◌≤◌}
use Rattle.s39_lists.specs.Written.{bits_with}
use Rattle.s39_lists.proofs.Written.{AreBits}
use Rattle.bech32.proofs.bit_writer.BitWriter.write.Given as goal

abbrev pub invariant-loop-self : goal.invariant-loop-self
invariant-loop-self g l = record {
  bits : AreBits g.row.SIZE l.self-inside.digits.items l.self-inside.held l.self-inside.rest (bits_with l.fn.self l.fn.width l.fn.number);
  held : l.self-inside.held ≤ 15;
}

abbrev pub decreases-loop-self : goal.decreases-loop-self
decreases-loop-self g l = l.self-inside.held
