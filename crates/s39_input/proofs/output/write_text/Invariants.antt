use Rattle.std.proofs.Common.{length}
use Rattle.s39_input.proofs.Texts.Write.{IsWriting}
use Rattle.s39_input.proofs.output.write_text.Given as goal

abbrev pub invariant-loop-rest : goal.invariant-loop-rest
invariant-loop-rest g l = IsWriting g.W.Write.contents l.fn.output l.output l.fn.text l.rest

abbrev pub decreases-loop-rest : goal.decreases-loop-rest
decreases-loop-rest g l = length l.rest
