use Rattle.std.specs.Io.KnownBytes.{Keeps}
use Rattle.s39_cli.proofs.patient.PatientWrite.write.Given as goal

abbrev pub invariant-loop : goal.invariant-loop
invariant-loop g l = Keeps (g.W.Write.contents l.fn.self.output) (g.W.Write.contents l.self.output)
