use Rattle.std.proofs.KnownBytes.{Keeps-refl, Keeps-trans}
use Rattle.s39_cli.proofs.Interrupted.{WriteAppends-after_kept}
use Rattle.s39_cli.proofs.patient.PatientWrite.write.Goals as goal

pub loop-init : goal.loop-init
loop-init g c = Keeps-refl (g.W.Write.contents c.args.self.now.output)

pub returns-in_default-clause-bytes : goal.returns-in_default-clause-bytes
returns-in_default-clause-bytes g c =
    Keeps-trans (g.W.Write.contents c.args.self.now.output) (g.W.Write.contents c.loop.self.output) (g.W.Write.contents c.write.new.self)
    c.loop.invariant c.in-Err.ensures.bytes

pub returns-in_default-2-clause-bytes : goal.returns-in_default-2-clause-bytes
returns-in_default-2-clause-bytes g c =
    WriteAppends-after_kept (g.W.Write.contents c.args.self.now.output) (g.W.Write.contents c.loop.self.output) (g.W.Write.contents c.write.new.self)
    c.write.result c.args.buf.now c.loop.invariant c.write.ensures.bytes

pub loop-preserved : goal.loop-preserved
loop-preserved g c =
    Keeps-trans (g.W.Write.contents c.args.self.now.output) (g.W.Write.contents c.loop.self.output) (g.W.Write.contents c.write.new.self)
    c.loop.invariant c.in-Err.ensures.bytes

pub returns-clause-bytes : goal.returns-clause-bytes
returns-clause-bytes g c = c.loop.invariant
