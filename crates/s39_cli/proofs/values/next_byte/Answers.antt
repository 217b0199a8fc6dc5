use Rattle.std.proofs.KnownBytes.{Keeps-refl, Keeps-trans}
use Rattle.s39_cli.proofs.ReadParts.{no_byte, one_byte}
use Rattle.s39_cli.proofs.values.next_byte.Goals as goal

pub loop-init : goal.loop-init
loop-init g c = Keeps-refl (g.R.Read.remaining c.args.input.now)

pub returns-in-Ok-eq0 : goal.returns-in-Ok-eq0
returns-in-Ok-eq0 g c = record {
  byte = no_byte (g.R.Read.remaining c.args.input.now) (g.R.Read.remaining c.loop.input) (g.R.Read.remaining c.read.new.self) c.read.result
      c.in-Ok-eq0.field-0 c.read.new.buf c.loop.invariant c.read.ensures.bytes c.in-Ok-eq0.is c.in-Ok-eq0.field-0-test c.read.auto.buf;
}

pub returns-in-Ok : goal.returns-in-Ok
returns-in-Ok g c = record {
  byte = one_byte (g.R.Read.remaining c.args.input.now) (g.R.Read.remaining c.loop.input) (g.R.Read.remaining c.read.new.self) c.in-Ok.field-0
      c.read.new.buf c.loop.invariant c.in-Ok.ensures.bytes.0 c.in-Ok.ensures.bound.0 c.in-Ok.field-0-test.1 c.read.auto.buf;
}

pub loop-preserved : goal.loop-preserved
loop-preserved g c =
    Keeps-trans (g.R.Read.remaining c.args.input.now) (g.R.Read.remaining c.loop.input) (g.R.Read.remaining c.read.new.self) c.loop.invariant
    c.in-Err.ensures.bytes
