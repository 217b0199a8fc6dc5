use Rattle.s39_cli.proofs.Dropped.{ConsumesMore-read}
use Rattle.s39_cli.proofs.terminal.drop_rest.Goals as goal

pub loop-preserved : goal.loop-preserved
loop-preserved g c =
    ConsumesMore-read (g.R.Read.remaining c.args.input.now.input) (g.R.Read.remaining c.loop.input.input) (g.R.Read.remaining c.read_on.new.self.input)
    c.read_on.result c.read_on.new.buf c.loop.invariant c.read_on.ensures.bytes
