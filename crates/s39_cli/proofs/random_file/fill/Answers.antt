use Rattle.std.proofs.Common.{arith, subst}
use Rattle.s39_cli.specs.Values.{TakesByte}
use Rattle.s39_cli.specs.declared.values.Until.TheVariants.{End}
use Rattle.s39_cli.proofs.ReadParts.{part_at_end, part_full}
use Rattle.s39_cli.proofs.random_file.fill.Goals as goal

pub returns-after-loop : goal.returns-after-loop
returns-after-loop g c =
    part_full End 32575 c.loop.counter (g.R.Read.remaining c.args.input.now) c.loop.random.bytes.items (g.R.Read.remaining c.loop.input) c.loop.invariant.0
    (omega (arith, c.loop-test.false, c.loop.auto.counter-end))

pub returns-in_default : goal.returns-in_default
returns-in_default g c =
    let now = g.R.Read.remaining c.loop.input in
    let left = g.R.Read.remaining c.next_byte.new.input in
    part_at_end End 32575 c.loop.counter (g.R.Read.remaining c.args.input.now) c.loop.random.bytes.items now left c.loop.invariant.0 c.loop.auto.counter-end
    (subst (TakesByte now left) c.in_default.is c.in_ok-byte.ensures.byte)
