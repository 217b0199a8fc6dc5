use Rattle.std.proofs.Common.{arith, subst}
use Rattle.s39_cli.specs.Values.{TakesByte}
use Rattle.s39_cli.proofs.ReadParts.{part_at_end, part_full, part_of_line}
use Rattle.s39_cli.proofs.values.part.Goals.{else-loop-test, then-loop-test+in_ok-byte+in_default, then-loop-test+in_ok-byte+in-Some+in-LineEnd-eq10}
use Rattle.s39_cli.proofs.values.part.Goals as goal

pub returns : goal.returns
returns g c =
    let told = g.R.Read.remaining c.args.input.now in
    let now = g.R.Read.remaining c.loop.input in
    elim c.loop-test.branch [
      | else-loop-test w ↦ rw (w.input-is, w.bytes-is) record {
        part = part_full c.args.until 1027 c.loop.counter told c.loop.bytes.items
            now c.loop.invariant (omega (arith, w.loop-test, c.loop.auto.counter-end));
      }
      | then-loop-test+in_ok-byte+in_default w ↦ rw (w.input-is, w.bytes-is) record {
        part = part_at_end c.args.until 1027 c.loop.counter told
            c.loop.bytes.items now (g.R.Read.remaining w.next_byte.new.input) c.loop.invariant c.loop.auto.counter-end
            (subst (TakesByte now (g.R.Read.remaining w.next_byte.new.input)) w.in_default.is w.in_ok-byte.ensures.byte);
      }
      | then-loop-test+in_ok-byte+in-Some+in-LineEnd-eq10 w ↦ rw (w.input-is, w.bytes-is, w.push.ensures.items) record {
        part = part_of_line
            c.args.until 1027 c.loop.counter told now (g.R.Read.remaining w.next_byte.new.input) c.loop.bytes.items w.in-Some.byte c.loop.invariant
            w.loop-test.true (subst (TakesByte now (g.R.Read.remaining w.next_byte.new.input)) w.in-Some.is w.in_ok-byte.ensures.byte)
            w.in-LineEnd-eq10.is-0 w.in-LineEnd-eq10.is-1;
      }
    ]
