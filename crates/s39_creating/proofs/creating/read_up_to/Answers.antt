use Rattle.std.proofs.Common.{refl, arith}
use Rattle.std.proofs.KnownBytes.{Consumes-kept}
use Rattle.s39_input.proofs.Runs.Devices.{of_failure}
use Rattle.s39_creating.proofs.creating.read_up_to.Goals as goal

pub returns-in-Err-clause-read : goal.returns-in-Err-clause-read
returns-in-Err-clause-read g c =
    let taking = c.reads.invariant.0 in
    let read = c.in-Err.ensures in
    of_failure g.R.Read.remaining c.args.input.now c.read.new.self c.reads.random.items _ (Consumes-kept _ _ _ c.reads.random.items taking.consumed read.bytes)
    (omega (arith, read.failures, taking.no_failure)) (omega (arith, read.reads, taking.few_reads))
    (refl, omega (arith, c.reads-test.true, c.len.ensures.value))
