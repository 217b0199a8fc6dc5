use Rattle.std.proofs.Common.{◌≡◌, ◌≤◌, vec_len}
use Rattle.std.specs.Vec.{vec_capacity}
use Rattle.s39_cli.specs.Values.{IsBegunPart}
use Rattle.s39_cli.specs.declared.values.Until.TheVariants.{End}
use Rattle.s39_cli.proofs.random_file.fill.Given as goal

abbrev pub invariant-loop : goal.invariant-loop
invariant-loop g l = IsBegunPart End l.counter (g.R.Read.remaining l.fn.input) (g.R.Read.remaining l.input) l.random.bytes.items
    × (vec_len l.random.bytes ≡ l.counter) × (32575 ≤ vec_capacity l.random.bytes)
