use Rattle.std.proofs.Common.{◌-◌, ◌^◌}
use Rattle.s39_input.proofs.Taking.Reading.{IsReading}
use Rattle.s39_input.proofs.lines.take_lines.Given as goal

abbrev pub invariant-reads : goal.invariant-reads
invariant-reads g l =
    IsReading g.T.TakeLine.takes g.T.TakeLine.can_take g.R.Read.remaining
    l.fn.input l.input l.unfinished.line.items l.unfinished.number l.fn.taker l.taker l.piece

abbrev pub decreases-reads : goal.decreases-reads
decreases-reads g l = (2 ^ 64 - 1) - l.input.reads
