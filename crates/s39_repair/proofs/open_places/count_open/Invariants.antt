use Rattle.std.proofs.Common.{◌≡◌, take}
use Rattle.std.specs.Prelude.{count_by}
use Rattle.s39_repair.specs.Marks.{is_open_range}
use Rattle.s39_repair.proofs.open_places.count_open.Given as goal

abbrev pub invariant-loop-range : goal.invariant-loop-range
invariant-loop-range l = l.count ≡ count_by is_open_range (take l.range-index l.ranges)
