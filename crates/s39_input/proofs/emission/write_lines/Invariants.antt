use Rattle.std.proofs.Common.{◌≡◌, ℕ, List, take}
use Rattle.std.specs.List.{concat}
use Rattle.s39_input.specs.Emission.{AreLines}
use Rattle.s39_input.specs.Output.{WritesWhole}
use Rattle.s39_input.proofs.emission.write_lines.Given as goal

abbrev pub invariant-loop-index : goal.invariant-loop-index
invariant-loop-index g l =
    (l.output.failures ≡ l.fn.output.failures)
    × ((texts : List (List ℕ)) → AreLines (goal.F-post g l.fn.line) l.fn.count texts
    → WritesWhole g.W.Write.contents l.fn.output (concat (take l.index texts)) l.output)
