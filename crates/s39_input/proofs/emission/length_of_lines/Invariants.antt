use Rattle.std.proofs.Common.{◌≡◌, ◌≤◌, ◌*◌, ℕ, List, length, take}
use Rattle.std.specs.List.{concat}
use Rattle.s39_input.specs.Emission.{AreLines}
use Rattle.s39_input.specs.declared.output.TheConstants.{LINE_BYTES}
use Rattle.s39_input.proofs.emission.length_of_lines.Given as goal

abbrev pub invariant-loop-index : goal.invariant-loop-index
invariant-loop-index g l =
    (l.needed ≤ LINE_BYTES * l.index)
    × ((texts : List (List ℕ)) → AreLines (goal.F-post g l.fn.line) l.fn.count texts → l.needed ≡ length (concat (take l.index texts)))
