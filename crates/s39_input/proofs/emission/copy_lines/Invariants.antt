use Rattle.std.proofs.Common.{◌≡◌, ◌++◌, ℕ, List, length, take, drop}
use Rattle.std.specs.List.{concat}
use Rattle.s39_input.specs.Emission.{AreLines}
use Rattle.s39_input.proofs.emission.copy_lines.Given as goal

abbrev pub invariant-loop-index : goal.invariant-loop-index
invariant-loop-index g l =
    (texts : List (List ℕ)) → AreLines (goal.F-post g l.fn.line) l.fn.count texts
    → (l.written ≡ length (concat (take l.index texts)))
    × (l.text ≡ concat (take l.index texts) ++ drop (length (concat (take l.index texts))) l.fn.text)
