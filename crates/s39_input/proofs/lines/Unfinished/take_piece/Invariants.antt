use Rattle.std.proofs.Common.{◌≡◌, ℕ, List, ◌++◌, length}
use Rattle.s39_input.specs.Midway.{IsMidway}
use Rattle.s39_input.proofs.lines.Unfinished.take_piece.Given as goal

abbrev pub invariant-loop-end : goal.invariant-loop-end
invariant-loop-end g l = record {
  can_take : g.T.TakeLine.can_take l.taker;
  taken : (done : List ℕ) × (l.piece ≡ done ++ l.rest)
      × ((came : List ℕ) (first : g.row.T.Denot) → IsMidway g.T.TakeLine.takes came l.fn.self.line.items l.fn.self.number first l.fn.taker
      → IsMidway g.T.TakeLine.takes (came ++ done) l.self.line.items l.self.number first l.taker);
}

abbrev pub decreases-loop-end : goal.decreases-loop-end
decreases-loop-end g l = length l.rest
