-- Within a run; no public contract cites this.
use Rattle.std.specs.Prelude.{◌≡◌, ◌⊎◌, ℕ, suc, ◌≤◌, List, [], ◌∷◌, ◌++◌, length, Bool, Result, Ok, Err}
use Rattle.s39_input.specs.declared.fault.RefusedLine.{RefusedLine}
use Rattle.s39_input.specs.declared.fault.Stop.{Stop}
use Rattle.s39_input.specs.declared.fault.Stop.TheVariants.{AtLine}
use Rattle.s39_input.specs.Input.{Input, longest_line, parts_of, lines_of}
use Rattle.s39_input.specs.Fault.{line_number}
use Rattle.s39_input.specs.Lines.{at_line, at_end}

-- A run has a state, and takes lines: `takes old line answer new` if it gives this answer for a line.
module _ {S C : Type 0} (takes : S → List ℕ → Result (Unit {0}) C → S → Type 0) where
  -- these lines are taken, one after the other
  abbrev pub TakesLines : List (List ℕ) → S → S → Type 0
  TakesLines [] old new = old ≡ new
  TakesLines (line ∷ lines) old new = (next : S) × takes old line (Ok tt) next × TakesLines lines next new

  -- the run takes lines that come after n others, up to the first that is refused, and gives this answer
  abbrev pub RunsOn : Bool → ℕ → List (List ℕ) → S → S → Result (Unit {0}) (Stop C) → Type 0
  RunsOn ended n [] old new answer = (old ≡ new) × (at_end ended tt ≡ answer)
  RunsOn ended n (line ∷ lines) old new answer =
      ((next : S) × takes old line (Ok tt) next × RunsOn ended (suc n) lines next new answer)
      ⊎ ((cause : C) × takes old line (Err cause) new × (at_line n (Err cause) ≡ answer))

  -- the run takes the lines of an input
  abbrev pub RunsOver : Input → S → S → Result (Unit {0}) (Stop C) → Type 0
  RunsOver input old new answer = RunsOn input.ended 0 (lines_of input) old new answer

  -- of the bytes that came, the ended lines are taken, and these bytes are left, of the line with this number
  pub record IsMidway (came unfinished : List ℕ) (number : ℕ) (old new : S) : Type 0 where
    pub lines : List (List ℕ)
    pub taken : TakesLines lines old new
    pub parts : parts_of came ≡ lines ++ unfinished ∷ []
    pub short : length unfinished ≤ longest_line
    pub number_is : number ≡ line_number (length lines)

  -- the run stops at a line that is refused whatever follows the bytes that came
  abbrev pub StopsWithin : List ℕ → S → S → RefusedLine C → Type 0
  StopsWithin came old new refused =
      (rest : List ℕ) (ended : Bool) → RunsOver (record { bytes = came ++ rest; ended = ended }) old new (Err (AtLine refused))

  -- after these bytes the run is in the middle of a line, or it has stopped
  abbrev pub ReachesOrStops : List ℕ → List ℕ → ℕ → S → S → Result (Unit {0}) (RefusedLine C) → Type 0
  ReachesOrStops came unfinished number old new (Ok _) = IsMidway came unfinished number old new
  ReachesOrStops came unfinished number old new (Err refused) = StopsWithin came old new refused
