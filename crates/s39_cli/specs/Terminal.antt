-- What is read after the end of a run.
use Rattle.std.specs.Prelude.{◌≡◌, ◌≢◌, ℕ, List, Option}
use Rattle.std.specs.Io.KnownBytes.{Consumes}
use Rattle.s39_cli.specs.declared.runner.Ended.{Ended}
use Rattle.s39_cli.specs.declared.runner.Ended.TheVariants.{With, NoMemory}
use Rattle.s39_cli.specs.declared.terminal.Progress.{Progress}
use Rattle.s39_cli.specs.declared.terminal.Progress.TheVariants as progress

-- some bytes were read between these two
abbrev pub ConsumesMore : Option (List ℕ) → Option (List ℕ) → Type 0
ConsumesMore told left = (dropped : List ℕ) × Consumes told left dropped

-- a run that ended with this exit status left some of its input to be dropped: it had begun to read it, or was refused before that
abbrev pub HasRest : ℕ → Progress → Type 0
HasRest status progress.Unread = status ≡ 1
HasRest status progress.Begun = status ≢ 0
HasRest status progress.Ended = ⊥

module _ {R W : Type 0} (remaining : R → Option (List ℕ)) where
  -- The second ending has the exit status and the writer of the first; its reader may have been read further.
  abbrev pub EndsAlike : Ended R W → Ended R W → Type 0
  EndsAlike (With status read_to written_to) ended =
      (further : R) × (ended ≡ With status further written_to) × ConsumesMore (remaining read_to) (remaining further)
  EndsAlike NoMemory ended = ended ≡ NoMemory
