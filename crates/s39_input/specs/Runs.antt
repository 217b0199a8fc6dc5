-- What a run does with its devices.
use Rattle.std.specs.Prelude.{◌≡◌, ◌≢◌, ◌⊎◌, ℕ, ◌+◌, ◌<◌, ◌≤◌, List, [], ◌++◌, length, Option, Some, Bool, false, Result, Err}
use Rattle.std.specs.Io.KnownBytes.{Appends, Consumes, IsAtEnd}
use Rattle.s39_input.specs.declared.fault.DeviceFailure.TheVariants.{Write}
use Rattle.s39_input.specs.declared.fault.Refusal.TheVariants.{Device}
use Rattle.s39_input.specs.declared.fault.Fault.{Fault}
use Rattle.s39_input.specs.Device.{Counted}
use Rattle.s39_input.specs.Fault.{fault_of, read_failures, write_failures}
use Rattle.s39_input.specs.Input.{Input, whole}

module _ {R : Type 0} (remaining : R → Option (List ℕ)) where
  -- what came decides: this holds for the input whatever follows, and no more was asked for
  pub record Decides (old new : Counted R) (came : List ℕ) (Is : Input → Type 0) : Type 0 where
    pub whatever_follows : (rest : List ℕ) (ended : Bool) → Is (record { bytes = came ++ rest; ended = ended })
    pub no_failure : new.failures ≡ old.failures
    pub asked : 0 < length came → old.reads < new.reads
    pub few_reads : new.reads ≤ old.reads + length came

  -- the input ended after what came, as a read said
  pub record Ends (old new : Counted R) (came : List ℕ) (Is : Input → Type 0) : Type 0 where
    pub of_whole : Is (whole came)
    pub at_end : IsAtEnd (remaining new.device)
    pub no_failure : new.failures ≡ old.failures
    pub asked : old.reads < new.reads
    pub few_reads : new.reads ≤ old.reads + length came + 1

  -- a read failed after what came
  pub record Fails (old new : Counted R) (came : List ℕ) (Is : Input → Type 0) : Type 0 where
    pub of_beginning : Is (record { bytes = came; ended = false })
    pub one_failure : new.failures ≡ old.failures + 1
    pub few_reads : new.reads ≤ old.reads + length came + 1

  -- This holds for the input that a reader gives. Whatever the reader is, some bytes came from it, by at most one read
  -- for each of them and one more. Either they decide, or the input ended after them, or a read failed. If the reader
  -- tells its bytes, they are the first of these.
  pub record OfInput (old new : Counted R) (Is : Input → Type 0) : Type 0 where
    pub came : List ℕ
    pub consumed : Consumes (remaining old.device) (remaining new.device) came
    pub so : Decides old new came Is ⊎ Ends old new came Is ⊎ Fails old new came Is

  -- If a reader tells its bytes, it is read at most once for each byte that it loses, and once more. If bytes are left and no read
  -- failed, there is no further read.
  abbrev pub ReadsAreFew : Type 0
  ReadsAreFew = (old new : Counted R) (bytes left : List ℕ) → remaining old.device ≡ Some bytes → remaining new.device ≡ Some left
      → OfInput old new (λ input. Unit {0})
      → (new.reads + length left ≤ old.reads + length bytes + 1)
      × (left ≢ [] → new.failures ≡ old.failures → new.reads + length left ≤ old.reads + length bytes)

module _ {W T : Type 0} (contents : W → Option (List ℕ)) where
  -- The writer's bytes grow by the text that has this answer. If a write fails, they grow by a beginning of what would
  -- have been written, and the answer says that a write failed, at no line.
  pub record Writes (IsOutput : List ℕ → Result T Fault → Type 0) (old new : Counted W) (answer : Result T Fault) : Type 0 where
    pub text : List ℕ
    pub full_answer : Result T Fault
    pub output : IsOutput text full_answer
    pub written : List ℕ
    pub unwritten : List ℕ
    pub parts : text ≡ written ++ unwritten
    pub appends : Appends (contents old.device) (contents new.device) written
    pub whole : new.failures ≡ old.failures → (unwritten ≡ []) × (answer ≡ full_answer)
    pub cut_short : new.failures ≢ old.failures → answer ≡ Err (fault_of (Device Write))

module _ {R W T : Type 0} (remaining : R → Option (List ℕ)) (contents : W → Option (List ℕ)) (IsOutput : Input → List ℕ → Result T Fault → Type 0) where
  -- A run writes and answers the output of its input. A failed call of a device ends it, and the answer names the
  -- device that failed exactly if one did.
  pub record Runs (reader read_to : Counted R) (writer written_to : Counted W) (answer : Result T Fault) : Type 0 where
    pub output : OfInput remaining reader read_to (λ input. Writes contents (IsOutput input) writer written_to answer)
    pub read_failures_are : read_to.failures ≡ reader.failures + read_failures answer
    pub write_failures_are : written_to.failures ≡ writer.failures + write_failures answer
