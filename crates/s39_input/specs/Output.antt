-- What the write of a text does to a counted writer.
use Rattle.std.specs.Prelude.{◌≡◌, ℕ, ◌+◌, List, ◌++◌, Option, Result, Ok, Err}
use Rattle.std.specs.Io.KnownBytes.{Appends}
use Rattle.s39_input.specs.Device.{Counted}

module _ {W : Type 0} (contents : W → Option (List ℕ)) where
  -- all of it is written
  pub record WritesWhole (old : Counted W) (text : List ℕ) (new : Counted W) : Type 0 where
    pub appends : Appends (contents old.device) (contents new.device) text
    pub no_failure : new.failures ≡ old.failures

  -- a beginning of it is written, and then a write failed
  pub record WritesPart (old : Counted W) (text : List ℕ) (new : Counted W) : Type 0 where
    pub written : List ℕ
    pub unwritten : List ℕ
    pub parts : text ≡ written ++ unwritten
    pub appends : Appends (contents old.device) (contents new.device) written
    pub failure : new.failures ≡ old.failures + 1

  -- all of it is written, or a write fails
  abbrev pub WritesText : {E : Type 0} → Counted W → List ℕ → Result (Unit {0}) E → Counted W → Type 0
  WritesText old text (Ok _) new = WritesWhole old text new
  WritesText old text (Err _) new = WritesPart old text new
