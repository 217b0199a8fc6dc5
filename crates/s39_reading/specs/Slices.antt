-- Texts that are put into slices.
use Rattle.std.specs.Prelude.{◌≡◌, ℕ, ◌<◌, List, length, [], Result, Ok, Err}
use Rattle.s39_set.specs.declared.status.Status.{Status}
use Rattle.s39_input.specs.declared.fault.Fault.{Fault}
use Rattle.s39_input.specs.declared.slices.NoOutput.{NoOutput}
use Rattle.s39_input.specs.declared.slices.NoOutput.TheVariants.{Refused, TooShort as SliceTooShort}
use Rattle.s39_reading.specs.declared.status.WrittenStatus.{WrittenStatus}
use Rattle.s39_input.specs.Slices.{IsInFront}

-- The text of `status` with these outputs stands at the front of a slice, and the answer is its length and the numbers of
-- its first line. Or the text doesn't fit, or the command is refused, and then nothing changes.
abbrev pub PutsStatus : (List ℕ → Result Status Fault → Type 0) → List ℕ → List ℕ → Result WrittenStatus NoOutput → Type 0
PutsStatus IsOutput old new (Ok told) =
    (text : List ℕ) × IsOutput text (Ok told.status) × IsInFront text old new × (told.written ≡ length text)
PutsStatus IsOutput old new (Err (SliceTooShort short)) =
    (text : List ℕ) × (status : Status) × IsOutput text (Ok status) × (short.needed ≡ length text) × (length old < length text) × (new ≡ old)
PutsStatus IsOutput old new (Err (Refused fault)) = IsOutput [] (Err fault) × (new ≡ old)
