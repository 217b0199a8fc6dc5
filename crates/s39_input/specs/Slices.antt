-- Texts that are put into slices.
use Rattle.std.specs.Prelude.{◌≡◌, ℕ, ◌<◌, ◌≤◌, List, ◌++◌, length, drop, [], Result, Ok, Err}
use Rattle.s39_input.specs.declared.fault.Fault.{Fault}
use Rattle.s39_input.specs.declared.slices.TooShort.{TooShort}
use Rattle.s39_input.specs.declared.slices.NoOutput.{NoOutput}
use Rattle.s39_input.specs.declared.slices.NoOutput.TheVariants.{Refused, TooShort as SliceTooShort}
use Rattle.s39_input.specs.declared.slices.WrittenLines.{WrittenLines}
use Rattle.s39_input.specs.Input.{lines_in}

-- a text is at the front of a slice, and the rest of the slice is unchanged
pub record IsInFront (text old new : List ℕ) : Type 0 where
  pub fits : length text ≤ length old
  pub bytes : new ≡ text ++ drop (length text) old

-- the text stands at the front of a slice, and the answer is its length; or it doesn't fit, and nothing changes
abbrev pub PutsText : List ℕ → List ℕ → List ℕ → Result ℕ TooShort → Type 0
PutsText text old new (Ok written) = IsInFront text old new × (written ≡ length text)
PutsText text old new (Err short) = (short.needed ≡ length text) × (length old < length text) × (new ≡ old)

-- The text of a command with these outputs stands at the front of a slice, and the answer is its length and the number of
-- its lines. Or the text doesn't fit, or the command is refused, and then nothing changes.
abbrev pub Puts : (List ℕ → Result (Unit {0}) Fault → Type 0) → List ℕ → List ℕ → Result WrittenLines NoOutput → Type 0
Puts IsOutput old new (Ok put) =
    (text : List ℕ) × IsOutput text (Ok tt) × IsInFront text old new × (put.written ≡ length text) × (put.lines ≡ lines_in text)
Puts IsOutput old new (Err (SliceTooShort short)) =
    (text : List ℕ) × IsOutput text (Ok tt) × (short.needed ≡ length text) × (length old < length text) × (new ≡ old)
Puts IsOutput old new (Err (Refused fault)) = IsOutput [] (Err fault) × (new ≡ old)
