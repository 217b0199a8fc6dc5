-- Within a run; no public contract cites this.
use Rattle.std.specs.Prelude.{◌≡◌, ℕ, ◌<◌, take, length, true, false, Result, Ok, Err}
use Rattle.arrayvec.specs.ArrayVec.{ArrayVec}
use Rattle.s39_input.specs.Input.{Input}

-- as many bytes as the limit came, or the input ended before, or it failed before
abbrev pub HasRead : {E : Type 0} → ℕ → Input → Result (ArrayVec ℕ) E → Type 0
HasRead limit input (Ok random) = (random.items ≡ take limit input.bytes) × (length input.bytes < limit → input.ended ≡ true)
HasRead limit input (Err _) = (input.ended ≡ false) × (length input.bytes < limit)
