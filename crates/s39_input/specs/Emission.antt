-- Lines that follow one another in a text.
use Rattle.std.specs.Prelude.{◌≡◌, ℕ, ◌<◌, List, [], length, get_or}
use Rattle.arrayvec.specs.ArrayVec.{ArrayVec}

-- these are the bytes of so many lines, and what is given at an index has those of its line
pub record AreLines (gives : ℕ → ArrayVec ℕ → Type 0) (count : ℕ) (texts : List (List ℕ)) : Type 0 where
  pub many : length texts ≡ count
  pub each : (index : ℕ) (line : ArrayVec ℕ) → index < count → gives index line → line.items ≡ get_or texts index []
