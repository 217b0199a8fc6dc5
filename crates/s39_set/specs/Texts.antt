-- Parts of written forms.
use Rattle.std.specs.Prelude.{◌≡◌, ◌==◌, false, ℕ, List, ◌∷◌, ◌++◌, All}

-- the text is cut at the first occurrence of the byte: the part before it, and the part after it
pub record IsCut (text : List ℕ) (byte : ℕ) (front back : List ℕ) : Type 0 where
  pub first : All (λ b. (b == byte) ≡ false) front
  pub text_is : text ≡ front ++ byte ∷ back
