-- RS1024, the checksum of a mnemonic (SLIP-0039, "Checksum").
use Rattle.std.specs.Prelude.{ℕ, List, [], ◌∷◌, ◌++◌, Bool, codes, if◌then◌else◌, bit_xor}
use Rattle.s39_field.specs.FieldProduct.{word_field}
use Rattle.s39_field.specs.Polynomial.{IsMultiple}

-- the bytes of the customization string, by the extendable flag
abbrev pub customization_string : Bool → List ℕ
customization_string extendable = if extendable then codes "shamir_extendable" else codes "shamir"

-- the coefficient of x^2 in g(x) = (x - a)(x - a^2)(x - a^3) = x^3 + 14 x^2 + 56 x + 64 with a = 2
abbrev pub generator_square : ℕ
generator_square = 14

-- the coefficient of x in g(x)
abbrev pub generator_linear : ℕ
generator_linear = 56

-- the constant coefficient of g(x)
abbrev pub generator_constant : ℕ
generator_constant = 64

-- g(x), the highest power first
abbrev pub generator : List ℕ
generator = 1 ∷ generator_square ∷ generator_linear ∷ generator_constant ∷ []

-- the list with 1 added to its last coefficient
abbrev pub one_added_to_last : List ℕ → List ℕ
one_added_to_last [] = []
one_added_to_last (x ∷ []) = bit_xor x 1 ∷ []
one_added_to_last (x ∷ y ∷ ys) = x ∷ one_added_to_last (y ∷ ys)

-- the polynomial that a valid checksum makes a multiple of the generator: 1, the bytes of the customization
-- string and the words, the highest power first, with 1 added to the last coefficient
abbrev pub checked_polynomial : Bool → List ℕ → List ℕ
checked_polynomial extendable words = one_added_to_last (1 ∷ customization_string extendable ++ words)

-- the last three of these words are a valid checksum of those before them
abbrev pub IsValidChecksum : Bool → List ℕ → Type 0
IsValidChecksum extendable words = IsMultiple word_field (checked_polynomial extendable words) generator
