-- Multiplication modulo a polynomial: the byte field and the word field of SLIP-0039 ("Shamir's
-- secret sharing" and "Checksum"). One definition serves both moduli.
use Rattle.std.specs.Prelude.{◌≡◌, ℕ, zero, suc, ◌+◌, ◌-◌, ◌*◌, ◌^◌, ◌<◌, ◌≤◌}
use Rattle.std.specs.Int.{bit_at}
use Rattle.s39_field.specs.BinaryPolynomial.{binary_sum, binary_product}
use Rattle.s39_field.specs.Field.{Operations}

-- a modulus and its degree
pub record Modulus : Type 0 where
  pub degree : ℕ
  pub polynomial : ℕ

-- the polynomial of m has the degree that m states
pub record HasDegree (m : Modulus) : Type 0 where
  pub at_least : 2 ^ m.degree ≤ m.polynomial
  pub below : m.polynomial < 2 ^ suc m.degree
  pub positive : 0 < m.degree

-- x ^ 8 + x ^ 4 + x ^ 3 + x + 1, the modulus of the byte field
abbrev pub byte_modulus : Modulus
byte_modulus = record { degree = 8; polynomial = 0x11B }

-- x ^ 10 + x ^ 3 + 1, the modulus of the word field
abbrev pub word_modulus : Modulus
word_modulus = record { degree = 10; polynomial = 0x409 }

-- r is the product of a and b modulo m: it has a lower degree than m, and some multiple of m plus r
-- is the product of the polynomials a and b
pub record IsProduct (m : Modulus) (a b r : ℕ) : Type 0 where
  pub lower_degree : r < 2 ^ m.degree
  pub quotient : (q : ℕ) × (binary_product a b ≡ binary_sum (binary_product q m.polynomial) r)

-- n minus the multiples of m that clear its coefficients at the places from degree + k - 1 down to
-- degree
abbrev pub reduction : Modulus → ℕ → ℕ → ℕ
reduction m zero n = n
reduction m (suc k) n =
    reduction m k (binary_sum n (bit_at n (m.degree + k) * (2 ^ k * m.polynomial)))

-- the only r that IsProduct allows, by long division of the polynomial product, whose degree is below
-- a + b
unfoldable pub product_modulo : Modulus → ℕ → ℕ → ℕ
product_modulo m a b = reduction m (a + b) (binary_product a b)

-- a to the n-th power
unfoldable pub power_modulo : Modulus → ℕ → ℕ → ℕ
power_modulo m a zero = 1
power_modulo m a (suc n) = product_modulo m (power_modulo m a n) a

-- the field of the polynomials of lower degree than m; an inverse is a power of its element
abbrev pub field_modulo : Modulus → Operations ℕ
field_modulo m = record {
  IsElement = λ a. a < 2 ^ m.degree;
  zero = 0;
  one = 1;
  add = binary_sum;
  mul = product_modulo m;
  inv = λ a. power_modulo m a (2 ^ m.degree - 2);
}

-- the byte field
abbrev pub byte_field : Operations ℕ
byte_field = field_modulo byte_modulus

-- the word field
abbrev pub word_field : Operations ℕ
word_field = field_modulo word_modulus

-- the number of nonzero bytes, which is that of the powers of a generator
abbrev pub nonzero_bytes : ℕ
nonzero_bytes = 2 ^ byte_modulus.degree - 1

-- the number of nonzero words
abbrev pub nonzero_words : ℕ
nonzero_words = 2 ^ word_modulus.degree - 1

-- the order of the word field: the number of its elements
abbrev pub word_field_order : ℕ
word_field_order = 2 ^ word_modulus.degree
