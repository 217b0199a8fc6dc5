-- Long division of a list of coefficients by the generator of the checksum, and its remainder as one number. Laws
-- cite `generator_times`, `packed` and `has_valid_checksum`, which `reading` uses; no public contract cites the others.
use Rattle.std.specs.Prelude.{ℕ, ◌+◌, ◌*◌, ◌/◌, ◌%◌, ◌^◌, List, ◌++◌, Bool, ◌==◌, fold}
use Rattle.s39_field.specs.FieldProduct.{word_field}
use Rattle.s39_words.specs.Checksum.{customization_string, generator_square, generator_linear, generator_constant}
use Rattle.s39_words.specs.Layout.{word_list_length, word_bits}

-- the remainder of the division: its coefficients of x^2 and of x, and the constant one
pub record Remainder : Type 0 where
  pub square : ℕ
  pub linear : ℕ
  pub constant : ℕ

-- the remainder 1
abbrev pub one_remainder : Remainder
one_remainder = record { square = 0; linear = 0; constant = 1 }

-- the lower coefficients of the generator, each times an element
abbrev pub generator_times : ℕ → Remainder
generator_times element = record {
  square = word_field.mul element generator_square;
  linear = word_field.mul element generator_linear;
  constant = word_field.mul element generator_constant;
}

-- the remainder of r x + c: the remainder of x^3 is the generator's lower coefficients
abbrev pub next_remainder : Remainder → ℕ → Remainder
next_remainder r c = record {
  square = word_field.add r.linear (word_field.mul r.square generator_square);
  linear = word_field.add r.constant (word_field.mul r.square generator_linear);
  constant = word_field.add c (word_field.mul r.square generator_constant);
}

-- a remainder as one number: ten binary digits for each coefficient, that of x^2 highest
abbrev pub packed : Remainder → ℕ
packed r = (r.square * word_list_length + r.linear) * word_list_length + r.constant

-- the remainder that such a number holds
abbrev pub unpacked : ℕ → Remainder
unpacked n = record {
  square = n / 2 ^ (2 * word_bits);
  linear = n / 2 ^ word_bits % 2 ^ word_bits;
  constant = n % 2 ^ word_bits;
}

-- Whether the last three of these words are a valid checksum of those before them: the words behind the customization
-- string and a first coefficient 1 leave the remainder 1.
abbrev pub has_valid_checksum : Bool → List ℕ → Bool
has_valid_checksum extendable words = packed (fold next_remainder one_remainder (customization_string extendable ++ words)) == 1
