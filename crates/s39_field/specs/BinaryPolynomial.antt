-- Polynomials with coefficients in the field of two elements. A number stands for the polynomial in
-- which the coefficient of x ^ i is the number's binary digit of weight 2 ^ i.
use Rattle.std.specs.Prelude.{ℕ, zero, suc, ◌*◌, ◌^◌, bit_xor}
use Rattle.std.specs.Int.{bit_at}

-- the sum, coefficient by coefficient
abbrev pub binary_sum : ℕ → ℕ → ℕ
binary_sum a b = bit_xor a b

-- the sum, over the places i below n, of the terms (coefficient of x ^ i in a) * x ^ i * b
abbrev pub product_below : ℕ → ℕ → ℕ → ℕ
product_below zero a b = 0
product_below (suc i) a b = binary_sum (product_below i a b) (bit_at a i * (2 ^ i * b))

-- the product: each place of a is below a, since a < 2 ^ a
abbrev pub binary_product : ℕ → ℕ → ℕ
binary_product a b = product_below a a b
