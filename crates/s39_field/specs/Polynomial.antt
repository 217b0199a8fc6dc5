-- Polynomials over a field, as lists of their coefficients.
use Rattle.std.specs.Prelude.{◌≡◌, ℕ, zero, suc, ◌-◌, List, [], ◌∷◌, length, map, replicate, All}
use Rattle.s39_field.specs.Field.{Operations}

module _ {F : Type 0} (f : Operations F) where
  -- x ^ n
  abbrev pub power : F → ℕ → F
  power x zero = f.one
  power x (suc n) = f.mul (power x n) x

  -- the sum of c i * x ^ (n + i) over the coefficients c 0, c 1, ..
  abbrev pub value_from : List F → ℕ → F → F
  value_from [] n x = f.zero
  value_from (c ∷ cs) n x = f.add (f.mul c (power x n)) (value_from cs (suc n) x)

  -- the value at x: the sum of c i * x ^ i
  abbrev pub value_at : List F → F → F
  value_at cs x = value_from cs 0 x

  -- the sum, coefficient by coefficient; the list that ends first has zeros from there on
  abbrev pub sum_of : List F → List F → List F
  sum_of [] ys = ys
  sum_of (x ∷ xs) [] = x ∷ xs
  sum_of (x ∷ xs) (y ∷ ys) = f.add x y ∷ sum_of xs ys

  -- The product, in which coefficient k is the sum of the xs i * ys j with i + j = k. If ys isn't empty,
  -- it has one coefficient fewer than both lists together. Both lists and the product may be read from
  -- the lowest power up, or all three from the highest down.
  abbrev pub product_of : List F → List F → List F
  product_of [] ys = replicate (length ys - 1) f.zero
  product_of (x ∷ xs) ys = sum_of (map (f.mul x) ys) (f.zero ∷ product_of xs ys)

  -- xs is a multiple of g
  abbrev pub IsMultiple : List F → List F → Type 0
  IsMultiple xs g = (q : List F) × All f.IsElement q × (xs ≡ product_of q g)
