-- A field in which each element is its own negative, so that subtraction is addition.
use Rattle.std.specs.Prelude.{◌≡◌, ◌≢◌}

-- The parts of a field. The operations may be defined on more than the elements, for example on all
-- numbers.
pub record Operations (F : Type 0) : Type 1 where
  pub IsElement : F → Type 0
  pub zero : F
  pub one : F
  pub add : F → F → F
  pub mul : F → F → F
  pub inv : F → F

-- The axioms. If the operations are defined on more than the elements, the laws of sums and products
-- hold there too. That a * 1 is a, and that a has an inverse, is stated for elements alone.
pub record IsField {F : Type 0} (f : Operations F) : Type 0 where
  pub zero_element : f.IsElement f.zero
  pub one_element : f.IsElement f.one
  pub add_element : (a b : F) → f.IsElement a → f.IsElement b → f.IsElement (f.add a b)
  pub mul_element : (a b : F) → f.IsElement a → f.IsElement b → f.IsElement (f.mul a b)
  pub inv_element : (a : F) → f.IsElement a → f.IsElement (f.inv a)
  pub add_commutes : (a b : F) → f.add a b ≡ f.add b a
  pub add_associates : (a b c : F) → f.add (f.add a b) c ≡ f.add a (f.add b c)
  pub add_zero : (a : F) → f.add a f.zero ≡ a
  pub add_self : (a : F) → f.add a a ≡ f.zero
  pub mul_commutes : (a b : F) → f.mul a b ≡ f.mul b a
  pub mul_associates : (a b c : F) → f.mul (f.mul a b) c ≡ f.mul a (f.mul b c)
  pub mul_distributes : (a b c : F) → f.mul a (f.add b c) ≡ f.add (f.mul a b) (f.mul a c)
  pub mul_one : (a : F) → f.IsElement a → f.mul a f.one ≡ a
  pub mul_inverse : (a : F) → f.IsElement a → a ≢ f.zero → f.mul a (f.inv a) ≡ f.one
  pub distinct : f.one ≢ f.zero
