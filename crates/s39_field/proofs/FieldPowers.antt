-- Powers in any field.
use Rattle.std.proofs.Common.{◌≡◌, ◌≢◌, ℕ, zero, suc, ◌+◌, refl, sym, ap, ap₂, ◌∙◌, add-zero, add-suc}
use Rattle.s39_field.specs.Field.{Operations, IsField}
use Rattle.s39_field.specs.Polynomial.{power}
use Rattle.s39_field.proofs.Values.{same_from_sum, zero_from_product}

module _ {F : Type 0} (f : Operations F) (is : IsField f) where
  pub power-element : (x : F) (n : ℕ) → f.IsElement x → f.IsElement (power f x n)
  power-element x zero element = is.one_element
  power-element x (suc n) element = is.mul_element (power f x n) x (power-element x n element) element

  pub power_of_sum : (x : F) (m n : ℕ) → f.IsElement x → power f x (m + n) ≡ f.mul (power f x m) (power f x n)
  power_of_sum x m zero element = ap (power f x) (add-zero m) ∙ sym (is.mul_one (power f x m) (power-element x m element))
  power_of_sum x m (suc n) element =
      ap (power f x) (add-suc m n)
      ∙ ap (λ p. f.mul p x) (power_of_sum x m n element)
      ∙ is.mul_associates (power f x m) (power f x n) x

  mul_of_products : (a b c d : F) → f.mul (f.mul a b) (f.mul c d) ≡ f.mul (f.mul a c) (f.mul b d)
  mul_of_products a b c d =
      is.mul_associates a b (f.mul c d)
      ∙ ap (f.mul a) (sym (is.mul_associates b c d) ∙ ap (λ p. f.mul p d) (is.mul_commutes b c) ∙ is.mul_associates c b d)
      ∙ sym (is.mul_associates a c (f.mul b d))

  -- the powers of a product, and of 1
  pub power-product : (x y : F) (n : ℕ) → power f (f.mul x y) n ≡ f.mul (power f x n) (power f y n)
  power-product x y zero = sym (is.mul_one f.one is.one_element)
  power-product x y (suc n) = ap (λ p. f.mul p (f.mul x y)) (power-product x y n) ∙ mul_of_products (power f x n) (power f y n) x y

  pub power-one : (n : ℕ) → power f f.one n ≡ f.one
  power-one zero = refl
  power-one (suc n) = ap (λ p. f.mul p f.one) (power-one n) ∙ is.mul_one f.one is.one_element

  -- the n-th power of the k-th is the k-th of the n-th
  pub power-exchanges : (x : F) (k n : ℕ) → power f (power f x k) n ≡ power f (power f x n) k
  power-exchanges x zero n = power-one n
  power-exchanges x (suc k) n = power-product (power f x k) x n ∙ ap (λ p. f.mul p (power f x n)) (power-exchanges x k n)

  pub power-nonzero : (x : F) (n : ℕ) → f.IsElement x → x ≢ f.zero → power f x n ≢ f.zero
  power-nonzero x zero element nonzero e = is.distinct e
  power-nonzero x (suc n) element nonzero e =
      power-nonzero x n element nonzero
      (zero_from_product f is x (power f x n) element nonzero (power-element x n element) (is.mul_commutes x (power f x n) ∙ e))

  -- a power and that with d more in the exponent are two, where the d-th isn't 1
  pub powers_apart : (x : F) (i d : ℕ) → f.IsElement x → x ≢ f.zero → power f x d ≢ f.one → power f x i ≢ power f x (i + d)
  powers_apart x i d element nonzero other same =
      let a = power f x i in
      let b = power f x d in
      let first = power-element x i element in
      let second = power-element x d element in
      let none : f.mul a (f.add b f.one) ≡ f.zero =
      is.mul_distributes a b f.one
      ∙ ap₂ f.add (sym (power_of_sum x i d element) ∙ sym same) (is.mul_one a first)
      ∙ is.add_self a in
      other
      (same_from_sum f is b f.one
      (zero_from_product f is a (f.add b f.one) first (power-nonzero x i element nonzero) (is.add_element b f.one second is.one_element) none))
