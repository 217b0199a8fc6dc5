-- The value of a polynomial over any field.
use Rattle.std.proofs.Common.{◌≡◌, ◌≢◌, ℕ, zero, suc, ◌≤◌, List, [], ◌∷◌, length, map, All, sym, ap, ap₂, ◌∙◌, subst, arith}
use Rattle.std.proofs.lemmas.List.Elements.{All-nil, All-cons, All-head, All-tail}
use Rattle.s39_field.specs.Field.{Operations, IsField}
use Rattle.s39_field.specs.Polynomial.{power, value_from, value_at, sum_of}

-- ---- what follows from the axioms

module _ {F : Type 0} (f : Operations F) (is : IsField f) where
  pub zero_add : (a : F) → f.add f.zero a ≡ a
  zero_add a = is.add_commutes f.zero a ∙ is.add_zero a

  pub add_exchanges : (a b c : F) → f.add a (f.add b c) ≡ f.add b (f.add a c)
  add_exchanges a b c =
      sym (is.add_associates a b c) ∙ ap (λ s. f.add s c) (is.add_commutes a b) ∙ is.add_associates b a c

  pub add_of_sums : (a b c d : F) → f.add (f.add a b) (f.add c d) ≡ f.add (f.add a c) (f.add b d)
  add_of_sums a b c d =
      is.add_associates a b (f.add c d) ∙ ap (f.add a) (add_exchanges b c d) ∙ sym (is.add_associates a c (f.add b d))

  -- to add twice is to add nothing
  pub add_cancels : (a b : F) → f.add a (f.add a b) ≡ b
  add_cancels a b = sym (is.add_associates a a b) ∙ ap (λ s. f.add s b) (is.add_self a) ∙ zero_add b

  pub same_from_sum : (a b : F) → f.add a b ≡ f.zero → a ≡ b
  same_from_sum a b e = sym (is.add_zero a) ∙ ap (f.add a) (sym e) ∙ add_cancels a b

  pub mul-zero_right : (a : F) → f.mul a f.zero ≡ f.zero
  mul-zero_right a =
      ap (f.mul a) (sym (is.add_self f.zero)) ∙ is.mul_distributes a f.zero f.zero ∙ is.add_self (f.mul a f.zero)

  pub mul-zero_left : (a : F) → f.mul f.zero a ≡ f.zero
  mul-zero_left a = is.mul_commutes f.zero a ∙ mul-zero_right a

  pub one_mul : (a : F) → f.IsElement a → f.mul f.one a ≡ a
  one_mul a element = is.mul_commutes f.one a ∙ is.mul_one a element

  pub distributes_left : (a b c : F) → f.mul (f.add a b) c ≡ f.add (f.mul a c) (f.mul b c)
  distributes_left a b c =
      is.mul_commutes (f.add a b) c ∙ is.mul_distributes c a b ∙ ap₂ f.add (is.mul_commutes c a) (is.mul_commutes c b)

  -- a product is zero only where a factor is
  pub zero_from_product : (a b : F) → f.IsElement a → a ≢ f.zero → f.IsElement b → f.mul a b ≡ f.zero → b ≡ f.zero
  zero_from_product a b element nonzero also e =
      sym (is.mul_one b also)
      ∙ ap (f.mul b) (sym (is.mul_inverse a element nonzero))
      ∙ sym (is.mul_associates b a (f.inv a))
      ∙ ap (λ p. f.mul p (f.inv a)) (is.mul_commutes b a ∙ e)
      ∙ mul-zero_left (f.inv a)

  -- ---- values

  pub value_from-suc : (cs : List F) (n : ℕ) (x : F) → value_from f cs (suc n) x ≡ f.mul (value_from f cs n x) x
  value_from-suc [] n x = sym (mul-zero_left x)
  value_from-suc (c ∷ cs) n x =
      ap₂ f.add (sym (is.mul_associates c (power f x n) x)) (value_from-suc cs (suc n) x)
      ∙ sym (distributes_left (f.mul c (power f x n)) (value_from f cs (suc n) x) x)

  -- the first coefficient apart
  pub value_at-cons : (c : F) (cs : List F) (x : F) → f.IsElement c → value_at f (c ∷ cs) x ≡ f.add c (f.mul (value_at f cs x) x)
  value_at-cons c cs x element = ap₂ f.add (is.mul_one c element) (value_from-suc cs 0 x)

  pub value_at-element : (cs : List F) (x : F) → All f.IsElement cs → f.IsElement x → f.IsElement (value_at f cs x)
  value_at-element [] x elements element = is.zero_element
  value_at-element (c ∷ cs) x elements element =
      let first = All-head f.IsElement c cs elements in
      let rest = value_at-element cs x (All-tail f.IsElement c cs elements) element in
      subst f.IsElement (sym (value_at-cons c cs x first))
      (is.add_element c (f.mul (value_at f cs x) x) first (is.mul_element (value_at f cs x) x rest element))

  -- ---- sums and multiples of polynomials

  value_from-sum : (cs ds : List F) (n : ℕ) (x : F) → value_from f (sum_of f cs ds) n x ≡ f.add (value_from f cs n x) (value_from f ds n x)
  value_from-sum [] ds n x = sym (zero_add (value_from f ds n x))
  value_from-sum (c ∷ cs) [] n x = sym (is.add_zero (value_from f (c ∷ cs) n x))
  value_from-sum (c ∷ cs) (d ∷ ds) n x =
      let p = power f x n in
      ap₂ f.add (distributes_left c d p) (value_from-sum cs ds (suc n) x)
      ∙ add_of_sums (f.mul c p) (f.mul d p) (value_from f cs (suc n) x) (value_from f ds (suc n) x)

  pub value_at-sum : (cs ds : List F) (x : F) → value_at f (sum_of f cs ds) x ≡ f.add (value_at f cs x) (value_at f ds x)
  value_at-sum cs ds x = value_from-sum cs ds 0 x

  value_from-scaled : (k : F) (cs : List F) (n : ℕ) (x : F) → value_from f (map (f.mul k) cs) n x ≡ f.mul k (value_from f cs n x)
  value_from-scaled k [] n x = sym (mul-zero_right k)
  value_from-scaled k (c ∷ cs) n x =
      let p = power f x n in
      ap₂ f.add (is.mul_associates k c p) (value_from-scaled k cs (suc n) x)
      ∙ sym (is.mul_distributes k (f.mul c p) (value_from f cs (suc n) x))

  pub value_at-scaled : (k : F) (cs : List F) (x : F) → value_at f (map (f.mul k) cs) x ≡ f.mul k (value_at f cs x)
  value_at-scaled k cs x = value_from-scaled k cs 0 x

  pub elements-sum : (cs ds : List F) → All f.IsElement cs → All f.IsElement ds → All f.IsElement (sum_of f cs ds)
  elements-sum [] ds p q = q
  elements-sum (c ∷ cs) [] p q = p
  elements-sum (c ∷ cs) (d ∷ ds) p q =
      All-cons f.IsElement (f.add c d) (sum_of f cs ds)
      (is.add_element c d (All-head f.IsElement c cs p) (All-head f.IsElement d ds q))
      (elements-sum cs ds (All-tail f.IsElement c cs p) (All-tail f.IsElement d ds q))

  pub elements-scaled : (k : F) (cs : List F) → f.IsElement k → All f.IsElement cs → All f.IsElement (map (f.mul k) cs)
  elements-scaled k [] element p = All-nil f.IsElement
  elements-scaled k (c ∷ cs) element p =
      All-cons f.IsElement (f.mul k c) (map (f.mul k) cs)
      (is.mul_element k c element (All-head f.IsElement c cs p))
      (elements-scaled k cs element (All-tail f.IsElement c cs p))

pub length-sum : {F : Type 0} (f : Operations F) (n : ℕ) (cs ds : List F) → length cs ≤ n → length ds ≤ n → length (sum_of f cs ds) ≤ n
length-sum f n [] ds p q = q
length-sum f n (c ∷ cs) [] p q = p
length-sum f zero (c ∷ cs) (d ∷ ds) p q = absurd (omega arith)
length-sum f (suc n) (c ∷ cs) (d ∷ ds) p q =
    let rest = length-sum f n cs ds (omega arith) (omega arith) in
    omega arith
