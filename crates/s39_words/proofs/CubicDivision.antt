-- Long division by a polynomial of degree three whose first coefficient is 1, over any field.
use Rattle.std.proofs.Common.{◌≡◌, List, [], ◌∷◌, refl, sym, ap, ◌∙◌}
use Rattle.std.specs.Prelude.{◌↔◌}
use Rattle.std.proofs.lemmas.List.Elements.{All-nil, All-cons, All-head, All-tail}
use Rattle.s39_field.specs.Field.{Operations, IsField}
use Rattle.s39_field.specs.Polynomial.{sum_of, product_of, IsMultiple}

module _ {F : Type 0} (f : Operations F) (axioms : IsField f) (g2 g1 g0 : F) where
  -- the divisor
  abbrev divisor : List F
  divisor = f.one ∷ g2 ∷ g1 ∷ g0 ∷ []

  -- what was added twice is gone
  add_twice : (x y : F) → f.add (f.add x y) x ≡ y
  add_twice x y =
      ap (λ s. f.add s x) (axioms.add_commutes x y) ∙ axioms.add_associates y x x ∙ ap (f.add y) (axioms.add_self x) ∙ axioms.add_zero y

  -- a product has three coefficients at least
  product_parts : (q : List F) → (a : F) × (b : F) × (c : F) × (rest : List F) × (product_of f q divisor ≡ a ∷ b ∷ c ∷ rest)
  product_parts [] = (f.zero, f.zero, f.zero, [], refl)
  product_parts (c ∷ q) =
      let p = product_parts q in (
        f.add (f.mul c f.one) f.zero,
        f.add (f.mul c g2) p.0,
        f.add (f.mul c g1) p.1,
        f.add (f.mul c g0) p.2 ∷ p.3,
        ap (λ s. sum_of f (f.mul c f.one ∷ f.mul c g2 ∷ f.mul c g1 ∷ f.mul c g0 ∷ []) (f.zero ∷ s)) p.4,
      )

  -- the product with a first coefficient of the quotient
  product_cons : (c : F) (q : List F) (a b d : F) (rest : List F) → f.IsElement c
      → product_of f q divisor ≡ a ∷ b ∷ d ∷ rest → product_of f (c ∷ q) divisor ≡ c ∷ f.add (f.mul c g2) a ∷ f.add (f.mul c g1) b ∷ f.add (f.mul c g0) d ∷ rest
  product_cons c q a b d rest element e =
      ap (λ s. sum_of f (f.mul c f.one ∷ f.mul c g2 ∷ f.mul c g1 ∷ f.mul c g0 ∷ []) (f.zero ∷ s)) e
      ∙ ap (λ s. s ∷ f.add (f.mul c g2) a ∷ f.add (f.mul c g1) b ∷ f.add (f.mul c g0) d ∷ rest) (axioms.add_zero (f.mul c f.one) ∙ axioms.mul_one c element)

  next_multiple : (r2 r1 r0 c : F) (rest : List F) → IsMultiple f (r2 ∷ r1 ∷ r0 ∷ c ∷ rest) divisor
      → IsMultiple f (f.add r1 (f.mul r2 g2) ∷ f.add r0 (f.mul r2 g1) ∷ f.add c (f.mul r2 g0) ∷ rest) divisor
  next_multiple r2 r1 r0 c rest ([], elements, e) = absurd cc
  next_multiple r2 r1 r0 c rest (d ∷ q, elements, e) =
      let p = product_parts q in
      let whole = product_cons d q p.0 p.1 p.2 p.3 (All-head f.IsElement d q elements) p.4 in
      let h1 = add_twice (f.mul d g2) p.0 in
      let h2 = add_twice (f.mul d g1) p.1 in
      let h3 = add_twice (f.mul d g0) p.2 in
      (q, All-tail f.IsElement d q elements, cc)

  add_around : (x y : F) → f.add x (f.add y x) ≡ y
  add_around x y = axioms.add_commutes x (f.add y x) ∙ ap (λ s. f.add s x) (axioms.add_commutes y x) ∙ add_twice x y

  earlier_multiple : (r2 r1 r0 c : F) (rest : List F) → f.IsElement r2
      → IsMultiple f (f.add r1 (f.mul r2 g2) ∷ f.add r0 (f.mul r2 g1) ∷ f.add c (f.mul r2 g0) ∷ rest) divisor → IsMultiple f (r2 ∷ r1 ∷ r0 ∷ c ∷ rest) divisor
  earlier_multiple r2 r1 r0 c rest element (q, elements, e) =
      let whole = product_cons r2 q (f.add r1 (f.mul r2 g2)) (f.add r0 (f.mul r2 g1)) (f.add c (f.mul r2 g0)) rest element (sym e) in
      let h1 = add_around (f.mul r2 g2) r1 in
      let h2 = add_around (f.mul r2 g1) r0 in
      let h3 = add_around (f.mul r2 g0) c in
      (r2 ∷ q, All-cons f.IsElement r2 q element elements, cc)

  -- A step of the division: what begins with r2 is a multiple exactly where it is one without r2 times the divisor.
  pub multiple_step : (r2 r1 r0 c : F) (rest : List F) → f.IsElement r2 → IsMultiple f (r2 ∷ r1 ∷ r0 ∷ c ∷ rest) divisor
      ↔ IsMultiple f (f.add r1 (f.mul r2 g2) ∷ f.add r0 (f.mul r2 g1) ∷ f.add c (f.mul r2 g0) ∷ rest) divisor
  multiple_step r2 r1 r0 c rest element = (next_multiple r2 r1 r0 c rest, earlier_multiple r2 r1 r0 c rest element)

  all_zero : (a b c : F) → IsMultiple f (a ∷ b ∷ c ∷ []) divisor → (a ≡ f.zero) × (b ≡ f.zero) × (c ≡ f.zero)
  all_zero a b c ([], elements, e) = ((cc), (cc), (cc))
  all_zero a b c (d ∷ q, elements, e) =
      let p = product_parts q in
      let whole = product_cons d q p.0 p.1 p.2 p.3 (All-head f.IsElement d q elements) p.4 in
      absurd cc

  -- A list of three coefficients is a multiple exactly where all are zero.
  pub multiple_of_three : (a b c : F) → IsMultiple f (a ∷ b ∷ c ∷ []) divisor ↔ ((a ≡ f.zero) × (b ≡ f.zero) × (c ≡ f.zero))
  multiple_of_three a b c = (all_zero a b c, λ (z : (a ≡ f.zero) × (b ≡ f.zero) × (c ≡ f.zero)). ([], All-nil f.IsElement, (cc)))

  zero_product : (x : F) → f.mul f.zero x ≡ f.zero
  zero_product x =
      axioms.mul_commutes f.zero x ∙ ap (f.mul x) (sym (axioms.add_zero f.zero)) ∙ axioms.mul_distributes x f.zero f.zero ∙ axioms.add_self (f.mul x f.zero)

  add_no_product : (x y : F) → f.add x (f.mul f.zero y) ≡ x
  add_no_product x y = ap (f.add x) (zero_product y) ∙ axioms.add_zero x

  -- A zero before three coefficients or more changes nothing.
  pub multiple_after_zero : (r1 r0 c : F) (rest : List F) → IsMultiple f (f.zero ∷ r1 ∷ r0 ∷ c ∷ rest) divisor ↔ IsMultiple f (r1 ∷ r0 ∷ c ∷ rest) divisor
  multiple_after_zero r1 r0 c rest =
      rw (add_no_product r1 g2, add_no_product r0 g1, add_no_product c g0) at (multiple_step f.zero r1 r0 c rest axioms.zero_element)
