-- The value of a product of polynomials, read from the lowest power up or from the highest down.
use Rattle.std.proofs.Common.{◌≡◌, ℕ, zero, suc, ◌+◌, ◌-◌, ◌≤◌, List, [], ◌∷◌, ◌++◌, length, map, reverse, replicate}
use Rattle.std.proofs.Common.{refl, sym, ap, ap₂, ◌∙◌, arith}
use Rattle.std.proofs.lemmas.List.{length-map, length-reverse, reverse-append}
use Rattle.std.proofs.lemmas.Simd.{length-replicate}
use Rattle.std.proofs.lemmas.List.Elements.{All-head, All-tail}
use Rattle.s39_field.specs.Field.{Operations, IsField}
use Rattle.s39_field.specs.Polynomial.{power, value_from, value_at, sum_of, product_of}
use Rattle.s39_field.specs.PowerSums.{ValuesMultiply, ReversedValuesMultiply, MultiplesKeepRoots, ReversedMultiplesKeepRoots}
use Rattle.s39_field.proofs.FieldPowers.{power_of_sum}
use Rattle.s39_field.proofs.Values.{zero_add, mul-zero_left, mul-zero_right, distributes_left, add_of_sums}
use Rattle.s39_field.proofs.Values.{value_at-cons, value_at-sum, value_at-scaled}

module _ {F : Type 0} (f : Operations F) (is : IsField f) where
  value_at-zeros : (n : ℕ) (k : ℕ) (x : F) → value_from f (replicate n f.zero) k x ≡ f.zero
  value_at-zeros zero k x = refl
  value_at-zeros (suc n) k x =
      ap₂ f.add (mul-zero_left f is (power f x k)) (value_at-zeros n (suc k) x) ∙ is.add_zero f.zero

  pub values_multiply : ValuesMultiply f
  values_multiply [] g x elements = value_at-zeros (length g - 1) 0 x ∙ sym (mul-zero_left f is (value_at f g x))
  values_multiply (c ∷ q) g x elements =
      let first = All-head f.IsElement c q elements in
      let rest = values_multiply q g x (All-tail f.IsElement c q elements) in
      let Q = value_at f q x in
      let G = value_at f g x in
      value_at-sum f is (map (f.mul c) g) (f.zero ∷ product_of f q g) x
      ∙ ap₂ f.add
      (value_at-scaled f is c g x)
      (value_at-cons f is f.zero (product_of f q g) x is.zero_element
      ∙ zero_add f is (f.mul (value_at f (product_of f q g) x) x)
      ∙ ap (λ v. f.mul v x) rest
      ∙ is.mul_associates Q G x
      ∙ ap (f.mul Q) (is.mul_commutes G x)
      ∙ sym (is.mul_associates Q x G))
      ∙ sym (distributes_left f is c (f.mul Q x) G)
      ∙ ap (λ v. f.mul v G) (sym (value_at-cons f is c q x first))

  pub multiples_keep_roots : MultiplesKeepRoots f
  multiples_keep_roots xs g x multiple root =
      ap (λ cs. value_at f cs x) multiple.2
      ∙ values_multiply multiple.0 g x multiple.1
      ∙ ap (f.mul (value_at f multiple.0 x)) root
      ∙ mul-zero_right f is (value_at f multiple.0 x)

  -- ---- from the highest power down

  -- the value of coefficients that are read so: that of each belongs to as many powers as follow it
  abbrev pub reversed_value : List F → F → F
  reversed_value [] x = f.zero
  reversed_value (c ∷ cs) x = f.add (f.mul c (power f x (length cs))) (reversed_value cs x)

  value_from-push : (cs : List F) (c : F) (n : ℕ) (x : F)
      → value_from f (cs ++ c ∷ []) n x ≡ f.add (value_from f cs n x) (f.mul c (power f x (n + length cs)))
  value_from-push [] c n x =
      is.add_commutes (f.mul c (power f x n)) f.zero ∙ ap (λ k. f.add f.zero (f.mul c (power f x k))) (omega arith)
  value_from-push (d ∷ cs) c n x =
      ap (f.add (f.mul d (power f x n))) (value_from-push cs c (suc n) x)
      ∙ sym (is.add_associates (f.mul d (power f x n)) (value_from f cs (suc n) x) (f.mul c (power f x (suc n + length cs))))
      ∙ ap (λ k. f.add (value_from f (d ∷ cs) n x) (f.mul c (power f x k))) (omega arith)

  pub reversed_value-is : (cs : List F) (x : F) → value_at f (reverse cs) x ≡ reversed_value cs x
  reversed_value-is [] x = refl
  reversed_value-is (c ∷ cs) x =
      ap (λ l. value_at f l x) (reverse-append (c ∷ []) cs)
      ∙ value_from-push (reverse cs) c 0 x
      ∙ is.add_commutes (value_at f (reverse cs) x) (f.mul c (power f x (0 + length (reverse cs))))
      ∙ ap₂ f.add
      (ap (λ k. f.mul c (power f x k)) (omega (arith, length-reverse cs)))
      (reversed_value-is cs x)

  reversed-zero : (cs : List F) (x : F) → reversed_value (f.zero ∷ cs) x ≡ reversed_value cs x
  reversed-zero cs x =
      ap (λ t. f.add t (reversed_value cs x)) (mul-zero_left f is (power f x (length cs))) ∙ zero_add f is (reversed_value cs x)

  reversed-zeros : (n : ℕ) (x : F) → reversed_value (replicate n f.zero) x ≡ f.zero
  reversed-zeros zero x = refl
  reversed-zeros (suc n) x = reversed-zero (replicate n f.zero) x ∙ reversed-zeros n x

  reversed-scaled : (k : F) (cs : List F) (x : F) → reversed_value (map (f.mul k) cs) x ≡ f.mul k (reversed_value cs x)
  reversed-scaled k [] x = sym (mul-zero_right f is k)
  reversed-scaled k (c ∷ cs) x =
      ap₂ f.add
      (ap (λ n. f.mul (f.mul k c) (power f x n)) (length-map cs (f.mul k)) ∙ is.mul_associates k c (power f x (length cs)))
      (reversed-scaled k cs x)
      ∙ sym (is.mul_distributes k (f.mul c (power f x (length cs))) (reversed_value cs x))

  length-longer : (cs ds : List F) → length cs ≤ length ds → length (sum_of f cs ds) ≡ length ds
  length-longer [] ds short = refl
  length-longer (c ∷ cs) [] short = absurd (omega arith)
  length-longer (c ∷ cs) (d ∷ ds) short = ap suc (length-longer cs ds (omega arith))

  -- a shorter list before a longer one is shifted up
  reversed-sum : (cs ds : List F) (shift : ℕ) (x : F) → f.IsElement x → length cs + shift ≡ length ds
      → reversed_value (sum_of f cs ds) x ≡ f.add (f.mul (reversed_value cs x) (power f x shift)) (reversed_value ds x)
  reversed-sum [] ds shift x element lengths =
      sym (ap (λ t. f.add t (reversed_value ds x)) (mul-zero_left f is (power f x shift)) ∙ zero_add f is (reversed_value ds x))
  reversed-sum (c ∷ cs) [] shift x element lengths = absurd (omega arith)
  reversed-sum (c ∷ cs) (d ∷ ds) shift x element lengths =
      let p = power f x (length ds) in
      let below : length cs + shift ≡ length ds = omega arith in
      let size : length (sum_of f cs ds) ≡ length ds = length-longer cs ds (omega arith) in
      ap₂ f.add
      (ap (λ n. f.mul (f.add c d) (power f x n)) size ∙ distributes_left f is c d p)
      (reversed-sum cs ds shift x element below)
      ∙ add_of_sums f is (f.mul c p) (f.mul d p) (f.mul (reversed_value cs x) (power f x shift)) (reversed_value ds x)
      ∙ ap (λ t. f.add t (reversed_value (d ∷ ds) x))
      (ap (λ t. f.add t (f.mul (reversed_value cs x) (power f x shift)))
      (ap (λ n. f.mul c (power f x n)) (sym below)
      ∙ ap (f.mul c) (power_of_sum f is x (length cs) shift element)
      ∙ sym (is.mul_associates c (power f x (length cs)) (power f x shift)))
      ∙ sym (distributes_left f is (f.mul c (power f x (length cs))) (reversed_value cs x) (power f x shift)))

  length-product : (q : List F) (c : F) (g : List F) → length (product_of f q (c ∷ g)) ≡ length q + length g
  length-product [] c g = length-replicate (length (c ∷ g) - 1) f.zero ∙ omega arith
  length-product (b ∷ q) c g =
      let rest = length-product q c g in
      let same = length-map (c ∷ g) (f.mul b) in
      length-longer (map (f.mul b) (c ∷ g)) (f.zero ∷ product_of f q (c ∷ g)) (omega arith) ∙ omega arith

  values_multiply-reversed : (q g : List F) (x : F) → f.IsElement x
      → reversed_value (product_of f q g) x ≡ f.mul (reversed_value q x) (reversed_value g x)
  values_multiply-reversed [] g x element = reversed-zeros (length g - 1) x ∙ sym (mul-zero_left f is (reversed_value g x))
  values_multiply-reversed (c ∷ q) [] x element =
      reversed-zero (product_of f q []) x
      ∙ values_multiply-reversed q [] x element
      ∙ mul-zero_right f is (reversed_value q x)
      ∙ sym (mul-zero_right f is (reversed_value (c ∷ q) x))
  values_multiply-reversed (c ∷ q) (d ∷ g) x element =
      let G = reversed_value (d ∷ g) x in
      let p = power f x (length q) in
      reversed-sum (map (f.mul c) (d ∷ g)) (f.zero ∷ product_of f q (d ∷ g)) (length q) x element
      (omega (arith, length-map (d ∷ g) (f.mul c), length-product q d g))
      ∙ ap₂ f.add
      (ap (λ t. f.mul t p) (reversed-scaled c (d ∷ g) x)
      ∙ is.mul_associates c G p
      ∙ ap (f.mul c) (is.mul_commutes G p)
      ∙ sym (is.mul_associates c p G))
      (reversed-zero (product_of f q (d ∷ g)) x ∙ values_multiply-reversed q (d ∷ g) x element)
      ∙ sym (distributes_left f is (f.mul c p) (reversed_value q x) G)

  pub reversed_values_multiply : ReversedValuesMultiply f
  reversed_values_multiply q g x elements element =
      reversed_value-is (product_of f q g) x
      ∙ values_multiply-reversed q g x element
      ∙ sym (ap₂ f.mul (reversed_value-is q x) (reversed_value-is g x))

  pub reversed_multiples_keep_roots : ReversedMultiplesKeepRoots f
  reversed_multiples_keep_roots xs g x element multiple root =
      ap (λ cs. value_at f (reverse cs) x) multiple.2
      ∙ reversed_values_multiply multiple.0 g x multiple.1 element
      ∙ ap (f.mul (value_at f (reverse multiple.0) x)) root
      ∙ mul-zero_right f is (value_at f (reverse multiple.0) x)
