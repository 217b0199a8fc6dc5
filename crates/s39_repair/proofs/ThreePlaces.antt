-- Three values at known places, from three sums with powers of the places.
use Rattle.std.proofs.Common.{◌≡◌, ◌≢◌, ℕ, zero, suc, ◌+◌, List, [], ◌∷◌, get_or, refl, sym, ap, ap₂, ◌∙◌, arith, ⊎_elim}
use Rattle.std.specs.Prelude.{All}
use Rattle.std.proofs.Math.ListN.{set}
use Rattle.std.proofs.lemmas.Bool.{cases_eq}
use Rattle.std.proofs.lemmas.List.Elements.{All-head, All-tail, All-from_get_or}
use Rattle.s39_field.specs.Field.{Operations, IsField}
use Rattle.s39_field.specs.Polynomial.{power, value_from}
use Rattle.s39_field.specs.PowerSums.{power_sum}
use Rattle.s39_repair.specs.Sums.{value_of_sums}
use Rattle.s39_field.proofs.Values.{zero_add, add_exchanges, add_of_sums, same_from_sum, mul-zero_left, mul-zero_right, one_mul, distributes_left}
use Rattle.s39_field.proofs.Values.{zero_from_product}

module _ {F : Type 0} (f : Operations F) (is : IsField f) where
  -- ---- a polynomial whose coefficients are zero but at three places

  -- the term of one coefficient, and the value of the others
  value_from-set : (cs : List F) (i n : ℕ) (x : F)
      → value_from f cs n x ≡ f.add (f.mul (get_or cs i f.zero) (power f x (n + i))) (value_from f (set cs i f.zero) n x)
  value_from-set [] i n x = sym (ap (λ t. f.add t f.zero) (mul-zero_left f is (power f x (n + i))) ∙ is.add_zero f.zero)
  value_from-set (c ∷ cs) zero n x =
      let same : n + 0 ≡ n = omega arith in
      let rest = value_from f cs (suc n) x in
      sym (ap (λ m. f.add (f.mul c (power f x m)) (f.add (f.mul f.zero (power f x n)) rest)) same
      ∙ ap (λ t. f.add (f.mul c (power f x n)) (f.add t rest)) (mul-zero_left f is (power f x n))
      ∙ ap (f.add (f.mul c (power f x n))) (zero_add f is rest))
  value_from-set (c ∷ cs) (suc i) n x =
      let same : suc n + i ≡ n + suc i = omega arith in
      let here = f.mul c (power f x n) in
      ap (f.add here) (value_from-set cs i (suc n) x)
      ∙ add_exchanges f is here (f.mul (get_or cs i f.zero) (power f x (suc n + i))) (value_from f (set cs i f.zero) (suc n) x)
      ∙ ap (λ m. f.add (f.mul (get_or cs i f.zero) (power f x m)) (f.add here (value_from f (set cs i f.zero) (suc n) x))) same

  value_from-zeros : (cs : List F) (n : ℕ) (x : F) → All (λ c. c ≡ f.zero) cs → value_from f cs n x ≡ f.zero
  value_from-zeros [] n x all = refl
  value_from-zeros (c ∷ cs) n x all =
      ap₂ f.add
      (ap (λ a. f.mul a (power f x n)) (All-head (λ c. c ≡ f.zero) c cs all) ∙ mul-zero_left f is (power f x n))
      (value_from-zeros cs (suc n) x (All-tail (λ c. c ≡ f.zero) c cs all))
      ∙ is.add_zero f.zero

  set-other : (cs : List F) (i p : ℕ) → p ≢ i → get_or (set cs i f.zero) p f.zero ≡ get_or cs p f.zero
  set-other [] i p other = refl
  set-other (c ∷ cs) zero zero other = absurd (other refl)
  set-other (c ∷ cs) zero (suc p) other = refl
  set-other (c ∷ cs) (suc i) zero other = refl
  set-other (c ∷ cs) (suc i) (suc p) other = set-other cs i p (λ e. other (ap suc e))

  set-itself : (cs : List F) (i : ℕ) → get_or (set cs i f.zero) i f.zero ≡ f.zero
  set-itself [] i = refl
  set-itself (c ∷ cs) zero = refl
  set-itself (c ∷ cs) (suc i) = set-itself cs i

  abbrev term : List F → ℕ → F → ℕ → F
  term cs n x p = f.mul (get_or cs p f.zero) (power f x (n + p))

  pub three_terms : (cs : List F) (i j k n : ℕ) (x : F) → i ≢ j → i ≢ k → j ≢ k
      → ((p : ℕ) → p ≢ i → p ≢ j → p ≢ k → get_or cs p f.zero ≡ f.zero)
      → value_from f cs n x ≡ f.add (term cs n x i) (f.add (term cs n x j) (f.add (term cs n x k) f.zero))
  three_terms cs i j k n x ij ik jk none =
      let second = set cs i f.zero in
      let third = set second j f.zero in
      let last = set third k f.zero in
      let at_j : get_or second j f.zero ≡ get_or cs j f.zero = set-other cs i j (λ e. ij (sym e)) in
      let at_k : get_or third k f.zero ≡ get_or cs k f.zero =
      set-other second j k (λ e. jk (sym e)) ∙ set-other cs i k (λ e. ik (sym e)) in
      let zeros : All (λ c. c ≡ f.zero) last = All-from_get_or (λ c. c ≡ f.zero) last f.zero (λ p within. zero_at p) in
      value_from-set cs i n x
      ∙ ap (f.add (term cs n x i))
      (value_from-set second j n x
      ∙ ap₂ f.add (ap (λ c. f.mul c (power f x (n + j))) at_j)
      (value_from-set third k n x
      ∙ ap₂ f.add (ap (λ c. f.mul c (power f x (n + k))) at_k) (value_from-zeros last n x zeros)))
    where
      zero_at : (p : ℕ) → get_or (set (set (set cs i f.zero) j f.zero) k f.zero) p f.zero ≡ f.zero
      zero_at p =
          let second = set cs i f.zero in
          let third = set second j f.zero in
          ⊎_elim
          (λ at_k. ap (λ q. get_or (set third k f.zero) q f.zero) at_k ∙ set-itself third k)
          (λ off_k. set-other third k p off_k ∙ ⊎_elim
          (λ at_j. ap (λ q. get_or third q f.zero) at_j ∙ set-itself second j)
          (λ off_j. set-other second j p off_j ∙ ⊎_elim
          (λ at_i. ap (λ q. get_or second q f.zero) at_i ∙ set-itself cs i)
          (λ off_i. set-other cs i p off_i ∙ none p off_i off_j off_k)
          (cases_eq p i))
          (cases_eq p j))
          (cases_eq p k)

  -- ---- three values from three sums

  -- each value times the sum of its place and y
  abbrev scaled : F → List (F × F) → List (F × F)
  scaled y [] = []
  scaled y (point ∷ points) = (point.0, f.mul point.1 (f.add point.0 y)) ∷ scaled y points

  scaled_term : (v x y : F) (m : ℕ) → f.mul (f.mul v (f.add x y)) (power f x m)
      ≡ f.add (f.mul v (power f x (suc m))) (f.mul y (f.mul v (power f x m)))
  scaled_term v x y m =
      let p = power f x m in
      is.mul_associates v (f.add x y) p
      ∙ ap (f.mul v) (distributes_left f is x y p)
      ∙ is.mul_distributes v (f.mul x p) (f.mul y p)
      ∙ ap₂ f.add
      (ap (f.mul v) (is.mul_commutes x p))
      (sym (is.mul_associates v y p) ∙ ap (λ a. f.mul a p) (is.mul_commutes v y) ∙ is.mul_associates y v p)

  power_sum-scaled : (y : F) (points : List (F × F)) (m : ℕ)
      → power_sum f (scaled y points) m ≡ f.add (power_sum f points (suc m)) (f.mul y (power_sum f points m))
  power_sum-scaled y [] m = sym (ap (f.add f.zero) (mul-zero_right f is y) ∙ is.add_zero f.zero)
  power_sum-scaled y (point ∷ points) m =
      let here = f.mul point.1 (power f point.0 m) in
      let next = f.mul point.1 (power f point.0 (suc m)) in
      ap₂ f.add (scaled_term point.1 point.0 y m) (power_sum-scaled y points m)
      ∙ add_of_sums f is next (f.mul y here) (power_sum f points (suc m)) (f.mul y (power_sum f points m))
      ∙ ap (f.add (f.add next (power_sum f points (suc m)))) (sym (is.mul_distributes y here (power_sum f points m)))

  abbrev denominator : F → F → F → F
  denominator x y z = f.mul (f.mul (f.add x y) (f.add x z)) x

  pub denominator-nonzero : (x y z : F) → f.IsElement x → f.IsElement y → f.IsElement z → x ≢ f.zero → x ≢ y → x ≢ z → denominator x y z ≢ f.zero
  denominator-nonzero x y z ex ey ez nonzero xy xz e =
      let product = f.mul (f.add x y) (f.add x z) in
      let first = is.add_element x y ex ey in
      let second = is.add_element x z ex ez in
      nonzero (zero_from_product f is product x (is.mul_element (f.add x y) (f.add x z) first second)
      (λ none. xz (same_from_sum f is x z (zero_from_product f is (f.add x y) (f.add x z) first (λ s. xy (same_from_sum f is x y s)) second none)))
      ex e)

  pub value_is : (a b c x y z : F) → f.IsElement a → f.IsElement x → f.IsElement y → f.IsElement z → x ≢ f.zero → x ≢ y → x ≢ z
      → let points : List (F × F) = (x, a) ∷ (y, b) ∷ (z, c) ∷ [] in
      value_of_sums f (power_sum f points 1) (power_sum f points 2) (power_sum f points 3) x y z ≡ a
  value_is a b c x y z ea ex ey ez nonzero xy xz =
      let points : List (F × F) = (x, a) ∷ (y, b) ∷ (z, c) ∷ [] in
      let u = f.add (f.add (power_sum f points 3) (f.mul y (power_sum f points 2)))
      (f.mul z (f.add (power_sum f points 2) (f.mul y (power_sum f points 1)))) in
      let product = f.mul (f.add x y) (f.add x z) in
      let d = f.mul product x in
      let left : u ≡ power_sum f (scaled z (scaled y points)) 1 =
      sym (power_sum-scaled z (scaled y points) 1
      ∙ ap₂ (λ p q. f.add p (f.mul z q)) (power_sum-scaled y points 2) (power_sum-scaled y points 1)) in
      let one = power f x 1 in
      let first = f.mul (f.mul (f.mul a (f.add x y)) (f.add x z)) one in
      let gone_y : f.mul (f.mul (f.mul b (f.add y y)) (f.add y z)) (power f y 1) ≡ f.zero =
      ap (λ s. f.mul (f.mul (f.mul b s) (f.add y z)) (power f y 1)) (is.add_self y)
      ∙ ap (λ s. f.mul (f.mul s (f.add y z)) (power f y 1)) (mul-zero_right f is b)
      ∙ ap (λ s. f.mul s (power f y 1)) (mul-zero_left f is (f.add y z))
      ∙ mul-zero_left f is (power f y 1) in
      let gone_z : f.mul (f.mul (f.mul c (f.add z y)) (f.add z z)) (power f z 1) ≡ f.zero =
      ap (λ s. f.mul (f.mul (f.mul c (f.add z y)) s) (power f z 1)) (is.add_self z)
      ∙ ap (λ s. f.mul s (power f z 1)) (mul-zero_right f is (f.mul c (f.add z y)))
      ∙ mul-zero_left f is (power f z 1) in
      let alone : power_sum f (scaled z (scaled y points)) 1 ≡ first =
      ap₂ (λ p q. f.add first (f.add p (f.add q f.zero))) gone_y gone_z
      ∙ ap (λ s. f.add first (f.add f.zero s)) (is.add_zero f.zero)
      ∙ ap (f.add first) (is.add_zero f.zero)
      ∙ is.add_zero first in
      let gathered : first ≡ f.mul a d =
      ap₂ f.mul (is.mul_associates a (f.add x y) (f.add x z)) (one_mul f is x ex)
      ∙ is.mul_associates a product x in
      let ep : f.IsElement product = is.mul_element (f.add x y) (f.add x z) (is.add_element x y ex ey) (is.add_element x z ex ez) in
      let some : d ≢ f.zero = denominator-nonzero x y z ex ey ez nonzero xy xz in
      ap (λ t. f.mul t (f.inv d)) (left ∙ alone ∙ gathered)
      ∙ is.mul_associates a d (f.inv d)
      ∙ ap (f.mul a) (is.mul_inverse d (is.mul_element product x ep ex) some)
      ∙ is.mul_one a ea
