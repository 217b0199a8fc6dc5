-- Points determine the value of a polynomial that has no more coefficients than there are points.
use Rattle.std.proofs.Common.{◌≡◌, ◌≢◌, suc, ◌≤◌, List, [], ◌∷◌, length, get_or, map, All, AllPairs, refl, sym, ap, ap₂, ◌∙◌, subst, arith}
use Rattle.std.proofs.lemmas.List.Elements.{All-nil, All-cons, All-head, All-tail, All-map}
use Rattle.std.proofs.lemmas.List.{length-map}
use Rattle.s39_field.specs.Field.{Operations, IsField}
use Rattle.s39_field.specs.Interpolation.{PlacesDetermineCoefficients, PlacesDetermineValues, PointsHaveOneValue}
use Rattle.s39_field.specs.Polynomial.{value_at, sum_of}
use Rattle.s39_lists.proofs.Pairs.{AllPairs-head, AllPairs-tail, AllPairs-map}
use Rattle.s39_field.proofs.Values.{zero_add, add_exchanges, add_cancels, same_from_sum, mul-zero_right}
use Rattle.s39_field.proofs.Values.{mul-zero_left, distributes_left, zero_from_product, value_at-cons}
use Rattle.s39_field.proofs.Values.{value_at-element, value_at-sum, elements-sum, length-sum}

-- the values at a of a polynomial's ends
abbrev tail_values : {F : Type 0} (f : Operations F) → List F → F → List F
tail_values f [] a = []
tail_values f (c ∷ cs) a = value_at f (c ∷ cs) a ∷ tail_values f cs a

length-tail_values : {F : Type 0} (f : Operations F) (cs : List F) (a : F) → length (tail_values f cs a) ≡ length cs
length-tail_values f [] a = refl
length-tail_values f (c ∷ cs) a = ap suc (length-tail_values f cs a)

module _ {F : Type 0} (f : Operations F) (is : IsField f) where
  elements-tail_values : (cs : List F) (a : F) → All f.IsElement cs → f.IsElement a → All f.IsElement (tail_values f cs a)
  elements-tail_values [] a elements element = All-nil f.IsElement
  elements-tail_values (c ∷ cs) a elements element =
      All-cons f.IsElement (value_at f (c ∷ cs) a) (tail_values f cs a)
      (value_at-element f is (c ∷ cs) a elements element)
      (elements-tail_values cs a (All-tail f.IsElement c cs elements) element)

  sorted : (a b t c : F) → f.add c (f.add t a) ≡ f.add (f.add (f.add a b) t) (f.add c b)
  sorted a b t c =
      let s = f.add (f.add a b) t in
      let gathered : f.add s b ≡ f.add t a =
      is.add_associates (f.add a b) t b
      ∙ ap (f.add (f.add a b)) (is.add_commutes t b)
      ∙ is.add_associates a b (f.add b t)
      ∙ ap (f.add a) (add_cancels f is b t)
      ∙ is.add_commutes a t in
      ap (f.add c) (sym gathered) ∙ add_exchanges f is c s b

  -- division by x - a: the quotient's coefficients are the values of the ends, the remainder is the value at a
  division : (c : F) (cs : List F) (x a : F)
      → f.IsElement c
      → All f.IsElement cs
      → f.IsElement a
      → value_at f (c ∷ cs) x ≡ f.add (f.mul (f.add x a) (value_at f (tail_values f cs a) x)) (value_at f (c ∷ cs) a)
  division c [] x a first elements element =
      sym (ap (λ s. f.add s (value_at f (c ∷ []) a)) (mul-zero_right f is (f.add x a)) ∙ zero_add f is (value_at f (c ∷ []) a))
  division c (d ∷ ds) x a first elements element =
      let r = value_at f (d ∷ ds) a in
      let q = value_at f (tail_values f ds a) x in
      let u = f.add x a in
      let t = f.mul (f.mul u q) x in
      let second = All-head f.IsElement d ds elements in
      let rest = All-tail f.IsElement d ds elements in
      let is_r : f.IsElement r = value_at-element f is (d ∷ ds) a elements element in
      let left : value_at f (c ∷ d ∷ ds) x ≡ f.add c (f.add t (f.mul r x)) =
      value_at-cons f is c (d ∷ ds) x first
      ∙ ap (λ v. f.add c (f.mul v x)) (division d ds x a second rest element)
      ∙ ap (f.add c) (distributes_left f is (f.mul u q) r x) in
      let product : f.mul u (value_at f (tail_values f (d ∷ ds) a) x) ≡ f.add (f.add (f.mul r x) (f.mul r a)) t =
      ap (f.mul u) (value_at-cons f is r (tail_values f ds a) x is_r)
      ∙ is.mul_distributes u r (f.mul q x)
      ∙ ap₂ f.add (is.mul_commutes u r ∙ is.mul_distributes r x a) (sym (is.mul_associates u q x)) in
      left
      ∙ sorted (f.mul r x) (f.mul r a) t c
      ∙ ap₂ f.add (sym product) (sym (value_at-cons f is c (d ∷ ds) a first))

  value_at-zeros : (cs : List F) (x : F) → All f.IsElement cs → All (λ c. c ≡ f.zero) cs → value_at f cs x ≡ f.zero
  value_at-zeros [] x elements zeros = refl
  value_at-zeros (c ∷ cs) x elements zeros =
      let rest = value_at-zeros cs x (All-tail f.IsElement c cs elements) (All-tail (λ k. k ≡ f.zero) c cs zeros) in
      value_at-cons f is c cs x (All-head f.IsElement c cs elements)
      ∙ ap₂ f.add (All-head (λ k. k ≡ f.zero) c cs zeros) (ap (λ v. f.mul v x) rest ∙ mul-zero_left f is x)
      ∙ is.add_zero f.zero

  -- where the other coefficients are zero, and a value is, so is the first one
  first-zero : (c : F) (cs : List F) (x : F) → All f.IsElement (c ∷ cs) → All (λ k. k ≡ f.zero) cs → value_at f (c ∷ cs) x ≡ f.zero → c ≡ f.zero
  first-zero c cs x elements zeros at_x =
      let rest = value_at-zeros cs x (All-tail f.IsElement c cs elements) zeros in
      sym (is.add_zero c)
      ∙ ap (f.add c) (sym (ap (λ v. f.mul v x) rest ∙ mul-zero_left f is x))
      ∙ sym (value_at-cons f is c cs x (All-head f.IsElement c cs elements))
      ∙ at_x

  zeros_from_ends : (cs : List F) (a : F) → All f.IsElement cs → All (λ v. v ≡ f.zero) (tail_values f cs a) → All (λ c. c ≡ f.zero) cs
  zeros_from_ends [] a elements ends = All-nil (λ c. c ≡ f.zero)
  zeros_from_ends (c ∷ cs) a elements ends =
      let end = value_at f (c ∷ cs) a in
      let rest = zeros_from_ends cs a (All-tail f.IsElement c cs elements) (All-tail (λ v. v ≡ f.zero) end (tail_values f cs a) ends) in
      All-cons (λ k. k ≡ f.zero) c cs
      (first-zero c cs a elements rest (All-head (λ v. v ≡ f.zero) end (tail_values f cs a) ends))
      rest

  -- a polynomial with no more coefficients than it has roots has zeros alone
  zeros_from_roots : (places cs : List F)
      → All f.IsElement places
      → All f.IsElement cs
      → AllPairs (λ p q. p ≢ q) places
      → length cs ≤ length places
      → All (λ p. value_at f cs p ≡ f.zero) places
      → All (λ c. c ≡ f.zero) cs
  zeros_from_roots [] [] ep ec distinct short roots = All-nil (λ c. c ≡ f.zero)
  zeros_from_roots [] (c ∷ cs) ep ec distinct short roots = absurd (omega arith)
  zeros_from_roots (p ∷ ps) [] ep ec distinct short roots = All-nil (λ c. c ≡ f.zero)
  zeros_from_roots (p ∷ ps) (c ∷ cs) ep ec distinct short roots =
      let first = All-head f.IsElement c cs ec in
      let rest = All-tail f.IsElement c cs ec in
      let place = All-head f.IsElement p ps ep in
      let places = All-tail f.IsElement p ps ep in
      let quotient = tail_values f cs p in
      let elements = elements-tail_values cs p rest place in
      let at_p = All-head (λ r. value_at f (c ∷ cs) r ≡ f.zero) p ps roots in
      let others = All-tail (λ r. value_at f (c ∷ cs) r ≡ f.zero) p ps roots in
      let apart = AllPairs-head (λ r s. r ≢ s) p ps distinct in
      let is_product : (y : F) → value_at f (c ∷ cs) y ≡ f.mul (f.add y p) (value_at f quotient y) =
      λ y. division c cs y p first rest place
      ∙ ap (f.add (f.mul (f.add y p) (value_at f quotient y))) at_p
      ∙ is.add_zero (f.mul (f.add y p) (value_at f quotient y)) in
      let roots_of_quotient : All (λ r. value_at f quotient r ≡ f.zero) ps =
      λ k d below.
      let r = get_or ps k d in
      zero_from_product f is (f.add r p) (value_at f quotient r)
      (is.add_element r p (places k d below) place)
      (λ e. apart k d below (sym (same_from_sum f is r p e)))
      (value_at-element f is quotient r elements (places k d below))
      (sym (is_product r) ∙ others k d below) in
      let none =
      zeros_from_roots ps quotient places elements (AllPairs-tail (λ r s. r ≢ s) p ps distinct)
      (omega (arith, length-tail_values f cs p)) roots_of_quotient in
      let zeros = zeros_from_ends cs p rest none in
      All-cons (λ k. k ≡ f.zero) c cs (first-zero c cs p ec zeros at_p) zeros

  -- two polynomials with no more coefficients than places, equal at each place, have the same coefficients
  pub places_determine_coefficients : PlacesDetermineCoefficients f
  places_determine_coefficients places cs ds ep ec ed distinct short also_short same =
      let roots : All (λ p. value_at f (sum_of f cs ds) p ≡ f.zero) places =
      λ k d below.
      let p = get_or places k d in
      value_at-sum f is cs ds p ∙ ap (λ v. f.add v (value_at f ds p)) (same k d below) ∙ is.add_self (value_at f ds p) in
      zeros_from_roots places (sum_of f cs ds) ep (elements-sum f is cs ds ec ed) distinct (length-sum f (length places) cs ds short also_short) roots

  -- so they are equal everywhere
  pub places_determine_values : PlacesDetermineValues f
  places_determine_values places cs ds ep ec ed distinct short also_short same x =
      same_from_sum f is (value_at f cs x) (value_at f ds x)
      (sym (value_at-sum f is cs ds x)
      ∙ value_at-zeros (sum_of f cs ds) x (elements-sum f is cs ds ec ed)
      (places_determine_coefficients places cs ds ep ec ed distinct short also_short same))

  -- points at distinct places have one value at x
  pub points_have_one_value : PointsHaveOneValue f
  points_have_one_value points x y z elements distinct h k =
      let place : F × F → F = λ point. point.0 in
      let places = map place points in
      let count : length places ≡ length points = length-map points place in
      let same : All (λ p. value_at f h.coefficients p ≡ value_at f k.coefficients p) places =
      All-map (λ p. value_at f h.coefficients p ≡ value_at f k.coefficients p) place points
      (λ i d below. h.through i d below ∙ sym (k.through i d below)) in
      sym h.takes
      ∙ places_determine_values places h.coefficients k.coefficients
      (All-map f.IsElement place points elements) h.elements k.elements
      (AllPairs-map (λ p q. p ≢ q) place points distinct)
      (subst (λ n. length h.coefficients ≤ n) (sym count) h.no_longer)
      (subst (λ n. length k.coefficients ≤ n) (sym count) k.no_longer)
      same x
      ∙ k.takes
