-- With the weights of distinct places, the sum of weight times value is the value of a polynomial through the points.
use Rattle.std.proofs.Common.{◌≡◌, ◌≢◌, ℕ, zero, suc, ◌+◌, ◌-◌, ◌<◌, ◌≤◌, ◌⊎◌, inl, inr, List, [], ◌∷◌, length, get_or}
use Rattle.std.proofs.Common.{take, drop, map, zip, remove, All, AllPairs, Contains, refl, sym, ap, ap₂, ◌∙◌, subst}
use Rattle.std.proofs.Common.{arith, length-take, length-drop}
use Rattle.std.proofs.lemmas.List.{length-map, get_or_default, get_or-take, get_or-drop}
use Rattle.std.proofs.lemmas.List.Edits.{length-remove}
use Rattle.std.proofs.lemmas.List.Elements.{All-nil, All-cons, All-head, All-tail, All-append, All-take, All-drop}
use Rattle.std.proofs.lemmas.List.Elements.{Contains-get_or, Contains-append_left, Contains-append_right}
use Rattle.std.specs.List.{range_with_len}
use Rattle.s39_field.specs.Field.{Operations, IsField}
use Rattle.s39_field.specs.Interpolation.{differences, weight, weighted_sum, WeightsInterpolate}
use Rattle.s39_field.specs.Polynomial.{value_at, sum_of}
use Rattle.s39_field.proofs.Values.{zero_add, mul-zero_left, mul-zero_right, one_mul, distributes_left}
use Rattle.s39_field.proofs.Values.{zero_from_product, same_from_sum, value_at-cons, value_at-sum}
use Rattle.s39_field.proofs.Values.{value_at-scaled, elements-sum, elements-scaled, length-sum}

-- ---- the places other than one

pub elements-remove : {X : Type 0} (P : X → Type 0) (xs : List X) (i : ℕ) → All P xs → All P (remove xs i)
elements-remove P xs i h = All-append P (take i xs) (drop (suc i) xs) (All-take P i xs h) (All-drop P (suc i) xs h)

pub contains-other : {X : Type 0} (xs : List X) (i k : ℕ) (d : X) → k < length xs → (k < i) ⊎ (i < k) → Contains (remove xs i) (get_or xs k d)
contains-other xs i k d below (inl before) =
    Contains-append_left (take i xs) (drop (suc i) xs) (get_or xs k d)
    (subst (Contains (take i xs)) (get_or-take i xs k d before)
    (Contains-get_or (take i xs) k d (omega (arith, length-take i xs))))
contains-other xs i k d below (inr after) =
    let place : suc i + (k - suc i) ≡ k = omega arith in
    Contains-append_right (take i xs) (drop (suc i) xs) (get_or xs k d)
    (subst (Contains (drop (suc i) xs)) (get_or-drop (suc i) xs (k - suc i) d ∙ ap (λ j. get_or xs j d) place)
    (Contains-get_or (drop (suc i) xs) (k - suc i) d (omega (arith, length-drop (suc i) xs))))

-- what holds of each two elements, either way round, holds of one and each other
apart-remove : {X : Type 0} (R : X → X → Type 0) (xs : List X) (k : ℕ) (e : X)
    → ((x y : X) → R x y → R y x)
    → AllPairs R xs
    → k < length xs
    → All (R (get_or xs k e)) (remove xs k)
apart-remove R xs k e turn h below =
    let x = get_or xs k e in
    All-append (R x) (take k xs) (drop (suc k) xs)
    (λ i d within.
    let first : i < k = omega (arith, length-take k xs) in
    subst (R x) (sym (get_or-take k xs i d first))
    (subst (λ y. R y (get_or xs i d)) (get_or_default xs k d e below) (turn (get_or xs i d) (get_or xs k d) (h i k d first below))))
    (λ i d within.
    let later : suc k + i < length xs = omega (arith, length-drop (suc k) xs) in
    subst (R x) (sym (get_or-drop (suc k) xs i d))
    (subst (λ y. R y (get_or xs (suc k + i) d)) (get_or_default xs k d e below) (h k (suc k + i) d (omega arith) later)))

-- ---- products of differences, and the polynomials with given roots

-- the polynomial that is the product of x - place over the places
abbrev pub from_roots : {F : Type 0} (f : Operations F) → List F → List F
from_roots f [] = f.one ∷ []
from_roots f (p ∷ ps) = sum_of f (map (f.mul p) (from_roots f ps)) (f.zero ∷ from_roots f ps)

pub length-from_roots : {F : Type 0} (f : Operations F) (ps : List F) → length (from_roots f ps) ≤ suc (length ps)
length-from_roots f [] = omega arith
length-from_roots f (p ∷ ps) =
    let rest = length-from_roots f ps in
    length-sum f (suc (suc (length ps))) (map (f.mul p) (from_roots f ps)) (f.zero ∷ from_roots f ps)
    (omega (arith, length-map (from_roots f ps) (f.mul p)))
    (omega arith)

module _ {F : Type 0} (f : Operations F) (is : IsField f) where
  pub elements-from_roots : (ps : List F) → All f.IsElement ps → All f.IsElement (from_roots f ps)
  elements-from_roots [] h = All-cons f.IsElement f.one [] is.one_element (All-nil f.IsElement)
  elements-from_roots (p ∷ ps) h =
      let rest = elements-from_roots ps (All-tail f.IsElement p ps h) in
      elements-sum f is (map (f.mul p) (from_roots f ps)) (f.zero ∷ from_roots f ps)
      (elements-scaled f is p (from_roots f ps) (All-head f.IsElement p ps h) rest)
      (All-cons f.IsElement f.zero (from_roots f ps) is.zero_element rest)

  pub value-from_roots : (ps : List F) (x : F) → value_at f (from_roots f ps) x ≡ differences f x ps
  value-from_roots [] x = is.add_zero (f.mul f.one f.one) ∙ is.mul_one f.one is.one_element
  value-from_roots (p ∷ ps) x =
      let cs = from_roots f ps in
      let v = value_at f cs x in
      value_at-sum f is (map (f.mul p) cs) (f.zero ∷ cs) x
      ∙ ap₂ f.add (value_at-scaled f is p cs x) (value_at-cons f is f.zero cs x is.zero_element ∙ zero_add f is (f.mul v x) ∙ is.mul_commutes v x)
      ∙ is.add_commutes (f.mul p v) (f.mul x v)
      ∙ sym (distributes_left f is x p v)
      ∙ ap (f.mul (f.add x p)) (value-from_roots ps x)

  pub differences-element : (x : F) (ps : List F) → f.IsElement x → All f.IsElement ps → f.IsElement (differences f x ps)
  differences-element x [] element h = is.one_element
  differences-element x (p ∷ ps) element h =
      is.mul_element (f.add x p) (differences f x ps)
      (is.add_element x p element (All-head f.IsElement p ps h))
      (differences-element x ps element (All-tail f.IsElement p ps h))

  -- at one of the places the product is zero
  pub differences-zero : (x : F) (ps : List F) (k : ℕ) → k < length ps → get_or ps k x ≡ x → differences f x ps ≡ f.zero
  differences-zero x [] k below same = absurd (omega arith)
  differences-zero x (p ∷ ps) zero below same =
      ap (λ y. f.mul y (differences f x ps)) (ap (f.add x) same ∙ is.add_self x) ∙ mul-zero_left f is (differences f x ps)
  differences-zero x (p ∷ ps) (suc k) below same =
      ap (f.mul (f.add x p)) (differences-zero x ps k (omega arith) same) ∙ mul-zero_right f is (f.add x p)

  -- elsewhere it isn't
  differences-nonzero : (x : F) (ps : List F) → f.IsElement x → All f.IsElement ps → All (λ p. x ≢ p) ps → differences f x ps ≢ f.zero
  differences-nonzero x [] element h apart = is.distinct
  differences-nonzero x (p ∷ ps) element h apart =
      λ e. differences-nonzero x ps element (All-tail f.IsElement p ps h) (All-tail (λ q. x ≢ q) p ps apart)
      (zero_from_product f is (f.add x p) (differences f x ps)
      (is.add_element x p element (All-head f.IsElement p ps h))
      (λ s. All-head (λ q. x ≢ q) p ps apart (same_from_sum f is x p s))
      (differences-element x ps element (All-tail f.IsElement p ps h))
      e)

  -- ---- weighted sums

  weighted_sum-zero : (w : ℕ → F) (values : List F) (i : ℕ)
      → ((j : ℕ) → i ≤ j → j < i + length values → w j ≡ f.zero)
      → weighted_sum f (map w (range_with_len i (length values))) values ≡ f.zero
  weighted_sum-zero w [] i none = refl
  weighted_sum-zero w (v ∷ vs) i none =
      ap₂ f.add
      (ap (λ u. f.mul u v) (none i (omega arith) (omega arith)) ∙ mul-zero_left f is v)
      (weighted_sum-zero w vs (i + 1) (λ j low high. none j (omega arith) (omega arith)))
      ∙ is.add_zero f.zero

  -- weights that are 1 at k and 0 elsewhere pick the value of k
  weighted_sum-pick : (w : ℕ → F) (values : List F) (i k : ℕ) (d : F)
      → All f.IsElement values
      → i ≤ k
      → k < i + length values
      → w k ≡ f.one
      → ((j : ℕ) → i ≤ j → j < i + length values → j ≢ k → w j ≡ f.zero)
      → weighted_sum f (map w (range_with_len i (length values))) values ≡ get_or values (k - i) d
  weighted_sum-pick w [] i k d elements low high one none = absurd (omega arith)
  weighted_sum-pick w (v ∷ vs) i k d elements low high one none =
      elim (same_or_above i k low) [
        | inl same ↦
            let here : k - i ≡ 0 = omega arith in
            ap₂ f.add
            (ap (λ j. f.mul (w j) v) same ∙ ap (λ u. f.mul u v) one ∙ one_mul f is v (All-head f.IsElement v vs elements))
            (weighted_sum-zero w vs (i + 1) (λ j l h. none j (omega arith) (omega arith) (omega arith)))
            ∙ is.add_zero v
            ∙ ap (λ j. get_or (v ∷ vs) j d) (sym here)
        | inr above ↦
            let there : suc (k - (i + 1)) ≡ k - i = omega arith in
            ap₂ f.add
            (ap (λ u. f.mul u v) (none i (omega arith) (omega arith) (omega arith)) ∙ mul-zero_left f is v)
            (weighted_sum-pick w vs (i + 1) k d (All-tail f.IsElement v vs elements) (omega arith) (omega arith) one
            (λ j l h. none j (omega arith) (omega arith)))
            ∙ zero_add f is (get_or vs (k - (i + 1)) d)
            ∙ ap (λ j. get_or (v ∷ vs) j d) there
      ]
    where
      same_or_above : (a b : ℕ) → a ≤ b → (a ≡ b) ⊎ (a < b)
      same_or_above a b h = grind arith

  -- ---- the polynomial through the points

  module _ (places : List F) (elements : All f.IsElement places) where
    -- the polynomial that is 1 at place i and 0 at the others
    abbrev basis : ℕ → List F
    basis i = map (f.mul (f.inv (differences f (get_or places i f.zero) (remove places i)))) (from_roots f (remove places i))

    inverse-element : (i : ℕ) → i < length places → f.IsElement (f.inv (differences f (get_or places i f.zero) (remove places i)))
    inverse-element i below =
        is.inv_element (differences f (get_or places i f.zero) (remove places i))
        (differences-element (get_or places i f.zero) (remove places i) (elements i f.zero below) (elements-remove f.IsElement places i elements))

    value-basis : (i : ℕ) (x : F) → value_at f (basis i) x ≡ weight f places x i
    value-basis i x =
        let inverse = f.inv (differences f (get_or places i f.zero) (remove places i)) in
        value_at-scaled f is inverse (from_roots f (remove places i)) x
        ∙ ap (f.mul inverse) (value-from_roots (remove places i) x)
        ∙ is.mul_commutes inverse (differences f x (remove places i))

    -- the basis polynomials from i on, each times its value
    abbrev combination : List F → ℕ → List F
    combination [] i = []
    combination (v ∷ vs) i = sum_of f (map (f.mul v) (basis i)) (combination vs (i + 1))

    value-combination : (values : List F) (i : ℕ) (x : F)
        → value_at f (combination values i) x ≡ weighted_sum f (map (weight f places x) (range_with_len i (length values))) values
    value-combination [] i x = refl
    value-combination (v ∷ vs) i x =
        value_at-sum f is (map (f.mul v) (basis i)) (combination vs (i + 1)) x
        ∙ ap₂ f.add
        (value_at-scaled f is v (basis i) x ∙ ap (f.mul v) (value-basis i x) ∙ is.mul_commutes v (weight f places x i))
        (value-combination vs (i + 1) x)

    length-combination : (values : List F) (i : ℕ) → i + length values ≤ length places → length (combination values i) ≤ length places
    length-combination [] i h = omega arith
    length-combination (v ∷ vs) i h =
        let others = remove places i in
        let roots = from_roots f others in
        let inverse = f.inv (differences f (get_or places i f.zero) others) in
        length-sum f (length places) (map (f.mul v) (basis i)) (combination vs (i + 1))
        (omega (arith, length-map (basis i) (f.mul v), length-map roots (f.mul inverse), length-from_roots f others, length-remove places i (omega arith)))
        (length-combination vs (i + 1) (omega arith))

    elements-combination : (values : List F) (i : ℕ) → All f.IsElement values → i + length values ≤ length places → All f.IsElement (combination values i)
    elements-combination [] i h within = All-nil f.IsElement
    elements-combination (v ∷ vs) i h within =
        elements-sum f is (map (f.mul v) (basis i)) (combination vs (i + 1))
        (elements-scaled f is v (basis i) (All-head f.IsElement v vs h)
        (elements-scaled f is (f.inv (differences f (get_or places i f.zero) (remove places i))) (from_roots f (remove places i))
        (inverse-element i (omega arith))
        (elements-from_roots (remove places i) (elements-remove f.IsElement places i elements))))
        (elements-combination vs (i + 1) (All-tail f.IsElement v vs h) (omega arith))

    module _ (distinct : AllPairs (λ p q. p ≢ q) places) where
      -- no weight's denominator is zero
      pub denominator-nonzero : (k : ℕ) → k < length places → differences f (get_or places k f.zero) (remove places k) ≢ f.zero
      denominator-nonzero k below =
          differences-nonzero (get_or places k f.zero) (remove places k) (elements k f.zero below)
          (elements-remove f.IsElement places k elements)
          (apart-remove (λ p q. p ≢ q) places k f.zero (λ p q ne e. ne (sym e)) distinct below)

      weight-own : (k : ℕ) → k < length places → weight f places (get_or places k f.zero) k ≡ f.one
      weight-own k below =
          let x = get_or places k f.zero in
          let others = remove places k in
          is.mul_inverse (differences f x others)
          (differences-element x others (elements k f.zero below) (elements-remove f.IsElement places k elements))
          (denominator-nonzero k below)

      weight-other : (k j : ℕ) → k < length places → j ≢ k → weight f places (get_or places k f.zero) j ≡ f.zero
      weight-other k j below other =
          let x = get_or places k f.zero in
          let denominator = f.inv (differences f (get_or places j f.zero) (remove places j)) in
          let among = contains-other places j k f.zero below (sides k j other) in
          ap (λ n. f.mul n denominator) (differences-zero x (remove places j) among.0 among.1 among.2)
          ∙ mul-zero_left f is denominator
        where
          sides : (a b : ℕ) → b ≢ a → (a < b) ⊎ (b < a)
          sides a b h = grind arith

      value-at_place : (values : List F) (k : ℕ)
          → All f.IsElement values
          → length values ≡ length places
          → k < length places
          → value_at f (combination values 0) (get_or places k f.zero) ≡ get_or values k f.zero
      value-at_place values k h same below =
          value-combination values 0 (get_or places k f.zero)
          ∙ weighted_sum-pick (weight f places (get_or places k f.zero)) values 0 k f.zero h (omega arith) (omega arith)
          (weight-own k below) (λ j l u other. weight-other k j below other)
          ∙ ap (λ i. get_or values i f.zero) (omega arith)

-- ---- points as pairs

get_or-zip : {X Y : Type 0} (xs : List X) (ys : List Y) (k : ℕ) (d : X × Y)
    → length ys ≡ length xs
    → get_or (zip xs ys) k d ≡ (get_or xs k d.0, get_or ys k d.1)
get_or-zip [] [] k d same = refl
get_or-zip [] (y ∷ ys) k d same = absurd (omega arith)
get_or-zip (x ∷ xs) [] k d same = absurd (omega arith)
get_or-zip (x ∷ xs) (y ∷ ys) zero d same = refl
get_or-zip (x ∷ xs) (y ∷ ys) (suc k) d same = get_or-zip xs ys k d (omega arith)

length-zip : {X Y : Type 0} (xs : List X) (ys : List Y) → length ys ≡ length xs → length (zip xs ys) ≡ length xs
length-zip [] ys same = refl
length-zip (x ∷ xs) [] same = absurd (omega arith)
length-zip (x ∷ xs) (y ∷ ys) same = ap suc (length-zip xs ys (omega arith))

pub weights_interpolate : {F : Type 0} (f : Operations F) → IsField f → WeightsInterpolate f
weights_interpolate {F} f is places values x ep ev distinct same =
    let coefficients : List F = combination f is places ep values 0 in
    let sizes = length-zip places values same in
    record {
      coefficients = coefficients;
      elements = elements-combination f is places ep values 0 ev (omega arith);
      no_longer = omega (arith, length-combination f is places ep values 0 (omega arith));
      through = λ k d below.
          let within : k < length places = omega arith in
          subst (λ (point : F × F). value_at f coefficients point.0 ≡ point.1) (sym (get_or-zip places values k d same))
          (ap (value_at f coefficients) (get_or_default places k d.0 f.zero within)
          ∙ value-at_place f is places ep distinct values k ev same within
          ∙ get_or_default values k f.zero d.1 (omega arith));
      takes =
          value-combination f is places ep values 0 x
          ∙ ap (λ n. weighted_sum f (map (weight f places x) (range_with_len 0 n)) values) same;
    }
