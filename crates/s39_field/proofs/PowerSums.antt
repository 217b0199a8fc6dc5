-- Values at distinct places are zero where enough of their sums with powers of the places are.
use Rattle.std.proofs.Common.{All, AllPairs, ◌≡◌, ◌≢◌, ℕ, zero, suc, ◌+◌, ◌<◌, ◌≤◌, ◌⊎◌, List, [], ◌∷◌, length, get_or, map, remove}
use Rattle.std.proofs.Common.{refl, sym, ap, ap₂, ◌∙◌, subst, arith}
use Rattle.std.proofs.lemmas.List.{length-map, get_or-map}
use Rattle.std.proofs.lemmas.List.Edits.{length-remove}
use Rattle.std.proofs.lemmas.List.Elements.{All-map}
use Rattle.s39_field.specs.Field.{Operations, IsField}
use Rattle.s39_field.specs.Interpolation.{differences, weighted_sum}
use Rattle.s39_field.specs.Polynomial.{power, value_from}
use Rattle.s39_field.specs.PowerSums.{power_sum, PowerSumsDetermineValues}
use Rattle.s39_lists.proofs.Pairs.{All-from_map, AllPairs-map}
use Rattle.s39_field.proofs.Values.{add_of_sums, mul-zero_left, mul-zero_right, zero_add, zero_from_product, value_from-suc}
use Rattle.s39_field.proofs.LagrangeWeights.{elements-remove, contains-other, from_roots, length-from_roots}
use Rattle.s39_field.proofs.LagrangeWeights.{value-from_roots, differences-element, differences-zero, denominator-nonzero}

module _ {F : Type 0} (f : Operations F) (is : IsField f) where
  -- ---- weighted sums are linear

  weighted_sum-zeros : (ws places : List F) → weighted_sum f ws (map (λ place. f.zero) places) ≡ f.zero
  weighted_sum-zeros [] places = refl
  weighted_sum-zeros (w ∷ ws) [] = refl
  weighted_sum-zeros (w ∷ ws) (p ∷ ps) =
      ap₂ f.add (mul-zero_right f is w) (weighted_sum-zeros ws ps) ∙ is.add_zero f.zero

  weighted_sum-sums : (ws places : List F) (g h : F → F)
      → weighted_sum f ws (map (λ place. f.add (g place) (h place)) places)
      ≡ f.add (weighted_sum f ws (map g places)) (weighted_sum f ws (map h places))
  weighted_sum-sums [] places g h = sym (is.add_zero f.zero)
  weighted_sum-sums (w ∷ ws) [] g h = sym (is.add_zero f.zero)
  weighted_sum-sums (w ∷ ws) (p ∷ ps) g h =
      ap₂ f.add (is.mul_distributes w (g p) (h p)) (weighted_sum-sums ws ps g h)
      ∙ add_of_sums f is (f.mul w (g p)) (f.mul w (h p)) (weighted_sum f ws (map g ps)) (weighted_sum f ws (map h ps))

  weighted_sum-scaled : (ws places : List F) (c : F) (g : F → F)
      → weighted_sum f ws (map (λ place. f.mul c (g place)) places) ≡ f.mul c (weighted_sum f ws (map g places))
  weighted_sum-scaled [] places c g = sym (mul-zero_right f is c)
  weighted_sum-scaled (w ∷ ws) [] c g = sym (mul-zero_right f is c)
  weighted_sum-scaled (w ∷ ws) (p ∷ ps) c g =
      ap₂ f.add (exchanged w c (g p)) (weighted_sum-scaled ws ps c g)
      ∙ sym (is.mul_distributes c (f.mul w (g p)) (weighted_sum f ws (map g ps)))
    where
      exchanged : (a b d : F) → f.mul a (f.mul b d) ≡ f.mul b (f.mul a d)
      exchanged a b d =
          sym (is.mul_associates a b d) ∙ ap (λ m. f.mul m d) (is.mul_commutes a b) ∙ is.mul_associates b a d

  -- where all terms but that of i are zero, it is the sum
  weighted_sum-only : (ws values : List F) (i : ℕ) (d e : F)
      → i < length ws
      → i < length values
      → ((j : ℕ) → j < length values → j ≢ i → get_or values j f.zero ≡ f.zero)
      → weighted_sum f ws values ≡ f.mul (get_or ws i d) (get_or values i e)
  weighted_sum-only [] values i d e here there none = absurd (omega arith)
  weighted_sum-only (w ∷ ws) [] i d e here there none = absurd (omega arith)
  weighted_sum-only (w ∷ ws) (v ∷ vs) zero d e here there none =
      ap (f.add (f.mul w v)) (rest ws vs (λ j below. none (suc j) (omega arith) (omega arith))) ∙ is.add_zero (f.mul w v)
    where
      rest : (us ts : List F) → ((j : ℕ) → j < length ts → get_or ts j f.zero ≡ f.zero) → weighted_sum f us ts ≡ f.zero
      rest [] ts zeros = refl
      rest (u ∷ us) [] zeros = refl
      rest (u ∷ us) (t ∷ ts) zeros =
          ap₂ f.add
          (ap (f.mul u) (zeros 0 (omega arith)) ∙ mul-zero_right f is u)
          (rest us ts (λ j below. zeros (suc j) (omega arith)))
          ∙ is.add_zero f.zero
  weighted_sum-only (w ∷ ws) (v ∷ vs) (suc i) d e here there none =
      ap₂ f.add
      (ap (f.mul w) (none 0 (omega arith) (omega arith)) ∙ mul-zero_right f is w)
      (weighted_sum-only ws vs i d e (omega arith) (omega arith) (λ j below other. none (suc j) (omega arith) (omega arith)))
      ∙ zero_add f is (f.mul (get_or ws i d) (get_or vs i e))

  -- ---- power sums

  abbrev sum_of_powers : List F → List F → ℕ → F
  sum_of_powers places values n = weighted_sum f values (map (λ place. power f place n) places)

  sum_of_powers-is : (points : List (F × F)) (n : ℕ)
      → sum_of_powers (map (λ p. p.0) points) (map (λ p. p.1) points) n ≡ power_sum f points n
  sum_of_powers-is [] n = refl
  sum_of_powers-is (p ∷ ps) n = ap (f.add (f.mul p.1 (power f p.0 n))) (sum_of_powers-is ps n)

  -- where the power sums with the exponents of a polynomial's terms are zero, so is that with its values
  sum_of_values-zero : (places values cs : List F) (n : ℕ)
      → ((k : ℕ) → n ≤ k → k < n + length cs → sum_of_powers places values k ≡ f.zero)
      → weighted_sum f values (map (value_from f cs n) places) ≡ f.zero
  sum_of_values-zero places values [] n zeros = weighted_sum-zeros values places
  sum_of_values-zero places values (c ∷ cs) n zeros =
      weighted_sum-sums values places (λ place. f.mul c (power f place n)) (value_from f cs (suc n))
      ∙ ap₂ f.add
      (weighted_sum-scaled values places c (λ place. power f place n)
      ∙ ap (f.mul c) (zeros n (omega arith) (omega arith))
      ∙ mul-zero_right f is c)
      (sum_of_values-zero places values cs (suc n) (λ k low high. zeros k (omega arith) (omega arith)))
      ∙ is.add_zero f.zero

  values_zero : (places values : List F)
      → All f.IsElement places
      → All f.IsElement values
      → AllPairs (λ p q. p ≢ q) places
      → All (λ place. place ≢ f.zero) places
      → length values ≡ length places
      → ((n : ℕ) → 0 < n → n ≤ length places → sum_of_powers places values n ≡ f.zero)
      → All (λ value. value ≡ f.zero) values
  values_zero places values ep ev distinct nonzero same zeros i d below =
      let within : i < length places = omega arith in
      let place : F = get_or places i f.zero in
      let others : List F = remove places i in
      let cs : List F = from_roots f others in
      let count : length cs ≤ length places = omega (arith, length-from_roots f others, length-remove places i within) in
      let term : F → F = value_from f cs 1 in
      let is_term : (x : F) → term x ≡ f.mul (differences f x others) x =
      λ x. value_from-suc f is cs 0 x ∙ ap (λ v. f.mul v x) (value-from_roots f is others x) in
      let none : (j : ℕ) → j < length (map term places) → j ≢ i → get_or (map term places) j f.zero ≡ f.zero =
      λ j inside other.
      let here : j < length places = omega (arith, length-map places term) in
      let x : F = get_or places j f.zero in
      let among = contains-other places i j f.zero here (sides j i other) in
      get_or-map term places j f.zero f.zero here
      ∙ is_term x
      ∙ ap (λ p. f.mul p x) (differences-zero f is x others among.0 among.1 among.2)
      ∙ mul-zero_left f is x in
      let product : f.mul (get_or values i d) (term place) ≡ f.zero =
      ap (f.mul (get_or values i d)) (sym (get_or-map term places i f.zero f.zero within))
      ∙ sym (weighted_sum-only values (map term places) i d f.zero below (omega (arith, length-map places term)) none)
      ∙ sum_of_values-zero places values cs 1 (λ k low high. zeros k (omega arith) (omega arith)) in
      let difference : f.IsElement (differences f place others) =
      differences-element f is place others (ep i f.zero within) (elements-remove f.IsElement places i ep) in
      let some : term place ≢ f.zero =
      λ e. nonzero i f.zero within
      (zero_from_product f is (differences f place others) place difference
      (denominator-nonzero f is places ep distinct i within) (ep i f.zero within) (sym (is_term place) ∙ e)) in
      let element : f.IsElement (term place) =
      subst f.IsElement (sym (is_term place))
      (is.mul_element (differences f place others) place difference (ep i f.zero within)) in
      zero_from_product f is (term place) (get_or values i d) element some (ev i d below)
      (is.mul_commutes (term place) (get_or values i d) ∙ product)
    where
      sides : (a b : ℕ) → a ≢ b → (a < b) ⊎ (b < a)
      sides a b h = grind arith

  pub power_sums_determine_values : PowerSumsDetermineValues f
  power_sums_determine_values points ep ev distinct nonzero zeros =
      let place : F × F → F = λ point. point.0 in
      let value : F × F → F = λ point. point.1 in
      let count = length-map points place in
      All-from_map (λ v. v ≡ f.zero) value points
      (values_zero (map place points) (map value points)
      (All-map f.IsElement place points ep)
      (All-map f.IsElement value points ev)
      (AllPairs-map (λ p q. p ≢ q) place points distinct)
      (All-map (λ p. p ≢ f.zero) place points nonzero)
      (length-map points value ∙ sym count)
      (λ n low high. sum_of_powers-is points n ∙ zeros n low (omega arith)))
