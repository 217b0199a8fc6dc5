-- Products of differences over the places but one, as a loop over the places takes them.
use Rattle.std.proofs.Common.{◌≡◌, ◌≢◌, ℕ, zero, suc, ◌+◌, ◌<◌, ◌≤◌, List, [], ◌∷◌, ◌++◌, length, get_or, take, remove, refl, sym, ap, ◌∙◌, arith, length-take}
use Rattle.std.proofs.lemmas.List.{take_more}
use Rattle.s39_field.specs.Field.{Operations, IsField}
use Rattle.s39_field.specs.FieldProduct.{byte_field, byte_modulus}
use Rattle.s39_field.specs.Interpolation.{differences}
use Rattle.s39_field.specs.Theory.Powers.{byte_degree}
use Rattle.s39_field.specs.Theory.Residues.{product_modulo-lt}

pub remove-past : {X : Type 0} (xs : List X) (i : ℕ) → length xs ≤ i → remove xs i ≡ xs
remove-past [] zero h = refl
remove-past [] (suc i) h = refl
remove-past (x ∷ xs) zero h = absurd (omega arith)
remove-past (x ∷ xs) (suc i) h = ap (λ l. x ∷ l) (remove-past xs i (omega arith))

remove-last : {X : Type 0} (xs : List X) (x : X) → remove (xs ++ x ∷ []) (length xs) ≡ xs
remove-last [] x = refl
remove-last (y ∷ xs) x = ap (λ l. y ∷ l) (remove-last xs x)

remove-push : {X : Type 0} (xs : List X) (x : X) (i : ℕ) → i ≢ length xs → remove (xs ++ x ∷ []) i ≡ remove xs i ++ x ∷ []
remove-push [] x zero h = absurd (h refl)
remove-push [] x (suc zero) h = refl
remove-push [] x (suc (suc i)) h = refl
remove-push (y ∷ xs) x zero h = refl
remove-push (y ∷ xs) x (suc i) h = ap (λ l. y ∷ l) (remove-push xs x i (λ e. h (ap suc e)))

module _ {F : Type 0} (f : Operations F) (is : IsField f) where
  differences-push : (x : F) (ps : List F) (p : F) → differences f x (ps ++ p ∷ []) ≡ f.mul (differences f x ps) (f.add x p)
  differences-push x [] p = is.mul_commutes (f.add x p) f.one
  differences-push x (q ∷ ps) p =
      ap (f.mul (f.add x q)) (differences-push x ps p) ∙ sym (is.mul_associates (f.add x q) (differences f x ps) (f.add x p))

  -- one place more, that isn't the one left out
  pub differences-more : (x : F) (ps : List F) (i except : ℕ) (d : F)
      → i < length ps
      → i ≢ except
      → differences f x (remove (take (i + 1) ps) except) ≡ f.mul (differences f x (remove (take i ps) except)) (f.add x (get_or ps i d))
  differences-more x ps i except d below other =
      let size : length (take i ps) ≡ i = omega (arith, length-take i ps) in
      ap (λ l. differences f x (remove l except)) (take_more ps i d below)
      ∙ ap (differences f x) (remove-push (take i ps) (get_or ps i d) except (λ e. other (sym (e ∙ size))))
      ∙ differences-push x (remove (take i ps) except) (get_or ps i d)

  -- and where it is that one
  pub differences-own : (x : F) (ps : List F) (i except : ℕ) (d : F)
      → i < length ps
      → i ≡ except
      → differences f x (remove (take (i + 1) ps) except) ≡ differences f x (remove (take i ps) except)
  differences-own x ps i except d below same =
      let size : length (take i ps) ≡ i = omega (arith, length-take i ps) in
      ap (λ l. differences f x (remove l except)) (take_more ps i d below)
      ∙ ap (λ k. differences f x (remove (take i ps ++ get_or ps i d ∷ []) k)) (sym (size ∙ same))
      ∙ ap (differences f x) (remove-last (take i ps) (get_or ps i d))
      ∙ sym (ap (differences f x) (remove-past (take i ps) except (omega arith)))

  -- the product over all places has the difference of each as a factor
  differences-whole : (x : F) (ps : List F) (i : ℕ) (d : F)
      → i < length ps
      → differences f x ps ≡ f.mul (f.add x (get_or ps i d)) (differences f x (remove ps i))
  differences-whole x [] i d below = absurd (omega arith)
  differences-whole x (p ∷ ps) zero d below = refl
  differences-whole x (p ∷ ps) (suc i) d below =
      let a = f.add x p in
      let b = f.add x (get_or ps i d) in
      let rest = differences f x (remove ps i) in
      ap (f.mul a) (differences-whole x ps i d (omega arith))
      ∙ sym (is.mul_associates a b rest)
      ∙ ap (λ ab. f.mul ab rest) (is.mul_commutes a b)
      ∙ is.mul_associates b a rest

  -- so a division by that leaves the product over the others
  pub differences-divided : (x : F) (ps : List F) (i : ℕ) (d own : F)
      → i < length ps
      → own ≡ f.add x (get_or ps i d)
      → f.IsElement own
      → own ≢ f.zero
      → f.IsElement (differences f x (remove ps i))
      → f.mul (differences f x ps) (f.inv own) ≡ differences f x (remove ps i)
  differences-divided x ps i d own below own_is element nonzero rest_element =
      let rest = differences f x (remove ps i) in
      ap (λ w. f.mul w (f.inv own)) (differences-whole x ps i d below ∙ ap (λ o. f.mul o rest) (sym own_is) ∙ is.mul_commutes own rest)
      ∙ is.mul_associates rest own (f.inv own)
      ∙ ap (f.mul rest) (is.mul_inverse own element nonzero)
      ∙ is.mul_one rest rest_element

-- each product of bytes is a byte
pub bytes-differences : (x : ℕ) (ps : List ℕ) → byte_field.IsElement (differences byte_field x ps)
bytes-differences x [] = omega arith
bytes-differences x (p ∷ ps) = product_modulo-lt byte_modulus byte_degree (byte_field.add x p) (differences byte_field x ps)
