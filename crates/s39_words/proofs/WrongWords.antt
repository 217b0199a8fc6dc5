-- Two lists of words with a valid checksum that differ in three places at most are the same.
use Rattle.std.proofs.Common.{◌≡◌, ◌≢◌, ℕ, zero, suc, ◌+◌, ◌-◌, ◌<◌, ◌≤◌, Bool, true, false, List, [], ◌∷◌, ◌++◌}
use Rattle.std.proofs.Common.{length, refl, sym, ap, ap₂, subst, ◌∙◌, arith, Result, Err}
use Rattle.std.specs.Prelude.{All, AllPairs, bit_xor, ◌==◌, if◌then◌else◌}
use Rattle.std.proofs.lemmas.Bool.{eqb-true, eq-eqb}
use Rattle.std.proofs.lemmas.List.{length-append}
use Rattle.std.proofs.lemmas.List.Kept.{AllPairs-cons}
use Rattle.std.proofs.lemmas.List.Elements.{All-nil, All-cons, All-head, All-tail, All-append}
use Rattle.s39_field.specs.Field.{IsField}
use Rattle.s39_field.specs.FieldProduct.{word_field, product_modulo}
use Rattle.s39_field.specs.Polynomial.{power, value_from, value_at, sum_of}
use Rattle.s39_field.specs.PowerSums.{power_sum}
use Rattle.s39_field.proofs.FieldPowers.{power-element, power-nonzero, power-exchanges, power-one, power-product, powers_apart}
use Rattle.s39_lists.proofs.Pairs.{AllPairs-nil}
use Rattle.s39_field.proofs.Orders.{power_of_two-element, powers_of_two_are_distinct}
use Rattle.s39_field.proofs.PowerSums.{power_sums_determine_values}
use Rattle.s39_field.proofs.Products.{multiples_keep_roots}
use Rattle.s39_field.specs.Theory.Powers.{word_field_is_field}
use Rattle.s39_field.proofs.Values.{add_of_sums, same_from_sum, mul-zero_left, value_at-sum}
use Rattle.s39_words.specs.Layout.{IsIndex, most_words}
use Rattle.s39_words.specs.Checksum.{generator, customization_string, one_added_to_last, checked_polynomial, IsValidChecksum}
use Rattle.s39_words.specs.Reading.{IsWordCount, flag_of, reading, Reads}
use Rattle.s39_words.specs.declared.share.ShareFields.{ShareFields}
use Rattle.s39_words.specs.declared.word_error.WordError.{WordError}
use Rattle.s39_words.specs.declared.word_error.WordError.TheVariants.{BadChecksum}
use Rattle.s39_words.specs.Mistyping.{most_wrong_words, count_of_differences, IsMnemonic, IsMistyped}
use Rattle.s39_words.specs.Spelling.{words_of}
use Rattle.s39_words.proofs.Indices.{indices_below, at_most_words}
use Rattle.s39_words.proofs.OneReading.{read_invalid}
use Rattle.s39_words.proofs.Remainders.{customization}

axioms : IsField word_field
axioms = word_field_is_field

-- the inverse of 2; it, its square and its third power are where the generator is 0, with its highest power first
abbrev pub half : ℕ
half = 516

pub half-element : word_field.IsElement half
half-element = omega arith

pub generator_at_halves : (k : ℕ) → 1 ≤ k → k ≤ most_wrong_words → value_at word_field generator (power word_field half k) ≡ 0
unfolding product_modulo
generator_at_halves zero low high = absurd (omega arith)
generator_at_halves (suc zero) low high = refl
generator_at_halves (suc (suc zero)) low high = refl
generator_at_halves (suc (suc (suc zero))) low high = refl
generator_at_halves (suc (suc (suc (suc k)))) low high = absurd (omega arith)

-- ---- the powers of a half are distinct

-- no more coefficients are checked than these
abbrev pub longest_list : ℕ
longest_list = 130

half_of_two : word_field.mul 2 half ≡ 1
unfolding product_modulo
half_of_two = refl

power_not_one : (n : ℕ) → 0 < n → n < longest_list → power word_field half n ≢ 1
power_not_one n from below is_one =
    let two = power word_field 2 n in
    powers_of_two_are_distinct 0 n from (omega arith)
    (sym (power-one word_field axioms n)
    ∙ ap (λ x. power word_field x n) (sym half_of_two)
    ∙ power-product word_field axioms 2 half n
    ∙ ap (word_field.mul two) is_one
    ∙ axioms.mul_one two (power_of_two-element n))

-- ---- the terms in which two lists differ

-- the sums of the coefficients that differ, each with the power of a half of its place
abbrev terms : ℕ → List ℕ → List ℕ → List (ℕ × ℕ)
terms n [] ws = []
terms n (v ∷ vs) [] = []
terms n (v ∷ vs) (w ∷ ws) = if v == w then terms (suc n) vs ws else (power word_field half n, bit_xor v w) ∷ terms (suc n) vs ws

value_of_terms : (k n : ℕ) (vs ws : List ℕ) → length vs ≡ length ws → value_from word_field (sum_of word_field vs ws) n (power word_field half k)
    ≡ power_sum word_field (terms n vs ws) k
value_of_terms k n [] [] e = refl
value_of_terms k n [] (w ∷ ws) e = absurd (omega arith)
value_of_terms k n (v ∷ vs) [] e = absurd (omega arith)
value_of_terms k n (v ∷ vs) (w ∷ ws) e =
    let rest = value_of_terms k (suc n) vs ws (omega arith) in
    let x = power word_field half k in
    let here = word_field.mul (bit_xor v w) (power word_field x n) in
    (elim (v == w) as (λ b. (v == w) ≡ b → bit_xor here (value_from word_field (sum_of word_field vs ws) (suc n) x)
    ≡ power_sum word_field (if b then terms (suc n) vs ws else (power word_field half n, bit_xor v w) ∷ terms (suc n) vs ws) k) [
      | true ↦ λ t.
          let same : bit_xor v w ≡ 0 = ap (λ u. bit_xor u w) (eqb-true v w t) ∙ axioms.add_self w in
          let none : here ≡ 0 = ap (λ a. word_field.mul a (power word_field x n)) same ∙ mul-zero_left word_field axioms (power word_field x n) in
          ap (λ a. bit_xor a (value_from word_field (sum_of word_field vs ws) (suc n) x)) none
          ∙ axioms.add_commutes 0 (value_from word_field (sum_of word_field vs ws) (suc n) x)
          ∙ axioms.add_zero (value_from word_field (sum_of word_field vs ws) (suc n) x) ∙ rest
      | false ↦ λ t. ap₂ bit_xor (ap (word_field.mul (bit_xor v w)) (power-exchanges word_field axioms half k n)) rest
    ]) refl

-- as many as there are differences
length-terms : (n : ℕ) (vs ws : List ℕ) → length (terms n vs ws) ≡ count_of_differences vs ws
length-terms n [] ws = refl
length-terms n (v ∷ vs) [] = refl
length-terms n (v ∷ vs) (w ∷ ws) =
    elim (v == w) as (λ b. length (if b then terms (suc n) vs ws else (power word_field half n, bit_xor v w) ∷ terms (suc n) vs ws)
    ≡ (if b then count_of_differences vs ws else suc (count_of_differences vs ws))) [
      | true ↦ length-terms (suc n) vs ws
      | false ↦ ap suc (length-terms (suc n) vs ws)
    ]

-- none before the lists differ
terms-after : (n : ℕ) (us vs ws : List ℕ) → length (terms n (us ++ vs) (us ++ ws)) ≡ count_of_differences vs ws
terms-after n [] vs ws = length-terms n vs ws
terms-after n (u ∷ us) vs ws =
    let same : (u == u) ≡ true = eq-eqb u u refl in
    ap (λ b. length (if b then terms (suc n) (us ++ vs) (us ++ ws) else (power word_field half n, bit_xor u u) ∷ terms (suc n) (us ++ vs) (us ++ ws))) same
    ∙ terms-after (suc n) us vs ws

-- the power of a half that is not zero, and the sum of two words
record IsTerm (t : ℕ × ℕ) : Type 0 where
  element : word_field.IsElement t.0
  nonzero : t.0 ≢ 0
  coefficient : word_field.IsElement t.1

are_terms : (n : ℕ) (vs ws : List ℕ) → All IsIndex vs → All IsIndex ws → All IsTerm (terms n vs ws)
are_terms n [] ws p q = All-nil IsTerm
are_terms n (v ∷ vs) [] p q = All-nil IsTerm
are_terms n (v ∷ vs) (w ∷ ws) p q =
    let rest = are_terms (suc n) vs ws (All-tail IsIndex v vs p) (All-tail IsIndex w ws q) in
    elim (v == w) as (λ b. All IsTerm (if b then terms (suc n) vs ws else (power word_field half n, bit_xor v w) ∷ terms (suc n) vs ws)) [
      | true ↦ rest
      | false ↦ All-cons IsTerm (power word_field half n, bit_xor v w) (terms (suc n) vs ws) (record {
        element = power-element word_field axioms half n half-element;
        nonzero = power-nonzero word_field axioms half n half-element (λ z. omega (arith, z));
        coefficient = axioms.add_element v w (All-head IsIndex v vs p) (All-head IsIndex w ws q);
      }) rest
    ]

pub apart_from : (i n : ℕ) → i < n → n < i + longest_list → power word_field half i ≢ power word_field half n
apart_from i n low high =
    let exponent : i + (n - i) ≡ n = omega arith in
    subst (λ m. power word_field half i ≢ power word_field half m) exponent
    (powers_apart word_field axioms half i (n - i) half-element (λ z. omega (arith, z)) (power_not_one (n - i) (omega arith) (omega arith)))

-- no term has the power of an earlier place
later : (i n : ℕ) (vs ws : List ℕ) → i < n → n + length vs ≤ i + longest_list → All (λ t. power word_field half i ≢ t.0) (terms n vs ws)
later i n [] ws l h = All-nil (λ t. power word_field half i ≢ t.0)
later i n (v ∷ vs) [] l h = All-nil (λ t. power word_field half i ≢ t.0)
later i n (v ∷ vs) (w ∷ ws) l h =
    let rest = later i (suc n) vs ws (omega arith) (omega arith) in
    let term : ℕ × ℕ = (power word_field half n, bit_xor v w) in
    elim (v == w) as (λ b. All (λ t. power word_field half i ≢ t.0) (if b then terms (suc n) vs ws else term ∷ terms (suc n) vs ws)) [
      | true ↦ rest
      | false ↦ All-cons (λ t. power word_field half i ≢ t.0) term (terms (suc n) vs ws) (apart_from i n l (omega arith)) rest
    ]

apart : (n : ℕ) (vs ws : List ℕ) → length vs ≤ longest_list → AllPairs (λ s t. s.0 ≢ t.0) (terms n vs ws)
apart n [] ws h = AllPairs-nil (λ s t. s.0 ≢ t.0)
apart n (v ∷ vs) [] h = AllPairs-nil (λ s t. s.0 ≢ t.0)
apart n (v ∷ vs) (w ∷ ws) h =
    let rest = apart (suc n) vs ws (omega arith) in
    let term : ℕ × ℕ = (power word_field half n, bit_xor v w) in
    elim (v == w) as (λ b. AllPairs (λ s t. s.0 ≢ t.0) (if b then terms (suc n) vs ws else term ∷ terms (suc n) vs ws)) [
      | true ↦ rest
      | false ↦ AllPairs-cons (λ s t. s.0 ≢ t.0) term (terms (suc n) vs ws) (later n (suc n) vs ws (omega arith) (omega arith)) rest
    ]

-- some coefficient isn't 0, where there is a term
some_nonzero : (n : ℕ) (vs ws : List ℕ) → 1 ≤ length (terms n vs ws) → All (λ t. t.1 ≡ 0) (terms n vs ws) → ⊥
some_nonzero n [] ws l zeros = omega arith
some_nonzero n (v ∷ vs) [] l zeros = omega arith
some_nonzero n (v ∷ vs) (w ∷ ws) l zeros =
    (elim (v == w) as (λ b. (v == w) ≡ b → 1 ≤ length (if b then terms (suc n) vs ws else (power word_field half n, bit_xor v w) ∷ terms (suc n) vs ws)
    → All (λ t. t.1 ≡ 0) (if b then terms (suc n) vs ws else (power word_field half n, bit_xor v w) ∷ terms (suc n) vs ws) → ⊥) [
      | true ↦ λ t some none. some_nonzero (suc n) vs ws some none
      | false ↦ λ t some none.
          let zero_sum : bit_xor v w ≡ 0 = All-head (λ t. t.1 ≡ 0) (power word_field half n, bit_xor v w) (terms (suc n) vs ws) none in
          let same : v ≡ w = same_from_sum word_field axioms v w zero_sum in
          let test : (v == w) ≡ true = eq-eqb v w same in
          cc
    ]) refl l zeros

-- ---- the two polynomials

sum_of_ones : (x y : ℕ) → bit_xor (bit_xor x 1) (bit_xor y 1) ≡ bit_xor x y
sum_of_ones x y = add_of_sums word_field axioms x 1 y 1 ∙ ap (bit_xor (bit_xor x y)) (axioms.add_self 1) ∙ axioms.add_zero (bit_xor x y)

-- what is added to the last coefficient of both is gone in their sum
pub sum_without_ones : (x y : ℕ) (xs ys : List ℕ) → length xs ≡ length ys → sum_of word_field (one_added_to_last (x ∷ xs)) (one_added_to_last (y ∷ ys))
    ≡ sum_of word_field (x ∷ xs) (y ∷ ys)
sum_without_ones x y [] [] e = ap (λ z. z ∷ []) (sum_of_ones x y)
sum_without_ones x y [] (w ∷ ws) e = absurd (omega arith)
sum_without_ones x y (v ∷ vs) [] e = absurd (omega arith)
sum_without_ones x y (v ∷ vs) (w ∷ ws) e = ap (λ zs. bit_xor x y ∷ zs) (sum_without_ones v w vs ws (omega arith))

pub short_string : (extendable : Bool) → length (customization_string extendable) ≤ 17
short_string true = omega arith
short_string false = omega arith

-- what stands before the words
abbrev pub front : Bool → List ℕ
front extendable = 1 ∷ customization_string extendable

module _ (extendable : Bool) (vs ws : List ℕ) (same_count : length vs ≡ length ws) (p : All IsIndex vs) (q : All IsIndex ws)
    (a : IsValidChecksum extendable vs) (b : IsValidChecksum extendable ws) where
  abbrev all_terms : List (ℕ × ℕ)
  all_terms = terms 0 (front extendable ++ vs) (front extendable ++ ws)

  zero_sums : (k : ℕ) → 1 ≤ k → k ≤ most_wrong_words → power_sum word_field all_terms k ≡ 0
  zero_sums k low high =
      let x = power word_field half k in
      let root = generator_at_halves k low high in
      let one = multiples_keep_roots word_field axioms (checked_polynomial extendable vs) generator x a root in
      let other = multiples_keep_roots word_field axioms (checked_polynomial extendable ws) generator x b root in
      let lengths : length (front extendable ++ vs) ≡ length (front extendable ++ ws) =
      omega (arith, length-append (front extendable) vs, length-append (front extendable) ws) in
      let behind : length (customization_string extendable ++ vs) ≡ length (customization_string extendable ++ ws) =
      omega (arith, length-append (customization_string extendable) vs, length-append (customization_string extendable) ws) in
      sym (value_of_terms k 0 (front extendable ++ vs) (front extendable ++ ws) lengths)
      ∙ ap (λ cs. value_at word_field cs x) (sym (sum_without_ones 1 1 (customization_string extendable ++ vs) (customization_string extendable ++ ws) behind))
      ∙ value_at-sum word_field axioms (checked_polynomial extendable vs) (checked_polynomial extendable ws) x
      ∙ ap₂ bit_xor one other

  front-below : (us : List ℕ) → All IsIndex us → All IsIndex (front extendable ++ us)
  front-below us h = All-append IsIndex (front extendable) us (All-cons IsIndex 1 (customization_string extendable) (omega arith)
      (customization extendable).1) h

  not_both_valid : length vs ≤ most_words → 1 ≤ count_of_differences vs ws → count_of_differences vs ws ≤ most_wrong_words → ⊥
  not_both_valid short some few =
      let n = terms-after 0 (front extendable) vs ws in
      let are = are_terms 0 (front extendable ++ vs) (front extendable ++ ws) (front-below vs p) (front-below ws q) in
      some_nonzero 0 (front extendable ++ vs) (front extendable ++ ws) (omega (arith, n))
      (power_sums_determine_values word_field axioms all_terms
      (λ k d below. (are k d below).element)
      (λ k d below. (are k d below).coefficient)
      (apart 0 (front extendable ++ vs) (front extendable ++ ws)
      (omega (arith, length-append (front extendable) vs, short_string extendable)))
      (λ k d below. (are k d below).nonzero)
      (λ k low high. zero_sums k low (omega (arith, n))))

-- A mistyped mnemonic is read as one with a bad checksum.
pub bad_checksum : (text mnemonic : List ℕ) → IsMnemonic mnemonic → IsMistyped text mnemonic → Reads text (Err BadChecksum)
bad_checksum text mnemonic is m =
    let count = subst IsWordCount (sym m.same_count) is.count in
    read_invalid text m.words m.known count (λ valid.
    not_both_valid (flag_of mnemonic) m.words mnemonic m.same_count (indices_below (words_of text) m.words m.known) is.in_list
    (subst (λ f. IsValidChecksum f m.words) m.same_flag valid) is.checksum
    (at_most_words (length m.words) count) m.wrong m.few)

pub found_mistyped : {text : List ℕ} {r : Result ShareFields WordError} → reading text ≡ r → (mnemonic : List ℕ) → IsMnemonic mnemonic
    → IsMistyped text mnemonic → r ≡ Err BadChecksum
found_mistyped {text} read mnemonic is mistyped = sym read ∙ bad_checksum text mnemonic is mistyped
