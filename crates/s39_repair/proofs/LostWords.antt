-- The words at three places of a mnemonic follow from its checksum and its other words.
use Rattle.std.proofs.Common.{◌≡◌, ◌≢◌, ℕ, zero, suc, ◌+◌, ◌<◌, ◌≤◌, Bool, List, [], ◌∷◌, ◌++◌, length, get_or, refl, sym, ap, ap₂, ◌∙◌, ⊎_elim, arith}
use Rattle.std.specs.Prelude.{All, bit_xor}
use Rattle.std.proofs.Math.ListN.{set, get_or-eq_default}
use Rattle.std.proofs.lemmas.Bool.{cases_eq, cases_lt}
use Rattle.std.proofs.lemmas.List.{length-append, length-set, get_or-set_same, get_or-set_other, ext_get_or}
use Rattle.std.proofs.lemmas.List.Elements.{All-get_or, All-set}
use Rattle.s39_field.specs.Field.{IsField}
use Rattle.s39_field.specs.FieldProduct.{word_field}
use Rattle.s39_field.specs.Polynomial.{power, value_from, value_at, sum_of}
use Rattle.s39_field.specs.PowerSums.{power_sum}
use Rattle.s39_field.specs.Theory.Powers.{word_field_is_field}
use Rattle.s39_field.proofs.FieldPowers.{power-element, power-nonzero, power-exchanges}
use Rattle.s39_field.proofs.Products.{multiples_keep_roots}
use Rattle.s39_field.proofs.Values.{add_cancels, mul-zero_left, one_mul, zero_add, value_at-sum}
use Rattle.s39_words.specs.Checksum.{generator, customization_string, checked_polynomial, IsValidChecksum}
use Rattle.s39_words.specs.Layout.{IsIndex, most_words}
use Rattle.s39_words.specs.Mistyping.{most_wrong_words}
use Rattle.s39_words.proofs.WrongWords.{half-element, generator_at_halves, sum_without_ones, front, apart_from}
use Rattle.s39_repair.specs.Sums.{half, locator, sum_with, value_of_sums, ArePlaces, AgreeElsewhere}
use Rattle.s39_repair.proofs.ThreePlaces.{three_terms, value_is}

axioms : IsField word_field
axioms = word_field_is_field

-- ---- the sum of two lists of words

sum-at : (vs ws : List ℕ) (p : ℕ) → length vs ≡ length ws → get_or (sum_of word_field vs ws) p 0 ≡ bit_xor (get_or vs p 0) (get_or ws p 0)
sum-at [] [] p e = sym (axioms.add_self 0)
sum-at [] (w ∷ ws) p e = absurd (omega arith)
sum-at (v ∷ vs) [] p e = absurd (omega arith)
sum-at (v ∷ vs) (w ∷ ws) zero e = refl
sum-at (v ∷ vs) (w ∷ ws) (suc p) e = sum-at vs ws p (omega arith)

-- the same words before both add nothing
value_from-same : (us vs ws : List ℕ) (n x : ℕ)
    → value_from word_field (sum_of word_field (us ++ vs) (us ++ ws)) n x ≡ value_from word_field (sum_of word_field vs ws) (length us + n) x
value_from-same [] vs ws n x =
    let same : n ≡ 0 + n = omega arith in
    ap (λ m. value_from word_field (sum_of word_field vs ws) m x) same
value_from-same (u ∷ us) vs ws n x =
    let next : length us + suc n ≡ suc (length us) + n = omega arith in
    let rest = value_from word_field (sum_of word_field (us ++ vs) (us ++ ws)) (suc n) x in
    ap (λ a. bit_xor (word_field.mul a (power word_field x n)) rest) (axioms.add_self u)
    ∙ ap (λ a. bit_xor a rest) (mul-zero_left word_field axioms (power word_field x n))
    ∙ zero_add word_field axioms rest
    ∙ value_from-same us vs ws (suc n) x
    ∙ ap (λ m. value_from word_field (sum_of word_field vs ws) m x) next

-- ---- three places

pub locators_apart : (extendable : Bool) (i j : ℕ) → i ≢ j → i ≤ most_words + 3 → j ≤ most_words + 3 → locator extendable i ≢ locator extendable j
locators_apart extendable i j other high high' =
    let n = length (front extendable) in
    ⊎_elim
    (λ below. apart_from (n + i) (n + j) (omega arith) (omega arith))
    (λ above. λ same. apart_from (n + j) (n + i) (omega arith) (omega arith) (sym same))
    (cases_lt i j)

locator-element : (extendable : Bool) (i : ℕ) → word_field.IsElement (locator extendable i)
locator-element extendable i = power-element word_field axioms half (length (front extendable) + i) half-element

pub locator-nonzero : (extendable : Bool) (i : ℕ) → locator extendable i ≢ 0
locator-nonzero extendable i = power-nonzero word_field axioms half (length (front extendable) + i) half-element (λ z. omega (arith, z))

pub next_locator : (extendable : Bool) (i : ℕ) → word_field.mul (locator extendable i) half ≡ locator extendable (i + 1)
next_locator extendable i =
    let n = length (front extendable) in
    let next : suc (n + i) ≡ n + (i + 1) = omega arith in
    ap (power word_field half) next

module _ (extendable : Bool) (ws vs : List ℕ) (i j k : ℕ) (ps : ArePlaces i j k) (agree : AgreeElsewhere ws vs i j k)
    (ews : All IsIndex ws) (evs : All IsIndex vs) (valid : IsValidChecksum extendable vs) where
  abbrev change : ℕ → ℕ
  change p = bit_xor (get_or ws p 0) (get_or vs p 0)

  abbrev points : List (ℕ × ℕ)
  points = (locator extendable i, change i) ∷ (locator extendable j, change j) ∷ (locator extendable k, change k) ∷ []

  sums_are : (m : ℕ) → 1 ≤ m → m ≤ most_wrong_words → sum_with extendable ws m ≡ power_sum word_field points m
  sums_are m low high =
      let x = power word_field half m in
      let root = multiples_keep_roots word_field axioms (checked_polynomial extendable vs) generator x valid (generator_at_halves m low high) in
      let string = customization_string extendable in
      let behind : length (string ++ ws) ≡ length (string ++ vs) =
      omega (arith, length-append string ws, length-append string vs, agree.same_count) in
      let n = length (front extendable) in
      let differences = sum_of word_field ws vs in
      let start : n + 0 ≡ n = omega arith in
      let term : (p : ℕ) → word_field.mul (get_or differences p 0) (power word_field x (n + p))
      ≡ word_field.mul (change p) (power word_field (locator extendable p) m) =
      λ p. ap₂ word_field.mul (sum-at ws vs p agree.same_count) (power-exchanges word_field axioms half m (n + p)) in
      sym (axioms.add_zero (sum_with extendable ws m))
      ∙ ap (bit_xor (sum_with extendable ws m)) (sym root)
      ∙ sym (value_at-sum word_field axioms (checked_polynomial extendable ws) (checked_polynomial extendable vs) x)
      ∙ ap (λ cs. value_at word_field cs x) (sum_without_ones 1 1 (string ++ ws) (string ++ vs) behind)
      ∙ value_from-same (front extendable) ws vs 0 x
      ∙ ap (λ l. value_from word_field differences l x) start
      ∙ three_terms word_field axioms differences i j k n x ps.first_second ps.first_third ps.second_third
      (λ p off_i off_j off_k. sum-at ws vs p agree.same_count ∙ ap (λ a. bit_xor a (get_or vs p 0)) (agree.elsewhere p off_i off_j off_k)
      ∙ axioms.add_self (get_or vs p 0))
      ∙ ap₂ bit_xor (term i) (ap₂ bit_xor (term j) (ap (λ t. bit_xor t 0) (term k)))

  change-element : (p : ℕ) → word_field.IsElement (change p)
  change-element p = axioms.add_element (get_or ws p 0) (get_or vs p 0) (at ws ews) (at vs evs)
    where
      at : (us : List ℕ) → All IsIndex us → get_or us p 0 < 1024
      at us all = ⊎_elim
          (λ below. All-get_or IsIndex us p 0 below all)
          (λ above. let none : get_or us p 0 ≡ 0 = get_or-eq_default us 0 above in omega (arith, none))
          (cases_lt p (length us))

  -- the change of the word at the first of the places
  pub first_change : value_of_sums word_field (sum_with extendable ws 1) (sum_with extendable ws 2) (sum_with extendable ws 3)
      (locator extendable i) (locator extendable j) (locator extendable k) ≡ bit_xor (get_or ws i 0) (get_or vs i 0)
  first_change =
      let x = locator extendable i in
      let y = locator extendable j in
      let z = locator extendable k in
      ap (λ s. value_of_sums word_field s (sum_with extendable ws 2) (sum_with extendable ws 3) x y z) (sums_are 1 (omega arith) (omega arith))
      ∙ ap (λ s. value_of_sums word_field (power_sum word_field points 1) s (sum_with extendable ws 3) x y z) (sums_are 2 (omega arith) (omega arith))
      ∙ ap (λ s. value_of_sums word_field (power_sum word_field points 1) (power_sum word_field points 2) s x y z) (sums_are 3 (omega arith) (omega arith))
      ∙ value_is word_field axioms (change i) (change j) (change k) x y z (change-element i)
      (locator-element extendable i) (locator-element extendable j) (locator-element extendable k) (locator-nonzero extendable i)
      (locators_apart extendable i j ps.first_second ps.first_in_range ps.second_in_range)
      (locators_apart extendable i k ps.first_third ps.first_in_range ps.third_in_range)

-- ---- a word at one place

-- words that agree but at one place
pub set_one : (ws vs : List ℕ) (i : ℕ) → length ws ≡ length vs → i < length ws → ((p : ℕ) → p ≢ i → get_or ws p 0 ≡ get_or vs p 0)
    → set ws i (get_or vs i 0) ≡ vs
set_one ws vs i n within elsewhere =
    ext_get_or 0 (set ws i (get_or vs i 0)) vs (length-set ws i (get_or vs i 0) ∙ n) (λ p below. ⊎_elim
    (λ at. ap (λ q. get_or (set ws i (get_or vs i 0)) q 0) at ∙ get_or-set_same ws i (get_or vs i 0) 0 within ∙ ap (λ q. get_or vs q 0) (sym at))
    (λ off. get_or-set_other ws i p (get_or vs i 0) 0 off ∙ elsewhere p off)
    (cases_eq p i))

module _ (extendable : Bool) (ws vs : List ℕ) (i : ℕ) (within : i < length ws) (short : length ws ≤ most_words) (n : length ws ≡ length vs)
    (elsewhere : (p : ℕ) → p ≢ i → get_or ws p 0 ≡ get_or vs p 0) (ews : All IsIndex ws) (evs : All IsIndex vs)
    (valid : IsValidChecksum extendable vs) where
  abbrev behind : ℕ
  behind = length ws

  places : ArePlaces i behind (suc behind)
  places = record {
    first_second = λ e. omega (arith, e);
    first_third = λ e. omega (arith, e);
    second_third = λ e. omega (arith, e);
    first_in_range = omega arith;
    second_in_range = omega arith;
    third_in_range = omega arith;
  }

  others : AgreeElsewhere ws vs i behind (suc behind)
  others = record { same_count = n; elsewhere = λ p off_i off_j off_k. elsewhere p off_i }

  abbrev x : ℕ
  x = locator extendable i

  abbrev a : ℕ
  a = bit_xor (get_or ws i 0) (get_or vs i 0)

  nothing : (p m : ℕ) → length ws ≤ p → word_field.mul (bit_xor (get_or ws p 0) (get_or vs p 0)) m ≡ 0
  nothing p m past =
      ap₂ (λ (b c : ℕ). word_field.mul (bit_xor b c) m) (get_or-eq_default ws 0 past) (get_or-eq_default vs 0 (omega (arith, n)))
      ∙ mul-zero_left word_field axioms m

  pub sum_is : (m : ℕ) → 1 ≤ m → m ≤ most_wrong_words → sum_with extendable ws m ≡ word_field.mul a (power word_field x m)
  sum_is m low high =
      let at = λ (p : ℕ). power word_field (locator extendable p) m in
      sums_are extendable ws vs i behind (suc behind) places others ews evs valid m low high
      ∙ ap₂ (λ s t. bit_xor (word_field.mul a (at i)) (bit_xor s (bit_xor t 0)))
      (nothing behind (at behind) (omega arith)) (nothing (suc behind) (at (suc behind)) (omega arith))
      ∙ axioms.add_zero (word_field.mul a (at i))

  -- each sum is the one before, times the locator
  pub next_sum : (m : ℕ) → 1 ≤ m → m < most_wrong_words → sum_with extendable ws (suc m) ≡ word_field.mul (sum_with extendable ws m) x
  next_sum m low high =
      sum_is (suc m) (omega arith) (omega arith)
      ∙ sym (axioms.mul_associates a (power word_field x m) x)
      ∙ ap (λ s. word_field.mul s x) (sym (sum_is m low (omega arith)))

  change_is : word_field.mul (sum_with extendable ws 1) (word_field.inv x) ≡ a
  change_is =
      let element = locator-element extendable i in
      ap (λ s. word_field.mul s (word_field.inv x)) (sum_is 1 (omega arith) (omega arith) ∙ ap (word_field.mul a) (one_mul word_field axioms x element))
      ∙ axioms.mul_associates a x (word_field.inv x)
      ∙ ap (word_field.mul a) (axioms.mul_inverse x element (locator-nonzero extendable i))
      ∙ axioms.mul_one a (change-element extendable ws vs i behind (suc behind) places others ews evs valid i)

  -- and the first one, over the locator, is the change
  pub one_changed : set ws i (bit_xor (get_or ws i 0) (word_field.mul (sum_with extendable ws 1) (word_field.inv x))) ≡ vs
  one_changed =
      ap (λ c. set ws i (bit_xor (get_or ws i 0) c)) change_is
      ∙ ap (set ws i) (add_cancels word_field axioms (get_or ws i 0) (get_or vs i 0))
      ∙ set_one ws vs i n within elsewhere

-- ---- all three of them

-- the word at a place, changed
abbrev pub changed : List ℕ → ℕ → ℕ → ℕ
changed ws p a = bit_xor (get_or ws p 0) a

abbrev pub with_changes : List ℕ → ℕ → ℕ → ℕ → ℕ → ℕ → ℕ → List ℕ
with_changes ws i j k a b c = set (set (set ws i (changed ws i a)) j (changed ws j b)) k (changed ws k c)

module _ (extendable : Bool) (ws : List ℕ) (i j k a b c : ℕ) where
  abbrev pub Sums : ℕ → ℕ → ℕ → ℕ → Type 0
  Sums e p q r = e ≡ value_of_sums word_field (sum_with extendable ws 1) (sum_with extendable ws 2) (sum_with extendable ws 3)
      (locator extendable p) (locator extendable q) (locator extendable r)

  pub only_words : (vs : List ℕ) → ArePlaces i j k → AgreeElsewhere ws vs i j k → All IsIndex ws → All IsIndex vs → IsValidChecksum extendable vs
      → Sums a i j k → Sums b j i k → Sums c k i j → with_changes ws i j k a b c ≡ vs
  only_words vs ps agree ews evs valid at_i at_j at_k =
      let found = with_changes ws i j k a b c in
      let first = set ws i (changed ws i a) in
      let second = set first j (changed ws j b) in
      let a_is : a ≡ bit_xor (get_or ws i 0) (get_or vs i 0) = at_i ∙ first_change extendable ws vs i j k ps agree ews evs valid in
      let b_is : b ≡ bit_xor (get_or ws j 0) (get_or vs j 0) =
      at_j ∙ first_change extendable ws vs j i k
      (record {
        first_second = λ e. ps.first_second (sym e);
        first_third = ps.second_third;
        second_third = ps.first_third;
        first_in_range = ps.second_in_range;
        second_in_range = ps.first_in_range;
        third_in_range = ps.third_in_range;
      })
      (record { same_count = agree.same_count; elsewhere = λ p off_j off_i off_k. agree.elsewhere p off_i off_j off_k })
      ews evs valid in
      let c_is : c ≡ bit_xor (get_or ws k 0) (get_or vs k 0) =
      at_k ∙ first_change extendable ws vs k i j
      (record {
        first_second = λ e. ps.first_third (sym e);
        first_third = λ e. ps.second_third (sym e);
        second_third = ps.first_second;
        first_in_range = ps.third_in_range;
        second_in_range = ps.first_in_range;
        third_in_range = ps.second_in_range;
      })
      (record { same_count = agree.same_count; elsewhere = λ p off_k off_i off_j. agree.elsewhere p off_i off_j off_k })
      ews evs valid in
      let n₁ : length first ≡ length ws = length-set ws i (changed ws i a) in
      let n₂ : length second ≡ length first = length-set first j (changed ws j b) in
      let n₃ : length found ≡ length second = length-set second k (changed ws k c) in
      let right : (p e : ℕ) → e ≡ bit_xor (get_or ws p 0) (get_or vs p 0) → changed ws p e ≡ get_or vs p 0 =
      λ p e e_is. ap (bit_xor (get_or ws p 0)) e_is ∙ add_cancels word_field axioms (get_or ws p 0) (get_or vs p 0) in
      ext_get_or 0 found vs (n₃ ∙ n₂ ∙ n₁ ∙ agree.same_count) (λ p below.
      ⊎_elim
      (λ at. ap (λ q. get_or found q 0) at ∙ get_or-set_same second k (changed ws k c) 0 (omega (arith, at))
      ∙ right k c c_is ∙ ap (λ q. get_or vs q 0) (sym at))
      (λ off_k. get_or-set_other second k p (changed ws k c) 0 off_k ∙ ⊎_elim
      (λ at. ap (λ q. get_or second q 0) at ∙ get_or-set_same first j (changed ws j b) 0 (omega (arith, at))
      ∙ right j b b_is ∙ ap (λ q. get_or vs q 0) (sym at))
      (λ off_j. get_or-set_other first j p (changed ws j b) 0 off_j ∙ ⊎_elim
      (λ at. ap (λ q. get_or first q 0) at ∙ get_or-set_same ws i (changed ws i a) 0 (omega (arith, at)) ∙ right i a a_is ∙ ap (λ q. get_or vs q 0) (sym at))
      (λ off_i. get_or-set_other ws i p (changed ws i a) 0 off_i ∙ agree.elsewhere p off_i off_j off_k)
      (cases_eq p i))
      (cases_eq p j))
      (cases_eq p k))

word-element : (ws : List ℕ) (p : ℕ) → All IsIndex ws → get_or ws p 0 < 1024
word-element ws p all = ⊎_elim
    (λ below. All-get_or IsIndex ws p 0 below all)
    (λ above. let none : get_or ws p 0 ≡ 0 = get_or-eq_default ws 0 above in omega (arith, none))
    (cases_lt p (length ws))

pub changed-in_range : (ws : List ℕ) (p a : ℕ) → All IsIndex ws → IsIndex a → IsIndex (changed ws p a)
changed-in_range ws p a all la = axioms.add_element (get_or ws p 0) a (word-element ws p all) la

pub with_changes-in_range : (ws : List ℕ) (i j k a b c : ℕ) → All IsIndex ws → IsIndex a → IsIndex b → IsIndex c → All IsIndex (with_changes ws i j k a b c)
with_changes-in_range ws i j k a b c all la lb lc =
    let first = set ws i (changed ws i a) in
    let second = set first j (changed ws j b) in
    All-set IsIndex second k (changed ws k c) (changed-in_range ws k c all lc)
    (All-set IsIndex first j (changed ws j b) (changed-in_range ws j b all lb)
    (All-set IsIndex ws i (changed ws i a) (changed-in_range ws i a all la) all))

-- the sums and the places, as the code has them
pub sums_from : (extendable : Bool) (ws : List ℕ) (i j k e s₁ s₂ s₃ x y z : ℕ) → s₁ ≡ sum_with extendable ws 1 → s₂ ≡ sum_with extendable ws 2
    → s₃ ≡ sum_with extendable ws 3 → x ≡ locator extendable i → y ≡ locator extendable j → z ≡ locator extendable k
    → e ≡ value_of_sums word_field s₁ s₂ s₃ x y z
    → e ≡ value_of_sums word_field (sum_with extendable ws 1) (sum_with extendable ws 2) (sum_with extendable ws 3)
    (locator extendable i) (locator extendable j) (locator extendable k)
sums_from extendable ws i j k e s₁ s₂ s₃ x y z e₁ e₂ e₃ x_is y_is z_is is =
    is
    ∙ ap (λ s. value_of_sums word_field s s₂ s₃ x y z) e₁
    ∙ ap (λ s. value_of_sums word_field (sum_with extendable ws 1) s s₃ x y z) e₂
    ∙ ap (λ s. value_of_sums word_field (sum_with extendable ws 1) (sum_with extendable ws 2) s x y z) e₃
    ∙ ap (λ s. value_of_sums word_field (sum_with extendable ws 1) (sum_with extendable ws 2) (sum_with extendable ws 3) s y z) x_is
    ∙ ap (λ s. value_of_sums word_field (sum_with extendable ws 1) (sum_with extendable ws 2) (sum_with extendable ws 3) (locator extendable i) s z) y_is
    ∙ ap (λ s. value_of_sums word_field (sum_with extendable ws 1) (sum_with extendable ws 2) (sum_with extendable ws 3)
    (locator extendable i) (locator extendable j) s) z_is
