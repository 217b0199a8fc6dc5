-- Another word gives a mnemonic at one position at most. Two positions would take two mnemonics that differ in the second word and in one
-- other word alone. They would have different flags, and the other word would be at place 788.
use Rattle.std.proofs.Common.{◌≡◌, ◌≢◌, ℕ, zero, suc, ◌+◌, ◌-◌, ◌<◌, ◌≤◌, ◌⊎◌, inl, inr, Bool, true, false, List, [], ◌∷◌, ◌++◌, length, get_or}
use Rattle.std.proofs.Common.{Some, None, refl, sym, ap, ap₂, subst, ◌∙◌, ⊎_elim, arith}
use Rattle.std.specs.Prelude.{All, bit_xor}
use Rattle.std.proofs.lemmas.Bool.{cases_eq, cases_lt}
use Rattle.s39_lists.proofs.Finds.{some_same}
use Rattle.s39_field.specs.Field.{IsField}
use Rattle.s39_field.specs.FieldProduct.{word_field, product_modulo}
use Rattle.s39_field.specs.Polynomial.{power, value_from, value_at}
use Rattle.s39_field.specs.PowerSums.{power_sum}
use Rattle.s39_field.specs.Theory.Powers.{word_field_is_field}
use Rattle.s39_field.proofs.FieldPowers.{power_of_sum, power-element, power-exchanges, power-one, power-product}
use Rattle.s39_field.proofs.Orders.{powers_of_two_are_distinct}
use Rattle.s39_field.proofs.Values.{add_of_sums, distributes_left, mul-zero_left, zero_add}
use Rattle.s39_words.specs.Checksum.{one_added_to_last}
use Rattle.s39_words.specs.Layout.{IsIndex, most_words}
use Rattle.s39_words.specs.Mistyping.{most_wrong_words}
use Rattle.s39_words.specs.Spelling.{Spells}
use Rattle.s39_words.specs.declared.share.ShareFields.{ShareFields}
use Rattle.s39_words.proofs.WrongWords.{front, half-element}
use Rattle.s39_repair.specs.Answer.{IsWrongWord, WrongWordIsAt}
use Rattle.s39_repair.specs.Marks.{spelling}
use Rattle.s39_repair.specs.Sums.{half, locator, sum_with, value_of_sums}
use Rattle.s39_repair.proofs.Candidates.{spelled_checksum}
use Rattle.s39_repair.proofs.Flags.{plain_or_not}
use Rattle.s39_repair.proofs.LostWords.{sum_is}
use Rattle.s39_repair.proofs.OneWrongWord.{flag_stays}
use Rattle.s39_repair.proofs.ThreePlaces.{value_is}
use Rattle.s39_repair.proofs.WrongPlaces.{two_alike}

axioms : IsField word_field
axioms = word_field_is_field

-- ---- the place of the other word

-- its locator: a half to the power of 18 + 788, which is 2 to the power of 217
abbrev far : ℕ
far = 281

far_is : power word_field 2 217 ≡ far
unfolding product_modulo
far_is = refl

half_of_two : word_field.mul 2 half ≡ 1
unfolding product_modulo
half_of_two = refl

far_from : (n : ℕ) → n ≤ 130 → far ≢ power word_field half n
far_from n low same =
    let two = power word_field 2 n in
    powers_of_two_are_distinct 0 (n + 217) (omega arith) (omega arith) (sym (
    power_of_sum word_field axioms 2 n 217 (omega arith)
    ∙ ap (word_field.mul two) (far_is ∙ same)
    ∙ sym (power-product word_field axioms 2 half n)
    ∙ ap (λ x. power word_field x n) half_of_two
    ∙ power-one word_field axioms n))

-- what the two customization strings add to the sums, one moved to the place of the other
abbrev strings_sum : ℕ → ℕ
strings_sum m =
    let x = power word_field half m in
    bit_xor (value_at word_field (front true) x) (word_field.mul (value_at word_field (front false) x) (power word_field x 11))

-- the changes of the second word and of that word that have these sums
explained : (m : ℕ) → 1 ≤ m → m ≤ most_wrong_words
    → bit_xor (word_field.mul 877 (power word_field far m)) (word_field.mul 268 (power word_field (locator true 1) m)) ≡ strings_sum m
unfolding product_modulo
explained zero low high = absurd (omega arith)
explained (suc zero) low high = refl
explained (suc (suc zero)) low high = refl
explained (suc (suc (suc zero))) low high = refl
explained (suc (suc (suc (suc m)))) low high = absurd (omega arith)

-- no word of a mnemonic has such a change beside the second, since three sums determine the changes at three places
only_far : (i b a : ℕ) → i ≤ most_words
    → ((m : ℕ) → 1 ≤ m → m ≤ most_wrong_words
    → strings_sum m ≡ bit_xor (word_field.mul b (power word_field (locator true 1) m)) (word_field.mul a (power word_field (locator true i) m)))
    → ⊥
only_far i b a low sums =
    let y = locator true 1 in
    let z = locator true i in
    let points : List (ℕ × ℕ) = (far, 877) ∷ (y, 268) ∷ (z, 0) ∷ [] in
    let others : List (ℕ × ℕ) = (far, 0) ∷ (y, b) ∷ (z, a) ∷ [] in
    let same : (m : ℕ) → 1 ≤ m → m ≤ most_wrong_words → power_sum word_field points m ≡ power_sum word_field others m =
    λ m from to.
    let u = word_field.mul 877 (power word_field far m) in
    let v = word_field.mul 268 (power word_field y m) in
    let v' = word_field.mul b (power word_field y m) in
    let w = word_field.mul a (power word_field z m) in
    ap (λ t. bit_xor u (bit_xor v (bit_xor t 0))) (mul-zero_left word_field axioms (power word_field z m))
    ∙ ap (bit_xor u) (axioms.add_zero v)
    ∙ explained m from to
    ∙ sums m from to
    ∙ sym (
    ap (λ t. bit_xor t (bit_xor v' (bit_xor w 0))) (mul-zero_left word_field axioms (power word_field far m))
    ∙ zero_add word_field axioms (bit_xor v' (bit_xor w 0))
    ∙ ap (bit_xor v') (axioms.add_zero w)
    ) in
    let value = λ (s₁ s₂ s₃ : ℕ). value_of_sums word_field s₁ s₂ s₃ far y z in
    let first = λ (c d e : ℕ) (ec : word_field.IsElement c).
    value_is word_field axioms c d e far y z ec (omega arith) (power-element word_field axioms half (18 + 1) half-element)
    (power-element word_field axioms half (18 + i) half-element) (λ e. omega (arith, e)) (far_from (18 + 1) (omega arith)) (far_from (18 + i) (omega arith)) in
    let none : 877 ≡ 0 =
    sym (first 877 268 0 (omega arith))
    ∙ ap (λ s. value s (power_sum word_field points 2) (power_sum word_field points 3)) (same 1 (omega arith) (omega arith))
    ∙ ap (λ s. value (power_sum word_field others 1) s (power_sum word_field points 3)) (same 2 (omega arith) (omega arith))
    ∙ ap (value (power_sum word_field others 1) (power_sum word_field others 2)) (same 3 (omega arith) (omega arith))
    ∙ first 0 b a (omega arith) in
    omega (arith, none)

-- ---- the sums of the same words with each flag

value_from-append : (us vs : List ℕ) (n x : ℕ)
    → value_from word_field (us ++ vs) n x ≡ bit_xor (value_from word_field us n x) (value_from word_field vs (length us + n) x)
value_from-append [] vs n x =
    let same : n ≡ 0 + n = omega arith in
    ap (λ m. value_from word_field vs m x) same ∙ sym (zero_add word_field axioms (value_from word_field vs (0 + n) x))
value_from-append (u ∷ us) vs n x =
    let next : length us + suc n ≡ suc (length us) + n = omega arith in
    let here = word_field.mul u (power word_field x n) in
    ap (bit_xor here) (value_from-append us vs (suc n) x ∙ ap (λ m. bit_xor (value_from word_field us (suc n) x) (value_from word_field vs m x)) next)
    ∙ sym (axioms.add_associates here (value_from word_field us (suc n) x) (value_from word_field vs (suc (length us) + n) x))

value_from-later : (cs : List ℕ) (n k x : ℕ) → word_field.IsElement x
    → value_from word_field cs (n + k) x ≡ word_field.mul (value_from word_field cs n x) (power word_field x k)
value_from-later [] n k x element = sym (mul-zero_left word_field axioms (power word_field x k))
value_from-later (c ∷ cs) n k x element =
    let next : suc (n + k) ≡ suc n + k = omega arith in
    let p = power word_field x n in
    let q = power word_field x k in
    let rest = value_from word_field cs (suc n) x in
    ap₂ bit_xor
    (ap (word_field.mul c) (power_of_sum word_field axioms x n k element) ∙ sym (axioms.mul_associates c p q))
    (ap (λ m. value_from word_field cs m x) next ∙ value_from-later cs (suc n) k x element)
    ∙ sym (distributes_left word_field axioms (word_field.mul c p) rest q)

sum_of_parts : (extendable : Bool) (ws : List ℕ) (m : ℕ) → 0 < length ws
    → let x = power word_field half m in
    sum_with extendable ws m
    ≡ bit_xor (value_at word_field (front extendable) x) (value_from word_field (one_added_to_last ws) (length (front extendable)) x)
sum_of_parts extendable [] m some = absurd (omega arith)
sum_of_parts true (w ∷ ws) m some = value_from-append (front true) (one_added_to_last (w ∷ ws)) 0 (power word_field half m)
sum_of_parts false (w ∷ ws) m some = value_from-append (front false) (one_added_to_last (w ∷ ws)) 0 (power word_field half m)

-- both together don't depend on the words
both_sums : (ws : List ℕ) (m : ℕ) → 0 < length ws
    → strings_sum m ≡ bit_xor (sum_with true ws m) (word_field.mul (sum_with false ws m) (power word_field (power word_field half m) 11))
both_sums ws m some =
    let x = power word_field half m in
    let q = power word_field x 11 in
    let a = value_at word_field (front false) x in
    let b = value_at word_field (front true) x in
    let v = value_from word_field (one_added_to_last ws) 7 x in
    let w = value_from word_field (one_added_to_last ws) 18 x in
    let later : w ≡ word_field.mul v q = value_from-later (one_added_to_last ws) 7 11 x (power-element word_field axioms half m half-element) in
    sym (
    ap₂ (λ s t. bit_xor s (word_field.mul t q)) (sum_of_parts true ws m some) (sum_of_parts false ws m some)
    ∙ ap (bit_xor (bit_xor b w)) (distributes_left word_field axioms a v q)
    ∙ add_of_sums word_field axioms b w (word_field.mul a q) (word_field.mul v q)
    ∙ ap (bit_xor (bit_xor b (word_field.mul a q))) (ap (λ s. bit_xor s (word_field.mul v q)) later ∙ axioms.add_self (word_field.mul v q))
    ∙ axioms.add_zero (bit_xor b (word_field.mul a q))
    )

-- a term with one flag, as one with the other
other_term : (a i m : ℕ) → word_field.mul (word_field.mul a (power word_field (locator false i) m)) (power word_field (power word_field half m) 11)
    ≡ word_field.mul a (power word_field (locator true i) m)
other_term a i m =
    let x = locator false i in
    let exponent : (7 + i) + 11 ≡ 18 + i = omega arith in
    axioms.mul_associates a (power word_field x m) (power word_field (power word_field half m) 11)
    ∙ ap (word_field.mul a) (
    ap (word_field.mul (power word_field x m)) (power-exchanges word_field axioms half m 11)
    ∙ sym (power-product word_field axioms x (power word_field half 11) m)
    ∙ ap (λ y. power word_field y m) (sym (power_of_sum word_field axioms half (7 + i) 11 half-element) ∙ ap (power word_field half) exponent)
    )

-- ---- two positions

module _ (ws : List ℕ) (all : All IsIndex ws) (short : length ws ≤ most_words) where
  wrong_sum : (at : ℕ) → (w : IsWrongWord ws at) → (flag : Bool) → w.share.extendable ≡ flag → (m : ℕ) → 1 ≤ m → m ≤ most_wrong_words
      → sum_with flag ws m ≡ word_field.mul (bit_xor (get_or ws (at - 1) 0) (get_or w.mnemonic (at - 1) 0)) (power word_field (locator flag (at - 1)) m)
  wrong_sum at w flag flag_is m low high =
      let positive = w.positive in
      let within = w.within in
      sum_is flag ws w.mnemonic (at - 1) (omega arith) short w.same_count (λ p off. w.elsewhere p (λ e. off (omega (arith, e)))) all w.in_list
      (spelled_checksum w.mnemonic w.share flag w.in_list w.spells flag_is) m low high

  -- whose mnemonics have different flags
  different : (i j : ℕ) → (p : IsWrongWord ws i) → (q : IsWrongWord ws j) → p.share.extendable ≡ false → q.share.extendable ≡ true
      → (i ≡ 2) ⊎ (j ≡ 2) → ⊥
  different i j p q plain extendable second =
      let positive = p.positive in
      let within = p.within in
      let positive' = q.positive in
      let within' = q.within in
      let a = bit_xor (get_or ws (i - 1) 0) (get_or p.mnemonic (i - 1) 0) in
      let b = bit_xor (get_or ws (j - 1) 0) (get_or q.mnemonic (j - 1) 0) in
      let term = λ (c k m : ℕ). word_field.mul c (power word_field (locator true k) m) in
      let sums : (m : ℕ) → 1 ≤ m → m ≤ most_wrong_words → strings_sum m ≡ bit_xor (term b (j - 1) m) (term a (i - 1) m) =
      λ m low high.
      both_sums ws m (omega arith)
      ∙ ap₂ bit_xor (wrong_sum j q true extendable m low high)
      (ap (λ s. word_field.mul s (power word_field (power word_field half m) 11)) (wrong_sum i p false plain m low high) ∙ other_term a (i - 1) m) in
      ⊎_elim
      (λ e.
      let one : i - 1 ≡ 1 = omega (arith, e) in
      only_far (j - 1) a b (omega arith) (λ m low high.
      sums m low high ∙ axioms.add_commutes (term b (j - 1) m) (term a (i - 1) m) ∙ ap (λ k. bit_xor (term a k m) (term b (j - 1) m)) one))
      (λ e.
      let one : j - 1 ≡ 1 = omega (arith, e) in
      only_far (i - 1) b a (omega arith) (λ m low high. sums m low high ∙ ap (λ k. bit_xor (term b k m) (term a (i - 1) m)) one))
      second

  module _ (bad : (share : ShareFields) → Spells (spelling ws) share → ⊥) where
    no_two : (i j : ℕ) → IsWrongWord ws i → IsWrongWord ws j → i < j → ⊥
    no_two i j p q less =
        let alike = two_alike ws i j all short bad p q less in
        let second : (i ≡ 2) ⊎ (j ≡ 2) =
        ⊎_elim inl (λ off. ⊎_elim inr (λ off'. absurd (alike (sym (flag_stays ws i p off) ∙ flag_stays ws j q off'))) (cases_eq j 2)) (cases_eq i 2) in
        ⊎_elim
        (λ plain. ⊎_elim
        (λ plain'. alike (plain ∙ sym plain'))
        (λ extendable. different i j p q plain extendable second)
        (plain_or_not q.share.extendable))
        (λ extendable. ⊎_elim
        (λ plain. different j i q p plain extendable (⊎_elim inr inl second))
        (λ extendable'. alike (extendable ∙ sym extendable'))
        (plain_or_not q.share.extendable))
        (plain_or_not p.share.extendable)

    pub one_position : (i j : ℕ) → IsWrongWord ws i → IsWrongWord ws j → i ≡ j
    one_position i j p q = ⊎_elim
        (λ less. absurd (no_two i j p q less))
        (λ past. ⊎_elim (λ less. absurd (no_two j i q p less)) (λ least. omega arith) (cases_lt j i))
        (cases_lt i j)

    pub only_wrong : (at : ℕ) → IsWrongWord ws at → WrongWordIsAt ws (Some at)
    only_wrong at is = λ other. (
      λ wrong. ap Some (one_position at other is wrong),
      λ same. subst (IsWrongWord ws) (some_same at other same) is,
    )

pub none_wrong : (ws : List ℕ) → ((at : ℕ) → IsWrongWord ws at → ⊥) → WrongWordIsAt ws None
none_wrong ws none = λ at. (λ wrong. absurd (none at wrong), λ same. absurd cc)
