-- What the last remainder says of a checksum.
use Rattle.std.proofs.Common.{◌≡◌, ℕ, ◌<◌, Bool, true, false, List, [], ◌∷◌, ◌++◌, ltb, length, ◌≤◌, refl, sym, ap, ◌∙◌, arith}
use Rattle.std.specs.Prelude.{All, ◌↔◌, bit_xor, fold}
use Rattle.std.specs.List.{list_all}
use Rattle.std.proofs.lemmas.List.{length-append}
use Rattle.std.proofs.lemmas.List.Elements.{All-nil, All-cons, All-head, All-tail, All-append, All-weaker}
use Rattle.std.proofs.lemmas.Bool.{ltb-true}
use Rattle.std.proofs.lemmas.List.Sums.{AllPass-from_list_all, fold-append}
use Rattle.s39_field.specs.Field.{IsField}
use Rattle.s39_field.specs.FieldProduct.{word_field}
use Rattle.s39_field.specs.Theory.Powers.{word_field_is_field}
use Rattle.s39_field.specs.Polynomial.{IsMultiple}
use Rattle.s39_words.specs.Layout.{IsIndex, checksum_length}
use Rattle.s39_words.specs.Checksum.{generator, one_added_to_last, customization_string, IsValidChecksum}
use Rattle.s39_words.specs.Division.{Remainder, one_remainder, next_remainder}
use Rattle.s39_words.proofs.CubicDivision.{multiple_step, multiple_of_three, multiple_after_zero}

word_axioms : IsField word_field
word_axioms = word_field_is_field

-- the coefficients of a remainder are elements
pub record AreElements (r : Remainder) : Type 0 where
  pub square : r.square < 1024
  pub linear : r.linear < 1024
  pub constant : r.constant < 1024

pub AreElements-next : (r : Remainder) (c : ℕ) → AreElements r → c < 1024 → AreElements (next_remainder r c)
AreElements-next r c e lt =
    let m = word_axioms.mul_element in
    record {
      square = word_axioms.add_element _ _ e.linear (m _ _ e.square (omega arith));
      linear = word_axioms.add_element _ _ e.constant (m _ _ e.square (omega arith));
      constant = word_axioms.add_element _ _ lt (m _ _ e.square (omega arith));
    }

pub AreElements-fold : (cs : List ℕ) (r : Remainder) → AreElements r → All IsIndex cs → AreElements (fold next_remainder r cs)
AreElements-fold [] r e all = e
AreElements-fold (c ∷ cs) r e all =
    AreElements-fold cs (next_remainder r c) (AreElements-next r c e (All-head IsIndex c cs all)) (All-tail IsIndex c cs all)

-- adding 1 to the last coefficient, where a number is added to the first
added_parts : (c : ℕ) (cs : List ℕ) → (d : ℕ) × (ds : List ℕ) × (one_added_to_last (c ∷ cs) ≡ d ∷ ds) ×
    ((m : ℕ) → one_added_to_last (bit_xor c m ∷ cs) ≡ bit_xor d m ∷ ds)
added_parts c [] = (
  bit_xor c 1,
  [],
  refl,
  λ m. ap (λ x. x ∷ []) (word_axioms.add_associates c m 1 ∙ ap (bit_xor c) (word_axioms.add_commutes m 1)
      ∙ sym (word_axioms.add_associates c 1 m)),
)
added_parts c (d ∷ ds) = (c, one_added_to_last (d ∷ ds), refl, λ m. refl)

remainder_is : (r : Remainder) → r.square ≡ 0 → r.linear ≡ 0 → bit_xor r.constant 1 ≡ 0 → r ≡ one_remainder
remainder_is r s l k =
    let e : r.constant ≡ 1 = sym (word_axioms.add_zero r.constant) ∙ sym (word_axioms.add_associates r.constant 1 1) ∙ ap (λ x. bit_xor x 1) k in
    let equal : record { square = r.square; linear = r.linear; constant = r.constant } ≡ one_remainder = cc in
    equal

-- The list that begins with a remainder has a valid checksum exactly where the last remainder is 1.
last_remainder : (cs : List ℕ) (r : Remainder) → AreElements r → All IsIndex cs
    → IsMultiple word_field (one_added_to_last (r.square ∷ r.linear ∷ r.constant ∷ cs)) generator ↔ (fold next_remainder r cs ≡ one_remainder)
last_remainder [] r e all =
    let three = multiple_of_three word_field word_axioms 14 56 64 r.square r.linear (bit_xor r.constant 1) in
    (λ m. let z = three.0 m in remainder_is r z.0 z.1 z.2, λ is. three.1 (ap (λ x. x.square) is, ap (λ x. x.linear) is, ap (λ x. bit_xor x.constant 1) is))
last_remainder (c ∷ cs) r e all =
    let p = added_parts c cs in
    let step = multiple_step word_field word_axioms 14 56 64 r.square r.linear r.constant p.0 p.1 e.square in
    let rest = last_remainder cs (next_remainder r c) (AreElements-next r c e (All-head IsIndex c cs all)) (All-tail IsIndex c cs all) in
    let more = p.3 (word_field.mul r.square 64) in
    let now : IsMultiple word_field (r.square ∷ r.linear ∷ r.constant ∷ one_added_to_last (c ∷ cs)) generator
    ↔ (fold next_remainder (next_remainder r c) cs ≡ one_remainder) =
    rw p.2 (λ m. rest.0 (rw more (step.0 m)), λ is. step.1 (rw more at (rest.1 is))) in
    now

-- a first coefficient of 1 behind two zeros
ones_first : (cs : List ℕ) → 3 ≤ length cs → IsMultiple word_field (one_added_to_last (0 ∷ 0 ∷ 1 ∷ cs)) generator
    ↔ IsMultiple word_field (one_added_to_last (1 ∷ cs)) generator
ones_first [] h = absurd (omega arith)
ones_first (a ∷ []) h = absurd (omega arith)
ones_first (a ∷ b ∷ []) h = absurd (omega arith)
ones_first (a ∷ b ∷ c ∷ cs) h =
    let rest = one_added_to_last (c ∷ cs) in
    let first : IsMultiple word_field (0 ∷ 0 ∷ 1 ∷ a ∷ b ∷ rest) generator ↔ IsMultiple word_field (0 ∷ 1 ∷ a ∷ b ∷ rest) generator =
    multiple_after_zero word_field word_axioms 14 56 64 0 1 a (b ∷ rest) in
    let second : IsMultiple word_field (0 ∷ 1 ∷ a ∷ b ∷ rest) generator ↔ IsMultiple word_field (1 ∷ a ∷ b ∷ rest) generator =
    multiple_after_zero word_field word_axioms 14 56 64 1 a b rest in
    (λ m. second.0 (first.0 m), λ m. first.1 (second.1 m))

below_1024 : (cs : List ℕ) → list_all (λ c. ltb c 1024) cs ≡ true → All IsIndex cs
below_1024 cs e = All-weaker (λ c. ltb c 1024 ≡ true) IsIndex (λ c. ltb-true c 1024) cs (AllPass-from_list_all (λ c. ltb c 1024) cs e)

pub customization : (extendable : Bool) → (3 ≤ length (customization_string extendable)) × All IsIndex (customization_string extendable)
customization true = (omega arith, below_1024 (customization_string true) refl)
customization false = (omega arith, below_1024 (customization_string false) refl)

-- The words have a valid checksum exactly where the last remainder is 1.
pub valid_from_remainder : (extendable : Bool) (words : List ℕ) → All IsIndex words → IsValidChecksum extendable words
    ↔ (fold next_remainder one_remainder (customization_string extendable ++ words) ≡ one_remainder)
valid_from_remainder extendable words all =
    let k = customization extendable in
    let cs = customization_string extendable ++ words in
    let one = ones_first cs (omega (arith, length-append (customization_string extendable) words, k.0)) in
    let last = last_remainder cs one_remainder (record { square = omega arith; linear = omega arith; constant = omega arith })
    (All-append IsIndex (customization_string extendable) words k.1 all) in
    (λ m. last.0 (one.1 m), λ is. one.0 (last.1 is))

xor_assoc : (a b c : ℕ) → bit_xor (bit_xor a b) c ≡ bit_xor a (bit_xor b c)
xor_assoc a b c = word_axioms.add_associates a b c

-- the remainder with three coefficients more, from that with three zeros more
after_three : (r : Remainder) (a b c : ℕ) → let z = fold next_remainder r (0 ∷ 0 ∷ 0 ∷ []) in
    fold next_remainder r (a ∷ b ∷ c ∷ []) ≡ record { square = bit_xor a z.square; linear = bit_xor b z.linear; constant = bit_xor c z.constant }
after_three r a b c = simp xor_assoc

-- two numbers with the same sum
xor_cancel : (a b : ℕ) → bit_xor a b ≡ 0 → a ≡ b
xor_cancel a b e = sym (word_axioms.add_zero a) ∙ ap (bit_xor a) (sym (word_axioms.add_self b)) ∙ sym (xor_assoc a b b) ∙ ap (λ x. bit_xor x b) e

-- the sum with a remainder is 1 at one list of coefficients alone
one_from : (z : Remainder) (a b c : ℕ) → (record { square = bit_xor a z.square; linear = bit_xor b z.linear; constant = bit_xor c z.constant }
    ≡ one_remainder) ↔ ((a ∷ b ∷ c ∷ []) ≡ (z.square ∷ z.linear ∷ bit_xor z.constant 1 ∷ []))
one_from z a b c = (
  λ is.
      let ea = xor_cancel a z.square (ap (λ x. x.square) is) in
      let eb = xor_cancel b z.linear (ap (λ x. x.linear) is) in
      let ec = xor_cancel c (bit_xor z.constant 1) (sym (xor_assoc c z.constant 1) ∙ ap (λ x. bit_xor x.constant 1) is) in
      cc,
  λ same.
      let ea : a ≡ z.square = cc in
      let eb : b ≡ z.linear = cc in
      let ec : c ≡ bit_xor z.constant 1 = cc in
      remainder_is _ (rw ea (word_axioms.add_self z.square)) (rw eb (word_axioms.add_self z.linear))
      (rw ec (xor_assoc (bit_xor z.constant 1) z.constant 1 ∙ word_axioms.add_self (bit_xor z.constant 1))),
)

-- A checksum is valid exactly where it is the remainder of the data words and three zeros, with 1 added to its last coefficient.
pub valid_checksum : (extendable : Bool) (words : List ℕ) (a b c : ℕ) (z : Remainder)
    → z ≡ fold next_remainder (fold next_remainder (fold next_remainder one_remainder (customization_string extendable)) words) (0 ∷ 0 ∷ 0 ∷ [])
    → All IsIndex words → All IsIndex (a ∷ b ∷ c ∷ []) → IsValidChecksum extendable (words ++ a ∷ b ∷ c ∷ [])
    ↔ ((a ∷ b ∷ c ∷ []) ≡ (z.square ∷ z.linear ∷ bit_xor z.constant 1 ∷ []))
valid_checksum extendable words a b c z z-is all in_range =
    let v = valid_from_remainder extendable (words ++ a ∷ b ∷ c ∷ []) (All-append IsIndex words (a ∷ b ∷ c ∷ []) all in_range) in
    let o = one_from z a b c in
    let r = fold next_remainder (fold next_remainder one_remainder (customization_string extendable)) words in
    let whole : fold next_remainder one_remainder (customization_string extendable ++ (words ++ a ∷ b ∷ c ∷ [])) ≡ record {
      square = bit_xor a z.square;
      linear = bit_xor b z.linear;
      constant = bit_xor c z.constant;
    } =
    fold-append next_remainder one_remainder (customization_string extendable) (words ++ a ∷ b ∷ c ∷ [])
    ∙ fold-append next_remainder (fold next_remainder one_remainder (customization_string extendable)) words (a ∷ b ∷ c ∷ [])
    ∙ rw z-is (after_three r a b c) in
    (λ m. o.0 (sym whole ∙ v.0 m), λ same. v.1 (whole ∙ o.1 same))

-- No other three coefficients are a valid checksum.
pub only_checksum : (extendable : Bool) (words : List ℕ) (z : Remainder)
    → z ≡ fold next_remainder (fold next_remainder (fold next_remainder one_remainder (customization_string extendable)) words) (0 ∷ 0 ∷ 0 ∷ [])
    → All IsIndex words → (checksum : List ℕ) → length checksum ≡ 3 → All IsIndex checksum → IsValidChecksum extendable (words ++ checksum)
    → checksum ≡ (z.square ∷ z.linear ∷ bit_xor z.constant 1 ∷ [])
only_checksum extendable words z z-is all [] len in_range valid = absurd (omega arith)
only_checksum extendable words z z-is all (a ∷ []) len in_range valid = absurd (omega arith)
only_checksum extendable words z z-is all (a ∷ b ∷ []) len in_range valid = absurd (omega arith)
only_checksum extendable words z z-is all (a ∷ b ∷ c ∷ []) len in_range valid = (valid_checksum extendable words a b c z z-is all in_range).0 valid
only_checksum extendable words z z-is all (a ∷ b ∷ c ∷ d ∷ rest) len in_range valid = absurd (omega arith)

-- Two checksums of the same words are the same.
pub one_checksum : (extendable : Bool) (words checksum other : List ℕ) → All IsIndex words → length checksum ≡ 3 → length other ≡ 3
    → All IsIndex checksum → All IsIndex other → IsValidChecksum extendable (words ++ checksum) → IsValidChecksum extendable (words ++ other) → checksum ≡ other
one_checksum extendable words checksum other all len len' in_range in_range' valid valid' =
    let z = fold next_remainder (fold next_remainder (fold next_remainder one_remainder (customization_string extendable)) words) (0 ∷ 0 ∷ 0 ∷ []) in
    only_checksum extendable words z refl all checksum len in_range valid ∙ sym (only_checksum extendable words z refl all other len' in_range' valid')

-- Words have a checksum.
pub checksum_found : (extendable : Bool) (words : List ℕ) → All IsIndex words
    → (checksum : List ℕ) × (length checksum ≡ checksum_length) × All IsIndex checksum × IsValidChecksum extendable (words ++ checksum)
checksum_found extendable words all =
    let one : AreElements one_remainder = record { square = omega arith; linear = omega arith; constant = omega arith } in
    let first = AreElements-fold (customization_string extendable) one_remainder one (customization extendable).1 in
    let second = AreElements-fold words (fold next_remainder one_remainder (customization_string extendable)) first all in
    let zero : IsIndex 0 = omega arith in
    let z = fold next_remainder (fold next_remainder (fold next_remainder one_remainder (customization_string extendable)) words) (0 ∷ 0 ∷ 0 ∷ []) in
    let zeros = All-cons IsIndex 0 (0 ∷ 0 ∷ []) zero (All-cons IsIndex 0 (0 ∷ []) zero (All-cons IsIndex 0 [] zero (All-nil IsIndex))) in
    let e = AreElements-fold (0 ∷ 0 ∷ 0 ∷ []) (fold next_remainder (fold next_remainder one_remainder (customization_string extendable)) words) second zeros in
    let constant = bit_xor z.constant 1 in
    let below = All-cons IsIndex z.square (z.linear ∷ constant ∷ []) e.square
    (All-cons IsIndex z.linear (constant ∷ []) e.linear (All-cons IsIndex constant [] (word_axioms.add_element z.constant 1 e.constant (omega arith))
    (All-nil IsIndex))) in
    (z.square ∷ z.linear ∷ constant ∷ [], refl, below, (valid_checksum extendable words z.square z.linear constant z refl all below).1 refl)
