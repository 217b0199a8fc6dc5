-- The polynomial of a checksum, and its value.
use Rattle.std.proofs.Common.{◌≡◌, ℕ, ◌+◌, ◌-◌, ◌<◌, ◌≤◌, Bool, List, [], ◌∷◌, ◌++◌, length, get_or, drop, Option, Some, None, IsSome, refl, sym, ap}
use Rattle.std.proofs.Common.{ap₂, ◌∙◌, arith}
use Rattle.std.specs.Prelude.{◌↔◌, All, bit_xor, unwrap_or}
use Rattle.std.specs.Option.{option_to_list}
use Rattle.std.proofs.lemmas.Bool.{false≢true}
use Rattle.std.proofs.lemmas.List.{drop_more}
use Rattle.std.proofs.lemmas.List.Elements.{All-nil, All-cons, All-head, All-tail, All-append, All-get_or}
use Rattle.s39_field.specs.Field.{IsField}
use Rattle.s39_field.specs.FieldProduct.{word_field}
use Rattle.s39_field.specs.Polynomial.{value_at}
use Rattle.s39_field.specs.Theory.Powers.{word_field_is_field}
use Rattle.s39_field.proofs.Values.{value_at-cons}
use Rattle.s39_words.specs.Checksum.{customization_string, one_added_to_last}
use Rattle.s39_words.specs.Layout.{IsIndex}
use Rattle.s39_words.proofs.Remainders.{customization}

axioms : IsField word_field
axioms = word_field_is_field

added_at_end : (xs : List ℕ) (x : ℕ) → one_added_to_last (xs ++ x ∷ []) ≡ xs ++ bit_xor x 1 ∷ []
added_at_end [] x = refl
added_at_end (y ∷ []) x = refl
added_at_end (y ∷ z ∷ zs) x = ap (λ l. y ∷ l) (added_at_end (z ∷ zs) x)

-- the last coefficient, taken off and put back with 1 added
pub last_added : (all rest : List ℕ) (o : Option ℕ) (last : ℕ) → all ≡ rest ++ option_to_list o → (IsSome o ↔ (0 < length all)) → 0 < length all
    → last ≡ unwrap_or o 0 → rest ++ bit_xor last 1 ∷ [] ≡ one_added_to_last all
last_added all rest (Some x) last parts is some last_is =
    ap (λ l. rest ++ bit_xor l 1 ∷ []) last_is ∙ sym (added_at_end rest x) ∙ ap one_added_to_last (sym parts)
last_added all rest None last parts is some last_is = absurd (false≢true (is.1 some))

added-in_range : (xs : List ℕ) → All IsIndex xs → All IsIndex (one_added_to_last xs)
added-in_range [] all = all
added-in_range (x ∷ []) all = All-cons IsIndex (bit_xor x 1) [] (axioms.add_element x 1 (All-head IsIndex x [] all) (omega arith)) (All-nil IsIndex)
added-in_range (x ∷ y ∷ ys) all =
    All-cons IsIndex x (one_added_to_last (y ∷ ys)) (All-head IsIndex x (y ∷ ys) all) (added-in_range (y ∷ ys) (All-tail IsIndex x (y ∷ ys) all))

pub polynomial-in_range : (extendable : Bool) (words : List ℕ) → All IsIndex words
    → All IsIndex (one_added_to_last (1 ∷ customization_string extendable ++ words))
polynomial-in_range extendable words all =
    added-in_range (1 ∷ customization_string extendable ++ words)
    (All-append IsIndex (1 ∷ customization_string extendable) words
    (All-cons IsIndex 1 (customization_string extendable) (omega arith) (customization extendable).1) all)

-- the value with one coefficient more in front
pub next_value : (cs : List ℕ) (i x value product e sum : ℕ) → 0 < i → i ≤ length cs → All IsIndex cs → value ≡ value_at word_field (drop i cs) x
    → product ≡ word_field.mul value x → e ≡ get_or cs (i - 1) 0 → sum ≡ word_field.add product e → sum ≡ value_at word_field (drop (i - 1) cs) x
next_value cs i x value product e sum some within all so_far times is plus =
    let c = get_or cs (i - 1) 0 in
    let next : (i - 1) + 1 ≡ i = omega arith in
    let parts : drop (i - 1) cs ≡ c ∷ drop i cs = drop_more cs (i - 1) 0 (omega arith) ∙ ap (λ j. c ∷ drop j cs) next in
    plus
    ∙ ap₂ word_field.add (times ∙ ap (λ v. word_field.mul v x) so_far) is
    ∙ axioms.add_commutes (word_field.mul (value_at word_field (drop i cs) x) x) c
    ∙ sym (value_at-cons word_field axioms c (drop i cs) x (All-get_or IsIndex cs (i - 1) 0 (omega arith) all))
    ∙ ap (λ l. value_at word_field l x) (sym parts)
