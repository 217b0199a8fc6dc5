-- The word list, computed: its order, its letters, and the rows of the table.
use Rattle.std.proofs.Common.{◌≡◌, ℕ, zero, suc, ◌+◌, ◌<◌, ◌≤◌, Bool, true, false, ◌&&◌, leb, List, [], ◌∷◌, length}
use Rattle.std.proofs.Common.{take, get_or, Ordering, refl, sym, subst, arith, add-one}
use Rattle.std.specs.Prelude.{nat_le, not, map, All, AllPairs, Decides}
use Rattle.std.specs.List.{list_all}
use Rattle.std.specs.Ordering.{nat_cmp, is_lt}
use Rattle.std.specs.declared.cmp.Ordering.TheVariants.{Less, Equal, Greater}
use Rattle.std.specs.Cmp.Lexicographic.{slice_cmp}
use Rattle.std.proofs.lemmas.Bool.{and_parts, leb-true, le-leb}
use Rattle.std.proofs.lemmas.Bool.Decides.{Decides-by_and, Decides-and}
use Rattle.std.proofs.lemmas.Cmp.{nat_list_cmp_total}
use Rattle.std.proofs.lemmas.List.Elements.{All-nil, All-cons, All-weaker}
use Rattle.std.proofs.lemmas.List.Kept.{AllPairs-cons}
use Rattle.s39_words.specs.Layout.{word_list_length, shortest_word, longest_word, telling_letters}
use Rattle.s39_words.specs.WordList.{word_list, IsLetter, ComesBefore}
use Rattle.s39_words.specs.Rows.{row_of, number_of_row}
use Rattle.s39_words.specs.declared.word_list.TheConstants.{ROWS}

-- ---- by computation

pub length-word_list : length word_list ≡ word_list_length
unfolding word_list
length-word_list = refl

pub rows_are : ROWS ≡ map row_of word_list
unfolding word_list
rows_are = refl

-- each word comes before the next
abbrev ascends : List (List ℕ) → Bool
ascends [] = true
ascends (v ∷ []) = true
ascends (v ∷ w ∷ ws) = is_lt (slice_cmp nat_cmp v w) && ascends (w ∷ ws)

words_ascend : ascends word_list ≡ true
unfolding word_list
words_ascend = refl

rows_ascend : ascends (map row_of word_list) ≡ true
unfolding word_list
rows_ascend = refl

starts_ascend : ascends (map (take telling_letters) word_list) ≡ true
unfolding word_list
starts_ascend = refl

abbrev has_word_length : List ℕ → Bool
has_word_length word = nat_le shortest_word (length word) && nat_le (length word) longest_word

lengths_pass : list_all has_word_length word_list ≡ true
unfolding word_list
lengths_pass = refl

abbrev is_letter : ℕ → Bool
is_letter c = nat_le 97 c && nat_le c 122

letters_pass : list_all (λ word. list_all is_letter word) word_list ≡ true
unfolding word_list
letters_pass = refl

-- no row's number is below that of the row before
abbrev never_falls : List (List ℕ) → Bool
never_falls [] = true
never_falls (v ∷ []) = true
never_falls (v ∷ w ∷ ws) = not (is_lt (nat_cmp (number_of_row w) (number_of_row v))) && never_falls (w ∷ ws)

numbers_rise : never_falls (map row_of word_list) ≡ true
unfolding word_list number_of_row
numbers_rise = refl

-- ---- what the tests say

false_from_not : (b : Bool) → not b ≡ true → b ≡ false
false_from_not true h = sym h
false_from_not false h = refl

sorted_from_test : (ws : List (List ℕ)) → never_falls ws ≡ true → (k : ℕ) (d : List ℕ) → suc k < length ws
    → is_lt (nat_cmp (number_of_row (get_or ws (suc k) d)) (number_of_row (get_or ws k d))) ≡ false
sorted_from_test [] h k d within = absurd (omega arith)
sorted_from_test (v ∷ []) h k d within = absurd (omega arith)
sorted_from_test (v ∷ w ∷ ws) h zero d within = false_from_not (is_lt (nat_cmp (number_of_row w) (number_of_row v))) (and_parts _ _ h).0
sorted_from_test (v ∷ w ∷ ws) h (suc k) d within = sorted_from_test (w ∷ ws) (and_parts _ _ h).1 k d (omega arith)

pub rows_in_order : (k : ℕ) (d : List ℕ) → k + 1 < length (map row_of word_list)
    → is_lt (nat_cmp (number_of_row (get_or (map row_of word_list) (k + 1) d)) (number_of_row (get_or (map row_of word_list) k d))) ≡ false
rows_in_order k d within =
    subst (λ n. is_lt (nat_cmp (number_of_row (get_or (map row_of word_list) n d)) (number_of_row (get_or (map row_of word_list) k d))) ≡ false)
    (sym (add-one k))
    (sorted_from_test (map row_of word_list) numbers_rise k d (omega arith))

Decides-leb : (a b : ℕ) → Decides (leb a b) (a ≤ b)
Decides-leb a b = (leb-true a b, le-leb a b)

pub lengths : All (λ word. (shortest_word ≤ length word) × (length word ≤ longest_word)) word_list
lengths =
    (Decides-by_and has_word_length (λ word. (shortest_word ≤ length word) × (length word ≤ longest_word)) (list_all has_word_length)
    (λ word. Decides-and _ _ (Decides-leb 4 (length word)) (Decides-leb (length word) 8))
    refl (λ _ _. refl) word_list).0
    lengths_pass

pub letters : All (λ word. All IsLetter word) word_list
letters =
    (Decides-by_and (λ word. list_all is_letter word) (λ word. All IsLetter word) (list_all (λ word. list_all is_letter word))
    (Decides-by_and is_letter IsLetter (list_all is_letter)
    (λ c. Decides-and _ _ (Decides-leb 97 c) (Decides-leb c 122)) refl (λ _ _. refl))
    refl (λ _ _. refl) word_list).0
    letters_pass

less_from_is_lt : (o : Ordering) → is_lt o ≡ true → o ≡ Less
less_from_is_lt Less h = refl
less_from_is_lt Equal h = cc
less_from_is_lt Greater h = cc

-- a list that ascends from each element to the next has each element before all later ones
first_below_all : (v : List ℕ) (ws : List (List ℕ)) → ascends (v ∷ ws) ≡ true → All (ComesBefore v) ws
first_below_all v [] h = All-nil (ComesBefore v)
first_below_all v (w ∷ ws) h =
    let parts : (is_lt (slice_cmp nat_cmp v w) ≡ true) × (ascends (w ∷ ws) ≡ true) = and_parts _ _ h in
    let here : slice_cmp nat_cmp v w ≡ Less = less_from_is_lt (slice_cmp nat_cmp v w) parts.0 in
    All-cons (ComesBefore v) w ws here
    (All-weaker (ComesBefore w) (ComesBefore v) (λ u k. nat_list_cmp_total.trans v w u here k) ws (first_below_all w ws parts.1))

ascends_tail : (v : List ℕ) (ws : List (List ℕ)) → ascends (v ∷ ws) ≡ true → ascends ws ≡ true
ascends_tail v [] h = refl
ascends_tail v (w ∷ ws) h = (and_parts _ _ h).1

all_pairs_from_ascends : (ws : List (List ℕ)) → ascends ws ≡ true → AllPairs ComesBefore ws
all_pairs_from_ascends [] h = λ i j d below within. absurd (omega arith)
all_pairs_from_ascends (v ∷ ws) h =
    AllPairs-cons ComesBefore v ws (first_below_all v ws h)
    (all_pairs_from_ascends ws (ascends_tail v ws h))

pub ascending : AllPairs ComesBefore word_list
ascending = all_pairs_from_ascends word_list words_ascend

pub starts_ascending : AllPairs ComesBefore (map (take telling_letters) word_list)
starts_ascending = all_pairs_from_ascends (map (take telling_letters) word_list) starts_ascend

pub rows_ascending : AllPairs ComesBefore (map row_of word_list)
rows_ascending = all_pairs_from_ascends (map row_of word_list) rows_ascend
