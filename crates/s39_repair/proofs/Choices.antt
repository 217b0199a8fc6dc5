-- The words for which a mark stands are a range of the list.
use Rattle.std.proofs.Common.{◌≡◌, ◌≢◌, ℕ, zero, suc, ◌+◌, ◌-◌, ◌<◌, ◌≤◌, Bool, true, false, List, [], ◌∷◌, ◌++◌, length, get_or, take, drop}
use Rattle.std.proofs.Common.{filter, Some, refl, sym, ap, ap₂, subst, ◌∙◌, arith}
use Rattle.std.specs.Prelude.{◌↔◌, ◌||◌, ◌&&◌, All, Contains, IsTrue, nat_eq, bytes_eq}
use Rattle.std.specs.List.{ends_with, range_with_len}
use Rattle.std.specs.Char.{to_ascii_lowercase}
use Rattle.std.specs.Str.{str_to_ascii_lowercase}
use Rattle.std.proofs.lemmas.Bool.Decides.{nat_tests}
use Rattle.std.proofs.lemmas.List.{take_all, take_at, take_more, take-append-drop, drop_at, drop_more, length-map, length-append, length-drop}
use Rattle.std.proofs.lemmas.List.{get_or-map, get_or_default, map-append, append-nil}
use Rattle.std.proofs.lemmas.List.Elements.{All-take, All-weaker, filter_agree}
use Rattle.std.proofs.lemmas.List.Folds.{map_fixed}
use Rattle.std.proofs.lemmas.List.FromFn.{length-range_with_len, get_or-range_with_len}
use Rattle.std.proofs.lemmas.Slice.Eq.{bytes_eq-Decides}
use Rattle.std.proofs.lemmas.Str.Ascii.{lowercase_is}
use Rattle.s39_lists.proofs.Ranges.{range-split}
use Rattle.s39_words.specs.Layout.{IsIndex, word_list_length}
use Rattle.s39_words.specs.Prefix.{begins_with}
use Rattle.s39_words.specs.Printing.{listed_word}
use Rattle.s39_words.specs.WordList.{word_list, index_of, IsLetter}
use Rattle.s39_words.proofs.Beginnings.{no_word_begins_another}
use Rattle.s39_words.proofs.Listed.{index_of-listed_word}
use Rattle.s39_words.proofs.Prefixes.{filter_between}
use Rattle.s39_words.proofs.WordTable.{length-word_list, letters}
use Rattle.s39_repair.specs.Marks.{stands_for, listed_that, choices}

-- ---- the numbers of a range that pass a test, if they stand between two numbers

between : (p : ℕ → Bool) (n a b : ℕ) → a ≤ b → b ≤ n → ((i : ℕ) → i < n → IsTrue (p i) ↔ ((a ≤ i) × (i < b)))
    → filter p (range_with_len 0 n) ≡ range_with_len a (b - a)
between p n a b low high h =
    let middle = b - a in
    let rest = n - b in
    let front : a + (middle + rest) ≡ n = omega arith in
    let all = range_with_len 0 n in
    let parts : all ≡ range_with_len 0 a ++ (range_with_len a middle ++ range_with_len (a + middle) rest) =
    sym (ap (range_with_len 0) front) ∙ range-split 0 a (middle + rest)
    ∙ ap (λ m. range_with_len 0 a ++ range_with_len m (middle + rest)) (start a)
    ∙ ap (λ l. range_with_len 0 a ++ l) (range-split a middle rest) in
    let at : (i : ℕ) → i < length all → IsTrue (p (get_or all i 0)) ↔ ((a ≤ i) × (i < b)) =
    λ i below.
    let short : i < n = omega (arith, length-range_with_len 0 n) in
    let is_i : get_or all i 0 ≡ i = get_or-range_with_len 0 n i 0 short ∙ start i in
    subst (λ j. IsTrue (p j) ↔ ((a ≤ i) × (i < b))) (sym is_i) (h i short) in
    filter_between p all 0 a b low (omega (arith, length-range_with_len 0 n)) at
    ∙ ap (λ l. take middle (drop a l)) parts
    ∙ ap (take middle) (drop_at (range_with_len 0 a) (range_with_len a middle ++ range_with_len (a + middle) rest) a (length-range_with_len 0 a))
    ∙ take_at (range_with_len a middle) (range_with_len (a + middle) rest) middle (length-range_with_len a middle)
  where
    start : (m : ℕ) → 0 + m ≡ m
    start m = omega arith

get_or_end : (xs : List ℕ) (x d : ℕ) → get_or (xs ++ x ∷ []) (length xs) d ≡ x
get_or_end [] x d = refl
get_or_end (y ∷ xs) x d = get_or_end xs x d

-- ---- a whole word

-- letters that are as many as those of a word which begins with them are the word
pub same_from_begins : (mark word : List ℕ) → IsTrue (begins_with mark word) → length word ≡ length mark → str_to_ascii_lowercase mark ≡ word
same_from_begins mark word begins same =
    let small = str_to_ascii_lowercase mark in
    let n : length small ≡ length mark = length-map mark to_ascii_lowercase in
    (bytes_eq-Decides small (take (length small) word)).0 begins ∙ take_all (length small) word (omega (arith, n))

begins_from_same : (mark word : List ℕ) → str_to_ascii_lowercase mark ≡ word → IsTrue (begins_with mark word)
begins_from_same mark word e =
    let small = str_to_ascii_lowercase mark in
    (bytes_eq-Decides small (take (length small) word)).1 (e ∙ sym (take_all (length small) word (omega (arith, ap length e))))

listed : (i : ℕ) → IsIndex i → Contains word_list (listed_word i)
listed i lt = (i, omega (arith, length-word_list), get_or_default word_list i (listed_word i) [] (omega (arith, length-word_list)))

same_index : (i j : ℕ) → IsIndex i → IsIndex j → listed_word i ≡ listed_word j → i ≡ j
same_index i j lt lt' e =
    let first : index_of (listed_word i) ≡ Some i = index_of-listed_word i lt in
    let second : index_of (listed_word j) ≡ Some j = index_of-listed_word j lt' in
    let both : Some i ≡ Some j = sym first ∙ ap index_of e ∙ second in
    cc

abbrev IsWhole : List ℕ → ℕ → Bool
IsWhole mark i = bytes_eq (str_to_ascii_lowercase mark) (listed_word i)

-- the range of the words that begin with a mark
abbrev BeginIn : List ℕ → ℕ → ℕ → Type 0
BeginIn mark a b = (index : ℕ) → IsIndex index → IsTrue (begins_with mark (listed_word index)) ↔ ((a ≤ index) × (index < b))

-- a whole word is the first word that begins with it
pub whole_word_is : (mark : List ℕ) (a b : ℕ) → BeginIn mark a b → a < b → b ≤ word_list_length → length (listed_word a) ≡ length mark
    → listed_that (bytes_eq (str_to_ascii_lowercase mark)) ≡ range_with_len a ((a + 1) - a)
unfolding listed_that
whole_word_is mark a b range some bound long =
    let lt : IsIndex a = omega arith in
    let same : str_to_ascii_lowercase mark ≡ listed_word a = same_from_begins mark (listed_word a) ((range a lt).1 (omega arith, some)) long in
    between (IsWhole mark) word_list_length a (a + 1) (omega arith) (omega arith) (λ i lt'. (
      λ is. let one : i ≡ a = same_index i a lt' lt (sym ((bytes_eq-Decides (str_to_ascii_lowercase mark) (listed_word i)).0 is) ∙ same) in
          (omega arith, omega arith),
      λ inside. let one : i ≡ a = omega (arith, inside.0, inside.1) in
          (bytes_eq-Decides (str_to_ascii_lowercase mark) (listed_word i)).1 (same ∙ ap listed_word (sym one)),
    ))

-- if that word is longer, the mark is no word
no_whole : (mark : List ℕ) (a b i : ℕ) → BeginIn mark a b → b ≤ word_list_length → (a < b → length (listed_word a) ≢ length mark) → IsIndex i
    → IsTrue (IsWhole mark i) → ⊥
no_whole mark a b i range bound other lt is =
    let small = str_to_ascii_lowercase mark in
    let word = listed_word a in
    let same : small ≡ listed_word i = (bytes_eq-Decides small (listed_word i)).0 is in
    let inside = (range i lt).0 (begins_from_same mark (listed_word i) same) in
    let some : a < b = omega (arith, inside.0, inside.1) in
    let lt' : IsIndex a = omega arith in
    let begins : small ≡ take (length small) word = (bytes_eq-Decides small (take (length small) word)).0 ((range a lt').1 (omega arith, some)) in
    let whole : word ≡ listed_word i ++ drop (length small) word =
    sym (take-append-drop (length small) word) ∙ ap (λ l. l ++ drop (length small) word) (sym begins ∙ same) in
    let rest : drop (length small) word ≡ [] =
    no_word_begins_another (listed_word i) (drop (length small) word) (listed i lt) (subst (Contains word_list) whole (listed a lt')) in
    let one : word ≡ listed_word i = whole ∙ ap (λ l. listed_word i ++ l) rest ∙ append-nil (listed_word i) in
    other some (ap length one ∙ sym (ap length same) ∙ length-map mark to_ascii_lowercase)

pub no_whole_word : (mark : List ℕ) (a b : ℕ) → BeginIn mark a b → b ≤ word_list_length → (a < b → length (listed_word a) ≢ length mark)
    → listed_that (bytes_eq (str_to_ascii_lowercase mark)) ≡ []
unfolding listed_that
no_whole_word mark a b range bound other =
    between (IsWhole mark) word_list_length 0 0 (omega arith) (omega arith) (λ i lt.
    (λ is. absurd (no_whole mark a b i range bound other lt is), λ none. absurd (omega (arith, none.1))))

-- ---- letters and a question mark

small_twice : (b : ℕ) → to_ascii_lowercase (to_ascii_lowercase b) ≡ to_ascii_lowercase b
small_twice b = grind (arith, nat_tests)

small_letters_twice : (bs : List ℕ) → str_to_ascii_lowercase (str_to_ascii_lowercase bs) ≡ str_to_ascii_lowercase bs
small_letters_twice [] = refl
small_letters_twice (b ∷ bs) = ap₂ (λ c cs. c ∷ cs) (small_twice b) (small_letters_twice bs)

question_mark : (b : ℕ) → to_ascii_lowercase b ≡ 63 → b ≡ 63
question_mark b h = grind (arith, nat_tests)

false_from : (b : Bool) → (IsTrue b → ⊥) → b ≡ false
false_from true h = absurd (h refl)
false_from false h = refl

no_question_mark : (small : List ℕ) (i : ℕ) → IsIndex i → small ++ 63 ∷ [] ≡ listed_word i → ⊥
no_question_mark small i lt e =
    let all : All IsLetter (small ++ 63 ∷ []) = subst (All IsLetter) (sym e) (letters i [] (omega (arith, length-word_list))) in
    let at : get_or (small ++ 63 ∷ []) (length small) 0 ≡ 63 = get_or_end small 63 0 in
    let letter = all (length small) 0 (omega (arith, length-append small (63 ∷ []))) in
    omega (arith, at, letter)

-- what stands for words if it ends with a question mark
open_mark : (letters : List ℕ) (i : ℕ) → IsIndex i
    → stands_for (str_to_ascii_lowercase letters ++ 63 ∷ []) (listed_word i) ≡ begins_with letters (listed_word i)
open_mark letters i lt =
    let small = str_to_ascii_lowercase letters in
    let mark = small ++ 63 ∷ [] in
    let word = listed_word i in
    let other : bytes_eq mark word ≡ false = false_from (bytes_eq mark word) (λ is. no_question_mark small i lt ((bytes_eq-Decides mark word).0 is)) in
    let n : length mark - 1 ≡ length small = omega (arith, length-append small (63 ∷ [])) in
    let last : ends_with nat_eq mark (63 ∷ []) ≡ true =
    ap (λ m. bytes_eq (63 ∷ []) (drop m mark)) n ∙ ap (bytes_eq (63 ∷ [])) (drop_at small (63 ∷ []) (length small) refl) in
    let front : take (length mark - 1) mark ≡ small = ap (λ m. take m mark) n ∙ take_at small (63 ∷ []) (length small) refl in
    ap (λ b. b || (ends_with nat_eq mark (63 ∷ []) && begins_with (take (length mark - 1) mark) word)) other
    ∙ ap (λ b. b && begins_with (take (length mark - 1) mark) word) last
    ∙ ap (λ l. begins_with l word) front
    ∙ ap (λ l. bytes_eq l (take (length l) word)) (small_letters_twice letters)

pub open_choices : (mark letters : List ℕ) (a b : ℕ) → mark ≡ letters ++ 63 ∷ [] → BeginIn letters a b → a ≤ b → b ≤ word_list_length
    → choices (str_to_ascii_lowercase mark) ≡ range_with_len a (b - a)
unfolding listed_that
open_choices mark letters a b is range low bound =
    let small : str_to_ascii_lowercase mark ≡ str_to_ascii_lowercase letters ++ 63 ∷ [] =
    ap str_to_ascii_lowercase is ∙ map-append to_ascii_lowercase letters (63 ∷ []) in
    ap choices small
    ∙ between (λ i. stands_for (str_to_ascii_lowercase letters ++ 63 ∷ []) (listed_word i)) word_list_length a b low bound
    (λ i lt. subst (λ t. IsTrue t ↔ ((a ≤ i) × (i < b))) (sym (open_mark letters i lt)) (range i lt))

-- ---- other marks

or_false : (b c : Bool) → c ≡ false → (b || c) ≡ b
or_false true c h = refl
or_false false c h = h

no_last : (mark : List ℕ) → ((front : List ℕ) → mark ≢ front ++ 63 ∷ []) → ends_with nat_eq (str_to_ascii_lowercase mark) (63 ∷ []) ≡ false
no_last mark none =
    let small = str_to_ascii_lowercase mark in
    let n : length small ≡ length mark = length-map mark to_ascii_lowercase in
    let m = length small - 1 in
    false_from (ends_with nat_eq small (63 ∷ [])) (λ ends.
    let rest : 63 ∷ [] ≡ drop m small = (bytes_eq-Decides (63 ∷ []) (drop m small)).0 ends in
    let some : 0 < length small = omega (arith, ap length rest, length-drop m small) in
    let here : m < length mark = omega (arith, n) in
    let at : get_or small m 0 ≡ 63 =
    let more = drop_more small m 0 (omega arith) in
    let heads : 63 ∷ [] ≡ get_or small m 0 ∷ drop (m + 1) small = rest ∙ more in
    cc in
    let last : get_or mark m 0 ≡ 63 = question_mark (get_or mark m 0) (sym (get_or-map to_ascii_lowercase mark m 0 0 here) ∙ at) in
    let all : take (m + 1) mark ≡ mark = take_all (m + 1) mark (omega (arith, n)) in
    none (take m mark) (sym all ∙ take_more mark m 0 here ∙ ap (λ b. take m mark ++ b ∷ []) last))

pub other_choices : (mark : List ℕ) → ((front : List ℕ) → mark ≢ front ++ 63 ∷ [])
    → choices (str_to_ascii_lowercase mark) ≡ listed_that (bytes_eq (str_to_ascii_lowercase mark))
unfolding listed_that
other_choices mark none =
    let small = str_to_ascii_lowercase mark in
    filter_agree (λ i. stands_for small (listed_word i)) (IsWhole mark) (λ i.
    or_false (bytes_eq small (listed_word i)) (ends_with nat_eq small (63 ∷ []) && begins_with (take (length small - 1) small) (listed_word i))
    (ap (λ b. b && begins_with (take (length small - 1) small) (listed_word i)) (no_last mark none)))
    (range_with_len 0 word_list_length)

-- ---- what is written for a word of the list

-- its first letters have no capitals
small_front : (i n : ℕ) → IsIndex i → str_to_ascii_lowercase (take n (listed_word i)) ≡ take n (listed_word i)
small_front i n lt =
    map_fixed to_ascii_lowercase (take n (listed_word i)) (All-take (λ b. to_ascii_lowercase b ≡ b) n (listed_word i)
    (All-weaker IsLetter (λ b. to_ascii_lowercase b ≡ b) (λ b letter. (lowercase_is b).2 (omega (arith, letter))) (listed_word i)
    (letters i [] (omega (arith, length-word_list)))))

small_word : (i : ℕ) → IsIndex i → str_to_ascii_lowercase (listed_word i) ≡ listed_word i
small_word i lt =
    let whole : take (length (listed_word i)) (listed_word i) ≡ listed_word i = take_all (length (listed_word i)) (listed_word i) (omega arith) in
    subst (λ w. str_to_ascii_lowercase w ≡ w) whole (small_front i (length (listed_word i)) lt)

-- the word stands for itself alone
pub word_choices : (i : ℕ) → IsIndex i → choices (listed_word i) ≡ range_with_len i ((i + 1) - i)
unfolding listed_that
word_choices i lt =
    let small = small_word i lt in
    ap choices (sym small) ∙ other_choices (listed_word i) (λ front e. no_question_mark front i lt (sym e))
    ∙ between (IsWhole (listed_word i)) word_list_length i (i + 1) (omega arith) (omega arith) (λ j lt'. (
      λ is. let same = (bytes_eq-Decides (str_to_ascii_lowercase (listed_word i)) (listed_word j)).0 is in
          let one : j ≡ i = same_index j i lt' lt (sym same ∙ small) in
          (omega arith, omega arith),
      λ inside. let one : j ≡ i = omega (arith, inside.0, inside.1) in
          (bytes_eq-Decides (str_to_ascii_lowercase (listed_word i)) (listed_word j)).1 (small ∙ ap listed_word (sym one)),
    ))

take_length : (n : ℕ) (xs : List ℕ) → take (length (take n xs)) xs ≡ take n xs
take_length zero xs = refl
take_length (suc n) [] = refl
take_length (suc n) (x ∷ xs) = ap (λ ys. x ∷ ys) (take_length n xs)

-- its first letters and a question mark stand for it
pub front_stands : (i n : ℕ) → IsIndex i → stands_for (take n (listed_word i) ++ 63 ∷ []) (listed_word i) ≡ true
front_stands i n lt =
    let front = take n (listed_word i) in
    let small = small_front i n lt in
    ap (λ l. stands_for (l ++ 63 ∷ []) (listed_word i)) (sym small)
    ∙ open_mark front i lt
    ∙ ap (λ l. bytes_eq l (take (length l) (listed_word i))) small
    ∙ (bytes_eq-Decides front (take (length front) (listed_word i))).1 (sym (take_length n (listed_word i)))
