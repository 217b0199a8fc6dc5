-- The index of a word in the list, from a binary search among the rows.
use Rattle.std.proofs.Common.{◌≡◌, ℕ, zero, suc, ◌-◌, ◌<◌, List, [], ◌∷◌, ◌++◌, length, get_or, replicate, Some, None}
use Rattle.std.proofs.Common.{Ok, Err, Result, refl, sym, ap, subst, ◌∙◌, ⊎_elim, arith}
use Rattle.std.specs.Prelude.{◌≢◌, map, All, position, bytes_eq}
use Rattle.std.specs.Str.{str_to_ascii_lowercase}
use Rattle.std.specs.List.{position_or_len, AllWithin}
use Rattle.std.specs.List.Sorted.{IsNonDecreasingBy, IsBinarySearchResult, IsSearchInRange}
use Rattle.std.specs.Ordering.{nat_cmp, ordering_index}
use Rattle.std.specs.declared.cmp.Ordering.TheVariants.{Less, Equal, Greater}
use Rattle.std.specs.Cmp.Lexicographic.{slice_cmp}
use Rattle.std.specs.Result.{result_ok}
use Rattle.std.proofs.lemmas.Bool.{false_from_ne_true, cases_lt, cond-true, cond-false, lt-ltb, le-ltb}
use Rattle.std.proofs.lemmas.Cmp.{nat_list_cmp_total, nat_cmp_total, tied_itself}
use Rattle.std.proofs.lemmas.Bool.Decides.{nat_tests}
use Rattle.std.proofs.lemmas.Nat.{be_bytes_8}
use Rattle.std.specs.Int.{w64, from_be_bytes, to_be_bytes}
use Rattle.std.proofs.lemmas.List.{get_or-map, length-map, length-append}
use Rattle.std.proofs.lemmas.List.Elements.{All-head, All-tail}
use Rattle.std.proofs.lemmas.List.Sorted.{searchable_from_sorted}
use Rattle.std.proofs.lemmas.List.Sums.{position_or_len_is}
use Rattle.std.proofs.lemmas.Slice.Eq.{bytes_eq-Decides}
use Rattle.s39_words.specs.Layout.{IsIndex, word_list_length}
use Rattle.s39_words.specs.WordList.{word_list, index_of, IsLetter}
use Rattle.s39_words.specs.Rows.{row_of, number_of_row, FitsRow}
use Rattle.s39_words.specs.FirstWord.{BeginsInWord, BeginsWith}
use Rattle.s39_words.specs.Spelling.{words_of}
use Rattle.s39_words.proofs.Rows.{length-row, row-bytes}
use Rattle.s39_words.proofs.TextWords.{words_of_first, begins_somehow, some_from_begins}
use Rattle.s39_words.proofs.WordTable.{length-word_list, lengths, letters, ascending, rows_in_order}

-- ---- the place of a word in a list of words

pub position_at : (ws : List (List ℕ)) (w : List ℕ) (i : ℕ) → i < length ws → get_or ws i [] ≡ w → ((k : ℕ) → k < i → get_or ws k [] ≢ w)
    → position (λ v. bytes_eq v w) ws ≡ Some i
position_at ws w i within here before =
    let first : position_or_len (λ v. bytes_eq v w) ws ≡ i =
    position_or_len_is (λ v. bytes_eq v w) ws i [] (omega arith)
    (λ k below. false_from_ne_true _ (λ e. before k below ((bytes_eq-Decides (get_or ws k []) w).0 e)))
    (λ _. (bytes_eq-Decides (get_or ws i []) w).1 here) in
    rw first (cond-true _ _ _ (lt-ltb i (length ws) within))

position_none : (ws : List (List ℕ)) (w : List ℕ) → ((k : ℕ) → k < length ws → get_or ws k [] ≢ w) → position (λ v. bytes_eq v w) ws ≡ None
position_none ws w none =
    let first : position_or_len (λ v. bytes_eq v w) ws ≡ length ws =
    position_or_len_is (λ v. bytes_eq v w) ws (length ws) [] (omega arith)
    (λ k below. false_from_ne_true _ (λ e. none k below ((bytes_eq-Decides (get_or ws k []) w).0 e)))
    (λ within. absurd (omega arith)) in
    rw first (cond-false _ _ _ (le-ltb (length ws) (length ws) (omega arith)))

-- ---- a row tells its word

filled_same : (v w : List ℕ) (m n : ℕ) → All IsLetter v → All IsLetter w → v ++ replicate m 32 ≡ w ++ replicate n 32 → v ≡ w
filled_same [] [] m n hv hw e = refl
filled_same [] (y ∷ ys) zero n hv hw e = cc
filled_same [] (y ∷ ys) (suc m) n hv hw e =
    let h : IsLetter y = All-head IsLetter y ys hw in
    let same : 32 ≡ y = cc in
    absurd (omega arith)
filled_same (x ∷ xs) [] m zero hv hw e = cc
filled_same (x ∷ xs) [] m (suc n) hv hw e =
    let h : IsLetter x = All-head IsLetter x xs hv in
    let same : x ≡ 32 = cc in
    absurd (omega arith)
filled_same (x ∷ xs) (y ∷ ys) m n hv hw e =
    let heads : x ≡ y = cc in
    let tails : xs ++ replicate m 32 ≡ ys ++ replicate n 32 = cc in
    let rest : xs ≡ ys = filled_same xs ys m n (All-tail IsLetter x xs hv) (All-tail IsLetter y ys hw) tails in
    cc

row_of_same : (v w : List ℕ) → All IsLetter v → All IsLetter w → row_of v ≡ row_of w → v ≡ w
row_of_same v w = filled_same v w (8 - length v) (8 - length w)

-- ---- the words of the list

listed_fits : (k : ℕ) → k < length word_list → FitsRow (get_or word_list k [])
listed_fits k within = record {
  letters = letters k [] within;
  short = (lengths k [] within).1;
}

pub index_of_none : (w : List ℕ) → (FitsRow w → ⊥) → index_of w ≡ None
index_of_none w unfit =
    position_none word_list w (λ k within same. unfit (subst FitsRow same (listed_fits k within)))

-- no word of the list stands there twice
pub listed_once : (k i : ℕ) → k < i → i < length word_list → get_or word_list k [] ≢ get_or word_list i []
listed_once k i below within same =
    let less : slice_cmp nat_cmp (get_or word_list k []) (get_or word_list i []) ≡ Less = ascending k i [] below within in
    let tied : slice_cmp nat_cmp (get_or word_list i []) (get_or word_list i []) ≡ Equal = tied_itself nat_list_cmp_total (get_or word_list i []) in
    let less' : slice_cmp nat_cmp (get_or word_list i []) (get_or word_list i []) ≡ Less =
    subst (λ v. slice_cmp nat_cmp v (get_or word_list i []) ≡ Less) same less in
    cc

row_at : (k : ℕ) → k < length word_list → get_or (map row_of word_list) k [] ≡ row_of (get_or word_list k [])
row_at k within = get_or-map row_of word_list k [] [] within

length_rows : length (map row_of word_list) ≡ length word_list
length_rows = simp length-map

-- a row is known by its number
same_row : (v w : List ℕ) → FitsRow v → FitsRow w → number_of_row (row_of v) ≡ number_of_row (row_of w) → row_of v ≡ row_of w
unfolding number_of_row
same_row v w p q e =
    sym (be_bytes_8 (row_of v) (from_be_bytes w64 (row_of v)) (length-row v p) (row-bytes v p) refl)
    ∙ ap (to_be_bytes w64) e
    ∙ be_bytes_8 (row_of w) (from_be_bytes w64 (row_of w)) (length-row w q) (row-bytes w q) refl

same_number : (a b : ℕ) → nat_cmp a b ≡ Equal → a ≡ b
same_number a b e = grind (arith, nat_tests)

searchable : (x : ℕ) → IsNonDecreasingBy (λ row. ordering_index (nat_cmp (number_of_row row) x)) (map row_of word_list)
searchable x = searchable_from_sorted nat_cmp_total number_of_row (map row_of word_list) x (λ k d low high. rows_in_order k d high)

-- what a binary search for the number of a word's row finds
index_of_searched : (w : List ℕ) (r : Result ℕ ℕ) → FitsRow w → IsSearchInRange r (length (map row_of word_list))
    → IsBinarySearchResult (λ row. nat_cmp (number_of_row row) (number_of_row (row_of w))) (map row_of word_list) r → index_of w ≡ result_ok r
index_of_searched w (Ok i) fits within found =
    let inside : i < length word_list = subst (λ n. i < n) length_rows within in
    let listed = listed_fits i inside in
    let numbers : number_of_row (row_of (get_or word_list i [])) ≡ number_of_row (row_of w) =
    ap number_of_row (sym (row_at i inside)) ∙ same_number _ _ (found []) in
    let same : get_or word_list i [] ≡ w =
    row_of_same (get_or word_list i []) w listed.letters fits.letters (same_row (get_or word_list i []) w listed fits numbers) in
    position_at word_list w i inside same (λ k below e. listed_once k i below inside (e ∙ sym same))
index_of_searched w (Err i) fits within found =
    let x = number_of_row (row_of w) in
    let parts : AllWithin (λ row. nat_cmp (number_of_row row) x ≡ Less)
    (map row_of word_list) 0 i × AllWithin (λ row. nat_cmp (number_of_row row) x ≡ Greater) (map row_of word_list) i (length (map row_of word_list)) =
    found (searchable x) in
    position_none word_list w (λ k inside same.
    let row_same : get_or (map row_of word_list) k [] ≡ row_of w = row_at k inside ∙ ap row_of same in
    let tied : nat_cmp x x ≡ Equal = tied_itself nat_cmp_total x in
    let equal : nat_cmp (number_of_row (get_or (map row_of word_list) k [])) x ≡ Equal =
    subst (λ row. nat_cmp (number_of_row row) x ≡ Equal) (sym row_same) tied in
    ⊎_elim
    (λ below. let less : nat_cmp (number_of_row (get_or (map row_of word_list) k [])) x ≡ Less = parts.0 k [] (omega arith) below in cc)
    (λ above. let greater : nat_cmp (number_of_row (get_or (map row_of word_list) k [])) x ≡ Greater =
    parts.1 k [] above (subst (λ n. k < n) (sym length_rows) inside) in cc)
    (cases_lt k i))

-- the same, as the code has it
pub index_of_search : (w row : List ℕ) (x : ℕ) (rows : List (List ℕ)) (r : Result ℕ ℕ) → FitsRow w → row ≡ row_of w
    → x ≡ number_of_row row → rows ≡ map row_of word_list → IsSearchInRange r (length rows)
    → IsBinarySearchResult (λ y. nat_cmp (number_of_row y) x) rows r → index_of w ≡ result_ok r
index_of_search w row x rows r fits row_is x_is rows_are within found =
    index_of_searched w r fits
    (subst (λ xs. IsSearchInRange r (length xs)) rows_are within)
    (subst (λ xs. IsBinarySearchResult (λ y. nat_cmp (number_of_row y) (number_of_row (row_of w))) xs r) rows_are
    (subst (λ n. IsBinarySearchResult (λ y. nat_cmp (number_of_row y) n) rows r) (x_is ∙ ap number_of_row row_is) found))

pub found_in_list : (rows : List (List ℕ)) (r : Result ℕ ℕ) (i : ℕ) → rows ≡ map row_of word_list → IsSearchInRange r (length rows) → Some i ≡ result_ok r
    → IsIndex i
found_in_list rows (Ok j) i rows_are within e =
    let same : i ≡ j = cc in
    let n : length rows ≡ word_list_length = ap length rows_are ∙ length_rows ∙ length-word_list in
    omega arith
found_in_list rows (Err j) i rows_are within e = cc

-- ---- the first word of a text

-- the first word of the text, of which no index is known
abbrev BeginsUnknown : List ℕ → Type 0
BeginsUnknown text = (word : List ℕ) × (later : List (List ℕ)) × (words_of text ≡ word ∷ later) × (index_of word ≡ None)

first_is_unknown : (text word rest : List ℕ) → BeginsWith text word rest → BeginsInWord text → 0 < length text
    → index_of (str_to_ascii_lowercase word) ≡ None → BeginsUnknown text
first_is_unknown text word rest h begins some none = (
  str_to_ascii_lowercase word,
  words_of rest,
  words_of_first text word rest h (some_from_begins text word rest h begins some),
  none,
)

-- it fits in no row
pub unfit_is_unknown : (text : List ℕ) → BeginsInWord text → 0 < length text
    → ((word rest : List ℕ) → BeginsWith text word rest → FitsRow (str_to_ascii_lowercase word) → ⊥) → BeginsUnknown text
unfit_is_unknown text begins some unfit =
    let first = begins_somehow text in
    first_is_unknown text first.0 first.1 first.2 begins some (index_of_none (str_to_ascii_lowercase first.0) (unfit first.0 first.1 first.2))

-- or isn't in the list
pub unlisted_is_unknown : (text rest : List ℕ) (number : ℕ) → BeginsInWord text → 0 < length text
    → (word : List ℕ) × BeginsWith text word rest × FitsRow (str_to_ascii_lowercase word) × (number ≡ number_of_row (row_of (str_to_ascii_lowercase word)))
    → ((word : List ℕ) → FitsRow word → number ≡ number_of_row (row_of word) → None ≡ index_of word) → BeginsUnknown text
unlisted_is_unknown text rest number begins some row none =
    first_is_unknown text row.0 rest row.1 begins some (sym (none (str_to_ascii_lowercase row.0) row.2 row.3))

pub first_is_known : (text rest : List ℕ) (number index : ℕ) → BeginsInWord text → 0 < length text
    → (word : List ℕ) × BeginsWith text word rest × FitsRow (str_to_ascii_lowercase word) × (number ≡ number_of_row (row_of (str_to_ascii_lowercase word)))
    → ((word : List ℕ) → FitsRow word → number ≡ number_of_row (row_of word) → Some index ≡ index_of word)
    → (word : List ℕ) × (index_of word ≡ Some index) × (words_of text ≡ word ∷ words_of rest)
first_is_known text rest number index begins some row found = (
  str_to_ascii_lowercase row.0,
  sym (found (str_to_ascii_lowercase row.0) row.2 row.3),
  words_of_first text row.0 rest row.1 (some_from_begins text row.0 rest row.1 begins some),
)

pub rest_is_shorter : (text word rest : List ℕ) → BeginsWith text word rest → BeginsInWord text → 0 < length text → length rest < length text
rest_is_shorter text word rest h begins some =
    let nonempty : 0 < length word = some_from_begins text word rest h begins some in
    omega (arith, ap length h.parts, length-append word rest, nonempty)
