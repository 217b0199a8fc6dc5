-- The words of the list by their indices, and the letters of the table's rows.
use Rattle.std.proofs.Common.{◌≡◌, ℕ, zero, suc, ◌-◌, ◌<◌, ◌≤◌, false, List, [], ◌∷◌, ◌++◌, length, get_or, take}
use Rattle.std.proofs.Common.{replicate, eqb, eq-eqb, Some, None, refl, sym, ap, ⊎_elim, ◌∙◌, arith}
use Rattle.std.specs.Prelude.{All, map, position, bytes_eq, unwrap_or}
use Rattle.std.specs.List.{position_or_len}
use Rattle.std.proofs.lemmas.Bool.{lt-ltb, cond-true, cond-false, le-ltb, cases_lt}
use Rattle.std.proofs.lemmas.Bool.Decides.{nat_tests}
use Rattle.std.proofs.lemmas.List.{take_at, length-map, get_or-map, length-append, length-replicate, get_or-append_right}
use Rattle.std.proofs.Math.ListN.{get_or-append}
use Rattle.std.proofs.lemmas.List.Sums.{position_or_len_is, passes_at_first}
use Rattle.std.proofs.lemmas.List.Elements.{All-nil, All-cons, All-head, All-tail}
use Rattle.std.proofs.lemmas.Slice.Eq.{bytes_eq-Decides}
use Rattle.s39_words.specs.Layout.{IsIndex, word_list_length, shortest_word, longest_word}
use Rattle.s39_words.specs.WordList.{word_list, index_of, IsLetter}
use Rattle.s39_words.specs.Rows.{FitsRow, row_of}
use Rattle.s39_words.specs.Spelling.{HaveIndices}
use Rattle.s39_words.specs.Printing.{listed_word}
use Rattle.s39_words.proofs.WordTable.{length-word_list, lengths, letters}
use Rattle.s39_words.proofs.WordSearch.{position_at, listed_once}

-- a word of the list: small letters, and 4 to 8 of them
pub record IsListed (word : List ℕ) : Type 0 where
  pub letters : All IsLetter word
  pub at_least : shortest_word ≤ length word
  pub at_most : length word ≤ longest_word

pub IsListed-listed_word : (index : ℕ) → IsIndex index → IsListed (listed_word index)
IsListed-listed_word index lt =
    let within : index < length word_list = omega (arith, length-word_list) in
    record { letters = letters index [] within; at_least = (lengths index [] within).0; at_most = (lengths index [] within).1 }

pub listed_words : (indices : List ℕ) → All IsIndex indices → All IsListed (map listed_word indices)
listed_words [] all = All-nil IsListed
listed_words (i ∷ is) all =
    All-cons IsListed (listed_word i) (map listed_word is) (IsListed-listed_word i (All-head IsIndex i is all)) (listed_words is (All-tail IsIndex i is all))

pub short_word : (index : ℕ) (word : List ℕ) → IsIndex index → word ≡ listed_word index → length word ≤ longest_word
short_word index word lt is = rw is (IsListed-listed_word index lt).at_most

-- ---- the index of a word

pub index_of-listed_word : (index : ℕ) → IsIndex index → index_of (listed_word index) ≡ Some index
index_of-listed_word index lt =
    let within : index < length word_list = omega (arith, length-word_list) in
    position_at word_list (listed_word index) index within refl (λ k below. listed_once k index below within)

pub HaveIndices-listed_words : (indices : List ℕ) → All IsIndex indices → HaveIndices (map listed_word indices) indices
HaveIndices-listed_words [] all = refl
HaveIndices-listed_words (i ∷ is) all =
    let first = index_of-listed_word i (All-head IsIndex i is all) in
    let rest = HaveIndices-listed_words is (All-tail IsIndex i is all) in
    cc

-- a word with this index is the word that the list has there
listed_from_index : (word : List ℕ) (index : ℕ) → index_of word ≡ Some index → word ≡ listed_word index
listed_from_index word index e =
    let at = position_or_len (λ listed. bytes_eq listed word) word_list in
    ⊎_elim
    (λ below.
    let here : Some at ≡ Some index = sym (cond-true _ _ _ (lt-ltb at (length word_list) below)) ∙ e in
    let same : at ≡ index = cc in
    let word_is : get_or word_list at [] ≡ word = (bytes_eq-Decides (get_or word_list at []) word).0
    (passes_at_first (λ listed. bytes_eq listed word) word_list [] below) in
    sym word_is ∙ ap listed_word same)
    (λ above.
    let none : None ≡ Some index = sym (cond-false _ _ _ (le-ltb at (length word_list) above)) ∙ e in
    absurd cc)
    (cases_lt at (length word_list))

-- words with these indices are the words that the list has there
pub words_from_indices : (words : List (List ℕ)) (indices : List ℕ) → HaveIndices words indices → words ≡ map listed_word indices
words_from_indices [] [] e = refl
words_from_indices [] (i ∷ is) e = cc
words_from_indices (w ∷ ws) [] e = cc
words_from_indices (w ∷ ws) (i ∷ is) e =
    let first : index_of w ≡ Some i = cc in
    let others : map index_of ws ≡ map Some is = cc in
    let here = listed_from_index w i first in
    let rest = words_from_indices ws is others in
    cc

-- ---- the rows of the table

pub FitsRow-listed_word : (index : ℕ) → IsIndex index → FitsRow (listed_word index)
FitsRow-listed_word index lt =
    let h = IsListed-listed_word index lt in
    record { letters = h.letters; short = h.at_most }

pub length_rows : length (map row_of word_list) ≡ word_list_length
length_rows = length-map word_list row_of ∙ length-word_list

pub row_at : (index : ℕ) → IsIndex index → get_or (map row_of word_list) index [] ≡ row_of (listed_word index)
row_at index lt = get_or-map row_of word_list index [] [] (omega (arith, length-word_list))

-- ---- the letters of a row

no_space : (w : List ℕ) (k : ℕ) → All IsLetter w → k < length w → eqb (get_or w k 0) 32 ≡ false
no_space w k all lt = let h : IsLetter (get_or w k 0) = all k 0 lt in grind (arith, nat_tests)

space_in : (n k : ℕ) → k < n → get_or {A = ℕ} (replicate n 32) k 0 ≡ 32
space_in zero k lt = absurd (omega arith)
space_in (suc n) zero lt = refl
space_in (suc n) (suc k) lt = space_in n k (omega arith)

space_at : (w : List ℕ) (n : ℕ) → All IsLetter w → position_or_len (λ b. eqb b 32) (w ++ replicate n 32) ≡ length w
space_at w n all =
    position_or_len_is (λ b. eqb b 32) (w ++ replicate n 32) (length w) 0 (omega (arith, length-append w (replicate n 32)))
    (λ k lt. rw (get_or-append w (replicate n 32) 0 k lt) (no_space w k all lt))
    (λ lt. let h : 0 < n = omega (arith, length-append w (replicate n 32), length-replicate {A = ℕ} n 32) in
    rw (get_or-append_right w (replicate n 32) (length w) (length w) 0 refl (omega arith)) (eq-eqb _ 32 (space_in n (length w - length w) (omega arith))))

-- the letters before the first space of a row are the word
pub row_front : (w row : List ℕ) (len : ℕ) → FitsRow w → row ≡ row_of w → len ≡ unwrap_or (position (λ b. eqb b 32) row) 8 → take len row ≡ w
row_front w row len fits is_row is_len =
    let n = 8 - length w in
    let at : position_or_len (λ b. eqb b 32) (w ++ replicate n 32) ≡ length w = space_at w n fits.letters in
    let whole : length (w ++ replicate n 32) ≡ 8 = omega (arith, length-append w (replicate n 32), length-replicate {A = ℕ} n 32, fits.short) in
    let front : unwrap_or (position (λ b. eqb b 32) (w ++ replicate n 32)) 8 ≡ length w =
    ⊎_elim
    (λ below. rw (at, cond-true _ _ _ (lt-ltb (length w) (length (w ++ replicate n 32)) (omega arith))) refl)
    (λ above. rw (at, cond-false _ _ _ (le-ltb (length w) (length (w ++ replicate n 32)) (omega arith))) (omega (arith, fits.short)))
    (cases_lt (length w) 8) in
    rw (is_len, is_row, front) (take_at w (replicate n 32) (length w) refl)
