-- The words of the list that begin with given letters stand next to one another.
use Rattle.std.proofs.Common.{◌≡◌, ℕ, zero, suc, ◌-◌, ◌<◌, ◌≤◌, Bool, true, false, List, [], ◌∷◌, ◌++◌, length, get_or, take, drop, filter}
use Rattle.std.proofs.Common.{replicate, Ordering, refl, sym, ap, subst, ◌∙◌, ⊎_elim, arith}
use Rattle.std.specs.Prelude.{◌↔◌, All, IsTrue, map}
use Rattle.std.specs.Cmp.Lexicographic.{slice_cmp}
use Rattle.std.specs.List.Sorted.{IsPartitionedBy, IsPartitionPoint}
use Rattle.std.specs.Ordering.{nat_cmp, is_gt, is_ge, ordering_then, ordering_reverse}
use Rattle.std.specs.Str.{str_to_ascii_lowercase}
use Rattle.std.specs.declared.cmp.Ordering.TheVariants.{Less, Equal, Greater}
use Rattle.std.proofs.lemmas.Bool.{cases_lt}
use Rattle.std.proofs.lemmas.Bool.Decides.{nat_tests}
use Rattle.std.proofs.lemmas.Cmp.{nat_list_cmp_total, tied_itself, upto}
use Rattle.std.proofs.lemmas.List.{get_or-map, length-map, length-take, take_all, drop_all, take-append-le}
use Rattle.std.proofs.lemmas.List.Elements.{All-head, All-tail, All-take}
use Rattle.std.proofs.lemmas.Slice.Eq.{bytes_eq-Decides}
use Rattle.s39_words.specs.Layout.{IsIndex, word_list_length}
use Rattle.s39_words.specs.Prefix.{begins_with}
use Rattle.s39_words.specs.Printing.{listed_word}
use Rattle.s39_words.specs.Rows.{FitsRow, row_of, start_of}
use Rattle.s39_words.specs.WordList.{word_list, IsLetter}
use Rattle.s39_words.proofs.WordTable.{length-word_list, lengths, letters, rows_ascending}

-- ---- the beginnings of lists, compared

abbrev compared : List ℕ → List ℕ → Ordering
compared = slice_cmp nat_cmp

then_no_later : (o p q : Ordering) → (is_gt p ≡ false → is_gt q ≡ false) → is_gt (ordering_then o p) ≡ false → is_gt (ordering_then o q) ≡ false
then_no_later Less p q f h = refl
then_no_later Equal p q f h = f h
then_no_later Greater p q f h = h

starts_no_later : (n : ℕ) (v w : List ℕ) → is_gt (compared v w) ≡ false → is_gt (compared (take n v) (take n w)) ≡ false
starts_no_later zero v w h = refl
starts_no_later (suc n) [] [] h = refl
starts_no_later (suc n) [] (y ∷ ys) h = refl
starts_no_later (suc n) (x ∷ xs) [] h = h
starts_no_later (suc n) (x ∷ xs) (y ∷ ys) h = then_no_later (nat_cmp x y) (compared xs ys) (compared (take n xs) (take n ys)) (starts_no_later n xs ys) h

then_equal : (o p : Ordering) → ordering_then o p ≡ Equal → (o ≡ Equal) × (p ≡ Equal)
then_equal Less p h = cc
then_equal Equal p h = (refl, h)
then_equal Greater p h = cc

same_number : (a b : ℕ) → nat_cmp a b ≡ Equal → a ≡ b
same_number a b e = grind (arith, nat_tests)

pub same_from_equal : (v w : List ℕ) → compared v w ≡ Equal → v ≡ w
same_from_equal [] [] h = refl
same_from_equal [] (y ∷ ys) h = cc
same_from_equal (x ∷ xs) [] h = cc
same_from_equal (x ∷ xs) (y ∷ ys) h =
    let parts = then_equal (nat_cmp x y) (compared xs ys) h in
    let heads : x ≡ y = same_number x y parts.0 in
    let tails : xs ≡ ys = same_from_equal xs ys parts.1 in
    cc

equal_from_same : (v w : List ℕ) → w ≡ v → compared v w ≡ Equal
equal_from_same v w e = subst (λ u. compared v u ≡ Equal) (sym e) (tied_itself nat_list_cmp_total v)

-- ---- the rows, compared with letters

abbrev the_rows : List (List ℕ)
the_rows = map row_of word_list

not_greater : (o : Ordering) → o ≡ Less → is_gt o ≡ false
not_greater o h = ap is_gt h

rows_no_later : (n i j : ℕ) (d : List ℕ) → i ≤ j → j < length the_rows → is_gt (compared (take n (get_or the_rows i d)) (take n (get_or the_rows j d))) ≡ false
rows_no_later n i j d low within =
    ⊎_elim
    (λ below. starts_no_later n (get_or the_rows i d) (get_or the_rows j d)
    (not_greater (compared (get_or the_rows i d) (get_or the_rows j d)) (rows_ascending i j d below within)))
    (λ above.
    let same : i ≡ j = omega arith in
    subst (λ k. is_gt (compared (take n (get_or the_rows i d)) (take n (get_or the_rows k d))) ≡ false) same
    (ap is_gt (tied_itself nat_list_cmp_total (take n (get_or the_rows i d)))))
    (cases_lt i j)

true_unless : (b : Bool) → (b ≡ false → ⊥) → b ≡ true
true_unless true h = refl
true_unless false h = absurd (h refl)

from_not_before : (o : Ordering) → is_ge o ≡ true → is_gt (ordering_reverse o) ≡ false
from_not_before Less h = sym h
from_not_before Equal h = refl
from_not_before Greater h = refl

not_before : (o : Ordering) → is_gt (ordering_reverse o) ≡ false → is_ge o ≡ true
not_before Less h = sym h
not_before Equal h = refl
not_before Greater h = refl

module _ (small : List ℕ) where
  abbrev pub is_before : List ℕ → Bool
  is_before row = is_gt (compared small (take (length small) row))

  abbrev pub is_no_later : List ℕ → Bool
  is_no_later row = is_ge (compared small (take (length small) row))

  pub before_parts : IsPartitionedBy is_before the_rows
  before_parts i j d low within later =
      let x = take (length small) (get_or the_rows i d) in
      let y = take (length small) (get_or the_rows j d) in
      true_unless (is_gt (compared small x)) (λ h.
      let no : is_gt (compared small y) ≡ false = upto nat_list_cmp_total small x y h (rows_no_later (length small) i j d low within) in
      absurd cc)

  pub no_later_parts : IsPartitionedBy is_no_later the_rows
  no_later_parts i j d low within later =
      let x = take (length small) (get_or the_rows i d) in
      let y = take (length small) (get_or the_rows j d) in
      let behind : is_gt (compared y small) ≡ false =
      ap is_gt (nat_list_cmp_total.antisymm y small) ∙ from_not_before (compared small y) later in
      let up : is_gt (compared x small) ≡ false = upto nat_list_cmp_total x y small (rows_no_later (length small) i j d low within) behind in
      not_before (compared small x) (sym (ap is_gt (nat_list_cmp_total.antisymm x small)) ∙ up)

-- where a binary search by a test ends
pub point_is : (p : List ℕ → Bool) (rows : List (List ℕ)) (r : ℕ) → rows ≡ the_rows → IsPartitionPoint (λ y. p y ≡ true) (λ y. p y ≡ false) rows r
    → (index : ℕ) → IsIndex index → (index < r) ↔ IsTrue (p (row_of (listed_word index)))
point_is p rows r rows_are parts index lt =
    let within : index < length word_list = omega (arith, length-word_list) in
    let inside : index < length rows = omega (arith, ap length rows_are, length-map word_list row_of) in
    let row : get_or rows index [] ≡ row_of (listed_word index) = ap (λ l. get_or l index []) rows_are ∙ get_or-map row_of word_list index [] [] within in (
      λ below. sym (ap p row) ∙ parts.0 index [] (omega arith) below,
      λ passes. ⊎_elim
          (λ below. below)
          (λ above. let fails : p (get_or rows index []) ≡ false = parts.1 index [] above inside in absurd (cc (ap p row)))
          (cases_lt index r),
    )

-- ---- letters, and what a row begins with

begins_in_row : (small word : List ℕ) (m : ℕ) → All IsLetter small → take (length small) (word ++ replicate m 32) ≡ small → take (length small) word ≡ small
begins_in_row [] word m all h = refl
begins_in_row (c ∷ cs) [] zero all h = cc
begins_in_row (c ∷ cs) [] (suc m) all h =
    let letter = All-head IsLetter c cs all in
    let space : 32 ≡ c = cc in
    absurd (omega arith)
begins_in_row (c ∷ cs) (x ∷ xs) m all h =
    let heads : x ≡ c = cc in
    let tails : take (length cs) (xs ++ replicate m 32) ≡ cs = cc in
    let rest : take (length cs) xs ≡ cs = begins_in_row cs xs m (All-tail IsLetter c cs all) tails in
    cc

row_begins : (small word : List ℕ) → take (length small) word ≡ small → take (length small) (row_of word) ≡ small
row_begins small word h =
    let long : length small ≤ length word = omega (arith, ap length h, length-take (length small) word) in
    take-append-le (length small) word (replicate (8 - length word) 32) long ∙ h

listed_fits : (index : ℕ) → IsIndex index → FitsRow (listed_word index)
listed_fits index lt =
    let within : index < length word_list = omega (arith, length-word_list) in
    record { letters = letters index [] within; short = (lengths index [] within).1 }

-- ---- the range of the words that begin with letters

neither : (o : Ordering) → (is_gt o ≡ true → ⊥) → is_ge o ≡ true → o ≡ Equal
neither Less f h = cc
neither Equal f h = refl
neither Greater f h = absurd (f refl)

abbrev IsPoint : (Ordering → Bool) → List ℕ → ℕ → Type 0
IsPoint test small r = (index : ℕ) → IsIndex index → (index < r) ↔ IsTrue (test (compared small (start_of small index)))

pub range_is : (given small : List ℕ) (a b : ℕ) → small ≡ str_to_ascii_lowercase given → FitsRow small → IsPoint is_gt small a → IsPoint is_ge small b
    → (index : ℕ) → IsIndex index → IsTrue (begins_with given (listed_word index)) ↔ ((a ≤ index) × (index < b))
range_is given small a b small_is fits from to index lt =
    let word = listed_word index in
    let start = start_of small index in
    let decides = bytes_eq-Decides (str_to_ascii_lowercase given) (take (length (str_to_ascii_lowercase given)) word) in (
      λ begins.
          let same : take (length small) word ≡ small =
          ap (λ l. take (length l) word) small_is ∙ sym (decides.0 begins) ∙ sym small_is in
          let equal : compared small start ≡ Equal = equal_from_same small start (row_begins small word same) in (
            ⊎_elim
                (λ below. let before : is_gt (compared small start) ≡ true = (from index lt).0 below in absurd (cc (ap is_gt equal)))
                (λ above. above)
                (cases_lt index a),
            (to index lt).1 (ap is_ge equal),
          ),
      λ inside.
          let equal : compared small start ≡ Equal = neither (compared small start)
          (λ before. let below = (from index lt).1 before in omega arith) ((to index lt).0 inside.1) in
          let begins : take (length small) word ≡ small =
          begins_in_row small word (8 - length word) fits.letters (sym (same_from_equal small start equal)) in
          decides.1 (sym (sym (ap (λ l. take (length l) word) small_is) ∙ begins ∙ small_is)),
    )

pub range_ordered : (small : List ℕ) (a b : ℕ) → IsPoint is_gt small a → IsPoint is_ge small b → a ≤ word_list_length → a ≤ b
range_ordered small a b from to bound =
    ⊎_elim
    (λ below.
    let lt : IsIndex b = omega arith in
    let inside : b < b = (to b lt).1 (no_less (compared small (start_of small b)) ((from b lt).0 below)) in
    absurd (omega arith))
    (λ above. above)
    (cases_lt b a)
  where
    no_less : (o : Ordering) → is_gt o ≡ true → is_ge o ≡ true
    no_less Less h = cc
    no_less Equal h = refl
    no_less Greater h = refl

-- no word begins with letters that no row has
pub none_begins : (given : List ℕ) → (FitsRow (str_to_ascii_lowercase given) → ⊥) → (index : ℕ) → IsIndex index
    → IsTrue (begins_with given (listed_word index)) ↔ ((0 ≤ index) × (index < 0))
none_begins given unfit index lt =
    let word = listed_word index in
    let n = length (str_to_ascii_lowercase given) in
    let fits = listed_fits index lt in (
      λ begins.
          let same : take n word ≡ str_to_ascii_lowercase given = sym ((bytes_eq-Decides (str_to_ascii_lowercase given) (take n word)).0 begins) in
          absurd (unfit (subst FitsRow same (record {
            letters = All-take IsLetter n word fits.letters;
            short = omega (arith, length-take n word, fits.short);
          }))),
      λ none. absurd (omega (arith, none.1)),
    )

-- ---- the words of a range

no_first : (b : Bool) → (IsTrue b → ⊥) → b ≡ false
no_first true h = absurd (h refl)
no_first false h = refl

pub filter_between : {X : Type 0} (p : X → Bool) (xs : List X) (d : X) (a b : ℕ) → a ≤ b → b ≤ length xs
    → ((i : ℕ) → i < length xs → IsTrue (p (get_or xs i d)) ↔ ((a ≤ i) × (i < b))) → filter p xs ≡ take (b - a) (drop a xs)
filter_between p [] d a b low high h =
    sym (ap (take (b - a)) (drop_all a [] (omega arith)) ∙ take_all (b - a) [] (omega arith))
filter_between p (x ∷ xs) d zero zero low high h =
    let first : p x ≡ false = no_first (p x) (λ passes. let in_range = (h 0 (omega arith)).0 passes in omega (arith, in_range.1)) in
    rw first (filter_between p xs d zero zero (omega arith) (omega arith) (λ i below. shifted i below))
  where
    shifted : (i : ℕ) → i < length xs → IsTrue (p (get_or xs i d)) ↔ ((0 ≤ i) × (i < 0))
    shifted i below = (
      λ passes. let in_range = (h (suc i) (omega arith)).0 passes in (omega arith, omega (arith, in_range.1)),
      λ in_range. absurd (omega (arith, in_range.1)),
    )
filter_between p (x ∷ xs) d zero (suc b) low high h =
    let first : p x ≡ true = (h 0 (omega arith)).1 (omega arith, omega arith) in
    let rest = filter_between p xs d zero b (omega arith) (omega arith) (λ i below. shifted i below) in
    let count : suc b - 0 ≡ suc (b - 0) = omega arith in
    rw (first, count) (ap (λ l. x ∷ l) rest)
  where
    shifted : (i : ℕ) → i < length xs → IsTrue (p (get_or xs i d)) ↔ ((0 ≤ i) × (i < b))
    shifted i below = (
      λ passes. let in_range = (h (suc i) (omega arith)).0 passes in (omega arith, omega (arith, in_range.1)),
      λ in_range. (h (suc i) (omega arith)).1 (omega arith, omega (arith, in_range.1)),
    )
filter_between p (x ∷ xs) d (suc a) zero low high h = absurd (omega arith)
filter_between p (x ∷ xs) d (suc a) (suc b) low high h =
    let first : p x ≡ false = no_first (p x) (λ passes. let in_range = (h 0 (omega arith)).0 passes in omega (arith, in_range.0)) in
    let count : suc b - suc a ≡ b - a = omega arith in
    rw (first, count) (filter_between p xs d a b (omega arith) (omega arith) (λ i below. shifted i below))
  where
    shifted : (i : ℕ) → i < length xs → IsTrue (p (get_or xs i d)) ↔ ((a ≤ i) × (i < b))
    shifted i below = (
      λ passes. let in_range = (h (suc i) (omega arith)).0 passes in (omega (arith, in_range.0), omega (arith, in_range.1)),
      λ in_range. (h (suc i) (omega arith)).1 (omega (arith, in_range.0), omega (arith, in_range.1)),
    )

pub words_are : (given : List ℕ) (a b : ℕ) → a ≤ b → b ≤ word_list_length
    → ((index : ℕ) → IsIndex index → IsTrue (begins_with given (listed_word index)) ↔ ((a ≤ index) × (index < b)))
    → filter (begins_with given) word_list ≡ take (b - a) (drop a word_list)
words_are given a b low high h =
    filter_between (begins_with given) word_list [] a b low (omega (arith, length-word_list)) (λ i below. h i (omega (arith, length-word_list)))
