-- The marks of a line, read in turn, and what their ranges say.
use Rattle.std.proofs.Common.{◌≡◌, ℕ, zero, suc, ◌+◌, ◌-◌, ◌<◌, ◌≤◌, Bool, true, false, cond, List, [], ◌∷◌, ◌++◌, length, get_or, take, min, map}
use Rattle.std.proofs.Common.{Some, None, Result, Ok, Err, OnOk, OnErr, IsOk, refl, sym, ap, ap₂, subst, ◌∙◌, ⊎_elim, arith, append_assoc}
use Rattle.std.specs.Prelude.{◌↔◌, All, Contains, count_by, nat_lt, not, position}
use Rattle.std.specs.List.{AllZip, position_or_len}
use Rattle.std.proofs.lemmas.Bool.{cases_lt, cond-true, cond-false, lt-ltb, le-ltb, false≢true}
use Rattle.std.proofs.lemmas.List.{append-nil, map-append, length-map, length-append, length-take, take_all, take-append-le}
use Rattle.std.proofs.lemmas.List.Elements.{All-nil, All-cons, All-head, All-tail, All-append, All-same}
use Rattle.std.proofs.lemmas.List.FromFn.{length-range_with_len}
use Rattle.std.proofs.lemmas.List.Sums.{position_or_len_is, sum_by-cons}
use Rattle.arrayvec.specs.ArrayVec.{ArrayVec}
use Rattle.s39_lists.proofs.Ranges.{range_from-bounds, Contains-range_from}
use Rattle.s39_words.specs.Layout.{most_words}
use Rattle.s39_words.specs.Reading.{IsWordCount}
use Rattle.s39_words.specs.Spelling.{words_of}
use Rattle.s39_words.specs.declared.prefix.WordRange.{WordRange}
use Rattle.s39_words.specs.declared.share.ShareFields.{ShareFields}
use Rattle.s39_words.proofs.Indices.{at_most_words}
use Rattle.s39_repair.specs.Marks.{choices, is_known, is_open, is_open_range, open_count, words_in, IsRange, AreMarks, HasWords, Fits, FitsRanges}
use Rattle.s39_repair.specs.Answer.{first_unknown, IsReadable}

-- ---- the first element that passes a test

module _ {X : Type 0} (p : X → Bool) where
  get_or-front : (us : List X) (u d : X) (vs : List X) (k : ℕ) → k < length us → get_or (us ++ u ∷ vs) k d ≡ get_or us k d
  get_or-front [] u d vs k below = absurd (omega arith)
  get_or-front (v ∷ us) u d vs zero below = refl
  get_or-front (v ∷ us) u d vs (suc k) below = get_or-front us u d vs k (omega arith)

  get_or-middle : (us : List X) (u d : X) (vs : List X) → get_or (us ++ u ∷ vs) (length us) d ≡ u
  get_or-middle [] u d vs = refl
  get_or-middle (v ∷ us) u d vs = get_or-middle us u d vs

  pub position_first : (xs : List X) (x : X) (ys : List X) → All (λ y. p y ≡ false) xs → p x ≡ true → position p (xs ++ x ∷ ys) ≡ Some (length xs)
  position_first xs x ys none here =
      let all = xs ++ x ∷ ys in
      let within : length xs < length all = omega (arith, length-append xs (x ∷ ys)) in
      let first : position_or_len p all ≡ length xs =
      position_or_len_is p all (length xs) x (omega arith)
      (λ k below. ap p (get_or-front xs x x ys k below) ∙ none k x below)
      (λ _. ap p (get_or-middle xs x x ys) ∙ here) in
      rw first (cond-true _ _ _ (lt-ltb (length xs) (length all) within))

  pub position_nowhere : (xs : List X) (d : X) → All (λ y. p y ≡ false) xs → position p xs ≡ None
  position_nowhere xs d none =
      let first : position_or_len p xs ≡ length xs =
      position_or_len_is p xs (length xs) d (omega arith) (λ k below. none k d below) (λ within. absurd (omega arith)) in
      rw first (cond-false _ _ _ (le-ltb (length xs) (length xs) (omega arith)))

-- ---- a mark and its range

length-words_in : (range : WordRange) → length (words_in range) ≡ range.end - range.first
length-words_in range = length-range_with_len range.first (range.end - range.first)

pub known_from : (mark : List ℕ) (range : WordRange) → choices mark ≡ words_in range → IsRange range → not (is_known mark) ≡ false
known_from mark range same is =
    let n : length (choices mark) ≡ range.end - range.first = ap length same ∙ length-words_in range in
    ap not (lt-ltb 0 (length (choices mark)) (omega (arith, is.some)))

pub unknown_from : (mark : List ℕ) (range : WordRange) → choices mark ≡ words_in range → range.first ≡ range.end → not (is_known mark) ≡ true
unknown_from mark range same none =
    let n : length (choices mark) ≡ range.end - range.first = ap length same ∙ length-words_in range in
    ap not (le-ltb 0 (length (choices mark)) (omega arith))

known_all : (marks : List (List ℕ)) (ranges : List WordRange) → map choices marks ≡ map words_in ranges → All IsRange ranges
    → All (λ mark. not (is_known mark) ≡ false) marks
known_all [] ranges same all = All-nil (λ mark. not (is_known mark) ≡ false)
known_all (m ∷ ms) [] same all = cc
known_all (m ∷ ms) (r ∷ rs) same all =
    let here : choices m ≡ words_in r = cc in
    let later : map choices ms ≡ map words_in rs = cc in
    All-cons (λ mark. not (is_known mark) ≡ false) m ms (known_from m r here (All-head IsRange r rs all)) (known_all ms rs later (All-tail IsRange r rs all))

length_marks : (marks : List (List ℕ)) (ranges : List WordRange) → map choices marks ≡ map words_in ranges → length ranges ≡ length marks
length_marks marks ranges same = sym (length-map ranges words_in) ∙ sym (ap length same) ∙ length-map marks choices

pub readable : (line : List ℕ) (ranges : List WordRange) → AreMarks line ranges → IsReadable line
readable line ranges m = record {
  known = position_nowhere (λ mark. not (is_known mark)) (words_of line) [] (known_all (words_of line) ranges m.same m.all);
  count = subst IsWordCount (length_marks (words_of line) ranges m.same) m.count;
}

open_same : (marks : List (List ℕ)) (ranges : List WordRange) → map choices marks ≡ map words_in ranges → count_by is_open marks ≡ count_by is_open_range ranges
open_same [] [] same = refl
open_same [] (r ∷ rs) same = cc
open_same (m ∷ ms) [] same = cc
open_same (m ∷ ms) (r ∷ rs) same =
    let here : choices m ≡ words_in r = cc in
    let later : map choices ms ≡ map words_in rs = cc in
    let test : is_open m ≡ is_open_range r = ap (nat_lt 1) (ap length here ∙ length-words_in r) in
    sum_by-cons (λ mark. cond (is_open mark) 1 0) m ms
    ∙ ap₂ (λ (b : Bool) (n : ℕ). cond b 1 0 + n) test (open_same ms rs later)
    ∙ sym (sum_by-cons (λ range. cond (is_open_range range) 1 0) r rs)

pub open_count_is : (line : List ℕ) (ranges : List WordRange) → AreMarks line ranges → open_count line ≡ count_by is_open_range ranges
open_count_is line ranges m = open_same (words_of line) ranges m.same

-- ---- the mnemonics that fit

abbrev pub AreChosen : List (List ℕ) → List ℕ → Type 0
AreChosen marks words = AllZip (λ mark index. Contains (choices mark) index) marks words

in_range : (range : WordRange) (xs : List ℕ) (index : ℕ) → xs ≡ words_in range → Contains xs index → (range.first ≤ index) × (index < range.end)
in_range range xs index same has =
    let has' : Contains (words_in range) index = subst (λ ys. Contains ys index) same has in
    let at = range_from-bounds range.first (range.end - range.first) has'.0 index has'.1 in
    (omega (arith, at.0, has'.2), omega (arith, at.1, has'.2))

chosen : (range : WordRange) (xs : List ℕ) (index : ℕ) → xs ≡ words_in range → range.first ≤ index → index < range.end → Contains xs index
chosen range xs index same low high =
    subst (λ ys. Contains ys index) (sym same) (Contains-range_from range.first (range.end - range.first) index low (omega arith))

has_words : (marks : List (List ℕ)) (ranges : List WordRange) (words : List ℕ) → map choices marks ≡ map words_in ranges → AreChosen marks words
    → HasWords ranges words
has_words [] [] [] same all = record { same_count = refl; each = λ k d below. absurd (omega arith) }
has_words [] [] (w ∷ ws) same all = absurd all
has_words [] (r ∷ rs) words same all = cc
has_words (m ∷ ms) [] words same all = cc
has_words (m ∷ ms) (r ∷ rs) [] same all = absurd all
has_words (m ∷ ms) (r ∷ rs) (w ∷ ws) same all =
    let here : choices m ≡ words_in r = cc in
    let later : map choices ms ≡ map words_in rs = cc in
    let rest = has_words ms rs ws later all.1 in
    record { same_count = ap suc rest.same_count; each = each here rest }
  where
    each : choices m ≡ words_in r → HasWords rs ws → (k : ℕ) (d : WordRange) → k < length (r ∷ rs)
        → ((get_or (r ∷ rs) k d).first ≤ get_or (w ∷ ws) k 0) × (get_or (w ∷ ws) k 0 < (get_or (r ∷ rs) k d).end)
    each here rest zero d below = in_range r (choices m) w here all.0
    each here rest (suc k) d below = rest.each k d (omega arith)

are_chosen : (marks : List (List ℕ)) (ranges : List WordRange) (words : List ℕ) → map choices marks ≡ map words_in ranges → HasWords ranges words
    → AreChosen marks words
are_chosen [] [] [] same has = tt
are_chosen [] [] (w ∷ ws) same has = let n = has.same_count in absurd (omega (arith, n))
are_chosen [] (r ∷ rs) words same has = cc
are_chosen (m ∷ ms) [] words same has = cc
are_chosen (m ∷ ms) (r ∷ rs) [] same has = let n = has.same_count in absurd (omega (arith, n))
are_chosen (m ∷ ms) (r ∷ rs) (w ∷ ws) same has =
    let here : choices m ≡ words_in r = cc in
    let later : map choices ms ≡ map words_in rs = cc in
    let first = has.each 0 r (omega arith) in
    let n = has.same_count in (
      chosen r (choices m) w here first.0 first.1,
      are_chosen ms rs ws later (record { same_count = omega (arith, n); each = λ k d below. has.each (suc k) d (omega arith) }),
    )

pub fits_ranges : (line : List ℕ) (ranges : List WordRange) (mnemonic : List ℕ) (share : ShareFields) → AreMarks line ranges
    → Fits line mnemonic share → FitsRanges ranges mnemonic share
fits_ranges line ranges mnemonic share m fits = record {
  words = has_words (words_of line) ranges mnemonic m.same fits.words;
  spells = fits.spells;
}

pub fits_line : (line : List ℕ) (ranges : List WordRange) (mnemonic : List ℕ) (share : ShareFields) → AreMarks line ranges
    → FitsRanges ranges mnemonic share → Fits line mnemonic share
fits_line line ranges mnemonic share m fits = record {
  words = are_chosen (words_of line) ranges mnemonic m.same fits.words;
  spells = fits.spells;
}

pub chosen_words : (line : List ℕ) (ranges : List WordRange) (words : List ℕ) → AreMarks line ranges → HasWords ranges words → AreChosen (words_of line) words
chosen_words line ranges words m has = are_chosen (words_of line) ranges words m.same has

-- ---- the marks of a text, taken in turn

-- so many marks of the text are read, and those of the rest are left
pub record KeepsMarks (text rest : List ℕ) (kept : List WordRange) (n : ℕ) : Type 0 where
  pub done : List (List ℕ)
  pub parts : words_of text ≡ done ++ words_of rest
  pub all : List WordRange
  pub same : map choices done ≡ map words_in all
  pub ranges : All IsRange all
  pub kept_is : kept ≡ take most_words all
  pub count : n ≡ length all

pub keeps_none : (text rest : List ℕ) → words_of rest ≡ words_of text → KeepsMarks text rest [] 0
keeps_none text rest e = record {
  done = [];
  parts = sym e;
  all = [];
  same = refl;
  ranges = All-nil IsRange;
  kept_is = refl;
  count = refl;
}

-- one mark more, and the separators behind it
pub keeps_mark : {E : Type 0} (text rest after next mark : List ℕ) (v v' : ArrayVec WordRange) (n : ℕ) (range : WordRange) (r : Result (Unit {0}) E)
    → KeepsMarks text rest v.items n → words_of rest ≡ mark ∷ words_of after → words_of next ≡ words_of after → choices mark ≡ words_in range
    → IsRange range → OnOk r (v'.items ≡ v.items ++ range ∷ []) → OnErr r (v' ≡ v) → (IsOk r ↔ (length v.items < most_words))
    → KeepsMarks text next v'.items (n + 1)
keeps_mark {E = E} text rest after next mark v v' n range r h first same is in_list ok err room = record {
  done = h.done ++ mark ∷ [];
  parts =
      h.parts ∙ ap (λ ws. h.done ++ ws) (first ∙ ap (λ ws. mark ∷ ws) (sym same)) ∙ sym (append_assoc h.done (mark ∷ []) (words_of next));
  all = h.all ++ range ∷ [];
  same =
      map-append choices h.done (mark ∷ []) ∙ ap₂ (λ xs ys. xs ++ ys) h.same (ap (λ c. c ∷ []) is) ∙ sym (map-append words_in h.all (range ∷ []));
  ranges = All-append IsRange h.all (range ∷ []) h.ranges (All-cons IsRange range [] in_list (All-nil IsRange));
  kept_is = kept r ok err room;
  count = omega (arith, length-append h.all (range ∷ []), h.count);
}
  where
    kept : (q : Result (Unit {0}) E) → OnOk q (v'.items ≡ v.items ++ range ∷ []) → OnErr q (v' ≡ v) → (IsOk q ↔ (length v.items < most_words))
        → v'.items ≡ take most_words (h.all ++ range ∷ [])
    kept (Ok u) ok err room =
        let short : length v.items < most_words = room.0 refl in
        let m : length v.items ≡ min most_words (length h.all) = ap length h.kept_is ∙ length-take most_words h.all in
        let is_all : v.items ≡ h.all = h.kept_is ∙ take_all most_words h.all (omega arith) in
        let few : length (h.all ++ range ∷ []) ≤ most_words = omega (arith, length-append h.all (range ∷ [])) in
        ok ∙ ap (λ xs. xs ++ range ∷ []) is_all ∙ sym (take_all most_words (h.all ++ range ∷ []) few)
    kept (Err u) ok err room =
        let full : most_words ≤ length h.all =
        let m : length v.items ≡ min most_words (length h.all) = ap length h.kept_is ∙ length-take most_words h.all in
        ⊎_elim (λ few. absurd (false≢true (room.1 few))) (λ many. omega arith) (cases_lt (length v.items) most_words) in
        ap (λ u. u.items) err ∙ h.kept_is ∙ sym (take-append-le most_words h.all (range ∷ []) full)

-- the first unknown mark of the rest is that of the text
pub unknown_at : (text rest after mark : List ℕ) (kept : List WordRange) (n : ℕ) (range : WordRange) → KeepsMarks text rest kept n
    → words_of rest ≡ mark ∷ words_of after → choices mark ≡ words_in range → range.first ≡ range.end → first_unknown text ≡ Some n
unknown_at text rest after mark kept n range h first same none =
    let p = λ (m : List ℕ). not (is_known m) in
    ap (position p) (h.parts ∙ ap (λ ws. h.done ++ ws) first)
    ∙ position_first p h.done mark (words_of after) (known_all h.done h.all h.same h.ranges) (unknown_from mark range same none)
    ∙ ap Some (sym (length_marks h.done h.all h.same) ∙ sym h.count)

whole : (text : List ℕ) (kept : List WordRange) (n : ℕ) → (h : KeepsMarks text [] kept n) → map choices (words_of text) ≡ map words_in h.all
whole text kept n h = ap (map choices) (h.parts ∙ append-nil h.done) ∙ h.same

-- all marks are known, and a mnemonic may have as many
pub are_marks : (text : List ℕ) (kept : List WordRange) (n : ℕ) → KeepsMarks text [] kept n → IsWordCount n → AreMarks text kept
are_marks text kept n h count =
    let few : length h.all ≤ most_words = subst (λ m. m ≤ most_words) h.count (at_most_words n count) in
    let is_all : kept ≡ h.all = h.kept_is ∙ take_all most_words h.all few in
    record {
      same = whole text kept n h ∙ ap (map words_in) (sym is_all);
      all = All-same IsRange kept h.all is_all h.ranges;
      count = subst IsWordCount (h.count ∙ sym (ap length is_all)) count;
    }

-- all marks are known, and no mnemonic has as many
pub no_count : (text : List ℕ) (kept : List WordRange) (n : ℕ) → KeepsMarks text [] kept n → (IsWordCount n → ⊥)
    → (first_unknown text ≡ None) × (n ≡ length (words_of text)) × (IsWordCount n → ⊥)
no_count text kept n h none = (
  position_nowhere (λ mark. not (is_known mark)) (words_of text) [] (known_all (words_of text) h.all (whole text kept n h) h.ranges),
  h.count ∙ length_marks (words_of text) h.all (whole text kept n h),
  none,
)
