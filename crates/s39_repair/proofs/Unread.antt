-- Lines in which words of a mnemonic are read in part, or misread.
use Rattle.std.proofs.Common.{◌≡◌, ◌≢◌, ℕ, zero, suc, ◌+◌, ◌-◌, ◌<◌, ◌≤◌, ◌⊎◌, inl, inr, Bool, true, false, cond, List, [], ◌∷◌, ◌++◌, length, get_or, map, take, zip}
use Rattle.std.proofs.Common.{Option, Some, None, Result, Ok, refl, sym, ap, subst, ◌∙◌, arith}
use Rattle.std.specs.Prelude.{All, Contains, count_by, is_some, not, ◌==◌, ◌||◌}
use Rattle.std.specs.List.{join_with_byte}
use Rattle.std.proofs.Math.ListN.{set}
use Rattle.std.proofs.lemmas.Bool.{eqb-true, le-ltb, false≢true}
use Rattle.std.proofs.lemmas.List.{length-append, length-set, get_or-set_other}
use Rattle.std.proofs.lemmas.List.Elements.{All-nil, All-cons, All-append, All-head, All-tail, All-set, All-take}
use Rattle.std.proofs.lemmas.List.FromFn.{length-range_with_len}
use Rattle.std.proofs.lemmas.List.Sums.{get_or-le-sum_by}
use Rattle.std.proofs.lemmas.Slice.Zip.{get_or-zip, length-zip}
use Rattle.s39_lists.proofs.Ranges.{Contains-range_from}
use Rattle.s39_words.specs.Layout.{IsIndex}
use Rattle.s39_words.specs.Mistyping.{count_of_differences}
use Rattle.s39_words.specs.Printing.{listed_word}
use Rattle.s39_words.specs.Reading.{IsWordCount}
use Rattle.s39_words.specs.Spelling.{words_of, HaveIndices, Spells}
use Rattle.s39_words.specs.declared.share.ShareFields.{ShareFields}
use Rattle.s39_words.proofs.Indices.{indices_below}
use Rattle.s39_words.proofs.Joined.{IsInside, IsJoinable, IsJoinable-listed, words_of-joinable, words_of-joined}
use Rattle.s39_words.proofs.Listed.{IsListed-listed_word, listed_words}
use Rattle.s39_words.specs.Share.{data_words}
use Rattle.s39_repair.specs.declared.repaired.Repaired.{Repaired}
use Rattle.s39_repair.specs.declared.repair_error.RepairError.{RepairError}
use Rattle.s39_repair.specs.Answer.{first_unknown, most_open, IsReadable, IsWhole, Repairs}
use Rattle.s39_repair.specs.Marks.{choices, is_known, is_open, open_count, spelling, Fits}
use Rattle.s39_repair.specs.Misread.{count_of_places, is_doubtful, is_misread, HasWrongWords, IsMisreadLine}
use Rattle.s39_repair.specs.Unread.{mark_of, marks_of, unread_count, IsReadAs}
use Rattle.s39_repair.proofs.Candidates.{spelled_indices}
use Rattle.s39_repair.proofs.Choices.{front_stands, word_choices}
use Rattle.s39_repair.proofs.ComesBack.{chosen_known, comes_back, only_one}
use Rattle.s39_repair.proofs.MarksRead.{AreChosen, position_nowhere}
use Rattle.s39_repair.proofs.Misread.{by_test, chosen_from, chosen_is_read, one_fits_closed, spelled_count}
use Rattle.s39_repair.proofs.OneAnswer.{one_answer}
use Rattle.s39_repair.proofs.Places.{all_mapped, by_places, count_differences, count_map, count_zip, counts_below, fewer, first, second, third}

-- ---- one mark

word_is_closed : (i : ℕ) → IsIndex i → is_open (listed_word i) ≡ false
word_is_closed i lt =
    let n : length (choices (listed_word i)) ≡ (i + 1) - i = ap length (word_choices i lt) ∙ length-range_with_len i ((i + 1) - i) in
    le-ltb 1 (length (choices (listed_word i))) (omega arith)

word_among : (i : ℕ) → IsIndex i → Contains (choices (listed_word i)) i
word_among i lt = subst (λ xs. Contains xs i) (sym (word_choices i lt)) (Contains-range_from i ((i + 1) - i) i (omega arith) (omega arith))

mark_among : (i : ℕ) (read : Option ℕ) → IsIndex i → Contains (choices (mark_of i read)) i
mark_among i None lt = word_among i lt
mark_among i (Some n) lt = chosen_from (take n (listed_word i) ++ 63 ∷ []) i lt (ap not (front_stands i n lt))

-- ---- the marks of a line

marks_chosen : (words : List ℕ) (read : List (Option ℕ)) → All IsIndex words → length read ≡ length words → AreChosen (marks_of words read) words
marks_chosen [] read all n = tt
marks_chosen (i ∷ is) [] all n = absurd (omega (arith, n))
marks_chosen (i ∷ is) (r ∷ rs) all n =
    (mark_among i r (All-head IsIndex i is all), marks_chosen is rs (All-tail IsIndex i is all) (omega (arith, n)))

length-marks : (words : List ℕ) (read : List (Option ℕ)) → length read ≡ length words → length (marks_of words read) ≡ length words
length-marks [] read n = refl
length-marks (i ∷ is) [] n = absurd (omega (arith, n))
length-marks (i ∷ is) (r ∷ rs) n = ap suc (length-marks is rs (omega (arith, n)))

marks_map : {X : Type 0} (f : X → ℕ) (g : X → Option ℕ) (xs : List X) → marks_of (map f xs) (map g xs) ≡ map (λ x. mark_of (f x) (g x)) xs
marks_map f g [] = refl
marks_map f g (x ∷ xs) = ap (λ (ms : List (List ℕ)). mark_of (f x) (g x) ∷ ms) (marks_map f g xs)

-- only words of which letters are read are open
open_at_most : (words : List ℕ) (read others : List (Option ℕ)) → length words ≡ length read → length read ≡ length others → All IsIndex words
    → count_by is_open (marks_of words read) ≤ unread_count read
open_at_most = by_places _ (λ xs all.
    let few = fewer (λ x. is_open (mark_of x.0 x.1.0)) (λ x. is_some x.1.0) xs (λ k d lt. some _ _
    (all_mapped IsIndex first xs all k d lt)) in
    omega (
      arith,
      few,
      ap (count_by is_open) (marks_map first second xs),
      count_map (λ x. mark_of x.0 x.1.0) is_open xs,
      count_map second is_some xs,
    ))
  where
    some : (i : ℕ) (r : Option ℕ) → IsIndex i → is_open (mark_of i r) ≡ true → is_some r ≡ true
    some i (Some n) lt opens = refl
    some i None lt opens = absurd (false≢true (sym (word_is_closed i lt) ∙ opens))

module _ (line words : List ℕ) (read : List (Option ℕ)) (all : All IsIndex words) (is : IsReadAs line words read) where
  pub words_chosen : AreChosen (words_of line) words
  words_chosen = subst (λ marks. AreChosen marks words) (sym is.marks) (marks_chosen words read all is.same_count)

  pub few_open : open_count line ≤ unread_count read
  few_open = subst (λ marks. count_by is_open marks ≤ unread_count read) (sym is.marks) (open_at_most words read read (sym is.same_count) refl all)

  pub all_known : first_unknown line ≡ None
  all_known = position_nowhere (λ mark. not (is_known mark)) (words_of line) [] (chosen_known (words_of line) words words_chosen)

  pub marks_count : length (words_of line) ≡ length words
  marks_count = ap length is.marks ∙ length-marks words read is.same_count

-- ---- what was lost comes back

-- the words of a text that spells a share
pub accepted_words : (text : List ℕ) (share : ShareFields) → Spells text share
    → (mnemonic : List ℕ) × All IsIndex mnemonic × HaveIndices (words_of text) mnemonic × Spells (spelling mnemonic) share
accepted_words text share s =
    let words = data_words share ++ s.checksum in
    let all = indices_below (words_of text) words s.words in (
      words,
      all,
      s.words,
      record {
        is_share = s.is_share;
        checksum = s.checksum;
        checksum_words = s.checksum_words;
        words = spelled_indices words all;
        valid = s.valid;
      },
    )

module _ (line mnemonic : List ℕ) (read : List (Option ℕ)) (share : ShareFields) (all : All IsIndex mnemonic)
    (spells : Spells (spelling mnemonic) share) (is : IsReadAs line mnemonic read) (few : unread_count read ≤ most_open) where
  fits : Fits line mnemonic share
  fits = record { words = words_chosen line mnemonic read all is; spells = spells }

  open_few : open_count line ≤ most_open
  open_few = omega (arith, few_open line mnemonic read all is, few)

  pub back : (answer : Result Repaired RepairError) → Repairs line answer
      → (repaired : Repaired) × (answer ≡ Ok repaired) × ((share ≡ repaired.first) ⊎ (Some share ≡ repaired.second))
  back answer repairs = comes_back line mnemonic share fits open_few answer repairs

  pub alone : (answer : Result Repaired RepairError) → is_open (get_or (words_of line) 1 []) ≡ false → Repairs line answer
      → answer ≡ Ok (record { first = share; second = None })
  alone answer closed repairs =
      let count = subst IsWordCount (sym (marks_count line mnemonic read all is)) (spelled_count mnemonic share all spells) in
      let readable : IsReadable line = record { known = all_known line mnemonic read all is; count = count } in
      one_answer line answer (Ok (record { first = share; second = None })) repairs (
        readable,
        open_few,
        record {
          mnemonic = mnemonic;
          first = fits;
          others = λ other found also. one_fits_closed line other mnemonic found share open_few closed also fits;
        },
      )

-- ---- there is such a line

joinable_mark : (i : ℕ) (read : Option ℕ) → IsIndex i → IsJoinable (mark_of i read)
joinable_mark i None lt = IsJoinable-listed (listed_word i) (IsListed-listed_word i lt)
joinable_mark i (Some n) lt =
    let word = IsJoinable-listed (listed_word i) (IsListed-listed_word i lt) in
    record {
      inside =
          let mark : IsInside 63 = (refl, refl) in
          All-append IsInside (take n (listed_word i)) (63 ∷ []) (All-take IsInside n (listed_word i) word.inside)
          (All-cons IsInside 63 [] mark (All-nil IsInside));
      some = omega (arith, length-append (take n (listed_word i)) (63 ∷ []));
    }

joinable_marks : (words : List ℕ) (read : List (Option ℕ)) → All IsIndex words → All IsJoinable (marks_of words read)
joinable_marks [] read all = All-nil IsJoinable
joinable_marks (i ∷ is) [] all = All-nil IsJoinable
joinable_marks (i ∷ is) (r ∷ rs) all =
    All-cons IsJoinable (mark_of i r) (marks_of is rs) (joinable_mark i r (All-head IsIndex i is all)) (joinable_marks is rs (All-tail IsIndex i is all))

pub some_line : (words : List ℕ) (read : List (Option ℕ)) → All IsIndex words → length read ≡ length words → (line : List ℕ) × IsReadAs line words read
some_line words read all n = (
  join_with_byte 32 (marks_of words read),
  record { marks = words_of-joinable (marks_of words read) (joinable_marks words read all); same_count = n },
)

-- ---- misread words

word_stands : (i : ℕ) → IsIndex i → is_misread (listed_word i) i ≡ false
word_stands i lt = chosen_is_read (listed_word i) i (word_among i lt)

other_misread : (v w : ℕ) → IsIndex v → IsIndex w → v ≢ w → is_misread (listed_word v) w ≡ true
other_misread v w lt lt' off = by_test _ (is_misread (listed_word v) w)
    (λ yes. yes)
    (λ no. absurd (off (only_one (choices (listed_word v)) v w (word_is_closed v lt) (word_among v lt) (chosen_from (listed_word v) w lt' no))))

doubtful_at_most : (words mnemonic : List ℕ) (read : List (Option ℕ)) → length words ≡ length mnemonic → length mnemonic ≡ length read → All IsIndex words
    → count_of_places is_doubtful (marks_of words read) mnemonic ≤ count_of_differences words mnemonic + unread_count read
doubtful_at_most = by_places _ (λ xs all.
    let few = counts_below (λ x. is_doubtful (mark_of x.0 x.1.1) x.1.0) (λ x. not (x.0 == x.1.0)) (λ x. is_some x.1.1) xs
    (λ k d lt. either _ _ _ (all_mapped IsIndex first xs all k d lt)) in
    omega (
      arith,
      few,
      ap (λ ms. count_of_places is_doubtful ms (map second xs)) (marks_map first third xs),
      count_zip (λ x. mark_of x.0 x.1.1) second is_doubtful xs,
      count_differences first second xs,
      count_map third is_some xs,
    ))
  where
    either : (v w : ℕ) (r : Option ℕ) → IsIndex v → is_doubtful (mark_of v r) w ≡ true → (not (v == w) ≡ true) ⊎ (is_some r ≡ true)
    either v w (Some n) lt doubt = inr refl
    either v w None lt doubt = by_test _ (v == w)
        (λ e.
        let sure : is_doubtful (listed_word v) w ≡ false =
        ap (λ b. b || is_misread (listed_word v) w) (word_is_closed v lt)
        ∙ subst (λ u. is_misread (listed_word v) u ≡ false) (eqb-true v w e) (word_stands v lt) in
        absurd (false≢true (sym sure ∙ doubt)))
        (λ e. inl (ap not e))

mark_at : (words : List ℕ) (read : List (Option ℕ)) (place : ℕ) → length read ≡ length words → place < length words → get_or read place None ≡ None
    → get_or (marks_of words read) place [] ≡ listed_word (get_or words place 0)
mark_at [] read place n within whole = absurd (omega arith)
mark_at (i ∷ is) [] place n within whole = absurd (omega (arith, n))
mark_at (i ∷ is) (r ∷ rs) zero n within whole = ap (mark_of i) whole
mark_at (i ∷ is) (r ∷ rs) (suc place) n within whole = mark_at is rs place (omega (arith, n)) (omega arith) whole

-- a word that is read and is another one is misread
misread_at_least : (words mnemonic : List ℕ) (read : List (Option ℕ)) (place : ℕ) → All IsIndex words → All IsIndex mnemonic
    → length words ≡ length mnemonic → length read ≡ length words → place < length words → get_or read place None ≡ None
    → get_or words place 0 ≢ get_or mnemonic place 0 → 1 ≤ count_of_places is_misread (marks_of words read) mnemonic
misread_at_least words mnemonic read place all all' n m within whole off =
    let marks = marks_of words read in
    let short : place < length marks = omega (arith, length-marks words read m, within) in
    let below : place < length mnemonic = omega (arith, n, within) in
    let here : get_or (zip marks mnemonic) place ([], 0) ≡ (listed_word (get_or words place 0), get_or mnemonic place 0) =
    get_or-zip marks mnemonic place ([], 0) short below ∙ ap (λ (mark : List ℕ). (mark, get_or mnemonic place 0)) (mark_at words read place m within whole) in
    let misread = other_misread (get_or words place 0) (get_or mnemonic place 0) (all place 0 within) (all' place 0 below) off in
    let passes = ap (λ (p : List ℕ × ℕ). cond {A = ℕ} (is_misread p.0 p.1) 1 0) here ∙ ap (λ (b : Bool). cond {A = ℕ} b 1 0) misread in
    let counted = get_or-le-sum_by (λ (p : List ℕ × ℕ). cond {A = ℕ} (is_misread p.0 p.1) 1 0) (zip marks mnemonic) place ([], 0)
    (omega (arith, length-zip marks mnemonic, short, below)) in
    omega (arith, passes, counted)

pub misread_line : (line words mnemonic : List ℕ) (read : List (Option ℕ)) (share : ShareFields) (place : ℕ)
    → All IsIndex mnemonic → Spells (spelling mnemonic) share → All IsIndex words → length words ≡ length mnemonic → IsReadAs line words read
    → count_of_differences words mnemonic + unread_count read ≤ most_open
    → place < length words → get_or read place None ≡ None → get_or words place 0 ≢ get_or mnemonic place 0
    → get_or read 1 None ≡ None → get_or words 1 0 ≡ get_or mnemonic 1 0 → IsMisreadLine line mnemonic share
misread_line line words mnemonic read share place all' spells all n is few within whole off second same =
    let count = (spelled_count mnemonic share all' spells).at_least in
    let two : 1 < length words = omega (arith, n, count) in
    let lt : IsIndex (get_or words 1 0) = all 1 0 two in
    let here : get_or (words_of line) 1 [] ≡ listed_word (get_or words 1 0) =
    ap (λ (ms : List (List ℕ)). get_or ms 1 []) is.marks ∙ mark_at words read 1 is.same_count two second in
    record {
      in_list = all';
      spells = spells;
      same_count = marks_count line words read all is ∙ n;
      known = all_known line words read all is;
      some = subst (λ marks. 1 ≤ count_of_places is_misread marks mnemonic) (sym is.marks)
          (misread_at_least words mnemonic read place all all' n is.same_count within whole off);
      few =
          let most = doubtful_at_most words mnemonic read n (sym n ∙ sym is.same_count) all in
          subst (λ marks. count_of_places is_doubtful marks mnemonic ≤ most_open) (sym is.marks) (omega (arith, most, few));
      second =
          ap (λ mark. is_doubtful mark (get_or mnemonic 1 0)) here
          ∙ ap (λ b. b || is_misread (listed_word (get_or words 1 0)) (get_or mnemonic 1 0)) (word_is_closed (get_or words 1 0) lt)
          ∙ subst (λ i. is_misread (listed_word (get_or words 1 0)) i ≡ false) same (word_stands (get_or words 1 0) lt);
    }

-- ---- wrong words

-- all words are read
all_read : List ℕ → List (Option ℕ)
all_read [] = []
all_read (i ∷ is) = None ∷ all_read is

marks_read : (words : List ℕ) → map listed_word words ≡ marks_of words (all_read words)
unfolding all_read
marks_read [] = refl
marks_read (i ∷ is) = ap (λ ms. listed_word i ∷ ms) (marks_read is)

length-all_read : (words : List ℕ) → length (all_read words) ≡ length words
unfolding all_read
length-all_read [] = refl
length-all_read (i ∷ is) = ap suc (length-all_read is)

none_unread : (words : List ℕ) → unread_count (all_read words) ≡ 0
unfolding all_read
none_unread [] = refl
none_unread (i ∷ is) = none_unread is

whole_line : (words : List ℕ) → All IsIndex words → IsWordCount (length words) → IsWhole (spelling words) words
whole_line words all count =
    let read = all_read words in
    let is : IsReadAs (spelling words) words read =
    record { marks = words_of-joined (map listed_word words) (listed_words words all) ∙ marks_read words; same_count = length-all_read words } in
    record {
      readable = record {
        known = all_known (spelling words) words read all is;
        count = subst IsWordCount (sym (marks_count (spelling words) words read all is)) count;
      };
      closed = omega (arith, few_open (spelling words) words read all is, none_unread words);
      words_are = words_chosen (spelling words) words read all is;
    }

pub wrong_words : (mnemonic : List ℕ) (share : ShareFields) (place other first second : ℕ) → All IsIndex mnemonic → Spells (spelling mnemonic) share
    → place < length mnemonic → other < length mnemonic → IsIndex first → IsIndex second
    → HasWrongWords (spelling (set (set mnemonic place first) other second)) (set (set mnemonic place first) other second) mnemonic share place other
wrong_words mnemonic share place other first second all spells within within' lt lt' =
    let once = set mnemonic place first in
    let words = set once other second in
    let all' : All IsIndex words = All-set IsIndex once other second lt' (All-set IsIndex mnemonic place first lt all) in
    let n : length words ≡ length mnemonic = length-set once other second ∙ length-set mnemonic place first in
    record {
      whole = whole_line words all' (subst IsWordCount (sym n) (spelled_count mnemonic share all spells));
      in_list = all;
      spells = spells;
      same_count = n;
      first_within = omega (arith, n);
      second_within = omega (arith, n);
      elsewhere = λ p off off'. get_or-set_other once other p second 0 off' ∙ get_or-set_other mnemonic place p first 0 off;
    }
