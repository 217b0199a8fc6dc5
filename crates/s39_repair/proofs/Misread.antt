-- Mnemonics that fit one line, or that a line was to say.
use Rattle.std.proofs.Common.{◌≡◌, ◌≢◌, ℕ, zero, suc, ◌<◌, ◌≤◌, ◌⊎◌, inl, inr, Bool, true, false, cond, List, [], ◌∷◌, length, get_or}
use Rattle.std.proofs.Common.{Some, None, Result, Ok, Err}
use Rattle.std.proofs.Common.{refl, sym, ap, ap₂, subst, ◌∙◌, ⊎_elim, arith}
use Rattle.std.specs.Prelude.{All, Contains, count_by, not, ◌==◌, ◌||◌}
use Rattle.std.specs.List.{range_with_len}
use Rattle.std.proofs.lemmas.Bool.{eqb-true, eq-eqb, false≢true, false_from_ne_true}
use Rattle.std.proofs.lemmas.List.Elements.{All-head, All-tail}
use Rattle.s39_lists.proofs.Ranges.{Contains-range}
use Rattle.s39_lists.proofs.Sublists.{of_filter, Contains-filter}
use Rattle.s39_words.specs.Layout.{IsIndex, word_list_length}
use Rattle.s39_words.specs.Mistyping.{count_of_differences, IsMnemonic}
use Rattle.s39_words.specs.Printing.{listed_word}
use Rattle.s39_words.specs.Reading.{IsWordCount, flag_of, Reads}
use Rattle.s39_words.specs.Spelling.{words_of, Spells}
use Rattle.s39_words.specs.declared.share.ShareFields.{ShareFields}
use Rattle.s39_words.specs.declared.word_error.WordError.TheVariants.{BadChecksum as words_BadChecksum, BadPadding as words_BadPadding}
use Rattle.s39_words.specs.declared.word_error.WordError.TheVariants.{GroupThreshold as words_GroupThreshold}
use Rattle.s39_words.proofs.DataWords.{is_word_count, flag-is}
use Rattle.s39_words.proofs.Indices.{indices_same}
use Rattle.s39_words.proofs.Mnemonics.{spelled_words}
use Rattle.s39_words.proofs.OneReading.{read_from_spelled, same_reading}
use Rattle.s39_words.proofs.WrongWords.{bad_checksum}
use Rattle.s39_repair.specs.declared.repaired.Repaired.{Repaired}
use Rattle.s39_repair.specs.declared.repair_error.RepairError.{RepairError}
use Rattle.s39_repair.specs.declared.repair_error.RepairError.TheVariants.{UnknownWord, WordCount, UnreadableWords, NoMnemonic, WrongWord}
use Rattle.s39_repair.specs.declared.repair_error.RepairError.TheVariants.{BadChecksum, BadPadding, GroupThreshold}
use Rattle.s39_repair.specs.Answer.{most_open, IsWhole, Repairs}
use Rattle.s39_repair.specs.Marks.{choices, is_open, listed_that, open_count, spelling, stands_for, Fits}
use Rattle.s39_repair.specs.Misread.{count_of_places, is_doubtful, is_misread, IsMisreadLine}
use Rattle.s39_repair.proofs.Candidates.{spelled_indices, spelled_parts}
use Rattle.s39_repair.proofs.ComesBack.{chosen_below, chosen_length, only_one}
use Rattle.s39_repair.proofs.MarksRead.{AreChosen}
use Rattle.s39_repair.proofs.Places.{all_mapped, all_zip, by_places, count_differences, count_map, count_zip, fewer, first, second, third}

-- ---- counts

pub by_test : (P : Type 0) (b : Bool) → (b ≡ true → P) → (b ≡ false → P) → P
by_test P true f g = f refl
by_test P false f g = g refl

differs : (v w : ℕ) → not (v == w) ≡ true → v ≢ w
differs v w other same = false≢true (sym (ap not (eq-eqb v w same)) ∙ other)

pub differs_if : (v w : ℕ) → v ≢ w → not (v == w) ≡ true
differs_if v w off = ap not (false_from_ne_true (v == w) (λ e. off (eqb-true v w e)))

no_difference : (vs ws : List ℕ) → length vs ≡ length ws → count_of_differences vs ws ≡ 0 → vs ≡ ws
no_difference [] [] n none = refl
no_difference [] (w ∷ ws) n none = absurd (omega (arith, n))
no_difference (v ∷ vs) [] n none = absurd (omega (arith, n))
no_difference (v ∷ vs) (w ∷ ws) n none = go (v == w) refl (no_difference vs ws (omega (arith, n))) none
  where
    go : (b : Bool) → (v == w) ≡ b → (count_of_differences vs ws ≡ 0 → vs ≡ ws)
        → cond b (count_of_differences vs ws) (suc (count_of_differences vs ws)) ≡ 0 → v ∷ vs ≡ w ∷ ws
    go true e rest none = ap₂ (λ x xs. x ∷ xs) (eqb-true v w e) (rest none)
    go false e rest none = absurd (omega (arith, none))

-- ---- what a mark stands for

pub chosen_from : (mark : List ℕ) (index : ℕ) → IsIndex index → is_misread mark index ≡ false → Contains (choices mark) index
unfolding listed_that
chosen_from mark index below read =
    Contains-filter (λ i. stands_for mark (listed_word i)) (range_with_len 0 word_list_length) index
    (Contains-range word_list_length index below) (shown (stands_for mark (listed_word index)) read)
  where
    shown : (b : Bool) → not b ≡ false → b ≡ true
    shown true e = refl
    shown false e = absurd (false≢true (sym e))

pub chosen_is_read : (mark : List ℕ) (index : ℕ) → Contains (choices mark) index → is_misread mark index ≡ false
unfolding listed_that
chosen_is_read mark index has = ap not (of_filter (λ i. stands_for mark (listed_word i)) (range_with_len 0 word_list_length) index has).1

or_parts : (a b : Bool) → (a || b) ≡ false → (a ≡ false) × (b ≡ false)
or_parts true b e = absurd (false≢true (sym e))
or_parts false b e = (refl, e)

-- a mark without doubt stands for one word
one_choice : (mark : List ℕ) (v w : ℕ) → Contains (choices mark) v → IsIndex w → is_doubtful mark w ≡ false → v ≡ w
one_choice mark v w has below sure =
    let parts = or_parts (is_open mark) (is_misread mark w) sure in
    only_one (choices mark) v w parts.0 has (chosen_from mark w below parts.1)

abbrev IsAmong : List ℕ → ℕ → Type 0
IsAmong mark word = Contains (choices mark) word

-- words for which the marks stand differ in doubtful places alone
differences_few : (marks : List (List ℕ)) (vs ws : List ℕ) → length marks ≡ length vs → length vs ≡ length ws → AreChosen marks vs → All IsIndex ws
    → count_of_differences vs ws ≤ count_of_places is_doubtful marks ws
differences_few = by_places _ (λ xs chosen all.
    let few = fewer (λ x. not (x.1.0 == x.1.1)) (λ x. is_doubtful x.0 x.1.1) xs (λ k d lt. doubted _ _ _
    (all_zip first second IsAmong xs chosen k d lt) (all_mapped IsIndex third xs all k d lt)) in
    omega (arith, few, count_differences second third xs, count_zip first third is_doubtful xs))
  where
    doubted : (m : List ℕ) (v w : ℕ) → Contains (choices m) v → IsIndex w → not (v == w) ≡ true → is_doubtful m w ≡ true
    doubted m v w has below other = by_test _ (is_doubtful m w) (λ yes. yes) (λ sure. absurd (differs v w other (one_choice m v w has below sure)))

-- and in each misread place
differences_some : (marks : List (List ℕ)) (vs ws : List ℕ) → length marks ≡ length vs → length vs ≡ length ws → AreChosen marks vs
    → count_of_places is_misread marks ws ≤ count_of_differences vs ws
differences_some = by_places _ (λ xs chosen.
    let few = fewer (λ x. is_misread x.0 x.1.1) (λ x. not (x.1.0 == x.1.1)) xs (λ k d lt. other _ _ _
    (all_zip first second IsAmong xs chosen k d lt)) in
    omega (arith, few, count_differences second third xs, count_zip first third is_misread xs))
  where
    other : (m : List ℕ) (v w : ℕ) → Contains (choices m) v → is_misread m w ≡ true → not (v == w) ≡ true
    other m v w has misread = differs_if v w (λ same. false≢true (sym (chosen_is_read m v has) ∙ ap (is_misread m) same ∙ misread))

open_few : (marks : List (List ℕ)) (ws others : List ℕ) → length marks ≡ length ws → length ws ≡ length others
    → count_by is_open marks ≤ count_of_places is_doubtful marks ws
open_few = by_places _ (λ xs.
    let few = fewer (λ x. is_open x.0) (λ x. is_doubtful x.0 x.1.0) xs (λ k d lt yes. ap (λ b. b || is_misread (get_or xs k d).0 (get_or xs k d).1.0) yes) in
    omega (arith, few, count_map first is_open xs, count_zip first second is_doubtful xs))

-- words for which the same marks stand differ in open places alone
open_differences : (marks : List (List ℕ)) (vs ws : List ℕ) → length marks ≡ length vs → length vs ≡ length ws → AreChosen marks vs → AreChosen marks ws
    → count_of_differences vs ws ≤ count_by is_open marks
open_differences = by_places _ (λ xs one two.
    let few = fewer (λ x. not (x.1.0 == x.1.1)) (λ x. is_open x.0) xs (λ k d lt. opened _ _ _
    (all_zip first second IsAmong xs one k d lt)
    (all_zip first third IsAmong xs two k d lt)) in
    omega (arith, few, count_differences second third xs, count_map first is_open xs))
  where
    opened : (m : List ℕ) (v w : ℕ) → Contains (choices m) v → Contains (choices m) w → not (v == w) ≡ true → is_open m ≡ true
    opened m v w has also other = by_test _ (is_open m) (λ yes. yes) (λ no. absurd (differs v w other (only_one (choices m) v w no has also)))

-- ---- flags

flag_in_second : (v w x : ℕ) (vs ws : List ℕ) → flag_of (v ∷ x ∷ vs) ≡ flag_of (w ∷ x ∷ ws)
flag_in_second v w x vs ws = refl

-- the second word holds the flag
pub same_flags : (vs ws : List ℕ) → 2 ≤ length vs → length vs ≡ length ws → get_or vs 1 0 ≡ get_or ws 1 0 → flag_of vs ≡ flag_of ws
same_flags [] ws two n e = absurd (omega arith)
same_flags (v ∷ []) ws two n e = absurd (omega arith)
same_flags (v ∷ x ∷ vs) [] two n e = absurd (omega (arith, n))
same_flags (v ∷ x ∷ vs) (w ∷ []) two n e = absurd (omega (arith, n))
same_flags (v ∷ x ∷ vs) (w ∷ y ∷ ws) two n e = ap (λ z. flag_of (v ∷ z ∷ vs)) e ∙ flag_in_second v w y vs ws

pub spelled_count : (words : List ℕ) (share : ShareFields) → All IsIndex words → Spells (spelling words) share → IsWordCount (length words)
spelled_count words share all s =
    subst (λ (ws : List ℕ). IsWordCount (length ws)) (sym (spelled_parts words share all s)) (is_word_count share s.is_share s.checksum s.checksum_words)

pub two_at_least : (n : ℕ) → IsWordCount n → 2 ≤ n
two_at_least n count = let a = count.at_least in omega (arith, a)

pub spelled_flag : (words : List ℕ) (share : ShareFields) → All IsIndex words → Spells (spelling words) share → flag_of words ≡ share.extendable
spelled_flag words share all s =
    ap flag_of (spelled_parts words share all s) ∙ flag-is share s.is_share s.checksum s.checksum_words

pub is_mnemonic : (words : List ℕ) (share : ShareFields) → All IsIndex words → Spells (spelling words) share → IsMnemonic words
is_mnemonic words share all s =
    let m = spelled_words (spelling words) share s in
    subst IsMnemonic (indices_same (words_of (spelling words)) m.0 words m.1 (spelled_indices words all)) m.2

-- a mnemonic of which one to three words are replaced, with the same flag, has a bad checksum
pub bad_spelling : (words mnemonic : List ℕ) (share : ShareFields) → All IsIndex words → All IsIndex mnemonic → Spells (spelling mnemonic) share
    → length words ≡ length mnemonic → flag_of words ≡ flag_of mnemonic → 1 ≤ count_of_differences words mnemonic → count_of_differences words mnemonic ≤ 3
    → Reads (spelling words) (Err words_BadChecksum)
bad_spelling words mnemonic share all all' s n flags some few =
    bad_checksum (spelling words) mnemonic (is_mnemonic mnemonic share all' s) (record {
      words = words;
      known = spelled_indices words all;
      same_count = n;
      same_flag = flags;
      wrong = some;
      few = few;
    })

pub bad_isn't_spelled : (words : List ℕ) (share : ShareFields) → Reads (spelling words) (Err words_BadChecksum) → Spells (spelling words) share → ⊥
bad_isn't_spelled words share bad s =
    let one : Err words_BadChecksum ≡ Ok share = same_reading (spelling words) (Err words_BadChecksum) (Ok share) bad
    (read_from_spelled (spelling words) share s) in
    cc

-- ---- two mnemonics that fit one line

pub few_or_none : (n : ℕ) → (n ≡ 0) ⊎ (1 ≤ n)
few_or_none zero = inl refl
few_or_none (suc n) = inr (omega arith)

pub fit_alike : (line vs ws : List ℕ) (f g : ShareFields) → open_count line ≤ most_open → Fits line vs f → Fits line ws g
    → f.extendable ≡ g.extendable → vs ≡ ws
fit_alike line vs ws f g few p q flags =
    let all = chosen_below (words_of line) vs p.words in
    let all' = chosen_below (words_of line) ws q.words in
    let n : length vs ≡ length ws = sym (chosen_length (words_of line) vs p.words) ∙ chosen_length (words_of line) ws q.words in
    let most = open_differences (words_of line) vs ws (chosen_length (words_of line) vs p.words) n p.words q.words in
    ⊎_elim
    (λ none. no_difference vs ws n none)
    (λ some.
    let same : flag_of vs ≡ flag_of ws = spelled_flag vs f all p.spells ∙ flags ∙ sym (spelled_flag ws g all' q.spells) in
    absurd (bad_isn't_spelled vs f (bad_spelling vs ws g all all' q.spells n same some (omega (arith, most, few))) p.spells))
    (few_or_none (count_of_differences vs ws))

-- the words at a place that isn't open are the same
chosen_alike : (marks : List (List ℕ)) (vs ws : List ℕ) (k : ℕ) → AreChosen marks vs → AreChosen marks ws → k < length marks
    → is_open (get_or marks k []) ≡ false
    → get_or vs k 0 ≡ get_or ws k 0
chosen_alike [] vs ws k p q below closed = absurd (omega arith)
chosen_alike (m ∷ ms) [] ws k p q below closed = absurd p
chosen_alike (m ∷ ms) (v ∷ vs) [] k p q below closed = absurd q
chosen_alike (m ∷ ms) (v ∷ vs) (w ∷ ws) zero p q below closed = only_one (choices m) v w closed p.0 q.0
chosen_alike (m ∷ ms) (v ∷ vs) (w ∷ ws) (suc k) p q below closed = chosen_alike ms vs ws k p.1 q.1 (omega arith) closed

pub one_fits_closed : (line vs ws : List ℕ) (f g : ShareFields) → open_count line ≤ most_open → is_open (get_or (words_of line) 1 []) ≡ false
    → Fits line vs f → Fits line ws g
    → vs ≡ ws
one_fits_closed line vs ws f g few closed p q =
    let all = chosen_below (words_of line) vs p.words in
    let all' = chosen_below (words_of line) ws q.words in
    let m : length (words_of line) ≡ length vs = chosen_length (words_of line) vs p.words in
    let n : length vs ≡ length ws = sym m ∙ chosen_length (words_of line) ws q.words in
    let two = two_at_least (length vs) (spelled_count vs f all p.spells) in
    let second = chosen_alike (words_of line) vs ws 1 p.words q.words (omega (arith, m, two)) closed in
    fit_alike line vs ws f g few p q (sym (spelled_flag vs f all p.spells) ∙ same_flags vs ws two n second ∙ spelled_flag ws g all' q.spells)

by_flags : (P : Type 0) (a b c : Bool) → (a ≡ b → P) → (a ≡ c → P) → (b ≡ c → P) → P
by_flags P true true c f g h = f refl
by_flags P false false c f g h = f refl
by_flags P true false true f g h = g refl
by_flags P true false false f g h = h refl
by_flags P false true true f g h = h refl
by_flags P false true false f g h = g refl

pub two_fit_at_most : (line us vs ws : List ℕ) (e f g : ShareFields) → open_count line ≤ most_open → Fits line us e → Fits line vs f → Fits line ws g
    → (us ≡ vs) ⊎ ((us ≡ ws) ⊎ (vs ≡ ws))
two_fit_at_most line us vs ws e f g few p q r = by_flags _ e.extendable f.extendable g.extendable
    (λ same. inl (fit_alike line us vs e f few p q same))
    (λ same. inr (inl (fit_alike line us ws e g few p r same)))
    (λ same. inr (inr (fit_alike line vs ws f g few q r same)))

-- ---- a line that is misread

chosen_sure : (marks : List (List ℕ)) (vs ws : List ℕ) (k : ℕ) → AreChosen marks vs → All IsIndex ws → k < length marks → length marks ≡ length ws
    → is_doubtful (get_or marks k []) (get_or ws k 0) ≡ false → get_or vs k 0 ≡ get_or ws k 0
chosen_sure [] vs ws k p all below n sure = absurd (omega arith)
chosen_sure (m ∷ ms) [] ws k p all below n sure = absurd p
chosen_sure (m ∷ ms) (v ∷ vs) [] k p all below n sure = absurd (omega (arith, n))
chosen_sure (m ∷ ms) (v ∷ vs) (w ∷ ws) zero p all below n sure = one_choice m v w p.0 (All-head IsIndex w ws all) sure
chosen_sure (m ∷ ms) (v ∷ vs) (w ∷ ws) (suc k) p all below n sure =
    chosen_sure ms vs ws k p.1 (All-tail IsIndex w ws all) (omega arith) (omega (arith, n)) sure

module _ (line mnemonic : List ℕ) (share : ShareFields) (m : IsMisreadLine line mnemonic share) where
  count : IsWordCount (length mnemonic)
  count = spelled_count mnemonic share m.in_list m.spells

  bad_line : (words : List ℕ) → AreChosen (words_of line) words → Reads (spelling words) (Err words_BadChecksum)
  bad_line words p =
      let long = chosen_length (words_of line) words p in
      let n : length words ≡ length mnemonic = sym long ∙ m.same_count in
      let two = two_at_least (length mnemonic) count in
      let second : get_or words 1 0 ≡ get_or mnemonic 1 0 =
      chosen_sure (words_of line) words mnemonic 1 p m.in_list (omega (arith, m.same_count, two)) m.same_count m.second in
      bad_spelling words mnemonic share (chosen_below (words_of line) words p) m.in_list m.spells n
      (same_flags words mnemonic (omega (arith, n, two)) n second)
      (omega (arith, differences_some (words_of line) words mnemonic long n p, m.some))
      (omega (arith, differences_few (words_of line) words mnemonic long n p m.in_list, m.few))

  none_fits : (words : List ℕ) (found : ShareFields) → Fits line words found → ⊥
  none_fits words found fits = bad_isn't_spelled words found (bad_line words fits.words) fits.spells

  few_open : open_count line ≤ most_open
  few_open = omega (arith, open_few (words_of line) mnemonic mnemonic m.same_count refl, m.few)

  not_padding : (words : List ℕ) → IsWhole line words → Reads (spelling words) (Err words_BadPadding) → ⊥
  not_padding words whole reads =
      let one : Err words_BadChecksum ≡ Err words_BadPadding =
      same_reading (spelling words) (Err words_BadChecksum) (Err words_BadPadding) (bad_line words whole.words_are) reads in
      cc

  not_threshold : (words : List ℕ) → IsWhole line words → Reads (spelling words) (Err words_GroupThreshold) → ⊥
  not_threshold words whole reads =
      let one : Err words_BadChecksum ≡ Err words_GroupThreshold =
      same_reading (spelling words) (Err words_BadChecksum) (Err words_GroupThreshold) (bad_line words whole.words_are) reads in
      cc

  pub no_mnemonic : (answer : Result Repaired RepairError) → Repairs line answer → 1 ≤ open_count line → answer ≡ Err NoMnemonic
  no_mnemonic (Ok repaired) is some = absurd (none_fits is.2.mnemonic repaired.first is.2.first)
  no_mnemonic (Err (UnknownWord at)) is some = let none : Some is.0 ≡ None = sym is.1 ∙ m.known in absurd cc
  no_mnemonic (Err (WordCount n)) is some = absurd (is.2 (subst IsWordCount (sym (is.1 ∙ m.same_count)) count))
  no_mnemonic (Err (UnreadableWords n)) is some = absurd (omega (arith, is.1, is.2, few_open))
  no_mnemonic (Err NoMnemonic) is some = refl
  no_mnemonic (Err (WrongWord at)) is some = let none = is.1.closed in absurd (omega (arith, none, some))
  no_mnemonic (Err BadChecksum) is some = let none = is.1.closed in absurd (omega (arith, none, some))
  no_mnemonic (Err BadPadding) is some = let none = is.1.closed in absurd (omega (arith, none, some))
  no_mnemonic (Err GroupThreshold) is some = let none = is.1.closed in absurd (omega (arith, none, some))

  abbrev IsBad : Result Repaired RepairError → Type 0
  IsBad answer = (answer ≡ Err BadChecksum) ⊎ ((at : ℕ) × (answer ≡ Err (WrongWord at)))

  pub bad_answer : (answer : Result Repaired RepairError) → Repairs line answer → open_count line ≡ 0 → IsBad answer
  bad_answer (Ok repaired) is none = absurd (none_fits is.2.mnemonic repaired.first is.2.first)
  bad_answer (Err (UnknownWord at)) is none = let other : Some is.0 ≡ None = sym is.1 ∙ m.known in absurd cc
  bad_answer (Err (WordCount n)) is none = absurd (is.2 (subst IsWordCount (sym (is.1 ∙ m.same_count)) count))
  bad_answer (Err (UnreadableWords n)) is none = absurd (omega (arith, is.1, is.2, few_open))
  bad_answer (Err NoMnemonic) is none = absurd (omega (arith, is.1, none))
  bad_answer (Err (WrongWord at)) is none = inr (at, refl)
  bad_answer (Err BadChecksum) is none = inl refl
  bad_answer (Err BadPadding) is none = absurd (not_padding is.0 is.1 is.2)
  bad_answer (Err GroupThreshold) is none = absurd (not_threshold is.0 is.1 is.2)
