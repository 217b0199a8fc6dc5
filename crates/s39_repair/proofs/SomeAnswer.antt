-- Every line has an answer.
use Rattle.std.proofs.Common.{◌≡◌, ◌≢◌, ℕ, suc, ◌-◌, ◌<◌, ◌≤◌, ◌⊎◌, inl, inr, Bool, true, false, List, [], ◌∷◌, length, get_or, Option, Some, None}
use Rattle.std.proofs.Common.{Result, Ok, Err, refl, sym, ap, subst, ◌∙◌, ⊎_elim, arith}
use Rattle.std.specs.Prelude.{All, Contains, not, position, if◌then◌else◌}
use Rattle.std.specs.List.{position_or_len, range_with_len}
use Rattle.std.specs.Cmp.Lexicographic.{slice_cmp}
use Rattle.std.specs.Ordering.{nat_cmp, is_lt}
use Rattle.std.proofs.Math.ListN.{set}
use Rattle.std.proofs.lemmas.Bool.{cases_lt, cond-true, lt-ltb, le-ltb, false≢true}
use Rattle.std.proofs.lemmas.List.Elements.{All-contains, All-head, All-tail, All-get_or, Contains-get_or}
use Rattle.std.proofs.lemmas.List.Sums.{fails_before_first}
use Rattle.s39_lists.proofs.Ranges.{Contains-range, range-below}
use Rattle.s39_lists.proofs.Sublists.{Contains-nil, Contains-head, Contains-cons, Contains-cases}
use Rattle.s39_words.specs.Layout.{IsIndex, most_words, word_list_length}
use Rattle.s39_words.specs.Reading.{IsWordCount, Reads, has_word_count, reading}
use Rattle.s39_words.specs.Spelling.{words_of, Spells}
use Rattle.s39_words.specs.declared.share.ShareFields.{ShareFields}
use Rattle.s39_words.specs.declared.word_error.WordError.{WordError}
use Rattle.s39_words.specs.declared.word_error.WordError.TheVariants.{BadChecksum as words_BadChecksum, BadPadding as words_BadPadding}
use Rattle.s39_words.specs.declared.word_error.WordError.TheVariants.{GroupThreshold as words_GroupThreshold}
use Rattle.s39_words.specs.declared.word_error.WordError.TheVariants.{UnknownWord as words_UnknownWord, WordCount as words_WordCount}
use Rattle.s39_words.proofs.Indices.{at_most_words, word_count_test}
use Rattle.s39_words.proofs.OneReading.{read_from_spelled, same_share, spelled_from_read}
use Rattle.s39_repair.specs.declared.repaired.Repaired.{Repaired}
use Rattle.s39_repair.specs.declared.repair_error.RepairError.{RepairError}
use Rattle.s39_repair.specs.declared.repair_error.RepairError.TheVariants.{UnknownWord, WordCount, UnreadableWords, NoMnemonic, WrongWord}
use Rattle.s39_repair.specs.declared.repair_error.RepairError.TheVariants.{BadChecksum, BadPadding, GroupThreshold}
use Rattle.s39_repair.specs.Answer.{first_unknown, most_open, AreAll, IsReadable, IsWhole, IsWrongWord, Repairs, WrongWordIsAt}
use Rattle.s39_repair.specs.Marks.{choices, is_known, open_count, spelling, Fits}
use Rattle.s39_repair.proofs.ComesBack.{chosen_below, chosen_length}
use Rattle.s39_repair.proofs.Flags.{NoneWith, OnlyWith, none_fits, one_fits, both_fit, plain_or_not, extendable_or_not}
use Rattle.s39_repair.proofs.MarksRead.{AreChosen}
use Rattle.s39_repair.proofs.Misread.{few_or_none, fit_alike}
use Rattle.s39_repair.proofs.Wholes.{bad_spells_none, no_other_count, no_unknown}
use Rattle.s39_repair.proofs.SecondPosition.{none_wrong, only_wrong}
use Rattle.s39_repair.proofs.WrongPlaces.{mended_is, wrong_from_spelled}

-- ---- searches

-- one of these has a property, or none has it
search : (xs : List ℕ) (P : ℕ → Type 0) → ((x : ℕ) → P x ⊎ (P x → ⊥)) → ((x : ℕ) × Contains xs x × P x) ⊎ ((x : ℕ) → Contains xs x → P x → ⊥)
search [] P test = inr (λ x has. absurd (Contains-nil x has))
search (x ∷ xs) P test = ⊎_elim
    (λ here. inl (x, Contains-head x xs, here))
    (λ other. ⊎_elim
    (λ later. inl (later.0, Contains-cons x xs later.0 later.1, later.2))
    (λ none. inr (λ y has is. ⊎_elim (λ e. other (subst P (sym e) is)) (λ among. none y among is) (Contains-cases x xs y has)))
    (search xs P test))
    (test x)

-- one of these words, with further ones, has it
abbrev Begins : List (List ℕ) → (List ℕ → Type 0) → ℕ → Type 0
Begins marks P w = (ws : List ℕ) × AreChosen marks ws × P (w ∷ ws)

-- some words, each one of those for which its mark stands, have a property, or none have it
search_words : (marks : List (List ℕ)) (P : List ℕ → Type 0) → ((ws : List ℕ) → P ws ⊎ (P ws → ⊥))
    → ((ws : List ℕ) × AreChosen marks ws × P ws) ⊎ ((ws : List ℕ) → AreChosen marks ws → P ws → ⊥)
search_words [] P test = ⊎_elim (λ is. inl ([], tt, is)) (λ other. inr (only other)) (test [])
  where
    only : (P [] → ⊥) → (ws : List ℕ) → AreChosen [] ws → P ws → ⊥
    only other [] all is = other is
    only other (w ∷ ws) all is = absurd all
search_words (m ∷ ms) P test = ⊎_elim
    (λ found. inl (found.0 ∷ found.2.0, (found.1, found.2.1), found.2.2))
    (λ none. inr (none_of none))
    (search (choices m) (Begins ms P) (λ w. ⊎_elim (λ found. inl found) (λ none. inr (λ rest. none rest.0 rest.1 rest.2))
    (search_words ms (λ ws. P (w ∷ ws)) (λ ws. test (w ∷ ws)))))
  where
    none_of : ((w : ℕ) → Contains (choices m) w → Begins ms P w → ⊥) → (ws : List ℕ) → AreChosen (m ∷ ms) ws → P ws → ⊥
    none_of none [] all is = absurd all
    none_of none (w ∷ ws) all is = none w all.0 (ws, all.1, is)

-- ---- what words spell

abbrev Spelled : List ℕ → Type 0
Spelled text = (share : ShareFields) × Spells text share

spelled_or_not : (text : List ℕ) → Spelled text ⊎ (Spelled text → ⊥)
spelled_or_not text = by (reading text) refl
  where
    by : (read : Result ShareFields WordError) → Reads text read → Spelled text ⊎ (Spelled text → ⊥)
    by (Ok share) reads = inl (share, spelled_from_read text share reads)
    by (Err e) reads = inr (λ spelled. let same : Err e ≡ Ok spelled.0 = sym reads ∙ read_from_spelled text spelled.0 spelled.1 in absurd cc)

abbrev SpelledWith : Bool → List ℕ → Type 0
SpelledWith flag text = (share : ShareFields) × Spells text share × (share.extendable ≡ flag)

same_or_other : (a b : Bool) → (a ≡ b) ⊎ (a ≢ b)
same_or_other true true = inl refl
same_or_other true false = inr (λ e. false≢true (sym e))
same_or_other false true = inr (λ e. false≢true e)
same_or_other false false = inl refl

spelled_with_or_not : (flag : Bool) (text : List ℕ) → SpelledWith flag text ⊎ (SpelledWith flag text → ⊥)
spelled_with_or_not flag text = ⊎_elim
    (λ spelled. ⊎_elim
    (λ same. inl (spelled.0, spelled.1, same))
    (λ other. inr (λ found. other (ap (λ (s : ShareFields). s.extendable) (same_share text spelled.0 found.0 spelled.1 found.1) ∙ found.2)))
    (same_or_other spelled.0.extendable flag))
    (λ none. inr (λ found. none (found.0, found.1)))
    (spelled_or_not text)

-- ---- the mnemonics that fit

module _ (line : List ℕ) (few : open_count line ≤ most_open) where
  abbrev FitsWith : Bool → Type 0
  FitsWith flag = (ws : List ℕ) × AreChosen (words_of line) ws × SpelledWith flag (spelling ws)

  fits_with_or_not : (flag : Bool) → FitsWith flag ⊎ NoneWith (Fits line) flag
  fits_with_or_not flag = ⊎_elim
      (λ found. inl found)
      (λ none. inr (λ ws share fits is. none ws fits.words (share, fits.spells, is)))
      (search_words (words_of line) (λ ws. SpelledWith flag (spelling ws)) (λ ws. spelled_with_or_not flag (spelling ws)))

  fits : (flag : Bool) → (found : FitsWith flag) → Fits line found.0 found.2.0
  fits flag found = record { words = found.1; spells = found.2.1 }

  only : (flag : Bool) → (found : FitsWith flag) → OnlyWith (Fits line) flag found.0
  only flag found other share is same = fit_alike line found.0 other found.2.0 share few (fits flag found) is (found.2.2 ∙ sym same)

  all_or_none : ((repaired : Repaired) × AreAll (Fits line) repaired) ⊎ ((ws : List ℕ) (share : ShareFields) → Fits line ws share → ⊥)
  all_or_none = ⊎_elim
      (λ plain. ⊎_elim
      (λ other. inl (
        if is_lt (slice_cmp nat_cmp plain.0 other.0) then record { first = plain.2.0; second = Some other.2.0 }
            else record { first = other.2.0; second = Some plain.2.0 },
        both_fit (Fits line) (λ ws share is. is.spells) plain.0 other.0 plain.2.0 other.2.0 (fits false plain) (fits true other)
            plain.2.2 other.2.2 (only false plain) (only true other),
      ))
      (λ none. inl (
        record { first = plain.2.0; second = None },
        one_fits (Fits line) plain.0 plain.2.0 false true (fits false plain) (only false plain) none plain_or_not,
      ))
      (fits_with_or_not true))
      (λ none. ⊎_elim
      (λ other. inl (
        record { first = other.2.0; second = None },
        one_fits (Fits line) other.0 other.2.0 true false (fits true other) (only true other) none extendable_or_not,
      ))
      (λ none'. inr (none_fits (Fits line) none none'))
      (fits_with_or_not true))
      (fits_with_or_not false)

-- ---- the wrong word

module _ (ws : List ℕ) (all : All IsIndex ws) where
  abbrev Mends : ℕ → ℕ → Type 0
  Mends place w = Spelled (spelling (set ws place w))

  wrong_or_not : (place : ℕ) → IsWrongWord ws (suc place) ⊎ (IsWrongWord ws (suc place) → ⊥)
  wrong_or_not place = ⊎_elim
      (λ within. ⊎_elim
      (λ found. inl (wrong_from_spelled ws place found.0 found.2.0 all within
      (All-contains IsIndex (range_with_len 0 word_list_length) found.0 (range-below word_list_length) found.1) found.2.1))
      (λ none. inr (λ is.
      let w = get_or is.mnemonic place 0 in
      let n = is.same_count in
      let below : IsIndex w = All-get_or IsIndex is.mnemonic place 0 (omega (arith, n)) is.in_list in
      none w (Contains-range word_list_length w below)
      (is.share, subst (λ us. Spells (spelling us) is.share) (sym (mended_is ws place is)) is.spells)))
      (search (range_with_len 0 word_list_length) (Mends place) (λ w. spelled_or_not (spelling (set ws place w)))))
      (λ past. inr (λ is. let within = is.within in absurd (omega arith)))
      (cases_lt place (length ws))

  wrong_word : length ws ≤ most_words → ((share : ShareFields) → Spells (spelling ws) share → ⊥) → (position : Option ℕ) × WrongWordIsAt ws position
  wrong_word short bad = ⊎_elim
      (λ found. (Some (suc found.0), only_wrong ws all short bad (suc found.0) found.2))
      (λ none. (
        None,
        none_wrong ws (λ at is.
            let positive = is.positive in
            let within = is.within in
            let next : at ≡ suc (at - 1) = omega arith in
            none (at - 1) (Contains-range (length ws) (at - 1) (omega arith)) (subst (IsWrongWord ws) next is)),
      ))
      (search (range_with_len 0 (length ws)) (λ place. IsWrongWord ws (suc place)) wrong_or_not)

-- ---- the answer

known_nowhere : (p : List ℕ → Bool) (xs : List (List ℕ)) → position p xs ≡ None → All (λ x. p x ≡ false) xs
known_nowhere p xs none = λ k d within. fails_before_first p xs k d (⊎_elim
    (λ found. let some : position p xs ≡ Some (position_or_len p xs) = cond-true _ _ _ (lt-ltb (position_or_len p xs) (length xs) found) in absurd cc)
    (λ past. omega arith)
    (cases_lt (position_or_len p xs) (length xs)))

chosen_words : (marks : List (List ℕ)) → All (λ mark. not (is_known mark) ≡ false) marks → (ws : List ℕ) × AreChosen marks ws
chosen_words [] known = ([], tt)
chosen_words (m ∷ ms) known =
    let here = All-head (λ mark. not (is_known mark) ≡ false) m ms known in
    let rest = chosen_words ms (All-tail (λ mark. not (is_known mark) ≡ false) m ms known) in
    let some : 0 < length (choices m) = ⊎_elim (λ some. some)
    (λ none. absurd (false≢true (sym here ∙ ap not (le-ltb 0 (length (choices m)) none)))) (cases_lt 0 (length (choices m))) in
    (get_or (choices m) 0 0 ∷ rest.0, (Contains-get_or (choices m) 0 0 some, rest.1))

count_or_not : (n : ℕ) → IsWordCount n ⊎ (IsWordCount n → ⊥)
count_or_not n = by (has_word_count n) refl
  where
    by : (passes : Bool) → has_word_count n ≡ passes → IsWordCount n ⊎ (IsWordCount n → ⊥)
    by true is = inl ((word_count_test n).0 is)
    by false is = inr (λ count. false≢true (sym is ∙ (word_count_test n).1 count))

abbrev Answered : List ℕ → Type 0
Answered line = (answer : Result Repaired RepairError) × Repairs line answer

module _ (line ws : List ℕ) (chosen : AreChosen (words_of line) ws) where
  all : All IsIndex ws
  all = chosen_below (words_of line) ws chosen

  counted : IsReadable line → IsWordCount (length ws)
  counted readable = subst IsWordCount (chosen_length (words_of line) ws chosen) readable.count

  bad_checksum : (position : Option ℕ) → IsWhole line ws → Reads (spelling ws) (Err words_BadChecksum) → WrongWordIsAt ws position → Answered line
  bad_checksum None whole bad is = (Err BadChecksum, (ws, whole, bad, is))
  bad_checksum (Some at) whole bad is = (Err (WrongWord at), (ws, whole, bad, is))

  whole_answer : (read : Result ShareFields WordError) → Reads (spelling ws) read → IsWhole line ws
      → ((other : List ℕ) (share : ShareFields) → Fits line other share → ⊥) → Answered line
  whole_answer (Ok share) reads whole none =
      absurd (none ws share (record { words = chosen; spells = spelled_from_read (spelling ws) share reads }))
  whole_answer (Err (words_UnknownWord at)) reads whole none = absurd (no_unknown ws at all reads)
  whole_answer (Err (words_WordCount n)) reads whole none =
      absurd (no_other_count ws n all (counted whole.readable) reads)
  whole_answer (Err words_BadChecksum) reads whole none =
      let wrong = wrong_word ws all (at_most_words (length ws) (counted whole.readable)) (λ share. bad_spells_none (spelling ws) share reads) in
      bad_checksum wrong.0 whole reads wrong.1
  whole_answer (Err words_BadPadding) reads whole none = (Err BadPadding, (ws, whole, reads))
  whole_answer (Err words_GroupThreshold) reads whole none = (Err GroupThreshold, (ws, whole, reads))

  readable_answer : IsReadable line → Answered line
  readable_answer readable = ⊎_elim
      (λ many. (Err (UnreadableWords (open_count line)), (readable, refl, many)))
      (λ few. ⊎_elim
      (λ found. (Ok found.0, (readable, few, found.1)))
      (λ none. ⊎_elim
      (λ closed. whole_answer (reading (spelling ws)) refl (record { readable = readable; closed = closed; words_are = chosen }) none)
      (λ some. (Err NoMnemonic, (readable, some, few, none)))
      (few_or_none (open_count line)))
      (all_or_none line few))
      (cases_lt most_open (open_count line))

known_answer : (line : List ℕ) → first_unknown line ≡ None → Answered line
known_answer line known =
    let found = chosen_words (words_of line) (known_nowhere (λ mark. not (is_known mark)) (words_of line) known) in
    ⊎_elim
    (λ count. readable_answer line found.0 found.1 (record { known = known; count = count }))
    (λ none. (Err (WordCount (length (words_of line))), (known, refl, none)))
    (count_or_not (length (words_of line)))

by_unknown : (line : List ℕ) (place : Option ℕ) → first_unknown line ≡ place → Answered line
by_unknown line None known = known_answer line known
by_unknown line (Some place) unknown = (Err (UnknownWord (suc place)), (place, unknown, refl))

pub some_answer : (line : List ℕ) → (answer : Result Repaired RepairError) × Repairs line answer
some_answer line = by_unknown line (first_unknown line) refl
