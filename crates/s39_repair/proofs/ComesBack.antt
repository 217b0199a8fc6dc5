-- A mnemonic that fits a line is in the answer to it.
use Rattle.std.proofs.Common.{◌≡◌, ℕ, ◌+◌, ◌<◌, ◌≤◌, ◌⊎◌, inl, inr, Bool, true, false, cond, List, [], ◌∷◌, length, get_or, suc, Option, Some, None}
use Rattle.std.proofs.Common.{Result, Ok, Err, refl, sym, ap, ap₂, subst, ◌∙◌, ⊎_elim, arith}
use Rattle.std.specs.Prelude.{All, Contains, MatchOption, count_by, nat_lt, not}
use Rattle.std.specs.List.{range_with_len}
use Rattle.std.proofs.lemmas.Bool.{cases_lt, lt-ltb, false≢true}
use Rattle.std.proofs.lemmas.List.{get_or_default}
use Rattle.std.proofs.lemmas.List.Elements.{All-nil, All-cons}
use Rattle.std.proofs.lemmas.List.Sums.{sum_by-cons}
use Rattle.s39_lists.proofs.Ranges.{range-below}
use Rattle.s39_lists.proofs.Sublists.{of_filter}
use Rattle.s39_words.specs.Layout.{IsIndex, word_list_length}
use Rattle.s39_words.specs.Printing.{listed_word}
use Rattle.s39_words.specs.Reading.{IsWordCount, Reads}
use Rattle.s39_words.specs.Spelling.{words_of, Spells}
use Rattle.s39_words.specs.declared.share.ShareFields.{ShareFields}
use Rattle.s39_words.specs.declared.word_error.WordError.{WordError}
use Rattle.s39_words.specs.declared.word_error.WordError.TheVariants.{BadChecksum as words_BadChecksum, BadPadding as words_BadPadding}
use Rattle.s39_words.specs.declared.word_error.WordError.TheVariants.{GroupThreshold as words_GroupThreshold}
use Rattle.s39_words.proofs.DataWords.{is_word_count}
use Rattle.s39_words.proofs.OneReading.{read_from_spelled, same_reading, same_share}
use Rattle.s39_repair.specs.declared.repaired.Repaired.{Repaired}
use Rattle.s39_repair.specs.declared.repair_error.RepairError.{RepairError}
use Rattle.s39_repair.specs.declared.repair_error.RepairError.TheVariants.{UnknownWord, WordCount, UnreadableWords, NoMnemonic, WrongWord}
use Rattle.s39_repair.specs.declared.repair_error.RepairError.TheVariants.{BadChecksum, BadPadding, GroupThreshold}
use Rattle.s39_repair.specs.Answer.{first_unknown, most_open, ComesBefore, IsWhole, Repairs}
use Rattle.s39_repair.specs.Marks.{choices, is_known, is_open, listed_that, open_count, spelling, Fits}
use Rattle.s39_repair.proofs.Candidates.{spelled_parts}
use Rattle.s39_repair.proofs.MarksRead.{AreChosen, position_nowhere}

-- ---- words that marks stand for

listed_below : (test : List ℕ → Bool) (index : ℕ) → Contains (listed_that test) index → IsIndex index
unfolding listed_that
listed_below test index has =
    let among = (of_filter (λ i. test (listed_word i)) (range_with_len 0 word_list_length) index has).0 in
    let below = range-below word_list_length among.0 index among.1 in
    subst (λ i. i < word_list_length) among.2 below

pub chosen_below : (marks : List (List ℕ)) (words : List ℕ) → AreChosen marks words → All IsIndex words
chosen_below [] [] all = All-nil IsIndex
chosen_below [] (w ∷ ws) all = absurd all
chosen_below (m ∷ ms) [] all = absurd all
chosen_below (m ∷ ms) (w ∷ ws) all = All-cons IsIndex w ws (listed_below _ w all.0) (chosen_below ms ws all.1)

some_from_contains : (xs : List ℕ) (x : ℕ) → Contains xs x → 0 < length xs
some_from_contains xs x has = omega (arith, has.1)

pub chosen_known : (marks : List (List ℕ)) (words : List ℕ) → AreChosen marks words → All (λ mark. not (is_known mark) ≡ false) marks
chosen_known [] words all = All-nil (λ mark. not (is_known mark) ≡ false)
chosen_known (m ∷ ms) [] all = absurd all
chosen_known (m ∷ ms) (w ∷ ws) all =
    All-cons (λ mark. not (is_known mark) ≡ false) m ms (ap not (lt-ltb 0 (length (choices m)) (some_from_contains (choices m) w all.0)))
    (chosen_known ms ws all.1)

pub chosen_length : (marks : List (List ℕ)) (words : List ℕ) → AreChosen marks words → length marks ≡ length words
chosen_length [] [] all = refl
chosen_length [] (w ∷ ws) all = absurd all
chosen_length (m ∷ ms) [] all = absurd all
chosen_length (m ∷ ms) (w ∷ ws) all = ap suc (chosen_length ms ws all.1)

pub only_one : (xs : List ℕ) (x y : ℕ) → nat_lt 1 (length xs) ≡ false → Contains xs x → Contains xs y → x ≡ y
only_one xs x y closed one other =
    let short : length xs ≤ 1 =
    ⊎_elim (λ more. absurd (false≢true (sym closed ∙ lt-ltb 1 (length xs) more))) (λ few. few) (cases_lt 1 (length xs)) in
    let same : one.0 ≡ other.0 = omega (arith, one.1, other.1) in
    sym one.2 ∙ get_or_default xs one.0 x y one.1 ∙ ap (λ i. get_or xs i y) same ∙ other.2

-- a line without open places stands for one list of words
pub chosen_once : (marks : List (List ℕ)) (vs ws : List ℕ) → count_by is_open marks ≡ 0 → AreChosen marks vs → AreChosen marks ws → vs ≡ ws
chosen_once [] [] [] none p q = refl
chosen_once [] [] (w ∷ ws) none p q = absurd q
chosen_once [] (v ∷ vs) ws none p q = absurd p
chosen_once (m ∷ ms) [] ws none p q = absurd p
chosen_once (m ∷ ms) (v ∷ vs) [] none p q = absurd q
chosen_once (m ∷ ms) (v ∷ vs) (w ∷ ws) none p q =
    let parts : count_by is_open (m ∷ ms) ≡ cond {A = ℕ} (is_open m) 1 0 + count_by is_open ms = sum_by-cons (λ x. cond (is_open x) 1 0) m ms in
    ap₂ (λ x xs. x ∷ xs)
    (only_one (choices m) v w (shut (is_open m) (omega (arith, parts, none))) p.0 q.0)
    (chosen_once ms vs ws (omega (arith, parts, none)) p.1 q.1)
  where
    shut : (b : Bool) → cond {A = ℕ} b 1 0 ≡ 0 → b ≡ false
    shut true h = absurd (omega (arith, h))
    shut false h = refl

-- ---- the answer

module _ (line mnemonic : List ℕ) (share : ShareFields) (fits : Fits line mnemonic share) (few : open_count line ≤ most_open) where
  known : first_unknown line ≡ None
  known = position_nowhere (λ mark. not (is_known mark)) (words_of line) [] (chosen_known (words_of line) mnemonic fits.words)

  count : IsWordCount (length (words_of line))
  count =
      let s = fits.spells in
      let parts = spelled_parts mnemonic share (chosen_below (words_of line) mnemonic fits.words) s in
      subst IsWordCount (sym (chosen_length (words_of line) mnemonic fits.words ∙ ap length parts)) (is_word_count share s.is_share s.checksum s.checksum_words)

  no_refusal : (words : List ℕ) (e : WordError) → IsWhole line words → Reads (spelling words) (Err e) → ⊥
  no_refusal words e whole reads =
      let same : words ≡ mnemonic = chosen_once (words_of line) words mnemonic whole.closed whole.words_are fits.words in
      let here : Reads (spelling mnemonic) (Err e) = subst (λ ws. Reads (spelling ws) (Err e)) same reads in
      let one : Err e ≡ Ok share = same_reading (spelling mnemonic) (Err e) (Ok share) here (read_from_spelled (spelling mnemonic) share fits.spells) in
      cc

  same_words : (other : List ℕ) (found : ShareFields) → Spells (spelling other) found → mnemonic ≡ other → share ≡ found
  same_words other found spells same =
      same_share (spelling other) share found (subst (λ ws. Spells (spelling ws) share) same fits.spells) spells

  abbrev IsBack : Result Repaired RepairError → Type 0
  IsBack answer = (repaired : Repaired) × (answer ≡ Ok repaired) × ((share ≡ repaired.first) ⊎ (Some share ≡ repaired.second))

  among : (first : List ℕ) (repaired : Repaired) (second : Option ShareFields) → repaired.second ≡ second → Fits line first repaired.first
      → MatchOption second ((other : List ℕ) (s : ShareFields) → Fits line other s → other ≡ first)
      (λ found. (last : List ℕ) × Fits line last found × ComesBefore first last
      × ((other : List ℕ) (s : ShareFields) → Fits line other s → (other ≡ first) ⊎ (other ≡ last)))
      → (share ≡ repaired.first) ⊎ (Some share ≡ repaired.second)
  among first repaired None is fits_first only = inl (same_words first repaired.first fits_first.spells (only mnemonic share fits))
  among first repaired (Some found) is fits_first two =
      ⊎_elim
      (λ e. inl (same_words first repaired.first fits_first.spells e))
      (λ e. inr (ap Some (same_words two.0 found two.1.spells e) ∙ sym is))
      (two.3 mnemonic share fits)

  pub comes_back : (answer : Result Repaired RepairError) → Repairs line answer → IsBack answer
  comes_back (Ok repaired) is = (repaired, refl, among is.2.mnemonic repaired repaired.second refl is.2.first is.2.others)
  comes_back (Err (UnknownWord at)) is = let none : Some is.0 ≡ None = sym is.1 ∙ known in absurd cc
  comes_back (Err (WordCount n)) is = absurd (is.2 (subst IsWordCount (sym is.1) count))
  comes_back (Err (UnreadableWords n)) is = absurd (omega (arith, is.1, is.2))
  comes_back (Err NoMnemonic) is = absurd (is.3 mnemonic share fits)
  comes_back (Err (WrongWord at)) is = absurd (no_refusal is.0 words_BadChecksum is.1 is.2)
  comes_back (Err BadChecksum) is = absurd (no_refusal is.0 words_BadChecksum is.1 is.2)
  comes_back (Err BadPadding) is = absurd (no_refusal is.0 words_BadPadding is.1 is.2)
  comes_back (Err GroupThreshold) is = absurd (no_refusal is.0 words_GroupThreshold is.1 is.2)
