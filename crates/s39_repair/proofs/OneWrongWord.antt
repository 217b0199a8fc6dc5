-- The answers to lines in which one word is wrong, or two.
use Rattle.std.proofs.Common.{◌≡◌, ◌≢◌, ℕ, suc, ◌+◌, ◌-◌, ◌<◌, ◌≤◌, ◌⊎◌, inl, inr, List, length, get_or, Some, None, Result, Ok, Err}
use Rattle.std.proofs.Common.{refl, sym, ap, subst, ◌∙◌, ⊎_elim, arith}
use Rattle.std.specs.Prelude.{All}
use Rattle.std.proofs.lemmas.Bool.{cases_eq}
use Rattle.s39_lists.proofs.Finds.{some_same}
use Rattle.s39_words.specs.Layout.{IsIndex, most_words}
use Rattle.s39_words.specs.Reading.{IsWordCount, flag_of, Reads}
use Rattle.s39_words.specs.Spelling.{words_of, Spells}
use Rattle.s39_words.specs.declared.share.ShareFields.{ShareFields}
use Rattle.s39_words.specs.declared.word_error.WordError.{WordError}
use Rattle.s39_words.specs.declared.word_error.WordError.TheVariants.{BadChecksum as words_BadChecksum, BadPadding as words_BadPadding}
use Rattle.s39_words.specs.declared.word_error.WordError.TheVariants.{GroupThreshold as words_GroupThreshold}
use Rattle.s39_words.proofs.Indices.{at_most_words}
use Rattle.s39_words.proofs.OneReading.{read_invalid, same_reading}
use Rattle.s39_repair.specs.declared.repaired.Repaired.{Repaired}
use Rattle.s39_repair.specs.declared.repair_error.RepairError.{RepairError}
use Rattle.s39_repair.specs.declared.repair_error.RepairError.TheVariants.{UnknownWord, WordCount, UnreadableWords, NoMnemonic, WrongWord}
use Rattle.s39_repair.specs.declared.repair_error.RepairError.TheVariants.{BadChecksum, BadPadding, GroupThreshold}
use Rattle.s39_repair.specs.Answer.{IsWhole, IsWrongWord, Repairs, WrongWordIsAt}
use Rattle.s39_repair.specs.Marks.{spelling}
use Rattle.s39_repair.specs.Misread.{HasWrongWords}
use Rattle.s39_repair.specs.Sums.{ArePlaces}
use Rattle.s39_repair.proofs.Candidates.{spelled_checksum, spelled_indices}
use Rattle.s39_repair.proofs.ComesBack.{chosen_below, chosen_length, chosen_once}
use Rattle.s39_repair.proofs.Misread.{bad_isn't_spelled, same_flags, spelled_count, spelled_flag, two_at_least}
use Rattle.s39_repair.proofs.WrongPlaces.{one_valid}

-- ---- the answer to a line with a bad checksum

-- this position is named, or none
abbrev Names : List ℕ → Result Repaired RepairError → Type 0
Names words answer = ((answer ≡ Err BadChecksum) × WrongWordIsAt words None)
    ⊎ ((at : ℕ) × (answer ≡ Err (WrongWord at)) × WrongWordIsAt words (Some at))

module _ (line words : List ℕ) (whole : IsWhole line words) (bad : Reads (spelling words) (Err words_BadChecksum)) where
  same : (others : List ℕ) → IsWhole line others → others ≡ words
  same others other = chosen_once (words_of line) others words whole.closed other.words_are whole.words_are

  only_bad : (others : List ℕ) (e : WordError) → IsWhole line others → Reads (spelling others) (Err e) → e ≡ words_BadChecksum
  only_bad others e other reads =
      let here : Reads (spelling words) (Err e) = subst (λ ws. Reads (spelling ws) (Err e)) (same others other) reads in
      let one : Err e ≡ Err words_BadChecksum = same_reading (spelling words) (Err e) (Err words_BadChecksum) here bad in
      cc

  bad_names : (answer : Result Repaired RepairError) → Repairs line answer → Names words answer
  bad_names (Ok repaired) is =
      let fits = is.2.first in
      let e : is.2.mnemonic ≡ words = chosen_once (words_of line) is.2.mnemonic words whole.closed fits.words whole.words_are in
      absurd (bad_isn't_spelled words repaired.first bad (subst (λ ws. Spells (spelling ws) repaired.first) e fits.spells))
  bad_names (Err (UnknownWord at)) is = let none : Some is.0 ≡ None = sym is.1 ∙ whole.readable.known in absurd cc
  bad_names (Err (WordCount n)) is = absurd (is.2 (subst IsWordCount (sym is.1) whole.readable.count))
  bad_names (Err (UnreadableWords n)) is = let none = whole.closed in absurd (omega (arith, is.1, is.2, none))
  bad_names (Err NoMnemonic) is = let none = whole.closed in absurd (omega (arith, is.1, none))
  bad_names (Err (WrongWord at)) is = inr (at, refl, subst (λ ws. WrongWordIsAt ws (Some at)) (same is.0 is.1) is.3)
  bad_names (Err BadChecksum) is = inl (refl, subst (λ ws. WrongWordIsAt ws None) (same is.0 is.1) is.3)
  bad_names (Err BadPadding) is = let e : words_BadPadding ≡ words_BadChecksum = only_bad is.0 words_BadPadding is.1 is.2 in absurd cc
  bad_names (Err GroupThreshold) is = let e : words_GroupThreshold ≡ words_BadChecksum = only_bad is.0 words_GroupThreshold is.1 is.2 in absurd cc

-- ---- one wrong word

named : (line words mnemonic : List ℕ) (share : ShareFields) (place : ℕ) → HasWrongWords line words mnemonic share place place → IsWrongWord words (suc place)
named line words mnemonic share place h =
    let within = h.first_within in
    record {
      mnemonic = mnemonic;
      share = share;
      in_list = h.in_list;
      spells = h.spells;
      positive = omega arith;
      within = omega arith;
      same_count = h.same_count;
      elsewhere = λ p other. h.elsewhere p (λ e. other (ap suc e)) (λ e. other (ap suc e));
    }

pub wrong_word_found : (line words mnemonic : List ℕ) (share : ShareFields) (place : ℕ) (answer : Result Repaired RepairError)
    → HasWrongWords line words mnemonic share place place → Repairs line answer → Reads (spelling words) (Err words_BadChecksum)
    → answer ≡ Err (WrongWord (suc place))
wrong_word_found line words mnemonic share place answer h is bad =
    let wrong = named line words mnemonic share place h in
    ⊎_elim
    (λ none. let other : None ≡ Some (suc place) = (none.1 (suc place)).0 wrong in absurd cc)
    (λ some. some.1 ∙ ap (λ at. Err (WrongWord at)) (some_same some.0 (suc place) ((some.2 (suc place)).0 wrong)))
    (bad_names line words h.whole bad answer is)

-- the flag of a wrong word's mnemonic is that of the words, if the second word is right
pub flag_stays : (words : List ℕ) (at : ℕ) → (w : IsWrongWord words at) → at ≢ 2 → flag_of words ≡ w.share.extendable
flag_stays words at w off =
    let n = w.same_count in
    let two = two_at_least (length w.mnemonic) (spelled_count w.mnemonic w.share w.in_list w.spells) in
    same_flags words w.mnemonic (omega (arith, n, two)) n (w.elsewhere 1 (λ e. off (sym e)))
    ∙ spelled_flag w.mnemonic w.share w.in_list w.spells

-- ---- replaced words

-- three different places, among which are these two
record Around (place other : ℕ) : Type 0 where
  i : ℕ
  j : ℕ
  k : ℕ
  places : ArePlaces i j k
  away : (p : ℕ) → p ≢ i → p ≢ j → p ≢ k → (p ≢ place) × (p ≢ other)

around : (n place other : ℕ) → place < n → other < n → n ≤ most_words → Around place other
around n place other low low' top = ⊎_elim
    (λ same. record {
      i = place;
      j = n;
      k = suc n;
      places = record {
        first_second = λ e. omega (arith, e);
        first_third = λ e. omega (arith, e);
        second_third = λ e. omega (arith, e);
        first_in_range = omega arith;
        second_in_range = omega arith;
        third_in_range = omega arith;
      };
      away = λ p a b c. (a, λ e. a (e ∙ sym same));
    })
    (λ apart. record {
      i = place;
      j = other;
      k = n;
      places = behind apart;
      away = λ p a b c. (a, b);
    })
    (cases_eq place other)
  where
    behind : place ≢ other → ArePlaces place other n
    behind apart = record {
      first_second = apart;
      first_third = λ e. omega (arith, e);
      second_third = λ e. omega (arith, e);
      first_in_range = omega arith;
      second_in_range = omega arith;
      third_in_range = omega arith;
    }

module _ (line words mnemonic : List ℕ) (share : ShareFields) (place other : ℕ) (h : HasWrongWords line words mnemonic share place other) where
  in_list : All IsIndex words
  in_list = chosen_below (words_of line) words h.whole.words_are

  count : IsWordCount (length words)
  count = subst IsWordCount (chosen_length (words_of line) words h.whole.words_are) h.whole.readable.count

  short : length words ≤ most_words
  short = at_most_words (length words) count

  -- replaced words with the same flag have a bad checksum
  pub replaced_bad : get_or words place 0 ≢ get_or mnemonic place 0 → flag_of words ≡ flag_of mnemonic → Reads (spelling words) (Err words_BadChecksum)
  replaced_bad off flags =
      let flag : share.extendable ≡ flag_of words = sym (spelled_flag mnemonic share h.in_list h.spells) ∙ sym flags in
      let a = around (length words) place other h.first_within h.second_within short in
      read_invalid (spelling words) words (spelled_indices words in_list) count (λ valid.
      off (ap (λ us. get_or us place 0)
      (one_valid (flag_of words) words words mnemonic a.i a.j a.k a.places
      (record { same_count = refl; elsewhere = λ p off_i off_j off_k. refl })
      (record { same_count = h.same_count; elsewhere = λ p off_i off_j off_k. let w = a.away p off_i off_j off_k in h.elsewhere p w.0 w.1 })
      in_list in_list h.in_list valid (spelled_checksum mnemonic share (flag_of words) h.in_list h.spells flag))))

  -- a third place, if the position isn't one of these two
  record Third (at : ℕ) : Type 0 where
    k : ℕ
    places : ArePlaces place other k
    away : (p : ℕ) → p ≢ place → p ≢ other → p ≢ k → suc p ≢ at

  third : (at : ℕ) → place ≢ other → 1 ≤ at → at ≤ length words → Third at
  third at apart low high = ⊎_elim
      (λ e. record { k = length words; places = past; away = λ p a b c x. a (omega (arith, x, e)) })
      (λ off. ⊎_elim
      (λ e. record { k = length words; places = past; away = λ p a b c x. b (omega (arith, x, e)) })
      (λ off'. record { k = at - 1; places = before off off'; away = λ p a b c x. c (omega (arith, x)) })
      (cases_eq (suc other) at))
      (cases_eq (suc place) at)
    where
      behind : (m : ℕ) → place ≢ m → other ≢ m → m ≤ most_words + 3 → ArePlaces place other m
      behind m a b top = record {
        first_second = apart;
        first_third = a;
        second_third = b;
        first_in_range = omega (arith, h.first_within, short);
        second_in_range = omega (arith, h.second_within, short);
        third_in_range = top;
      }

      past : ArePlaces place other (length words)
      past = behind (length words) (λ x. omega (arith, x, h.first_within)) (λ x. omega (arith, x, h.second_within)) (omega (arith, short))

      before : suc place ≢ at → suc other ≢ at → ArePlaces place other (at - 1)
      before off off' = behind (at - 1) (λ x. off (omega (arith, x))) (λ x. off' (omega (arith, x))) (omega (arith, short))

  module _ (apart : place ≢ other) (off : get_or words place 0 ≢ get_or mnemonic place 0) (off' : get_or words other 0 ≢ get_or mnemonic other 0)
      (flags : flag_of words ≡ flag_of mnemonic) where
    only_two : (at : ℕ) → IsWrongWord words at → at ≡ 2
    only_two at w = ⊎_elim
        (λ e. e)
        (λ far.
        let t = third at apart w.positive w.within in
        let flag : w.share.extendable ≡ share.extendable =
        sym (flag_stays words at w far) ∙ flags ∙ spelled_flag mnemonic share h.in_list h.spells in
        let same : w.mnemonic ≡ mnemonic =
        one_valid share.extendable words w.mnemonic mnemonic place other t.k t.places
        (record { same_count = w.same_count; elsewhere = λ p a b c. w.elsewhere p (t.away p a b c) })
        (record { same_count = h.same_count; elsewhere = λ p a b c. h.elsewhere p a b })
        in_list w.in_list h.in_list
        (spelled_checksum w.mnemonic w.share share.extendable w.in_list w.spells flag)
        (spelled_checksum mnemonic share share.extendable h.in_list h.spells refl) in
        absurd (⊎_elim
        (λ here. off' (w.elsewhere other (λ e. apart (omega (arith, e, here))) ∙ ap (λ us. get_or us other 0) same))
        (λ elsewhere. off (w.elsewhere place elsewhere ∙ ap (λ us. get_or us place 0) same))
        (cases_eq (suc place) at)))
        (cases_eq at 2)

    abbrev OnlyTwo : Result Repaired RepairError → Type 0
    OnlyTwo answer = (answer ≡ Err BadChecksum) ⊎ (answer ≡ Err (WrongWord 2))

    pub no_place_but_second : (answer : Result Repaired RepairError) → Repairs line answer → OnlyTwo answer
    no_place_but_second answer is = ⊎_elim
        (λ none. inl none.0)
        (λ some. inr (some.1 ∙ ap (λ at. Err (WrongWord at)) (only_two some.0 ((some.2 some.0).1 refl))))
        (bad_names line words h.whole (replaced_bad off flags) answer is)
