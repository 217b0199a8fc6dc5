-- Lines in which no place is open, and the answers to lines from those to ranges.
use Rattle.std.proofs.Common.{◌≡◌, ℕ, ◌+◌, ◌<◌, Bool, true, false, cond, List, [], ◌∷◌, length, get_or, Option, Some, None, Result, Ok, Err, refl}
use Rattle.std.proofs.Common.{sym, ◌∙◌, arith}
use Rattle.std.specs.Prelude.{◌⊎◌, All, MatchOption, count_by}
use Rattle.std.proofs.lemmas.List.{length-map, get_or-map, ext_get_or}
use Rattle.std.proofs.lemmas.List.Elements.{All-nil, All-cons}
use Rattle.std.proofs.lemmas.List.Sums.{sum_by-cons}
use Rattle.s39_words.specs.Layout.{IsIndex}
use Rattle.s39_words.specs.Reading.{IsWordCount, Reads}
use Rattle.s39_words.specs.Spelling.{words_of, Spells}
use Rattle.s39_words.specs.declared.prefix.WordRange.{WordRange}
use Rattle.s39_words.specs.declared.share.ShareFields.{ShareFields}
use Rattle.s39_words.specs.declared.word_error.WordError.TheVariants.{UnknownWord as words_UnknownWord, WordCount as words_WordCount}
use Rattle.s39_words.specs.declared.word_error.WordError.TheVariants.{BadChecksum as words_BadChecksum}
use Rattle.s39_words.proofs.Indices.{count_isn't_refused, unknown_excludes_indices}
use Rattle.s39_words.proofs.OneReading.{read_from_spelled, same_reading}
use Rattle.s39_repair.specs.declared.repaired.Repaired.{Repaired}
use Rattle.s39_repair.specs.declared.repair_error.RepairError.{RepairError}
use Rattle.s39_repair.specs.declared.repair_error.RepairError.TheVariants.{UnknownWord, WordCount, UnreadableWords, NoMnemonic, WrongWord}
use Rattle.s39_repair.specs.declared.repair_error.RepairError.TheVariants.{BadChecksum, BadPadding, GroupThreshold}
use Rattle.s39_repair.specs.Answer.{firsts, AreAll, ComesBefore, IsWhole, Repairs, RepairsWhole}
use Rattle.s39_repair.specs.Marks.{spelling, is_open_range, AreClosed, AreMarks, IsRange, HasWords, Fits, FitsRanges}
use Rattle.s39_repair.proofs.Candidates.{no_range, one_word, spelled_indices}
use Rattle.s39_repair.proofs.MarksRead.{readable, chosen_words, open_count_is, fits_line, fits_ranges}

-- ---- ranges with one word each

pub length_firsts : (ranges : List WordRange) → length (firsts ranges) ≡ length ranges
length_firsts ranges = length-map ranges (λ (r : WordRange). r.first)

first_at : (ranges : List WordRange) (k : ℕ) (d : WordRange) → k < length ranges → get_or (firsts ranges) k 0 ≡ (get_or ranges k d).first
first_at ranges k d within = get_or-map (λ (r : WordRange). r.first) ranges k d 0 within

pub has_firsts : (ranges : List WordRange) → All IsRange ranges → HasWords ranges (firsts ranges)
has_firsts ranges all = record {
  same_count = sym (length_firsts ranges);
  each = λ k d below. let range = all k d below in let at = first_at ranges k d below in (omega (arith, at), omega (arith, at, range.some));
}

only_firsts : (ranges : List WordRange) (words : List ℕ) → AreClosed ranges → HasWords ranges words → words ≡ firsts ranges
only_firsts ranges words closed has =
    ext_get_or 0 words (firsts ranges) (sym has.same_count ∙ sym (length_firsts ranges)) (λ k below.
    let inside : k < length ranges = omega (arith, has.same_count) in
    let each = has.each k no_range inside in
    sym (one_word (get_or ranges k no_range).first (get_or ranges k no_range).end (get_or words k 0) (closed k no_range inside) each.0 each.1)
    ∙ sym (first_at ranges k no_range inside))

-- their words are those of the share, and no other mnemonic fits
pub whole_fits : (ranges : List WordRange) (share : ShareFields) → All IsRange ranges → AreClosed ranges → Spells (spelling (firsts ranges)) share
    → AreAll (FitsRanges ranges) (record { first = share; second = None })
whole_fits ranges share all closed spells = record {
  mnemonic = firsts ranges;
  first = record { words = has_firsts ranges all; spells = spells };
  others = λ other found fits. only_firsts ranges other closed fits.words;
}

pub no_unknown : (words : List ℕ) (position : ℕ) → All IsIndex words → Reads (spelling words) (Err (words_UnknownWord position)) → ⊥
no_unknown words position all reads = unknown_excludes_indices (words_of (spelling words)) position words reads (spelled_indices words all)

pub no_other_count : (words : List ℕ) (n : ℕ) → All IsIndex words → IsWordCount (length words) → Reads (spelling words) (Err (words_WordCount n)) → ⊥
no_other_count words n all count reads = count_isn't_refused (words_of (spelling words)) n words reads (spelled_indices words all) count

pub bad_spells_none : (text : List ℕ) (share : ShareFields) → Reads text (Err words_BadChecksum) → Spells text share → ⊥
bad_spells_none text share reads spells =
    let same : Err words_BadChecksum ≡ Ok share = same_reading text (Err words_BadChecksum) (Ok share) reads (read_from_spelled text share spells) in
    cc

-- ---- no open place

pub closed_from_count : (ranges : List WordRange) → count_by is_open_range ranges ≡ 0 → AreClosed ranges
closed_from_count [] none = All-nil (λ r. is_open_range r ≡ false)
closed_from_count (r ∷ rs) none =
    let parts : count_by is_open_range (r ∷ rs) ≡ cond {A = ℕ} (is_open_range r) 1 0 + count_by is_open_range rs =
    sum_by-cons (λ q. cond (is_open_range q) 1 0) r rs in
    All-cons (λ q. is_open_range q ≡ false) r rs (shut (is_open_range r) (omega (arith, parts, none)))
    (closed_from_count rs (omega (arith, parts, none)))
  where
    shut : (b : Bool) → cond {A = ℕ} b 1 0 ≡ 0 → b ≡ false
    shut true h = absurd (omega (arith, h))
    shut false h = refl

-- ---- from ranges to the line

pub all_of_line : (line : List ℕ) (ranges : List WordRange) (repaired : Repaired) → AreMarks line ranges → AreAll (FitsRanges ranges) repaired
    → AreAll (Fits line) repaired
all_of_line line ranges repaired m all = record {
  mnemonic = all.mnemonic;
  first = fits_line line ranges all.mnemonic repaired.first m all.first;
  others = others repaired.second all.others;
}
  where
    others : (second : Option ShareFields)
        → MatchOption second ((other : List ℕ) (share : ShareFields) → FitsRanges ranges other share → other ≡ all.mnemonic)
        (λ s. (last : List ℕ) × FitsRanges ranges last s × ComesBefore all.mnemonic last
        × ((other : List ℕ) (share : ShareFields) → FitsRanges ranges other share → (other ≡ all.mnemonic) ⊎ (other ≡ last)))
        → MatchOption second ((other : List ℕ) (share : ShareFields) → Fits line other share → other ≡ all.mnemonic)
        (λ s. (last : List ℕ) × Fits line last s × ComesBefore all.mnemonic last
        × ((other : List ℕ) (share : ShareFields) → Fits line other share → (other ≡ all.mnemonic) ⊎ (other ≡ last)))
    others None only = λ other share fits. only other share (fits_ranges line ranges other share m fits)
    others (Some s) two = (
      two.0,
      fits_line line ranges two.0 s m two.1,
      two.2,
      λ other share fits. two.3 other share (fits_ranges line ranges other share m fits),
    )

module _ (line : List ℕ) (ranges : List WordRange) (m : AreMarks line ranges) (none : count_by is_open_range ranges ≡ 0) where
  is_whole : IsWhole line (firsts ranges)
  is_whole = record {
    readable = readable line ranges m;
    closed = open_count_is line ranges m ∙ none;
    words_are = chosen_words line ranges (firsts ranges) m (has_firsts ranges m.all);
  }

  pub repairs_whole : (r : Result Repaired RepairError) → RepairsWhole ranges r → Repairs line r
  repairs_whole (Ok repaired) all = (readable line ranges m, omega (arith, open_count_is line ranges m, none), all_of_line line ranges repaired m all)
  repairs_whole (Err (WrongWord at)) is = (firsts ranges, is_whole, is.0, is.1)
  repairs_whole (Err BadChecksum) is = (firsts ranges, is_whole, is.0, is.1)
  repairs_whole (Err BadPadding) is = (firsts ranges, is_whole, is)
  repairs_whole (Err GroupThreshold) is = (firsts ranges, is_whole, is)
  repairs_whole (Err (UnknownWord position)) is = absurd is
  repairs_whole (Err (WordCount words)) is = absurd is
  repairs_whole (Err (UnreadableWords places)) is = absurd is
  repairs_whole (Err NoMnemonic) is = absurd is
