-- What a line says: the mnemonics that fit, or the first cause for which there is none.
use Rattle.std.specs.Prelude.{◌≡◌, ◌≢◌, ◌⊎◌, ◌↔◌, ℕ, suc, ◌<◌, ◌≤◌, List, None, Some, Option, Result, Ok, Err, MatchOption, All}
use Rattle.std.specs.Prelude.{Contains, length, map, not, position, slice_index}
use Rattle.std.specs.List.{AllZip}
use Rattle.std.specs.Ordering.{nat_cmp}
use Rattle.std.specs.declared.cmp.Ordering.TheVariants.{Less}
use Rattle.std.specs.Cmp.Lexicographic.{slice_cmp}
use Rattle.s39_refusal.specs.declared.cause.Cause.{Cause}
use Rattle.s39_refusal.specs.Causes.{cause}
use Rattle.s39_words.specs.declared.prefix.WordRange.{WordRange}
use Rattle.s39_words.specs.declared.share.ShareFields.{ShareFields}
use Rattle.s39_words.specs.declared.word_error.WordError.TheVariants.{BadChecksum as words_BadChecksum, BadPadding as words_BadPadding}
use Rattle.s39_words.specs.declared.word_error.WordError.TheVariants.{GroupThreshold as words_GroupThreshold}
use Rattle.s39_words.specs.Layout.{IsIndex}
use Rattle.s39_words.specs.Reading.{IsWordCount, Reads}
use Rattle.s39_words.specs.Spelling.{words_of, Spells}
use Rattle.s39_repair.specs.declared.repaired.Repaired.{Repaired}
use Rattle.s39_repair.specs.declared.repair_error.RepairError.{RepairError}
use Rattle.s39_repair.specs.declared.repair_error.RepairError.TheVariants.{UnknownWord, WordCount, UnreadableWords, NoMnemonic, WrongWord}
use Rattle.s39_repair.specs.declared.repair_error.RepairError.TheVariants.{BadChecksum, BadPadding, GroupThreshold}
use Rattle.s39_repair.specs.Marks.{choices, is_known, open_count, spelling, Fits, FitsRanges}

-- the most open places of a line
abbrev pub most_open : ℕ
most_open = 3

-- the place of the first mark that stands for no word, counted from 0
abbrev pub first_unknown : List ℕ → Option ℕ
first_unknown line = position (λ mark. not (is_known mark)) (words_of line)

-- each mark stands for a word, and a mnemonic may have as many
pub record IsReadable (line : List ℕ) : Type 0 where
  pub known : first_unknown line ≡ None
  pub count : IsWordCount (length (words_of line))

-- each mark stands for just one word; the words have these indices
pub record IsWhole (line words : List ℕ) : Type 0 where
  pub readable : IsReadable line
  pub closed : open_count line ≡ 0
  pub words_are : AllZip (λ mark index. Contains (choices mark) index) (words_of line) words

-- the words of one mnemonic come before those of another in the order of the word list
abbrev pub ComesBefore : List ℕ → List ℕ → Type 0
ComesBefore words others = slice_cmp nat_cmp words others ≡ Less

-- these are the shares whose mnemonics fit: one, or two in the order of their words
pub record AreAll (fits : List ℕ → ShareFields → Type 0) (repaired : Repaired) : Type 0 where
  pub mnemonic : List ℕ
  pub first : fits mnemonic repaired.first
  pub others : MatchOption repaired.second
      ((other : List ℕ) (share : ShareFields) → fits other share → other ≡ mnemonic)
      (λ second. (last : List ℕ) × fits last second × ComesBefore mnemonic last
      × ((other : List ℕ) (share : ShareFields) → fits other share → (other ≡ mnemonic) ⊎ (other ≡ last)))

-- A share has a mnemonic with these words but for that at this position, counted from 1.
pub record IsWrongWord (words : List ℕ) (at : ℕ) : Type 0 where
  pub mnemonic : List ℕ
  pub share : ShareFields
  pub in_list : All IsIndex mnemonic
  pub spells : Spells (spelling mnemonic) share
  pub positive : 1 ≤ at
  pub within : at ≤ length words
  pub same_count : length words ≡ length mnemonic
  pub elsewhere : (place : ℕ) → suc place ≢ at → slice_index words place ≡ slice_index mnemonic place

-- this is the only such position, or there's none
abbrev pub WrongWordIsAt : List ℕ → Option ℕ → Type 0
WrongWordIsAt words position = (at : ℕ) → IsWrongWord words at ↔ (position ≡ Some at)

-- This is what the line says: the mnemonics that fit, or the first cause that applies.
abbrev pub Repairs : List ℕ → Result Repaired RepairError → Type 0
Repairs line (Ok repaired) = IsReadable line × (open_count line ≤ most_open) × AreAll (Fits line) repaired
Repairs line (Err (UnknownWord at)) = (place : ℕ) × (first_unknown line ≡ Some place) × (at ≡ suc place)
Repairs line (Err (WordCount n)) = (first_unknown line ≡ None) × (n ≡ length (words_of line)) × ¬ IsWordCount n
Repairs line (Err (UnreadableWords n)) = IsReadable line × (n ≡ open_count line) × (most_open < n)
Repairs line (Err NoMnemonic) =
    IsReadable line × (1 ≤ open_count line) × (open_count line ≤ most_open) × ((mnemonic : List ℕ) (share : ShareFields) → ¬ Fits line mnemonic share)
Repairs line (Err (WrongWord at)) = (words : List ℕ) × IsWhole line words × Reads (spelling words) (Err words_BadChecksum) × WrongWordIsAt words (Some at)
Repairs line (Err BadChecksum) = (words : List ℕ) × IsWhole line words × Reads (spelling words) (Err words_BadChecksum) × WrongWordIsAt words None
Repairs line (Err BadPadding) = (words : List ℕ) × IsWhole line words × Reads (spelling words) (Err words_BadPadding)
Repairs line (Err GroupThreshold) = (words : List ℕ) × IsWhole line words × Reads (spelling words) (Err words_GroupThreshold)

-- the first words of ranges; no public contract cites this and the next two
abbrev pub firsts : List WordRange → List ℕ
firsts ranges = map (λ range. range.first) ranges

-- words of the list, as many as a mnemonic may have, are refused for this cause
abbrev pub RefusesWords : List ℕ → RepairError → Type 0
RefusesWords words (WrongWord at) = Reads (spelling words) (Err words_BadChecksum) × WrongWordIsAt words (Some at)
RefusesWords words BadChecksum = Reads (spelling words) (Err words_BadChecksum) × WrongWordIsAt words None
RefusesWords words BadPadding = Reads (spelling words) (Err words_BadPadding)
RefusesWords words GroupThreshold = Reads (spelling words) (Err words_GroupThreshold)
RefusesWords words _ = ⊥

-- this is what ranges with one word each say
abbrev pub RepairsWhole : List WordRange → Result Repaired RepairError → Type 0
RepairsWhole ranges (Ok repaired) = AreAll (FitsRanges ranges) repaired
RepairsWhole ranges (Err error) = RefusesWords (firsts ranges) error

-- the contents of each refusal
abbrev pub cause_of : RepairError → Cause
cause_of (UnknownWord at) = cause 11 at 0
cause_of (WordCount words) = cause 12 words 0
cause_of (UnreadableWords places) = cause 19 places 0
cause_of NoMnemonic = cause 17 0 0
cause_of (WrongWord at) = cause 18 at 0
cause_of BadChecksum = cause 13 0 0
cause_of BadPadding = cause 14 0 0
cause_of GroupThreshold = cause 15 0 0
