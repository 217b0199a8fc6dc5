-- The mnemonics that fit ranges of words.
use Rattle.std.proofs.Common.{◌≡◌, ◌≢◌, ℕ, ◌-◌, ◌<◌, ◌≤◌, Bool, true, false, List, ◌++◌, length, get_or, map, refl, sym, ap, subst, ◌∙◌, ⊎_elim, arith}
use Rattle.std.specs.Prelude.{All, nat_lt}
use Rattle.std.specs.List.{join_with_byte}
use Rattle.std.proofs.Math.ListN.{get_or-eq_default}
use Rattle.std.proofs.lemmas.Bool.{cases_lt, lt-ltb, false≢true}
use Rattle.std.proofs.lemmas.List.{length-map, get_or-map}
use Rattle.std.proofs.lemmas.List.Elements.{All-from_get_or, All-map, All-weaker}
use mathlib.Core.Bool.{beq}
use Rattle.s39_words.specs.Checksum.{IsValidChecksum}
use Rattle.s39_words.specs.Layout.{IsIndex}
use Rattle.s39_words.specs.Printing.{listed_word, IsPrinted}
use Rattle.s39_words.specs.Share.{data_words}
use Rattle.s39_words.specs.Spelling.{words_of, HaveIndices, Spells}
use Rattle.s39_words.specs.declared.prefix.WordRange.{WordRange}
use Rattle.s39_words.specs.declared.share.ShareFields.{ShareFields}
use Rattle.s39_words.proofs.Indices.{indices_same}
use Rattle.s39_words.proofs.Joined.{words_of-joined}
use Rattle.s39_words.proofs.Listed.{listed_words, HaveIndices-listed_words}
use Rattle.s39_repair.specs.Marks.{IsRange, HasWords, FitsRanges, IsClosedElsewhere, spelling}
use Rattle.s39_repair.specs.Answer.{firsts}
use Rattle.s39_repair.specs.Sums.{AgreeElsewhere}

abbrev pub no_range : WordRange
no_range = record { first = 0; end = 0 }

-- the words of ranges are in the list
pub words_in_list : (ranges : List WordRange) (mnemonic : List ℕ) → All IsRange ranges → HasWords ranges mnemonic → All IsIndex mnemonic
words_in_list ranges mnemonic all has = All-from_get_or IsIndex mnemonic 0 (λ k within.
    let inside : k < length ranges = omega (arith, has.same_count) in
    let range = all k no_range inside in
    omega (arith, (has.each k no_range inside).1, range.in_list))

-- the words that a spelling has
pub spelled_indices : (mnemonic : List ℕ) → All IsIndex mnemonic → HaveIndices (words_of (spelling mnemonic)) mnemonic
spelled_indices mnemonic all =
    subst (λ (ws : List (List ℕ)). HaveIndices ws mnemonic) (sym (words_of-joined (map listed_word mnemonic) (listed_words mnemonic all)))
    (HaveIndices-listed_words mnemonic all)

-- the spelling of a mnemonic is the printed form of its share
pub printed : (mnemonic : List ℕ) (share : ShareFields) → All IsIndex mnemonic → Spells (spelling mnemonic) share → IsPrinted (spelling mnemonic) share
printed mnemonic share all spells = record {
  spells = spells;
  single_spaces = ap (join_with_byte 32) (sym (words_of-joined (map listed_word mnemonic) (listed_words mnemonic all)));
}

-- the words are those of the share, with a valid checksum
pub spelled_parts : (mnemonic : List ℕ) (share : ShareFields) → All IsIndex mnemonic → (s : Spells (spelling mnemonic) share)
    → mnemonic ≡ data_words share ++ s.checksum
spelled_parts mnemonic share all s =
    indices_same (words_of (spelling mnemonic)) mnemonic (data_words share ++ s.checksum) (spelled_indices mnemonic all) s.words

pub spelled_checksum : (mnemonic : List ℕ) (share : ShareFields) (extendable : Bool) → All IsIndex mnemonic → Spells (spelling mnemonic) share
    → share.extendable ≡ extendable → IsValidChecksum extendable mnemonic
spelled_checksum mnemonic share extendable all s flag =
    subst (λ ws. IsValidChecksum extendable ws) (sym (spelled_parts mnemonic share all s))
    (subst (λ f. IsValidChecksum f (data_words share ++ s.checksum)) flag s.valid)

-- a range that isn't open has one word
pub one_word : (first end index : ℕ) → nat_lt 1 (end - first) ≡ false → first ≤ index → index < end → first ≡ index
one_word first end index closed low high =
    ⊎_elim
    (λ more. absurd (false≢true (sym closed ∙ lt-ltb 1 (end - first) more)))
    (λ one. omega arith)
    (cases_lt 1 (end - first))

-- the words agree with the first ones of the ranges, but at the open places
pub agree : (ranges : List WordRange) (mnemonic : List ℕ) (i j k : ℕ) → HasWords ranges mnemonic → IsClosedElsewhere ranges i j k
    → AgreeElsewhere (firsts ranges) mnemonic i j k
agree ranges mnemonic i j k has closed =
    let n : length (firsts ranges) ≡ length ranges = length-map ranges (λ range. range.first) in
    record {
      same_count = n ∙ has.same_count;
      elsewhere = λ p off_i off_j off_k. ⊎_elim
          (λ inside.
          let range = get_or ranges p no_range in
          let each = has.each p no_range inside in
          get_or-map (λ (r : WordRange). r.first) ranges p no_range 0 inside
          ∙ one_word range.first range.end (get_or mnemonic p 0) (closed p no_range inside off_i off_j off_k) each.0 each.1)
          (λ past.
          let none : get_or (firsts ranges) p 0 ≡ 0 = get_or-eq_default (firsts ranges) 0 (omega (arith, n)) in
          let none' : get_or mnemonic p 0 ≡ 0 = get_or-eq_default mnemonic 0 (omega (arith, has.same_count)) in
          none ∙ sym none')
          (cases_lt p (length ranges));
    }

pub firsts-in_list : (ranges : List WordRange) → All IsRange ranges → All IsIndex (firsts ranges)
firsts-in_list ranges all = All-map IsIndex (λ (r : WordRange). r.first) ranges
    (All-weaker IsRange (λ r. IsIndex r.first) (λ r range. omega (arith, range.some, range.in_list)) ranges all)

-- a mnemonic that fits is the one that its checksum determines
pub is_lost : (ranges : List WordRange) (mnemonic first lost : List ℕ) (share : ShareFields) (extendable : Bool) (i j k : ℕ) → All IsRange ranges
    → IsClosedElsewhere ranges i j k → first ≡ firsts ranges
    → ((vs : List ℕ) → All IsIndex vs → IsValidChecksum extendable vs → AgreeElsewhere first vs i j k → lost ≡ vs)
    → FitsRanges ranges mnemonic share → share.extendable ≡ extendable → lost ≡ mnemonic
is_lost ranges mnemonic first lost share extendable i j k all closed first_is only fits flag =
    let in_list = words_in_list ranges mnemonic all fits.words in
    only mnemonic in_list (spelled_checksum mnemonic share extendable in_list fits.spells flag)
    (subst (λ ws. AgreeElsewhere ws mnemonic i j k) (sym first_is) (agree ranges mnemonic i j k fits.words closed))

-- so the text of the lost words spells its share
pub spells_lost : (text lost mnemonic : List ℕ) (share : ShareFields) → text ≡ spelling lost → lost ≡ mnemonic → Spells (spelling mnemonic) share
    → Spells text share
spells_lost text lost mnemonic share text_is is spells = subst (λ t. Spells t share) (sym (text_is ∙ ap spelling is)) spells

-- ---- comparing flags

pub same_flag : (a b : Bool) → beq a b ≡ true → a ≡ b
same_flag true true h = refl
same_flag true false h = absurd (false≢true h)
same_flag false true h = absurd (false≢true h)
same_flag false false h = refl

pub other_flag : (a b : Bool) → beq a b ≡ false → a ≢ b
other_flag true true h = absurd (false≢true (sym h))
other_flag true false h = λ e. false≢true (sym e)
other_flag false true h = λ e. false≢true e
other_flag false false h = absurd (false≢true (sym h))

pub flags_equal : (a b : Bool) → a ≡ b → beq a b ≡ true
flags_equal true true h = refl
flags_equal true false h = absurd (false≢true (sym h))
flags_equal false true h = absurd (false≢true h)
flags_equal false false h = refl
