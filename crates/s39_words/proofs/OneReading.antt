-- What a text is read as: the share that it spells, or the first cause for which it spells none.
use Rattle.std.proofs.Common.{◌≡◌, ◌↔◌, ℕ, ◌-◌, List, ◌++◌, length, drop, Bool, true, false, Option, Some, None, Result, Ok, Err}
use Rattle.std.proofs.Common.{refl, sym, ap, subst, ◌∙◌, arith, All}
use Rattle.std.specs.Prelude.{◌≢◌, IsSome, IfSome, not, cond, ◌==◌, nat_lt}
use Rattle.std.specs.Option.{ok_or}
use Rattle.std.proofs.lemmas.Bool.{false_from_ne_true, true_from_ne_false}
use Rattle.std.proofs.lemmas.Bool.Decides.{nat_tests}
use Rattle.std.proofs.lemmas.List.{length-drop}
use Rattle.s39_lists.proofs.Orders.{All-append_right}
use Rattle.s39_words.specs.declared.share.ShareFields.{ShareFields}
use Rattle.s39_words.specs.declared.word_error.WordError.{WordError}
use Rattle.s39_words.specs.declared.word_error.WordError.TheVariants.{WordCount, BadChecksum, BadPadding, GroupThreshold}
use Rattle.s39_words.specs.Layout.{IsIndex}
use Rattle.s39_words.specs.Share.{IsShare, data_words}
use Rattle.s39_words.specs.Checksum.{IsValidChecksum}
use Rattle.s39_words.specs.Division.{Remainder, one_remainder, packed, has_valid_checksum}
use Rattle.s39_words.specs.Spelling.{words_of, HaveIndices, Spells}
use Rattle.s39_words.specs.Reading.{IsWordCount, has_word_count, flag_of, padding_of, stored_group_threshold, stored_group_count, fields_at}
use Rattle.s39_words.specs.Reading.{indices_from, reading_if_known, reading_of_words, reading, Reads}
use Rattle.s39_words.proofs.DataWords.{is_word_count, flag-is, padding_zero, fields-are, is_share, data_words-are, words-at_least}
use Rattle.s39_words.proofs.Indices.{indices_below, word_count_test, indices_known, have_indices}
use Rattle.s39_words.proofs.Remainders.{valid_from_remainder}

-- ---- the tests

packed_one : (r : Remainder) → packed r ≡ 1 → r ≡ one_remainder
packed_one r e =
    let square : r.square ≡ 0 = omega arith in
    let linear : r.linear ≡ 0 = omega arith in
    let constant : r.constant ≡ 1 = omega arith in
    let same : record { square = r.square; linear = r.linear; constant = r.constant } ≡ one_remainder = cc in
    same

pub checksum_test : (extendable : Bool) (words : List ℕ) → All IsIndex words → (has_valid_checksum extendable words ≡ true) ↔ IsValidChecksum extendable words
checksum_test extendable words all =
    let valid = valid_from_remainder extendable words all in
    (λ t. valid.1 (packed_one _ (grind (arith, nat_tests))), λ h. let e = ap packed (valid.0 h) in grind (arith, nat_tests))

-- ---- what known indices are read as, test by test

module _ (text words : List ℕ) (known : indices_from 1 (words_of text) ≡ Ok words) (count : IsWordCount (length words)) where
  many : has_word_count (length words) ≡ true
  many = (word_count_test (length words)).1 count

  pub read_bad_checksum : has_valid_checksum (flag_of words) words ≡ false → reading text ≡ Err BadChecksum
  unfolding reading_of_words
  read_bad_checksum other = rw (known, many, other) refl

  module _ (valid : has_valid_checksum (flag_of words) words ≡ true) where
    pub read_bad_padding : padding_of words ≢ 0 → reading text ≡ Err BadPadding
    unfolding reading_of_words
    read_bad_padding other = let test : (padding_of words == 0) ≡ false = grind (arith, nat_tests) in rw (known, many, valid, test) refl

    -- what comes of the test of the fields
    pub read_fields : padding_of words ≡ 0 → (made : Option ShareFields) → (IsSome made ↔ IsShare (fields_at words))
        → IfSome made (λ share. share ≡ fields_at words) → reading text ≡ ok_or made GroupThreshold
    unfolding reading_of_words
    read_fields padding None test same =
        let above : nat_lt (stored_group_count words) (stored_group_threshold words) ≡ true =
        true_from_ne_false _ (λ le. let some : false ≡ true = test.1 (is_share words count (grind (arith, nat_tests))) in cc) in
        rw (known, many, valid, padding, above) refl
    read_fields padding (Some f) test same =
        let a = (test.0 refl).threshold_in_count in
        let le : nat_lt (stored_group_count words) (stored_group_threshold words) ≡ false = grind (arith, nat_tests) in
        rw (known, many, valid, padding, le) (ap (λ g. Ok g) (sym same))

-- words that a mnemonic may have, with a checksum that isn't valid
pub read_invalid : (text words : List ℕ) → HaveIndices (words_of text) words → IsWordCount (length words)
    → (IsValidChecksum (flag_of words) words → ⊥) → reading text ≡ Err BadChecksum
read_invalid text words known count other =
    read_bad_checksum text words (indices_known 1 (words_of text) words known) count
    (false_from_ne_true (has_valid_checksum (flag_of words) words) (λ t.
    other ((checksum_test (flag_of words) words (indices_below (words_of text) words known)).0 t)))

-- ---- the share that a text spells

-- a text that spells a share is read as this share
pub read_from_spelled : (text : List ℕ) (share : ShareFields) → Spells text share → reading text ≡ Ok share
unfolding reading_of_words
read_from_spelled text f s =
    let words = data_words f ++ s.checksum in
    let in_list = All-append_right IsIndex (data_words f) s.checksum (indices_below (words_of text) words s.words) in
    let fields = fields-are f s.is_share s.checksum s.checksum_words in_list in
    let known = indices_known 1 (words_of text) words s.words in
    let count = (word_count_test (length words)).1 (is_word_count f s.is_share s.checksum s.checksum_words) in
    let flag = flag-is f s.is_share s.checksum s.checksum_words in
    let valid : has_valid_checksum (flag_of words) words ≡ true =
    (checksum_test (flag_of words) words (indices_below (words_of text) words s.words)).1 (subst (λ e. IsValidChecksum e words) (sym flag) s.valid) in
    let padding = padding_zero f s.is_share s.checksum s.checksum_words in_list in
    let a = ap (λ (g : ShareFields). g.group_threshold) fields in
    let b = ap (λ (g : ShareFields). g.group_count) fields in
    let c = s.is_share.threshold_in_count in
    let thresholds : nat_lt (stored_group_count words) (stored_group_threshold words) ≡ false = grind (arith, nat_tests) in
    rw (known, count, valid, padding, thresholds) (ap Ok fields)

-- a test that is passed on the way to a share
passed : {A E : Type 0} (refused : Bool) (error : E) (rest : Result A E) (x : A) → cond refused (Err error) rest ≡ Ok x → (refused ≡ false) × (rest ≡ Ok x)
passed true error rest x e = cc
passed false error rest x e = (refl, e)

-- a text that is read as a share spells it
pub spelled_from_read : (text : List ℕ) (share : ShareFields) → reading text ≡ Ok share → Spells text share
unfolding reading_of_words
spelled_from_read text f read = by (indices_from 1 (words_of text)) refl read
  where
    by : (indices : Result (List ℕ) WordError) → indices_from 1 (words_of text) ≡ indices → reading_if_known indices ≡ Ok f → Spells text f
    by (Err error) known e = cc
    by (Ok words) known e =
        let have = have_indices 1 (words_of text) words known in
        let below = indices_below (words_of text) words have in
        let a = passed (not (has_word_count (length words))) (WordCount (length words)) _ f e in
        let b = passed (not (has_valid_checksum (flag_of words) words)) BadChecksum _ f a.1 in
        let c = passed (not (padding_of words == 0)) BadPadding _ f b.1 in
        let d = passed (nat_lt (stored_group_count words) (stored_group_threshold words)) GroupThreshold _ f c.1 in
        let count = (word_count_test (length words)).0 (grind (arith, nat_tests)) in
        let valid = (checksum_test (flag_of words) words below).0 (grind (arith, nat_tests)) in
        let padding : padding_of words ≡ 0 = grind (arith, nat_tests) in
        let same = data_words-are words count below padding in
        let is : fields_at words ≡ f = cc in
        subst (Spells text) is (record {
          is_share = is_share words count (grind (arith, nat_tests));
          checksum = drop (length words - 3) words;
          checksum_words = omega (arith, length-drop (length words - 3) words, words-at_least words count);
          words = subst (HaveIndices (words_of text)) (sym same) have;
          valid = subst (IsValidChecksum (flag_of words)) (sym same) valid;
        })

-- ---- one reading

pub same_reading : (text : List ℕ) (r s : Result ShareFields WordError) → Reads text r → Reads text s → r ≡ s
same_reading text r s a b = sym a ∙ b

pub same_share : (text : List ℕ) (f g : ShareFields) → Spells text f → Spells text g → f ≡ g
same_share text f g a b = let e : Ok f ≡ Ok g = sym (read_from_spelled text f a) ∙ read_from_spelled text g b in cc
