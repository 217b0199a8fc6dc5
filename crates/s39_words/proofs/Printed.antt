-- The printed form of a share: that a text is it, that there is one, and that there is one alone.
use Rattle.std.proofs.Common.{◌≡◌, ℕ, Bool, List, ◌++◌, length, refl, sym, ap, subst, ◌∙◌}
use Rattle.std.specs.Prelude.{All, map}
use Rattle.std.specs.List.{join_with_byte}
use Rattle.std.proofs.lemmas.List.Elements.{All-append}
use Rattle.s39_lists.proofs.Orders.{All-append_right}
use Rattle.s39_words.specs.Layout.{IsIndex}
use Rattle.s39_words.specs.declared.share.ShareFields.{ShareFields}
use Rattle.s39_words.specs.Share.{IsShare, data_words}
use Rattle.s39_words.specs.Checksum.{IsValidChecksum}
use Rattle.s39_words.specs.Spelling.{words_of, HaveIndices}
use Rattle.s39_words.specs.Printing.{listed_word, IsPrinted}
use Rattle.s39_words.proofs.Indices.{indices_below}
use Rattle.s39_words.proofs.DataWords.{data_words-below}
use Rattle.s39_words.proofs.Remainders.{one_checksum, checksum_found}
use Rattle.s39_words.proofs.Listed.{listed_words, HaveIndices-listed_words, words_from_indices}
use Rattle.s39_words.proofs.Joined.{words_of-joined}

-- the words of the data words and of a valid checksum, joined by single spaces
pub IsPrinted-joined : (share : ShareFields) (checksum text : List ℕ) → IsShare share → length checksum ≡ 3 → All IsIndex (data_words share)
    → All IsIndex checksum → IsValidChecksum share.extendable (data_words share ++ checksum)
    → text ≡ join_with_byte 32 (map listed_word (data_words share ++ checksum)) → IsPrinted text share
IsPrinted-joined share checksum text is_share len data_in_range in_range valid text_is =
    let indices = data_words share ++ checksum in
    let all = All-append IsIndex (data_words share) checksum data_in_range in_range in
    let words : words_of text ≡ map listed_word indices = ap words_of text_is ∙ words_of-joined (map listed_word indices) (listed_words indices all) in
    record {
      spells = record {
        is_share = is_share;
        checksum = checksum;
        checksum_words = len;
        words = subst (λ (ws : List (List ℕ)). HaveIndices ws indices) (sym words) (HaveIndices-listed_words indices all);
        valid = valid;
      };
      single_spaces = text_is ∙ ap (join_with_byte 32) (sym words);
    }

-- the same, as the code has it
pub IsPrinted-from : (share : ShareFields) (flag : Bool) (words indices checksum text : List ℕ) → IsShare share → flag ≡ share.extendable
    → words ≡ data_words share → All IsIndex words → length checksum ≡ 3
    → All IsIndex checksum → IsValidChecksum flag (words ++ checksum) → indices ≡ words ++ checksum → text ≡ join_with_byte 32 (map listed_word indices)
    → IsPrinted text share
IsPrinted-from share flag words indices checksum text is_share flag_is data_is data_in_range len in_range valid indices_are text_is =
    IsPrinted-joined share checksum text is_share len (subst (λ (d : List ℕ). All IsIndex d) data_is data_in_range) in_range
    (subst (λ (d : List ℕ). IsValidChecksum share.extendable (d ++ checksum)) data_is
    (subst (λ (f : Bool). IsValidChecksum f (words ++ checksum)) flag_is valid))
    (text_is ∙ ap (λ (is : List ℕ). join_with_byte 32 (map listed_word is)) (indices_are ∙ ap (λ (d : List ℕ). d ++ checksum) data_is))

pub some_printed_form : (share : ShareFields) → IsShare share → (text : List ℕ) × IsPrinted text share
some_printed_form share is =
    let checksum = checksum_found share.extendable (data_words share) (data_words-below share) in
    let text = join_with_byte 32 (map listed_word (data_words share ++ checksum.0)) in
    (text, IsPrinted-joined share checksum.0 text is checksum.1 (data_words-below share) checksum.2 checksum.3 refl)

pub one_printed_form : (share : ShareFields) (text other : List ℕ) → IsPrinted text share → IsPrinted other share → text ≡ other
one_printed_form share text other p q =
    let a = words_from_indices (words_of text) (data_words share ++ p.spells.checksum) p.spells.words in
    let b = words_from_indices (words_of other) (data_words share ++ q.spells.checksum) q.spells.words in
    let below = λ (c t : List ℕ) (h : HaveIndices (words_of t) (data_words share ++ c)). All-append_right IsIndex (data_words share) c
    (indices_below (words_of t) (data_words share ++ c) h) in
    let same = one_checksum share.extendable (data_words share) p.spells.checksum q.spells.checksum (data_words-below share)
    p.spells.checksum_words q.spells.checksum_words (below p.spells.checksum text p.spells.words) (below q.spells.checksum other q.spells.words)
    p.spells.valid q.spells.valid in
    let words : words_of text ≡ words_of other = a ∙ ap (λ (c : List ℕ). map listed_word (data_words share ++ c)) same ∙ sym b in
    p.single_spaces ∙ ap (join_with_byte 32) words ∙ sym q.single_spaces
