-- The words of a text that spells a share are a mnemonic, and every mnemonic can be mistyped.
use Rattle.std.proofs.Common.{◌≡◌, ℕ, zero, suc, ◌≤◌, false, List, [], ◌∷◌, ◌++◌, length, refl, sym, ap, subst, arith}
use Rattle.std.specs.Prelude.{All, map, ◌==◌}
use Rattle.std.specs.List.{join_with_byte}
use Rattle.std.proofs.lemmas.Bool.{eq-eqb}
use Rattle.std.proofs.lemmas.Bool.Decides.{nat_tests}
use Rattle.std.proofs.lemmas.List.Elements.{All-cons, All-head, All-tail}
use Rattle.s39_words.specs.declared.share.ShareFields.{ShareFields}
use Rattle.s39_words.specs.Layout.{IsIndex}
use Rattle.s39_words.specs.Checksum.{IsValidChecksum}
use Rattle.s39_words.specs.Mistyping.{count_of_differences, IsMnemonic, IsMistyped}
use Rattle.s39_words.specs.Printing.{listed_word}
use Rattle.s39_words.specs.Share.{data_words}
use Rattle.s39_words.specs.Spelling.{words_of, HaveIndices, Spells}
use Rattle.s39_words.proofs.DataWords.{is_word_count, flag-is}
use Rattle.s39_words.proofs.Indices.{indices_below}
use Rattle.s39_words.proofs.Joined.{words_of-joined}
use Rattle.s39_words.proofs.Listed.{listed_words, HaveIndices-listed_words}

-- The words of a text that spells a share are a mnemonic.
pub spelled_words : (text : List ℕ) (share : ShareFields) → Spells text share → (indices : List ℕ) × HaveIndices (words_of text) indices × IsMnemonic indices
spelled_words text share s =
    let words = data_words share ++ s.checksum in (
      words,
      s.words,
      record {
        count = is_word_count share s.is_share s.checksum s.checksum_words;
        in_list = indices_below (words_of text) words s.words;
        checksum = subst (λ f. IsValidChecksum f words) (sym (flag-is share s.is_share s.checksum s.checksum_words)) s.valid;
      },
    )

-- ---- a mistyped text

-- any words of the list are those of a text
text_of : (words : List ℕ) → All IsIndex words → (text : List ℕ) × HaveIndices (words_of text) words
text_of words all = (
  join_with_byte 32 (map listed_word words),
  subst (λ (ws : List (List ℕ)). HaveIndices ws words) (sym (words_of-joined (map listed_word words) (listed_words words all)))
      (HaveIndices-listed_words words all),
)

-- another index
abbrev another : ℕ → ℕ
another zero = 1
another (suc index) = 0

another-below : (index : ℕ) → IsIndex (another index)
another-below zero = omega arith
another-below (suc index) = omega arith

another-differs : (index : ℕ) → (another index == index) ≡ false
another-differs zero = refl
another-differs (suc index) = grind (arith, nat_tests)

no_differences : (words : List ℕ) → count_of_differences words words ≡ 0
no_differences [] = refl
no_differences (w ∷ ws) = rw (eq-eqb w w refl) (no_differences ws)

-- the first words replaced by others, so many of them
changed : ℕ → List ℕ → List ℕ
changed zero words = words
changed (suc n) [] = []
changed (suc n) (w ∷ ws) = another w ∷ changed n ws

length-changed : (n : ℕ) (words : List ℕ) → length (changed n words) ≡ length words
unfolding changed
length-changed zero words = refl
length-changed (suc n) [] = refl
length-changed (suc n) (w ∷ ws) = ap suc (length-changed n ws)

changed-below : (n : ℕ) (words : List ℕ) → All IsIndex words → All IsIndex (changed n words)
unfolding changed
changed-below zero words all = all
changed-below (suc n) [] all = all
changed-below (suc n) (w ∷ ws) all = All-cons IsIndex (another w) (changed n ws) (another-below w) (changed-below n ws (All-tail IsIndex w ws all))

differences-changed : (n : ℕ) (words : List ℕ) → n ≤ length words → count_of_differences (changed n words) words ≡ n
unfolding changed
differences-changed zero words enough = no_differences words
differences-changed (suc n) [] enough = absurd (omega arith)
differences-changed (suc n) (w ∷ ws) enough = rw (another-differs w) (ap suc (differences-changed n ws (omega arith)))

differences-behind : (a b n : ℕ) (words others : List ℕ) → count_of_differences words others ≡ n
    → count_of_differences (a ∷ b ∷ words) (a ∷ b ∷ others) ≡ n
differences-behind a b n words others are = rw (eq-eqb a a refl, eq-eqb b b refl) are

-- Every mnemonic can be mistyped: with other words from the third on, as the flag stands in the second.
pub mistyped : (mnemonic : List ℕ) (wrong : ℕ) → IsMnemonic mnemonic → 1 ≤ wrong → wrong ≤ 3
    → (text : List ℕ) × (m : IsMistyped text mnemonic) × (count_of_differences m.words mnemonic ≡ wrong)
mistyped [] wrong is some few = let count = is.count in absurd (omega arith)
mistyped (a ∷ []) wrong is some few = let count = is.count in absurd (omega arith)
mistyped (a ∷ b ∷ rest) wrong is some few =
    let count = is.count in
    let behind = All-tail IsIndex a (b ∷ rest) is.in_list in
    let words = a ∷ b ∷ changed wrong rest in
    let all : All IsIndex words =
    All-cons IsIndex a (b ∷ changed wrong rest) (All-head IsIndex a (b ∷ rest) is.in_list)
    (All-cons IsIndex b (changed wrong rest) (All-head IsIndex b rest behind) (changed-below wrong rest (All-tail IsIndex b rest behind))) in
    let text = text_of words all in
    let differences = differences-behind a b wrong (changed wrong rest) rest (differences-changed wrong rest (omega arith)) in (
      text.0,
      record {
        words = words;
        known = text.1;
        same_count = ap (λ n. suc (suc n)) (length-changed wrong rest);
        same_flag = refl;
        wrong = omega (arith, differences);
        few = omega (arith, differences);
      },
      differences,
    )
