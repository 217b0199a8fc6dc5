-- The bytes of printed forms.
use Rattle.std.proofs.Common.{◌≡◌, ◌⊎◌, ℕ, ◌-◌, ◌*◌, ◌≤◌, List, [], ◌∷◌, ◌++◌, length, refl, sym, ap, subst, ◌∙◌, arith, inl, inr}
use Rattle.std.specs.Prelude.{All}
use Rattle.std.specs.List.{join_with_byte}
use Rattle.std.proofs.lemmas.List.{length-append}
use Rattle.std.proofs.lemmas.List.Elements.{All-nil, All-cons, All-head, All-tail, All-append, All-weaker}
use Rattle.s39_words.specs.Layout.{longest_text}
use Rattle.s39_words.specs.declared.share.ShareFields.{ShareFields}
use Rattle.s39_words.specs.Printing.{IsPrinted}
use Rattle.s39_words.specs.Reading.{IsWordCount}
use Rattle.s39_words.specs.Share.{data_words}
use Rattle.s39_words.specs.Spelling.{words_of}
use Rattle.s39_words.specs.WordList.{IsLetter}
use Rattle.s39_words.proofs.DataWords.{is_word_count}
use Rattle.s39_words.proofs.Indices.{indices_below, length_indices, at_most_words}
use Rattle.s39_words.proofs.Listed.{IsListed, listed_words, words_from_indices}

-- words joined by single spaces are letters and spaces
joined_letters : (words : List (List ℕ)) → All IsListed words → All (λ c. IsLetter c ⊎ (c ≡ 32)) (join_with_byte 32 words)
joined_letters [] all = All-nil (λ c. IsLetter c ⊎ (c ≡ 32))
joined_letters (w ∷ []) all = All-weaker IsLetter (λ c. IsLetter c ⊎ (c ≡ 32)) (λ c h. inl h) w (All-head IsListed w [] all).letters
joined_letters (w ∷ v ∷ ws) all =
    All-append (λ c. IsLetter c ⊎ (c ≡ 32)) w (32 ∷ join_with_byte 32 (v ∷ ws))
    (All-weaker IsLetter (λ c. IsLetter c ⊎ (c ≡ 32)) (λ c h. inl h) w (All-head IsListed w (v ∷ ws) all).letters)
    (All-cons (λ c. IsLetter c ⊎ (c ≡ 32)) 32 (join_with_byte 32 (v ∷ ws)) (inr refl) (joined_letters (v ∷ ws) (All-tail IsListed w (v ∷ ws) all)))

-- nine bytes a word at most, and none behind the last
joined_short : (words : List (List ℕ)) → All IsListed words → length (join_with_byte 32 words) ≤ 9 * length words - 1
joined_short [] all = omega arith
joined_short (w ∷ []) all = let short = (All-head IsListed w [] all).at_most in omega arith
joined_short (w ∷ v ∷ ws) all =
    let short = (All-head IsListed w (v ∷ ws) all).at_most in
    let others = joined_short (v ∷ ws) (All-tail IsListed w (v ∷ ws) all) in
    omega (arith, length-append w (32 ∷ join_with_byte 32 (v ∷ ws)))

-- the first byte is the first letter of the first word
joined_first : (words : List (List ℕ)) → All IsListed words → 1 ≤ length words
    → (first : ℕ) × (rest : List ℕ) × (join_with_byte 32 words ≡ first ∷ rest) × IsLetter first
joined_first [] all some = absurd (omega arith)
joined_first ([] ∷ ws) all some = let long = (All-head IsListed [] ws all).at_least in absurd (omega arith)
joined_first ((b ∷ w) ∷ []) all some = (b, w, refl, All-head IsLetter b w (All-head IsListed (b ∷ w) [] all).letters)
joined_first ((b ∷ w) ∷ v ∷ ws) all some =
    (b, w ++ 32 ∷ join_with_byte 32 (v ∷ ws), refl, All-head IsLetter b w (All-head IsListed (b ∷ w) (v ∷ ws) all).letters)

some_words : (n : ℕ) → IsWordCount n → 1 ≤ n
some_words n count = let long = count.at_least in omega arith

module _ (share : ShareFields) (text : List ℕ) (printed : IsPrinted text share) where
  abbrev indices : List ℕ
  indices = data_words share ++ printed.spells.checksum

  listed : All IsListed (words_of text)
  listed =
      subst (All IsListed) (sym (words_from_indices (words_of text) indices printed.spells.words))
      (listed_words indices (indices_below (words_of text) indices printed.spells.words))

  count : IsWordCount (length (words_of text))
  count =
      subst IsWordCount (length_indices (words_of text) indices printed.spells.words)
      (is_word_count share printed.spells.is_share printed.spells.checksum printed.spells.checksum_words)

  pub printed_letters : All (λ c. IsLetter c ⊎ (c ≡ 32)) text
  printed_letters = subst (All (λ c. IsLetter c ⊎ (c ≡ 32))) (sym printed.single_spaces) (joined_letters (words_of text) listed)

  pub printed_short : length text ≤ longest_text
  printed_short =
      let short = joined_short (words_of text) listed in
      let few = at_most_words (length (words_of text)) count in
      let same = ap length printed.single_spaces in
      omega arith

  pub printed_first : (first : ℕ) × (rest : List ℕ) × (text ≡ first ∷ rest) × IsLetter first
  printed_first =
      let begins = joined_first (words_of text) listed (some_words (length (words_of text)) count) in
      (begins.0, begins.1, printed.single_spaces ∙ begins.2, begins.3)
