-- The mark with which a text begins.
use Rattle.std.proofs.Common.{◌≡◌, ℕ, ◌-◌, ◌<◌, ◌≤◌, true, false, List, [], ◌∷◌, length, get_or, take, drop, sym, ap, subst, ◌∙◌}
use Rattle.std.specs.Prelude.{All}
use Rattle.std.specs.Str.{str_to_ascii_lowercase}
use Rattle.std.proofs.lemmas.List.{take-append-drop, take_rest, drop_more, drop_all}
use Rattle.std.proofs.lemmas.List.Elements.{All-nil, All-cons}
use Rattle.s39_words.specs.FirstWord.{BeginsInWord, BeginsWith}
use Rattle.s39_words.specs.Spelling.{is_separator, words_of}
use Rattle.s39_words.proofs.TextWords.{words_of_first, some_from_begins}

-- the mark ends at a separator
pub ends_at_separator : (text : List ℕ) (end : ℕ) → end < length text → is_separator (get_or text end 0) ≡ true
    → All (λ b. is_separator b ≡ true) (take 1 (drop end text))
ends_at_separator text end within here =
    subst (λ l. All (λ b. is_separator b ≡ true) (take 1 l)) (sym (drop_more text end 0 within))
    (All-cons (λ b. is_separator b ≡ true) (get_or text end 0) [] here (All-nil (λ b. is_separator b ≡ true)))

-- or at the end of the text
pub ends_at_end : (text : List ℕ) (end : ℕ) → length text ≤ end → All (λ b. is_separator b ≡ true) (take 1 (drop end text))
ends_at_end text end past = subst (λ l. All (λ b. is_separator b ≡ true) (take 1 l)) (sym (drop_all end text past)) (All-nil (λ b. is_separator b ≡ true))

first : (text : List ℕ) (end : ℕ) → All (λ b. is_separator b ≡ false) (take end text) → All (λ b. is_separator b ≡ true) (take 1 (drop end text))
    → BeginsWith text (take end text) (drop end text)
first text end inside behind = record {
  parts = sym (take-append-drop end text);
  inside = inside;
  behind = behind;
}

pub first_words : (text : List ℕ) (end : ℕ) → All (λ b. is_separator b ≡ false) (take end text) → All (λ b. is_separator b ≡ true) (take 1 (drop end text))
    → BeginsInWord text → 0 < length text
    → words_of text ≡ str_to_ascii_lowercase (take end text) ∷ words_of (take (length text - end) (drop end text))
first_words text end inside behind begins some =
    let parts = first text end inside behind in
    words_of_first text (take end text) (drop end text) parts (some_from_begins text (take end text) (drop end text) parts begins some)
    ∙ ap (λ l. str_to_ascii_lowercase (take end text) ∷ words_of l) (sym (take_rest text end))
