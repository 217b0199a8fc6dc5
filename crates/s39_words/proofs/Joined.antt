-- Words joined by single spaces.
use Rattle.std.proofs.Common.{◌≡◌, ℕ, ◌+◌, ◌<◌, true, false, List, [], ◌∷◌, ◌++◌, length, get_or, take, append_assoc, refl, sym, ap, ◌∙◌, arith}
use Rattle.std.specs.Prelude.{All, map, filter, nat_lt}
use Rattle.std.specs.List.{join_with_byte, slice_split}
use Rattle.std.specs.Char.{to_ascii_lowercase}
use Rattle.std.specs.Str.{str_to_ascii_lowercase}
use Rattle.std.proofs.lemmas.Bool.{lt-ltb}
use Rattle.std.proofs.lemmas.Bool.Decides.{nat_tests}
use Rattle.std.proofs.lemmas.List.{take_more, map-append, length-take}
use Rattle.std.proofs.lemmas.List.Elements.{All-nil, All-cons, All-head, All-tail, All-append, All-weaker}
use Rattle.std.proofs.lemmas.List.Folds.{map_fixed}
use Rattle.std.proofs.lemmas.List.Splits.{slice_split_none, slice_split_at}
use Rattle.std.proofs.lemmas.Str.Ascii.{lowercase_is}
use Rattle.s39_words.specs.Spelling.{is_separator, words_of}
use Rattle.s39_words.specs.Printing.{listed_word}
use Rattle.s39_words.specs.WordList.{IsLetter}
use Rattle.s39_words.proofs.Listed.{IsListed}

-- ---- the words of words joined by single spaces

-- a byte of a word: no capital and no separator
abbrev pub IsInside : ℕ → Type 0
IsInside c = (to_ascii_lowercase c ≡ c) × (is_separator c ≡ false)

-- a text that can be a word: some of them
pub record IsJoinable (word : List ℕ) : Type 0 where
  pub inside : All IsInside word
  pub some : 0 < length word

letter_inside : (c : ℕ) → IsLetter c → IsInside c
letter_inside c h = ((lowercase_is c).2 (omega arith), grind (arith, nat_tests))

pub IsJoinable-listed : (word : List ℕ) → IsListed word → IsJoinable word
IsJoinable-listed word is = record { inside = All-weaker IsLetter IsInside letter_inside word is.letters; some = let n = is.at_least in omega arith }

small_bytes : (word : List ℕ) → IsJoinable word → All (λ c. to_ascii_lowercase c ≡ c) word
small_bytes word is = All-weaker IsInside (λ c. to_ascii_lowercase c ≡ c) (λ c h. h.0) word is.inside

no_separators : (word : List ℕ) → IsJoinable word → All (λ c. is_separator c ≡ false) word
no_separators word is = All-weaker IsInside (λ c. is_separator c ≡ false) (λ c h. h.1) word is.inside

joined_bytes : (words : List (List ℕ)) → All IsJoinable words → All (λ c. to_ascii_lowercase c ≡ c) (join_with_byte 32 words)
joined_bytes [] all = All-nil (λ c. to_ascii_lowercase c ≡ c)
joined_bytes (w ∷ []) all = small_bytes w (All-head IsJoinable w [] all)
joined_bytes (w ∷ v ∷ ws) all =
    All-append (λ c. to_ascii_lowercase c ≡ c) w (32 ∷ join_with_byte 32 (v ∷ ws))
    (small_bytes w (All-head IsJoinable w (v ∷ ws) all))
    (All-cons (λ c. to_ascii_lowercase c ≡ c) 32 (join_with_byte 32 (v ∷ ws)) refl (joined_bytes (v ∷ ws) (All-tail IsJoinable w (v ∷ ws) all)))

joined_parts : (w : List ℕ) (words : List (List ℕ)) → All IsJoinable (w ∷ words) → slice_split is_separator (join_with_byte 32 (w ∷ words)) ≡ w ∷ words
joined_parts w [] all = slice_split_none is_separator w (no_separators w (All-head IsJoinable w [] all))
joined_parts w (v ∷ ws) all =
    slice_split_at is_separator w 32 (join_with_byte 32 (v ∷ ws)) (no_separators w (All-head IsJoinable w (v ∷ ws) all)) refl
    ∙ ap (λ parts. w ∷ parts) (joined_parts v ws (All-tail IsJoinable w (v ∷ ws) all))

none_empty : (words : List (List ℕ)) → All IsJoinable words → filter (λ word. nat_lt 0 (length word)) words ≡ words
none_empty [] all = refl
none_empty (w ∷ ws) all =
    let t : nat_lt 0 (length w) ≡ true = lt-ltb 0 (length w) (All-head IsJoinable w ws all).some in
    rw t (ap (λ vs. w ∷ vs) (none_empty ws (All-tail IsJoinable w ws all)))

pub words_of-joinable : (words : List (List ℕ)) → All IsJoinable words → words_of (join_with_byte 32 words) ≡ words
words_of-joinable [] all = refl
words_of-joinable (w ∷ ws) all =
    let lower : str_to_ascii_lowercase (join_with_byte 32 (w ∷ ws)) ≡ join_with_byte 32 (w ∷ ws) =
    map_fixed to_ascii_lowercase (join_with_byte 32 (w ∷ ws)) (joined_bytes (w ∷ ws) all) in
    rw (lower, joined_parts w ws all) (none_empty (w ∷ ws) all)

pub words_of-joined : (words : List (List ℕ)) → All IsListed words → words_of (join_with_byte 32 words) ≡ words
words_of-joined words all = words_of-joinable words (All-weaker IsListed IsJoinable IsJoinable-listed words all)

-- ---- words joined one after another

joined_push : (w : List ℕ) (ws : List (List ℕ)) (v : List ℕ) → (join_with_byte 32 (w ∷ ws) ++ 32 ∷ []) ++ v ≡ join_with_byte 32 (w ∷ ws ++ v ∷ [])
joined_push w [] v = append_assoc w (32 ∷ []) v
joined_push w (u ∷ us) v =
    let rest = join_with_byte 32 (u ∷ us) in
    append_assoc (w ++ 32 ∷ rest) (32 ∷ []) v ∙ append_assoc w (32 ∷ rest) (32 ∷ v)
    ∙ ap (λ t. w ++ 32 ∷ t) (sym (append_assoc rest (32 ∷ []) v) ∙ joined_push u us v)

joined_onto : (xs : List ℕ) (x : ℕ) → 0 < length xs → (join_with_byte 32 (map listed_word xs) ++ 32 ∷ []) ++ listed_word x ≡ join_with_byte 32
    (map listed_word (xs ++ x ∷ []))
joined_onto [] x h = absurd (omega arith)
joined_onto (y ∷ xs) x h =
    joined_push (listed_word y) (map listed_word xs) (listed_word x) ∙ ap (λ t. join_with_byte 32 (listed_word y ∷ t))
    (sym (map-append listed_word xs (x ∷ [])))

pub joined_later : (xs : List ℕ) (i : ℕ) → 0 < i → i < length xs → (join_with_byte 32 (map listed_word (take i xs)) ++ 32 ∷ []) ++ listed_word
    (get_or xs i 0) ≡ join_with_byte 32 (map listed_word (take (i + 1) xs))
joined_later xs i positive within =
    joined_onto (take i xs) (get_or xs i 0) (omega (arith, length-take i xs)) ∙ ap (λ t. join_with_byte 32 (map listed_word t)) (sym (take_more xs i 0 within))

pub joined_first : (xs : List ℕ) (i : ℕ) → i ≡ 0 → i < length xs → join_with_byte 32 (map listed_word (take i xs)) ++ listed_word
    (get_or xs i 0) ≡ join_with_byte 32 (map listed_word (take (i + 1) xs))
joined_first [] i first within = absurd (omega arith)
joined_first (x ∷ xs) i first within = rw first refl
