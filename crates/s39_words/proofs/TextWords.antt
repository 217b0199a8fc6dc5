-- The words of a text, from the first on.
use Rattle.std.proofs.Common.{◌≡◌, ℕ, zero, suc, ◌<◌, Bool, true, false, List, [], ◌∷◌, ◌++◌, length, take, get_or}
use Rattle.std.proofs.Common.{refl, sym, ap, subst, ◌∙◌, arith}
use Rattle.std.specs.Prelude.{All, filter, nat_lt}
use Rattle.std.specs.List.{slice_split}
use Rattle.std.specs.Char.{is_ascii_alphabetic, to_ascii_lowercase}
use Rattle.std.specs.Str.{str_to_ascii_lowercase}
use Rattle.std.proofs.lemmas.Bool.{false≢true, cond-true, lt-ltb}
use Rattle.std.proofs.lemmas.Bool.Decides.{nat_tests}
use Rattle.std.proofs.lemmas.List.{map-append, append-nil}
use Rattle.std.proofs.lemmas.List.Elements.{All-nil, All-cons, All-head, All-tail, All-map, All-weaker}
use Rattle.std.proofs.lemmas.List.Splits.{slice_split-cons_yes, slice_split_none, slice_split_at}
use Rattle.s39_words.specs.FirstWord.{BeginsInWord, BeginsWith}
use Rattle.s39_words.specs.Spelling.{is_separator, words_of}

separator_lower : (b : ℕ) → is_separator (to_ascii_lowercase b) ≡ is_separator b
separator_lower b = grind (arith, nat_tests)

pub letter_in_word : (b : ℕ) → is_ascii_alphabetic b ≡ true → is_separator b ≡ false
letter_in_word b h = grind (arith, nat_tests)

-- a separator at the beginning is no part of a word
pub words_of_separator : (b : ℕ) (rest : List ℕ) → is_separator b ≡ true → words_of (b ∷ rest) ≡ words_of rest
words_of_separator b rest h =
    ap (filter (λ word. nat_lt 0 (length word)))
    (slice_split-cons_yes is_separator (to_ascii_lowercase b) (str_to_ascii_lowercase rest) (separator_lower b ∙ h))

lower_inside : (word : List ℕ) → All (λ b. is_separator b ≡ false) word → All (λ b. is_separator b ≡ false) (str_to_ascii_lowercase word)
lower_inside word inside =
    All-map (λ b. is_separator b ≡ false) to_ascii_lowercase word
    (All-weaker (λ b. is_separator b ≡ false) (λ b. is_separator (to_ascii_lowercase b) ≡ false) (λ b h. separator_lower b ∙ h) word inside)

keep_first : (w : ℕ) (ws : List ℕ) (parts : List (List ℕ)) → filter (λ word. nat_lt 0 (length word)) ((w ∷ ws) ∷ parts) ≡ (w ∷ ws) ∷ filter
    (λ word. nat_lt 0 (length word)) parts
keep_first w ws parts = cond-true _ _ _ (lt-ltb 0 (length (w ∷ ws)) (omega arith))

parts_of_first : (word rest : List ℕ) → All (λ b. is_separator b ≡ false) word → All (λ b. is_separator b ≡ true) (take 1 rest) → 0 < length word
    → words_of (word ++ rest) ≡ str_to_ascii_lowercase word ∷ words_of rest
parts_of_first [] rest inside behind some = absurd (omega arith)
parts_of_first (w ∷ ws) [] inside behind some =
    ap words_of (append-nil (w ∷ ws))
    ∙ ap (filter (λ word. nat_lt 0 (length word))) (slice_split_none is_separator (str_to_ascii_lowercase (w ∷ ws)) (lower_inside (w ∷ ws) inside))
    ∙ keep_first (to_ascii_lowercase w) (str_to_ascii_lowercase ws) []
parts_of_first (w ∷ ws) (s ∷ rest) inside behind some =
    let here : is_separator s ≡ true = All-head (λ b. is_separator b ≡ true) s [] behind in
    ap (λ text. filter (λ word. nat_lt 0 (length word)) (slice_split is_separator text)) (map-append to_ascii_lowercase (w ∷ ws) (s ∷ rest))
    ∙ ap (filter (λ word. nat_lt 0 (length word)))
    (slice_split_at is_separator (str_to_ascii_lowercase (w ∷ ws)) (to_ascii_lowercase s) (str_to_ascii_lowercase rest) (lower_inside (w ∷ ws) inside)
    (separator_lower s ∙ here))
    ∙ keep_first (to_ascii_lowercase w) (str_to_ascii_lowercase ws) (slice_split is_separator (str_to_ascii_lowercase rest))
    ∙ ap (λ words. str_to_ascii_lowercase (w ∷ ws) ∷ words) (sym (words_of_separator s rest here))

-- the word that a text begins with is its first
pub words_of_first : (text word rest : List ℕ) → BeginsWith text word rest → 0 < length word → words_of text ≡ str_to_ascii_lowercase word ∷ words_of rest
words_of_first text word rest begins some = ap words_of begins.parts ∙ parts_of_first word rest begins.inside begins.behind some

begins_after : (b : ℕ) (text : List ℕ) (separates : Bool) → is_separator b ≡ separates → (word : List ℕ) × (rest : List ℕ) × BeginsWith text word rest
    → (word : List ℕ) × (rest : List ℕ) × BeginsWith (b ∷ text) word rest
begins_after b text true e later = (
  [],
  b ∷ text,
  record {
    parts = refl;
    inside = All-nil (λ b. is_separator b ≡ false);
    behind = All-cons (λ b. is_separator b ≡ true) b [] e (All-nil (λ b. is_separator b ≡ true));
  },
)
begins_after b text false e later = (
  b ∷ later.0,
  later.1,
  record {
    parts = ap (λ bs. b ∷ bs) later.2.parts;
    inside = All-cons (λ b. is_separator b ≡ false) b later.0 e later.2.inside;
    behind = later.2.behind;
  },
)

-- every text begins with one, which may be empty
pub begins_somehow : (text : List ℕ) → (word : List ℕ) × (rest : List ℕ) × BeginsWith text word rest
begins_somehow [] = ([], [], record { parts = refl; inside = All-nil (λ b. is_separator b ≡ false); behind = All-nil (λ b. is_separator b ≡ true) })
begins_somehow (b ∷ text) = begins_after b text (is_separator b) refl (begins_somehow text)

some_of_parts : (word rest : List ℕ) → All (λ b. is_separator b ≡ true) (take 1 rest) → All (λ b. is_separator b ≡ false) (take 1 (word ++ rest))
    → 0 < length (word ++ rest) → 0 < length word
some_of_parts [] [] behind begins some = absurd (omega arith)
some_of_parts [] (r ∷ rest) behind begins some =
    absurd (false≢true (sym (All-head (λ b. is_separator b ≡ false) r [] begins) ∙ All-head (λ b. is_separator b ≡ true) r [] behind))
some_of_parts (w ∷ ws) rest behind begins some = omega arith

-- it isn't empty where the text begins in a word
pub some_from_begins : (text word rest : List ℕ) → BeginsWith text word rest → BeginsInWord text → 0 < length text → 0 < length word
some_from_begins text word rest h begins some =
    some_of_parts word rest h.behind (subst BeginsInWord h.parts begins) (subst (λ t. 0 < length t) h.parts some)

within_parts : (word rest : List ℕ) (i : ℕ) → All (λ b. is_separator b ≡ true) (take 1 rest)
    → All (λ b. is_separator b ≡ false) (take (suc i) (word ++ rest)) → i < length (word ++ rest)
    → (i < length word) × (get_or word i 0 ≡ get_or (word ++ rest) i 0)
within_parts [] [] i behind inside within = absurd (omega arith)
within_parts [] (r ∷ rest) i behind inside within =
    absurd (false≢true (sym (All-head (λ b. is_separator b ≡ false) r (take i rest) inside) ∙ All-head (λ b. is_separator b ≡ true) r [] behind))
within_parts (w ∷ ws) rest zero behind inside within = (omega arith, refl)
within_parts (w ∷ ws) rest (suc i) behind inside within =
    let later = within_parts ws rest i behind (All-tail (λ b. is_separator b ≡ false) w (take (suc i) (ws ++ rest)) inside) (omega arith) in
    (omega (arith, later.0), later.1)

-- bytes that are no separators belong to it
pub within_first : (text word rest : List ℕ) (i : ℕ) → BeginsWith text word rest → All (λ b. is_separator b ≡ false) (take (suc i) text) → i < length text
    → (i < length word) × (get_or word i 0 ≡ get_or text i 0)
within_first text word rest i h inside within =
    let there = within_parts word rest i h.behind (subst (λ t. All (λ b. is_separator b ≡ false) (take (suc i) t)) h.parts inside)
    (subst (λ t. i < length t) h.parts within) in
    (there.0, there.1 ∙ ap (λ t. get_or t i 0) (sym h.parts))
