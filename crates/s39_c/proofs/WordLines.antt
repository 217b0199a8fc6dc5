-- Words of the list, one on each line.
use Rattle.std.proofs.Common.{◌≡◌, ℕ, ◌+◌, ◌-◌, ◌<◌, ◌≤◌, Bool, true, false, cond, List, [], ◌∷◌, length, map, take, drop, filter, refl, sym, ap, ◌∙◌, arith}
use Rattle.std.specs.List.{concat, flat_map}
use Rattle.std.proofs.lemmas.List.{length-append, length-drop, length-map, length-take-le, get_or-drop, get_or-map, get_or-take}
use Rattle.std.proofs.lemmas.List.Concat.{concat_is}
use Rattle.std.proofs.lemmas.List.Folds.{flat_map-map}
use Rattle.arrayvec.specs.ArrayVec.{ArrayVec}
use Rattle.s39_words.specs.Layout.{word_list_length}
use Rattle.s39_words.specs.Prefix.{begins_with}
use Rattle.s39_words.specs.Printing.{listed_word}
use Rattle.s39_words.specs.WordList.{word_list}
use Rattle.s39_words.proofs.WordTable.{length-word_list}
use Rattle.s39_input.specs.Emission.{AreLines}
use Rattle.s39_input.specs.Input.{ended_line}
use Rattle.s39_c.specs.Answers.{too_short}
use Rattle.s39_c.specs.Words.{longest_words, words_text, GivesWords}
use Rattle.s39_c.proofs.Rooms.{gives_short}

-- the lines of the words between two indices of the list
pub word_lines : {gives : ℕ → ArrayVec ℕ → Type 0} (first end : ℕ) → end ≤ word_list_length
    → ((index : ℕ) (line : ArrayVec ℕ) → index < end - first → gives index line → line.items ≡ ended_line (listed_word (first + index)))
    → AreLines gives (end - first) (map ended_line (take (end - first) (drop first word_list)))
word_lines first end within given =
    let rest = drop first word_list in
    let words = take (end - first) rest in
    let long : length words ≡ end - first = length-take-le (end - first) rest (omega (arith, within, length-drop first word_list, length-word_list)) in
    record {
      many = length-map words ended_line ∙ long;
      each = λ index line below gives.
          given index line below gives
          ∙ ap ended_line (sym (get_or-take (end - first) rest index [] below ∙ get_or-drop first word_list index []))
          ∙ sym (get_or-map ended_line words index [] [] (omega (arith, below, long)));
    }

-- they are the text of the words that begin with some letters
pub words_joined : (letters : List ℕ) (words : List (List ℕ)) → filter (begins_with letters) word_list ≡ words
    → words_text letters ≡ concat (map ended_line words)
words_joined letters words are = ap (flat_map ended_line) are ∙ sym (concat_is (map ended_line words) ∙ flat_map-map (λ l. l) ended_line words)

-- ---- the length of all words

one_less : (b : Bool) (x : List ℕ) (ys xs : List (List ℕ)) → length (flat_map ended_line ys) ≤ length (flat_map ended_line xs)
    → length (flat_map ended_line (cond b (x ∷ ys) ys)) ≤ length (flat_map ended_line (x ∷ xs))
one_less true x ys xs less =
    omega (arith, less, length-append (ended_line x) (flat_map ended_line ys), length-append (ended_line x) (flat_map ended_line xs))
one_less false x ys xs less = omega (arith, less, length-append (ended_line x) (flat_map ended_line xs))

chosen_fit : (p : List ℕ → Bool) (xs : List (List ℕ)) → length (flat_map ended_line (filter p xs)) ≤ length (flat_map ended_line xs)
chosen_fit p [] = omega arith
chosen_fit p (x ∷ xs) = one_less (p x) x (filter p xs) xs (chosen_fit p xs)

length-all_words : length (flat_map ended_line word_list) ≡ longest_words
unfolding word_list
length-all_words = refl

pub words_short : (letters : List ℕ) → length (words_text letters) ≤ longest_words
words_short letters = omega (arith, chosen_fit (begins_with letters) word_list, length-all_words)

chosen_all : (xs : List (List ℕ)) → filter (begins_with []) xs ≡ xs
chosen_all [] = refl
chosen_all (x ∷ xs) = ap (λ ys. x ∷ ys) (chosen_all xs)

pub words_reached : length (words_text []) ≡ longest_words
words_reached = ap (λ xs. length (flat_map ended_line xs)) (chosen_all word_list) ∙ length-all_words

pub words_fit : (letters old new : List ℕ) (needed : ℕ) → GivesWords letters old new (too_short needed) → length old < longest_words
words_fit letters old new needed gives = omega (arith, gives_short (words_text letters) old new needed gives, words_short letters)
