-- The row of a word, as the code makes it.
use Rattle.std.proofs.Common.{◌≡◌, ℕ, ◌+◌, ◌-◌, ◌*◌, ◌%◌, ◌^◌, ◌<◌, ◌≤◌, true, false, List, [], ◌∷◌, ◌++◌, length}
use Rattle.std.proofs.Common.{get_or, take, drop, replicate, ⊎_elim, refl, sym, ap, subst, ◌∙◌, arith, add-one}
use Rattle.std.specs.Prelude.{map, All, IsTrue}
use Rattle.std.specs.Char.{is_ascii_alphabetic, to_ascii_lowercase}
use Rattle.std.specs.Str.{str_to_ascii_lowercase}
use Rattle.std.proofs.lemmas.Bool.{cases_lt}
use Rattle.std.proofs.lemmas.Bool.Decides.{nat_tests}
use Rattle.std.proofs.lemmas.Nat.{shl_whole}
use Rattle.std.proofs.lemmas.List.{length-map, length-append, length-replicate, length-take, length-take-le, map-append, append-nil}
use Rattle.std.proofs.lemmas.List.{get_or-map, take_more, take_all, take-append-drop, take_rest, drop_more}
use Rattle.std.proofs.Math.ListN.{get_or-eq_default}
use Rattle.std.proofs.lemmas.List.Elements.{All-nil, All-cons, All-append, All-replicate, All-more, All-weaker, All-from_get_or}
use Rattle.s39_words.specs.Layout.{longest_word}
use Rattle.s39_words.specs.FirstWord.{BeginsWith}
use Rattle.s39_words.specs.Spelling.{is_separator}
use Rattle.s39_words.specs.WordList.{IsLetter}
use Rattle.s39_words.specs.Rows.{row_of, number_of_row, FitsRow}
use Rattle.s39_words.proofs.TextWords.{letter_in_word, within_first}

letter_from_alphabetic : (b : ℕ) → is_ascii_alphabetic b ≡ true → IsLetter (to_ascii_lowercase b)
letter_from_alphabetic b h = grind (arith, nat_tests)

alphabetic_from_letter : (b : ℕ) → IsLetter (to_ascii_lowercase b) → is_ascii_alphabetic b ≡ true
alphabetic_from_letter b h = grind (arith, nat_tests)

fits_from_alphabetic : (word : List ℕ) → length word ≤ 8 → All (λ b. IsTrue (is_ascii_alphabetic b)) word → FitsRow (str_to_ascii_lowercase word)
fits_from_alphabetic word short all = record {
  letters = All-from_get_or IsLetter (str_to_ascii_lowercase word) 0 (λ k within.
      let inside : k < length word = simp length-map at within in
      rw (get_or-map to_ascii_lowercase word k 0 0 inside) (letter_from_alphabetic (get_or word k 0) (all k 0 inside)));
  short = simp length-map short;
}

short_from_fits : (word : List ℕ) → FitsRow (str_to_ascii_lowercase word) → length word ≤ 8
short_from_fits word fits = simp length-map at fits.short

pub alphabetic_from_fits : (word : List ℕ) → FitsRow (str_to_ascii_lowercase word) → All (λ b. IsTrue (is_ascii_alphabetic b)) word
alphabetic_from_fits word fits = All-from_get_or (λ b. IsTrue (is_ascii_alphabetic b)) word 0 (λ k inside.
    let within : k < length (str_to_ascii_lowercase word) = simp length-map inside in
    let letter : IsLetter (get_or (str_to_ascii_lowercase word) k 0) = fits.letters k 0 within in
    alphabetic_from_letter (get_or word k 0) (rw (get_or-map to_ascii_lowercase word k 0 0 inside) at letter))

-- ---- the number of a row, letter by letter

-- a letter more takes the place of the first space
number_more : (word : List ℕ) (letter : ℕ) → length word < longest_word → IsLetter letter
    → number_of_row (row_of (word ++ letter ∷ [])) ≡ number_of_row (row_of word) + (letter - 32) * 2 ^ (8 * (7 - length word))
unfolding number_of_row
number_more [] letter few l = omega (arith, l)
number_more (a ∷ []) letter few l = omega (arith, l)
number_more (a ∷ b ∷ []) letter few l = omega (arith, l)
number_more (a ∷ b ∷ c ∷ []) letter few l = omega (arith, l)
number_more (a ∷ b ∷ c ∷ d ∷ []) letter few l = omega (arith, l)
number_more (a ∷ b ∷ c ∷ d ∷ e ∷ []) letter few l = omega (arith, l)
number_more (a ∷ b ∷ c ∷ d ∷ e ∷ f ∷ []) letter few l = omega (arith, l)
number_more (a ∷ b ∷ c ∷ d ∷ e ∷ f ∷ g ∷ []) letter few l = omega (arith, l)
number_more (a ∷ b ∷ c ∷ d ∷ e ∷ f ∷ g ∷ h ∷ word) letter few l = absurd (omega arith)

-- a row has eight bytes
pub length-row : (w : List ℕ) → FitsRow w → length (row_of w) ≡ longest_word
length-row w fits = omega (arith, length-append w (replicate (longest_word - length w) 32), length-replicate {A = ℕ} (longest_word - length w) 32, fits.short)

pub row-bytes : (w : List ℕ) → FitsRow w → (i : ℕ) → get_or (row_of w) i 0 < 256
row-bytes w fits i =
    let letters = All-weaker IsLetter (λ b. b < 256) (λ c l. omega (arith, l)) w fits.letters in
    let all = All-append (λ b. b < 256) w (replicate (longest_word - length w) 32) letters
    (All-replicate (λ b. b < 256) (longest_word - length w) 32 (omega arith)) in
    ⊎_elim
    (λ inside. all i 0 inside)
    (λ outside. let none = get_or-eq_default (row_of w) 0 outside in omega (arith, none))
    (cases_lt i (length (row_of w)))

number_below : (word : List ℕ) → FitsRow word → number_of_row (row_of word) < 2 ^ 64
unfolding number_of_row
number_below word fits =
    let byte = row-bytes word fits in
    omega (arith, byte 0, byte 1, byte 2, byte 3, byte 4, byte 5, byte 6, byte 7)

-- the same, as the code has it
pub with_letter_is : (word : List ℕ) (number letters letter x : ℕ) → length word ≡ letters → letters < longest_word → number ≡ number_of_row (row_of word)
    → IsLetter letter → x ≡ letter - 32
    → number + x * 2 ^ (8 * (7 - letters)) % 2 ^ 64 ≡ number_of_row (row_of (word ++ letter ∷ []))
with_letter_is word number letters letter x length_is few number_is l x_is =
    let small : x < 2 ^ 8 = omega (arith, l) in
    let room : 8 + 8 * (7 - letters) ≤ 64 = omega arith in
    let whole : (x * 2 ^ (8 * (7 - letters))) % 2 ^ 64 ≡ x * 2 ^ (8 * (7 - letters)) = shl_whole x 8 (8 * (7 - letters)) 64 small room in
    let more = number_more word letter (subst (λ n. n < longest_word) (sym length_is) few) l in
    ap (λ s. number + s) whole
    ∙ ap (λ n. n + x * 2 ^ (8 * (7 - letters))) number_is
    ∙ ap (λ y. number_of_row (row_of word) + y * 2 ^ (8 * (7 - letters))) x_is
    ∙ ap (λ n. number_of_row (row_of word) + (letter - 32) * 2 ^ (8 * (7 - n))) (sym length_is)
    ∙ sym more

pub with_letter_fits : (word : List ℕ) (number letters letter x : ℕ) → length word ≡ letters → letters < longest_word
    → number ≡ number_of_row (row_of word) → IsLetter letter → x ≡ letter - 32
    → All IsLetter word → number + x * 2 ^ (8 * (7 - letters)) % 2 ^ 64 < 2 ^ 64
with_letter_fits word number letters letter x length_is few number_is l x_is all =
    subst (λ n. n < 2 ^ 64) (sym (with_letter_is word number letters letter x length_is few number_is l x_is))
    (number_below (word ++ letter ∷ []) (record {
      letters = All-append IsLetter word (letter ∷ []) all (All-cons IsLetter letter [] l (All-nil IsLetter));
      short = simp length-append (omega arith);
    }))

-- these are the first i bytes of a text, all of them letters, as the number of a row
pub record HoldsLetters (number : ℕ) (text : List ℕ) (i : ℕ) : Type 0 where
  pub letters : All (λ b. IsTrue (is_ascii_alphabetic b)) (take i text)
  pub few : i ≤ longest_word
  pub number_is : number ≡ number_of_row (row_of (str_to_ascii_lowercase (take i text)))

pub holds-none : (text : List ℕ) → HoldsLetters 0x2020_2020_2020_2020 text 0
unfolding number_of_row
holds-none text = record { letters = All-nil (λ b. IsTrue (is_ascii_alphabetic b)); few = omega arith; number_is = refl }

holds-fits : (text : List ℕ) (number i : ℕ) → HoldsLetters number text i → FitsRow (str_to_ascii_lowercase (take i text))
holds-fits text number i h = fits_from_alphabetic (take i text) (omega (arith, length-take i text, h.few)) h.letters

holds-inside : (text : List ℕ) (number i : ℕ) → HoldsLetters number text i → All (λ b. is_separator b ≡ false) (take i text)
holds-inside text number i h = All-weaker (λ b. IsTrue (is_ascii_alphabetic b)) (λ b. is_separator b ≡ false) letter_in_word (take i text) h.letters

-- what `with_letter` asks for
pub holds-row : (text : List ℕ) (number i : ℕ) → HoldsLetters number text i → i < length text → ¬ (i ≡ longest_word)
    → (word : List ℕ) × (length word ≡ i) × (i < longest_word) × All IsLetter word × (number ≡ number_of_row (row_of word))
holds-row text number i h within other =
    let few : i < longest_word = omega (arith, h.few) in (
      str_to_ascii_lowercase (take i text),
      length-map (take i text) to_ascii_lowercase
          ∙ length-take-le i text (omega arith),
      few,
      (holds-fits text number i h).letters,
      h.number_is,
    )

-- one letter more
pub holds-more : (text : List ℕ) (number next i letter : ℕ) → HoldsLetters number text i → i < length text → ¬ (i ≡ longest_word)
    → is_ascii_alphabetic (get_or text i 0) ≡ true → letter ≡ to_ascii_lowercase (get_or text i 0)
    → ((word : List ℕ) → length word ≡ i → number ≡ number_of_row (row_of word) → next ≡ number_of_row (row_of (word ++ letter ∷ [])))
    → HoldsLetters next text (i + 1)
holds-more text number next i letter h within other alphabetic letter_is next_is = record {
  letters = All-more (λ b. IsTrue (is_ascii_alphabetic b)) text i 0 within h.letters alphabetic;
  few = omega (arith, h.few);
  number_is =
      let front = str_to_ascii_lowercase (take i text) in
      let more : str_to_ascii_lowercase (take (i + 1) text) ≡ front ++ letter ∷ [] =
      ap (map to_ascii_lowercase) (take_more text i 0 within) ∙ map-append to_ascii_lowercase (take i text) (get_or text i 0 ∷ [])
      ∙ ap (λ l. front ++ l ∷ []) (sym letter_is) in
      next_is front (length-map (take i text) to_ascii_lowercase ∙ length-take-le i text (omega arith)) h.number_is
      ∙ ap (λ word. number_of_row (row_of word)) (sym more);
}

-- the letters end at a separator
pub row_at_separator : (text : List ℕ) (number i : ℕ) → HoldsLetters number text i → i < length text → is_separator (get_or text i 0) ≡ true
    → (word : List ℕ) × BeginsWith text word (take (length text - i) (drop i text)) × FitsRow (str_to_ascii_lowercase word) ×
    (number ≡ number_of_row (row_of (str_to_ascii_lowercase word)))
row_at_separator text number i h within separates =
    let rest : take (length text - i) (drop i text) ≡ drop i text = take_rest text i in
    let next : drop i text ≡ get_or text i 0 ∷ drop (i + 1) text = drop_more text i 0 within in (
      take i text,
      record {
        parts = sym (take-append-drop i text) ∙ ap (λ bs. take i text ++ bs) (sym rest);
        inside = holds-inside text number i h;
        behind =
            subst (λ bs. All (λ b. is_separator b ≡ true) (take 1 bs)) (sym (rest ∙ next))
            (All-cons (λ b. is_separator b ≡ true) (get_or text i 0) [] separates (All-nil (λ b. is_separator b ≡ true)));
      },
      holds-fits text number i h,
      h.number_is,
    )

-- or with the text
pub row_at_end : (text : List ℕ) (number i : ℕ) → HoldsLetters number text i → length text ≤ i
    → (word : List ℕ) × BeginsWith text word [] × FitsRow (str_to_ascii_lowercase word) × (number ≡ number_of_row (row_of (str_to_ascii_lowercase word)))
row_at_end text number i h ended = (
  take i text,
  record {
    parts = sym (take_all i text ended) ∙ sym (append-nil (take i text));
    inside = holds-inside text number i h;
    behind = All-nil (λ b. is_separator b ≡ true);
  },
  holds-fits text number i h,
  h.number_is,
)

-- the next byte, which is no separator, belongs to the word too
next_in_word : (text word rest : List ℕ) (number i : ℕ) → HoldsLetters number text i → i < length text → is_separator (get_or text i 0) ≡ false
    → BeginsWith text word rest
    → (i < length word) × (get_or word i 0 ≡ get_or text i 0)
next_in_word text word rest number i h within inside begins =
    within_first text word rest i begins
    (subst (λ n. All (λ b. is_separator b ≡ false) (take n text)) (add-one i)
    (All-more (λ b. is_separator b ≡ false) text i 0 within (holds-inside text number i h) inside))
    within

-- then the word is too long
pub long_unfit : (text word rest : List ℕ) (number i : ℕ) → HoldsLetters number text i → i < length text → is_separator (get_or text i 0) ≡ false
    → BeginsWith text word rest
    → i ≡ longest_word → FitsRow (str_to_ascii_lowercase word) → ⊥
long_unfit text word rest number i h within inside begins full fits =
    omega (arith, short_from_fits word fits, (next_in_word text word rest number i h within inside begins).0)

-- or has a byte that is no letter
pub other_unfit : (text word rest : List ℕ) (number i : ℕ) → HoldsLetters number text i → i < length text → is_separator (get_or text i 0) ≡ false
    → BeginsWith text word rest
    → (is_ascii_alphabetic (get_or text i 0) ≡ true → ⊥) → FitsRow (str_to_ascii_lowercase word) → ⊥
other_unfit text word rest number i h within inside begins other fits =
    let there = next_in_word text word rest number i h within inside begins in
    other (subst (λ b. is_ascii_alphabetic b ≡ true) there.1 (alphabetic_from_fits word fits i 0 there.0))
