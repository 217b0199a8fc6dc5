-- Words that are written out.
use Rattle.std.proofs.Common.{◌≡◌, ◌∙◌, ◌==◌, ℕ, Bool, false, true, not, map, flat_map, List, [], ◌∷◌, codes, Some, ap, inl, inr, refl, sym, true≢false}
use Rattle.std.specs.List.{list_all}
use Rattle.clap.specs.Words.{Text}
use Rattle.clap.proofs.WalkLemmas.{both}
use Rattle.s39_clap.specs.Arguments.{AreWordsOf, AreWordsOfAll, Given, option, flag, positional}
use Rattle.s39_clap.specs.Options.{HasNoDash, joined_word, name_word}
use Rattle.s39_clap.proofs.FoundArguments.{are_given_to, given_to}
use Rattle.s39_command.specs.Words.{AreWords, command_of}
use Rattle.s39_command.proofs.Jobs.{shape_at}

-- a text that begins with another letter
abbrev begins : Text → ℕ
begins [] = 0
begins (x ∷ xs) = x

pub no_dash : (text : Text) → (begins text == 45) ≡ false → HasNoDash text
no_dash text differs rest same = true≢false (sym (ap (λ (t : Text). begins t == 45) same) ∙ differs)

-- an argument that is written out: an option in one word or in two, a flag, or a positional
pub data Written : Type 0 where
  joined : Text → Text → Written
  apart : Text → Text → Written
  said : Text → Written
  placed : Text → Text → Written

abbrev pub given_by : Written → Given
given_by (joined name value) = option name value
given_by (apart name value) = option name value
given_by (said name) = flag name
given_by (placed name value) = positional name value

abbrev pub words_by : Written → List Text
words_by (joined name value) = joined_word name value ∷ []
words_by (apart name value) = name_word name ∷ value ∷ []
words_by (said name) = name_word name ∷ []
words_by (placed name value) = value ∷ []

-- no word that is a value begins with a dash
abbrev pub is_plain : Written → Bool
is_plain (joined name value) = true
is_plain (apart name value) = not (begins value == 45)
is_plain (said name) = true
is_plain (placed name value) = not (begins value == 45)

is_no : (b : Bool) → not b ≡ true → b ≡ false
is_no false is = refl
is_no true is = absurd (true≢false (sym is))

one_written : (w : Written) → is_plain w ≡ true → AreWordsOf (given_by w) (words_by w)
one_written (joined name value) plain = inl refl
one_written (apart name value) plain = inr (no_dash value (is_no (begins value == 45) plain), refl)
one_written (said name) plain = refl
one_written (placed name value) plain = (no_dash value (is_no (begins value == 45) plain), refl)

all_written : (all : List Written) → list_all is_plain all ≡ true → AreWordsOfAll (map given_by all) (flat_map words_by all)
all_written [] plain = refl
all_written (w ∷ rest) plain =
    let parts = both (is_plain w) (list_all is_plain rest) plain in
    (words_by w, flat_map words_by rest, refl, one_written w parts.0, all_written rest parts.1)

-- the words of the command at a place
pub written : (i : ℕ) (name : Text) (all : List Written) → command_of name ≡ Some (shape_at i) → are_given_to (shape_at i) (map given_by all) ≡ true
    → list_all is_plain all ≡ true → AreWords name (map given_by all) (codes "shamir" ∷ name ∷ flat_map words_by all)
written i name all named fit plain = record {
  program = codes "shamir";
  command = shape_at i;
  level = flat_map words_by all;
  named = named;
  fit = given_to (shape_at i) (map given_by all) fit;
  level_words = all_written all plain;
  words_are = refl;
}
