-- The words of a command: they are taken, and what is found in them.
use Rattle.std.proofs.Common.{◌≡◌, ◌∙◌, List, Option, Some, None, ap, is_some, not, option_map, refl, subst, true, true≢false, sym}
use Rattle.std.specs.Prelude.{find, option_and_then, slice_get}
use Rattle.std.specs.List.{list_all}
use Rattle.std.specs.Option.{option_or}
use Rattle.std.specs.Str.{bytes_eq}
use Rattle.clap.specs.Walk.{answers_to}
use Rattle.clap.specs.Simple.{label_of}
use Rattle.clap.specs.Words.{Row, Shape, Text, first_of}
use Rattle.s39_clap.specs.Arguments.{Given, given_for}
use Rattle.s39_clap.proofs.Arguments.{row_at}
use Rattle.s39_clap.proofs.FoundArguments.{AreRead, IsPlainApp, default_row, found_one_of, words_are_read}
use Rattle.s39_command.specs.Command.{commands, shamir_app}
use Rattle.s39_command.specs.Words.{AreWords, WordsAreTaken, command_of}

plain_app : IsPlainApp shamir_app
unfolding shamir_app
plain_app = record { simple = refl; program_first = refl; no_help = refl; defaults = refl; valid = refl; commands = refl }

module _ (name : Text) (given : List Given) (words : List Text) (are : AreWords name given words) where
  pub read : AreRead shamir_app name are.command given words
  read = subst (AreRead shamir_app name are.command given) (sym are.words_are)
      (words_are_read shamir_app plain_app name are.command are.named are.program given are.fit are.level are.level_words)

  -- the text of an argument without a default is what is given for it
  pub text_is : (id : Text) → list_all (λ s. not (is_some (default_row id s.rules))) commands ≡ true → first_of id read.rows ≡ given_for given id
  text_is id none =
      ap (option_and_then (λ (r : Row). slice_get r.values 0)) (read.found id)
      ∙ ap (λ (o : Option Row). option_and_then (λ (r : Row). slice_get r.values 0) (option_or (option_map (row_at are.command id) (given_for given id)) o))
      (missing (default_row id are.command.rules)
      (found_one_of (λ s. answers_to name (label_of s)) (λ s. not (is_some (default_row id s.rules))) commands are.command none are.named))
      ∙ only (given_for given id)
    where
      missing : (o : Option Row) → not (is_some o) ≡ true → o ≡ None
      missing None is = refl
      missing (Some r) is = absurd (true≢false (sym is))

      only : (o : Option Text) → option_and_then (λ (r : Row). slice_get r.values 0) (option_or (option_map (row_at are.command id) o) None) ≡ o
      only None = refl
      only (Some text) = refl

  -- of an argument with one, what is given or else the default is found
  pub read_is : (s : Shape) → command_of name ≡ Some s → (id : Text)
      → find (λ r. bytes_eq r.id id) read.rows ≡ option_or (option_map (row_at s id) (given_for given id)) (default_row id s.rules)
  read_is s named id =
      let same : are.command ≡ s = let both : Some are.command ≡ Some s = sym are.named ∙ named in cc in
      read.found id ∙ ap (λ (x : Shape). option_or (option_map (row_at x id) (given_for given id)) (default_row id x.rules)) same

pub words_are_taken : WordsAreTaken
words_are_taken name given words are = (read name given words are).taken
