-- The words of a command: what is given to it, in whatever order.
use Rattle.std.specs.Prelude.{◌≡◌, ℕ, true, List, ◌∷◌, find, Option, Some, pos}
use Rattle.std.specs.Str.Parse.{digits_value, without_leading_plus}
use Rattle.clap.specs.Lexer.{without_minus}
use Rattle.clap.specs.Simple.{label_of}
use Rattle.clap.specs.Walk.{answers_to}
use Rattle.clap.specs.Words.{IsSignedIn, Shape, Text, takes}
use Rattle.s39_clap.specs.Arguments.{AreGivenTo, AreWordsOfAll, Given}
use Rattle.s39_command.specs.declared.command.Call.{Call}
use Rattle.s39_command.specs.Command.{AreSameCalls, GivesCall, commands, shamir_app}

-- the command of this name
abbrev pub command_of : Text → Option Shape
command_of name = find (λ s. answers_to name (label_of s)) commands

-- These are words of the command of this name, to which these arguments are given in this order, `shamir NAME ARGUMENT ..`. The
-- first word is any name of the program. The arguments are the command's, no two of them are the same one, and their texts are
-- accepted: a limit and an exponent are numbers in their ranges.
pub record AreWords (name : Text) (given : List Given) (words : List Text) : Type 0 where
  pub program : Text
  pub command : Shape
  pub level : List Text
  pub named : command_of name ≡ Some command
  pub fit : AreGivenTo command given
  pub level_words : AreWordsOfAll given level
  pub words_are : words ≡ program ∷ name ∷ level

-- the definition of the command line takes them, whatever the order of the arguments is
abbrev pub WordsAreTaken : Type 0
WordsAreTaken = (name : Text) (given : List Given) (words : List Text) → AreWords name given words → takes shamir_app words ≡ true

-- the text writes a limit: a number from 1 to 4294967295
abbrev pub IsLimit : Text → Type 0
IsLimit text = IsSignedIn (pos 1) (pos 4294967295) text

-- the text writes an exponent: a number from 0 to 15
abbrev pub IsExponent : Text → Type 0
IsExponent text = IsSignedIn (pos 0) (pos 15) text

-- the number that such a text writes
abbrev pub number_in : Text → ℕ
number_in text = digits_value 10 (without_leading_plus (without_minus text))

-- words give one call: its values, and the files of values, are the same whatever call they give
abbrev pub OneCall : Type 0
OneCall = (words : List Text) (call other : Call) → GivesCall words call → GivesCall words other → AreSameCalls call other
