-- The words of a command's arguments, in whatever order.
use Rattle.std.specs.Prelude.{◌≡◌, ◌==◌, ◌+◌, ◌&&◌, ◌||◌, ◌++◌, ℕ, Bool, true, false, not, List, [], ◌∷◌, codes, find, min, Option, Some, None, is_some, option_map}
use Rattle.std.specs.List.{list_all}
use Rattle.std.specs.Str.{bytes_eq}
use Rattle.clap.specs.Facts.{parser_of_value, unwrap_or_range}
use Rattle.clap.specs.Lexer.{has_byte, usize_max}
use Rattle.clap.specs.Values.{Accepts}
use Rattle.clap.specs.Walk.{Rule, Text, action_of, arg_by_index, arg_by_long, most_values}
use Rattle.clap.specs.Simple.{Shape}
use Rattle.clap.specs.declared.builder.action.ArgAction.{ArgAction}
use Rattle.clap.specs.declared.builder.action.ArgAction.TheVariants.{Set, SetTrue}
use Rattle.s39_clap.specs.Found.{has_some}
use Rattle.s39_clap.specs.Options.{AreOptionWords, HasNoDash, name_word}

-- what is given for the argument of a name: an option with its value, a flag, or the value of a positional
pub data Given : Type 0 where
  option : Text → Text → Given
  flag : Text → Given
  positional : Text → Text → Given

abbrev pub name_of : Given → Text
name_of (option name value) = name
name_of (flag name) = name
name_of (positional name value) = name

-- the text that it gives
abbrev pub value_of : Given → Text
value_of (option name value) = value
value_of (flag name) = codes "true"
value_of (positional name value) = value

-- the text that is given for the argument of this name, if one is
abbrev pub given_for : List Given → Text → Option Text
given_for given name = option_map value_of (find (λ g. bytes_eq (name_of g) name) given)

-- these are its words
abbrev pub AreWordsOf : Given → List Text → Type 0
AreWordsOf (option name value) words = AreOptionWords name value words
AreWordsOf (flag name) words = words ≡ name_word name ∷ []
AreWordsOf (positional name value) words = HasNoDash value × (words ≡ value ∷ [])

-- these are the words of all, one after the other
abbrev pub AreWordsOfAll : List Given → List Text → Type 0
AreWordsOfAll [] words = words ≡ []
AreWordsOfAll (g ∷ rest) words =
    (first later : List Text) × (words ≡ first ++ later) × AreWordsOf g first × AreWordsOfAll rest later

-- the name is one that `--` and `--name=value` can say
abbrev pub is_sayable : Text → Bool
is_sayable [] = false
is_sayable (c ∷ rest) = not (has_byte 61 (c ∷ rest))

abbrev pub is_set : ArgAction → Bool
is_set Set = true
is_set _ = false

abbrev pub is_set_true : ArgAction → Bool
is_set_true SetTrue = true
is_set_true _ = false

-- a use takes so many values
abbrev pub takes_just : ℕ → Rule → Bool
takes_just n a = ((unwrap_or_range a.range).start_inclusive == n) && (most_values a == n)

-- a use sets the argument to one value
abbrev pub takes_one : Rule → Bool
takes_one a = is_set (action_of a) && takes_just 1 a

abbrev pub says_true : List Text → Bool
says_true [] = false
says_true (text ∷ rest) = bytes_eq text (codes "true") && not (has_some rest)

-- the argument is of the kind that is given
abbrev pub is_kind : Rule → Given → Bool
is_kind a (option name value) = is_sayable name && takes_one a
is_kind a (flag name) = is_sayable name && (is_set_true (action_of a) && (takes_just 0 a && says_true a.missing))
is_kind a (positional name value) = takes_one a && not a.trailing_var_arg

-- the argument of a level that is given, if the next positional is the one at this place; and the place of the next one then
abbrev pub met_at : List Rule → ℕ → Given → Option Rule
met_at rules place (positional name value) = arg_by_index rules place
met_at rules place given = arg_by_long rules (name_of given)

abbrev pub place_after : ℕ → Given → ℕ
place_after place (positional name value) = min (place + 1) usize_max
place_after place given = place

-- from this place on, each is given to an argument of the level of its name and kind, which accepts its text, and none twice
abbrev pub AreGivenFrom : List Rule → ℕ → List Given → Type 0
AreGivenFrom rules place [] = Unit {0}
AreGivenFrom rules place (g ∷ rest) = (a : Rule) × (met_at rules place g ≡ Some a) × (a.id ≡ name_of g) × (is_kind a g ≡ true)
    × Accepts a.ignore_case (parser_of_value a.parser) (value_of g) × (given_for rest (name_of g) ≡ None)
    × AreGivenFrom rules (place_after place g) rest

-- they are arguments of the command, and none is missing that it requires
pub record AreGivenTo (s : Shape) (given : List Given) : Type 0 where
  pub each : AreGivenFrom s.rules 1 given
  pub complete : list_all (λ a. not a.required || is_some (given_for given a.id)) s.rules ≡ true
