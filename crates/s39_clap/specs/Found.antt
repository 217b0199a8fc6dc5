-- What is found for a command's arguments in words that it takes.
use Rattle.std.specs.Prelude.{◌≡◌, ℕ, option_map, ◌⊎◌, ◌&&◌, ◌||◌, Bool, true, false, not, List, [], ◌∷◌, nat_lt, filter, Option, Some, codes}
use Rattle.std.specs.List.{list_all}
use Rattle.std.specs.Str.{bytes_eq}
use Rattle.std.specs.Str.Parse.{digits_value, without_leading_plus}
use Rattle.clap.specs.Facts.{unwrap_or_range}
use Rattle.clap.specs.Takes.{value_passes, values_pass}
use Rattle.clap.specs.Values.{is_request, read_as}
use Rattle.clap.specs.Walk.{action_of, has_row, reading_by}
use Rattle.clap.specs.Words.{App, Row, Rule, Shape, Text, built, first_of, one_of, subcommand_of, takes}
use Rattle.clap.specs.declared.builder.action.ArgAction.{ArgAction}
use Rattle.clap.specs.declared.builder.action.ArgAction.TheVariants.{Set, SetTrue, SetFalse}
use Rattle.clap.specs.declared.builder.value_parser.ValueParser.TheVariants.{Bool as flag_parser}

-- the values of a use replace those before it
abbrev pub is_setting : ArgAction → Bool
is_setting Set = true
is_setting SetTrue = true
is_setting SetFalse = true
is_setting _ = false

-- there is a text
abbrev pub has_some : List Text → Bool
has_some [] = false
has_some (text ∷ rest) = true

-- each use of the argument gives it at least one value, or asks for a text
abbrev pub gives_a_value : Rule → Bool
gives_a_value a = is_request (action_of a) || (is_setting (action_of a)
    && (nat_lt 0 (unwrap_or_range a.range).start_inclusive || has_some a.missing))

-- this holds for each argument of the level, which may be used once
abbrev pub is_single : Shape → Bool
is_single s = not s.args_override_self && list_all gives_a_value s.rules

-- the row has values of this argument, which its parser accepts
pub record Fits (a : Rule) (r : Row) : Type 0 where
  pub id : bytes_eq a.id r.id ≡ true
  pub reading : r.reading ≡ reading_by a
  pub some : has_some r.values ≡ true
  pub passes : values_pass a r.values ≡ true

-- the row has values of one of the arguments
abbrev pub FitsOne : List Rule → Row → Type 0
FitsOne [] r = ⊥
FitsOne (a ∷ rest) r = Fits a r ⊎ FitsOne rest r

abbrev pub AllFit : List Rule → List Row → Type 0
AllFit rules [] = Unit {0}
AllFit rules (r ∷ rest) = FitsOne rules r × AllFit rules rest

-- what is found has values of the arguments, and of each argument that is required or has a default
pub record IsFilled (rules : List Rule) (rows : List Row) : Type 0 where
  pub fits : AllFit rules rows
  pub present : list_all (λ a. not (a.required || has_some a.defaults) || has_row a.id rows)
      rules ≡ true

-- the name of one of the subcommands, and what is found for its arguments
abbrev pub EntersOne : List Shape → Option (Text × List Row) → Type 0
EntersOne [] found = ⊥
EntersOne (s ∷ rest) found =
    ((rows : List Row) × (found ≡ Some (s.name, rows)) × IsFilled s.rules rows)
    ⊎ EntersOne rest found

-- words that a command takes name one of its subcommands, if it requires one
abbrev pub TakenWordsEnterOne : Type 0
TakenWordsEnterOne = (a : App) (words : List Text)
    → list_all is_single (built a).subs ≡ true → (built a).top.subcommand_required ≡ true
    → takes a words ≡ true → EntersOne (built a).subs (subcommand_of a words)

-- the argument is the only one with the id
abbrev pub IsOnly : Rule → Text → List Rule → Type 0
IsOnly a id rules = filter (λ b. bytes_eq b.id id) rules ≡ a ∷ []

-- the first value that is found for the id is this text, which the argument's parser accepts
pub record HasValue (a : Rule) (id : Text) (rows : List Row) (text : Text) : Type 0 where
  pub first : first_of id rows ≡ Some text
  pub read : one_of id rows ≡ Some (read_as (reading_by a) text)
  pub passes : value_passes a text ≡ true

-- an argument that is required or has a default has a value
abbrev pub ArgumentsHaveValues : Type 0
ArgumentsHaveValues = (rules : List Rule) (rows : List Row) (a : Rule) (id : Text)
    → IsOnly a id rules → (a.required || has_some a.defaults) ≡ true → IsFilled rules rows
    → (text : Text) × HasValue a id rows text

-- a flag that is required or has a default has the value true or false
abbrev pub FlagsAreSaidOrNot : Type 0
FlagsAreSaidOrNot = (rules : List Rule) (rows : List Row) (a : Rule) (id : Text)
    → IsOnly a id rules → (a.required || has_some a.defaults) ≡ true → a.parser ≡ Some flag_parser
    → IsFilled rules rows
    → (one_of id rows ≡ Some (codes "true")) ⊎ (one_of id rows ≡ Some (codes "false"))

-- the number that the first value found for the id writes in decimal
abbrev pub HasNumber : Text → List Row → ℕ → Type 0
HasNumber id rows n =
    option_map (λ text. digits_value 10 (without_leading_plus text)) (one_of id rows) ≡ Some n
