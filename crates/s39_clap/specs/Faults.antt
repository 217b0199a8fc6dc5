-- What the first failing step may say, in a command whose arguments have no rules on one another.
use Rattle.std.specs.Prelude.{◌≡◌, ◌⊎◌, ◌&&◌, Bool, true, false, List, [], ◌∷◌}
use Rattle.std.specs.List.{list_all}
use Rattle.clap.specs.Words.{App, Kinds, Shape, Text, built, fault_of, is_simple, takes}
use Rattle.clap.specs.Takes.{default_passes}
use Rattle.clap.specs.declared.error.kind.ErrorKind.{ErrorKind}
use Rattle.clap.specs.declared.error.kind.ErrorKind.TheVariants.{DisplayHelp, DisplayVersion}

-- the kind is a mistake in the words, and no request for a text
abbrev pub is_mistake : ErrorKind → Bool
is_mistake DisplayHelp = false
is_mistake DisplayVersion = false
is_mistake _ = true

-- the words ask for help alone, or for the version alone, or all kinds are mistakes
abbrev pub IsRequestOrMistakes : Kinds → Type 0
IsRequestOrMistakes kinds = (kinds ≡ DisplayHelp ∷ [])
    ⊎ ((kinds ≡ DisplayVersion ∷ []) ⊎ (list_all is_mistake kinds ≡ true))

-- there is no subcommand `help`, no argument has a rule on another one, and the defaults are accepted
abbrev pub is_settled : Shape → Bool
is_settled s = s.disable_help_subcommand
    && (list_all default_passes s.rules && list_all (λ a. a.is_free) s.rules)

-- the command is simple, and this holds for it and its subcommands
abbrev pub is_settled_app : App → Bool
is_settled_app a =
    is_simple a && (is_settled (built a).top && list_all is_settled (built a).subs)

-- words in which no step fails are taken
abbrev pub FaultlessWordsAreTaken : Type 0
FaultlessWordsAreTaken = (a : App) (words : List Text) → is_settled_app a ≡ true
    → fault_of a words ≡ [] → takes a words ≡ true

-- words ask for help alone, or for the version alone, or have mistakes, or have no fault
abbrev pub FaultsAreOneRequestOrMistakes : Type 0
FaultsAreOneRequestOrMistakes = (a : App) (words : List Text) → is_settled_app a ≡ true
    → IsRequestOrMistakes (fault_of a words)
