-- The words of an option with a value.
use Rattle.std.specs.Prelude.{◌≡◌, ◌⊎◌, ◌++◌, List, [], ◌∷◌, codes}
use Rattle.clap.specs.Words.{Text}

-- the text doesn't begin with a dash
abbrev pub HasNoDash : Text → Type 0
HasNoDash text = (rest : Text) → ¬ (text ≡ codes "-" ++ rest)

-- `--name`
abbrev pub name_word : Text → Text
name_word name = codes "--" ++ name

-- `--name=value`
abbrev pub joined_word : Text → Text → Text
joined_word name value = codes "--" ++ (name ++ (codes "=" ++ value))

-- the words of an option of this name with this value: the one word `--name=value`, or the two words
-- `--name` and `value`, if the second doesn't begin with a dash
abbrev pub AreOptionWords : Text → Text → List Text → Type 0
AreOptionWords name value words = (words ≡ joined_word name value ∷ [])
    ⊎ (HasNoDash value × (words ≡ name_word name ∷ value ∷ []))
