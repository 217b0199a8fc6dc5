-- The written form of names.
use Rattle.std.specs.Prelude.{◌≡◌, ◌≢◌, ◌<◌, ℕ, List, [], ◌∷◌, ◌++◌, map}
use Rattle.std.specs.List.{join_with_byte}
use Rattle.std.specs.Fmt.{decimal}
use Rattle.s39_set.specs.Names.{Name, Names, most_groups, most_members, AreNames}

-- a name: its group and its member index in decimal, and a full stop between them
abbrev pub name_text : Name → List ℕ
name_text name = decimal name.0 ++ 46 ∷ decimal name.1

-- the text is the written form of a name that a share may have
pub record IsNameText (text : List ℕ) (name : Name) : Type 0 where
  pub group : name.0 < most_groups
  pub member : name.1 < most_members
  pub text_is : text ≡ name_text name

-- names one after the other, with a plus sign between each two
abbrev pub quorum_text : Names → List ℕ
quorum_text names = join_with_byte 43 (map name_text names)

-- the text is the written form of these names, of which there is at least one, in order
pub record IsWrittenForm (text : List ℕ) (names : Names) : Type 0 where
  pub some : names ≢ []
  pub are_names : AreNames names
  pub text_is : text ≡ quorum_text names
