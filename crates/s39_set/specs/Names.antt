-- The names of shares, each a group index and a member index.
use Rattle.std.specs.Prelude.{◌≡◌, ℕ, ◌<◌, List, ◌==◌, All, AllPairs, filter}
use Rattle.std.specs.Ordering.{nat_cmp, ordering_then}
use Rattle.std.specs.declared.cmp.Ordering.{Ordering}
use Rattle.std.specs.declared.cmp.Ordering.TheVariants.{Less}
use Rattle.std.specs.Cmp.Lexicographic.{slice_cmp}
-- a backup has at most this number of groups, and a group at most this number of members
pub use Rattle.s39_words.specs.Layout.{most_groups, most_members}

-- how many names there are
abbrev pub most_names : ℕ
most_names = 256

-- the name of a share: its group index and its member index
abbrev pub Name : Type 0
Name = ℕ × ℕ

-- names of shares
abbrev pub Names : Type 0
Names = List Name

-- names are compared by group, then by member
abbrev pub name_cmp : Name → Name → Ordering
name_cmp a b = ordering_then (nat_cmp a.0 b.0) (nat_cmp a.1 b.1)

-- lists of names are compared name by name
abbrev pub names_cmp : Names → Names → Ordering
names_cmp some others = slice_cmp name_cmp some others

-- the lists of names are in ascending order, and no two are the same
abbrev pub AreInOrder : List Names → Type 0
AreInOrder lists = AllPairs (λ a b. names_cmp a b ≡ Less) lists

-- each name comes before all later ones
abbrev pub IsAscending : Names → Type 0
IsAscending names = AllPairs (λ a b. name_cmp a b ≡ Less) names

-- the names of a group
abbrev pub names_in_group : ℕ → Names → Names
names_in_group group names = filter (λ name. name.0 == group) names

-- names in order, of groups and members that a backup may have
pub record AreNames (names : Names) : Type 0 where
  pub ascending : IsAscending names
  pub groups : All (λ name. name.0 < most_groups) names
  pub members : All (λ name. name.1 < most_members) names
