-- Random bytes of two backups while they are made to correspond. No public contract cites this.
use Rattle.std.specs.Prelude.{◌≡◌, ℕ, ◌+◌, ◌-◌, ◌<◌, ◌≤◌, List, length, slice_index_or, All, AllPairs}
use Rattle.std.specs.List.{concat}
use Rattle.s39_set.specs.Names.{Names, names_in_group}
use Rattle.s39_backup.specs.declared.plan.Members.{Members}
use Rattle.s39_backup.specs.Correspondence.{CorrespondInEach}

-- indices of shares in order, at most the threshold less two of them, or none
pub record AreKept (threshold count : ℕ) (kept : List ℕ) : Type 0 where
  pub ascending : AllPairs (λ a b. a < b) kept
  pub below : All (λ index. index < count) kept
  pub few : length kept ≤ threshold - 2

-- each group from this one on has the members of its names
abbrev pub AreNamesOfGroups : Names → ℕ → List Members → Type 0
AreNamesOfGroups names group groups = (i : ℕ) (d : Members) → i < length groups
    → All (λ name. name.1 < (slice_index_or groups i d).count) (names_in_group (group + i) names)

-- random bytes of all groups from this one on, in two backups
pub record CorrespondInGroups (names : Names) (group : ℕ) (groups : List Members) (shares others : List (List ℕ))
    (random fitted : List ℕ) : Type 0 where
  pub pieces : List (List ℕ)
  pub fitted_pieces : List (List ℕ)
  pub consumed : random ≡ concat pieces
  pub fitted_consumed : fitted ≡ concat fitted_pieces
  pub each : CorrespondInEach names group groups shares others pieces fitted_pieces
