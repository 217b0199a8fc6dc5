-- Groups of which enough members are there.
use Rattle.std.specs.Prelude.{ℕ, ◌+◌, ◌-◌, List, length, filter, take, Option, Bool, false, nat_le, unwrap_or}
use Rattle.std.specs.List.{range_with_len}
use Rattle.std.specs.Option.{option_map_or}
use Rattle.s39_set.specs.Names.{Names, most_groups, names_in_group}

-- these names have at least a group's member threshold of its members
abbrev pub is_complete : (ℕ → Option ℕ) → Names → ℕ → Bool
is_complete member_threshold names group =
    option_map_or (λ threshold. nat_le threshold (length (names_in_group group names))) (member_threshold group) false

-- the complete groups
abbrev pub complete_groups : (ℕ → Option ℕ) → Names → List ℕ
complete_groups member_threshold names = filter (is_complete member_threshold names) (range_with_len 0 most_groups)

-- The first and the next quorum; no public contract cites these.

-- the first members of a group, as many as its threshold asks
abbrev pub first_members : (ℕ → Option ℕ) → Names → ℕ → Names
first_members member_threshold names group =
    take (unwrap_or (member_threshold group) 0) (names_in_group group names)

-- the groups above one
abbrev pub groups_above : ℕ → List ℕ
groups_above group = range_with_len (group + 1) (most_groups - (group + 1))
