-- How many quorums a set has.
use Rattle.std.specs.Prelude.{◌≡◌, ℕ, zero, suc, ◌+◌, ◌-◌, ◌*◌, ◌^◌, ◌<◌, min, List, [], ◌∷◌, length, map, replicate, slice_index_or}
use Rattle.std.specs.List.{range_with_len}
use Rattle.std.specs.Option.{option_map_or}
use Rattle.s39_words.specs.declared.share.ShareFields.{ShareFields}
use Rattle.s39_set.specs.Names.{most_groups, names_in_group}
use Rattle.s39_set.specs.ShareSet.{name_of}
use Rattle.s39_set.specs.Quorums.{group_threshold_of, member_threshold_of}

-- each number says in how many ways a part can be used: in how many ways this number of the parts can be chosen and used
abbrev pub ways : List ℕ → ℕ → ℕ
ways [] zero = 1
ways [] (suc chosen) = 0
ways (uses ∷ others) zero = 1
ways (uses ∷ others) (suc chosen) = ways others (suc chosen) + uses * ways others chosen

-- in how many ways this number of things can be chosen
abbrev pub choices : ℕ → ℕ → ℕ
choices things chosen = ways (replicate things 1) chosen

-- in how many ways as many members of a group as its threshold says can be chosen from those at hand
abbrev pub member_choices : List ShareFields → ℕ → ℕ
member_choices set group =
    option_map_or (choices (length (names_in_group group (map name_of set)))) (member_threshold_of set group) 0

-- in how many ways as many groups as the group threshold says can be chosen, and then the members of each
abbrev pub quorum_count : List ShareFields → ℕ
quorum_count set = option_map_or (ways (map (member_choices set) (range_with_len 0 most_groups))) (group_threshold_of set) 0

-- What the count keeps; no public contract cites this.

-- the greatest number that a count tells
abbrev pub most_counted : ℕ
most_counted = 2 ^ 64 - 1

-- how many numbers of parts are counted: none up to 16
abbrev pub most_counts : ℕ
most_counts = 17

-- the table says for each number of parts in how many ways it can be chosen and used, up to the greatest number
abbrev pub AreWays : List ℕ → List ℕ → Type 0
AreWays table uses = (chosen : ℕ) → chosen < most_counts → slice_index_or table chosen 0 ≡ min (ways uses chosen) most_counted
