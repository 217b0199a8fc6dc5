-- What a set has of its groups, and whether that is enough.
use Rattle.std.specs.Prelude.{ℕ, List, length, map, Option, Bool, false, nat_le}
use Rattle.std.specs.Option.{option_map, option_map_or}
use Rattle.s39_words.specs.declared.share.ShareFields.{ShareFields}
use Rattle.s39_set.specs.Names.{names_in_group}
use Rattle.s39_set.specs.Groups.{complete_groups}
use Rattle.s39_set.specs.ShareSet.{name_of}
use Rattle.s39_set.specs.Quorums.{group_threshold_of, member_threshold_of}
use Rattle.s39_set.specs.declared.status.Status.{Status}
use Rattle.s39_set.specs.declared.status.GroupStatus.{GroupStatus}

-- how many groups of a set have at least their member threshold of shares, and its group threshold; of an empty set none
abbrev pub status_of : List ShareFields → Option Status
status_of set = option_map (λ required. record {
  complete = length (complete_groups (member_threshold_of set) (map name_of set));
  required = required;
}) (group_threshold_of set)

-- at least as many groups are complete as are needed
abbrev pub is_enough : Status → Bool
is_enough status = nat_le status.required status.complete

-- a set has shares, and enough of its groups are complete
abbrev pub has_enough : List ShareFields → Bool
has_enough set = option_map_or is_enough (status_of set) false

-- what a set has of a group of which it has a share: the group's member threshold, and the names of its shares in order
abbrev pub group_status_of : List ShareFields → ℕ → Option GroupStatus
group_status_of set group = option_map (λ threshold. record {
  group = group;
  threshold = threshold;
  names = names_in_group group (map name_of set);
}) (member_threshold_of set group)
