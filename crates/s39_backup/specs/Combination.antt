-- What the shares of a quorum combine to (SLIP-0039, "Shamir's secret sharing"). It doesn't depend on the passphrase.
use Rattle.std.specs.Prelude.{◌≡◌, ◌↔◌, ℕ, List, [], length, map, filter, find, Contains, Option, Some, None, nat_lt, Result, Ok, Err, IsSomeAnd}
use Rattle.std.specs.List.{range_with_len}
use Rattle.std.specs.Option.{option_map_or, ok_or}
use Rattle.std.specs.Result.{result_map_both}
use Rattle.arrayvec.specs.ArrayVec.{ArrayVec}
use Rattle.s39_lists.specs.Each.{and_then, each}
use Rattle.s39_split.specs.Recovery.{Combines, combined}
use Rattle.s39_words.specs.declared.ShareFields.{ShareFields}
use Rattle.s39_set.specs.Names.{Name, Names, most_groups, names_in_group}
use Rattle.s39_set.specs.ShareSet.{IsShareSet, has_name}
use Rattle.s39_set.specs.Quorums.{IsQuorum, group_threshold_of, member_threshold_of}
use Rattle.s39_backup.specs.declared.combination.Mismatch.{Mismatch}
use Rattle.s39_backup.specs.declared.combination.Mismatch.TheVariants.{InGroup, OfGroups}

-- the value of the share of a name
abbrev pub value_of : List ShareFields → Name → List ℕ
value_of set name = option_map_or (λ share. share.value.items) (find (has_name name.0 name.1) set) []

-- the shares of a group among these names, each as its member index and its value
abbrev pub member_shares : List ShareFields → Names → ℕ → List (ℕ × List ℕ)
member_shares set names group = map (λ name. (name.1, value_of set name)) (names_in_group group names)

-- the groups that have a name among these
abbrev pub groups_of : Names → List ℕ
groups_of names = filter (λ group. nat_lt 0 (length (names_in_group group names))) (range_with_len 0 most_groups)

-- bytes, as contracts see them
abbrev pub in_bytes : {E : Type 0} → Result (ArrayVec ℕ) E → Result (List ℕ) E
in_bytes result = result_map_both (λ bytes. bytes.items) (λ error. error) result

-- the share of a group, if its shares combine, with the group's index; or the mismatch in this group
abbrev pub share_or_mismatch : ℕ → Option (List ℕ) → Result (ℕ × List ℕ) Mismatch
share_or_mismatch group (Some share) = Ok (group, share)
share_or_mismatch group None = Err (InGroup group)

-- what the shares of a group among these names combine to
abbrev pub group_share : List ShareFields → Names → ℕ → Result (ℕ × List ℕ) Mismatch
group_share set names group = share_or_mismatch group (combined (member_shares set names group))

-- what the names of a quorum combine to: an encrypted secret, or a mismatch of digests, in the lowest group that has
-- one, or else of the groups
unfoldable pub combination_of : List ShareFields → Names → Result (List ℕ) Mismatch
combination_of set names = and_then (λ shares. ok_or (combined shares) OfGroups) (each (group_share set names) (groups_of names))

-- The function combines as the standard says. Each group of a quorum has as many shares as its member threshold, and
-- they combine to what the function takes for their share, and to nothing else.
abbrev pub GroupsAreCombined : Type 0
GroupsAreCombined = (set : List ShareFields) (names : Names) (group : ℕ) (outcome : Option (List ℕ))
    → IsShareSet set → IsQuorum set names → Contains (groups_of names) group
    → IsSomeAnd (member_threshold_of set group) (λ threshold. Combines threshold (member_shares set names group) outcome
    ↔ (outcome ≡ combined (member_shares set names group)))

-- So do the shares of the groups, which are as many as the group threshold.
abbrev pub GroupSharesAreCombined : Type 0
GroupSharesAreCombined = (set : List ShareFields) (names : Names) (shares : List (ℕ × List ℕ)) (outcome : Option (List ℕ))
    → IsShareSet set → IsQuorum set names → each (group_share set names) (groups_of names) ≡ Ok shares
    → IsSomeAnd (group_threshold_of set) (λ threshold. Combines threshold shares outcome ↔ (outcome ≡ combined shares))
