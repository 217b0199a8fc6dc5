-- A set has enough complete groups where it has a quorum.
use Rattle.std.proofs.Common.{◌≤◌, List, [], ◌∷◌, length, map, Contains, IsTrue, inl, inr, arith}
use Rattle.std.proofs.lemmas.Bool.{leb-true, le-leb, false≢true}
use Rattle.s39_words.specs.declared.share.ShareFields.{ShareFields}
use Rattle.s39_set.specs.Names.{Names}
use Rattle.s39_set.specs.Groups.{complete_groups}
use Rattle.s39_set.specs.ShareSet.{IsShareSet, name_of}
use Rattle.s39_set.specs.Quorums.{member_threshold_of, MeetsThresholds, IsQuorum}
use Rattle.s39_set.specs.Lack.{IsLack}
use Rattle.s39_set.specs.Status.{has_enough}
use Rattle.s39_set.specs.declared.set_lack.SetLack.{SetLack}
use Rattle.s39_lists.proofs.Sublists.{each, length-sublist}
use Rattle.s39_set.proofs.Ascending.{names-sublist}
use Rattle.s39_set.proofs.CompleteGroups.{complete_groups-sublist}
use Rattle.s39_set.proofs.SetQuorums.{first_or_lack, no_lack-from_meets}

-- all names of a set that has enough meet its thresholds
meets_from_enough : (set : List ShareFields) → IsShareSet set → IsTrue (has_enough set) → MeetsThresholds set (map name_of set)
meets_from_enough [] is enough = absurd (false≢true enough)
meets_from_enough (share ∷ shares) is enough =
    let set = share ∷ shares in
    let names = map name_of set in
    record {
      at_hand = record { ascending = is.ascending; at_hand = each (Contains names) names (λ name among. among) };
      groups = leb-true share.group_threshold (length (complete_groups (member_threshold_of set) names)) enough;
    }

pub no_lack_from_enough : (set : List ShareFields) → IsShareSet set → IsTrue (has_enough set) → (lack : SetLack) → ¬ IsLack set lack
no_lack_from_enough set is enough = no_lack-from_meets set (map name_of set) (meets_from_enough set is enough)

pub quorum_from_enough : (set : List ShareFields) → IsShareSet set → IsTrue (has_enough set) → (names : Names) × IsQuorum set names
quorum_from_enough set is enough =
    elim (first_or_lack set is) [
      | inl (names, first) ↦ (names, first.quorum)
      | inr (lack, lacks) ↦ absurd (no_lack_from_enough set is enough lack lacks)
    ]

-- and a set with a quorum has enough
pub enough_from_quorum : (set : List ShareFields) → IsShareSet set → (names : Names) → IsQuorum set names → IsTrue (has_enough set)
enough_from_quorum [] is names quorum = absurd quorum.meets.groups
enough_from_quorum (share ∷ shares) is names quorum =
    let set = share ∷ shares in
    let all = map name_of set in
    let own = quorum.meets.at_hand in
    let part = names-sublist all names is.ascending own.ascending own.at_hand in
    let few : share.group_threshold ≤ length (complete_groups (member_threshold_of set) names) = quorum.meets.groups in
    le-leb share.group_threshold (length (complete_groups (member_threshold_of set) all))
    (omega (arith, few, length-sublist (complete_groups-sublist (member_threshold_of set) part)))

pub enough_from_no_lack : (set : List ShareFields) → IsShareSet set → ((lack : SetLack) → ¬ IsLack set lack) → IsTrue (has_enough set)
enough_from_no_lack set is none =
    elim (first_or_lack set is) [
      | inl (names, first) ↦ enough_from_quorum set is names first.quorum
      | inr (lack, lacks) ↦ absurd (none lack lacks)
    ]
