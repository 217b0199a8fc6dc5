-- The values of a share set's shares.
use Rattle.std.proofs.Common.{◌≡◌, ℕ, zero, suc, ◌≤◌, true, List, [], ◌∷◌, length, find, map, All, Contains, Option, Some, None, inl, inr, refl, sym}
use Rattle.std.proofs.Common.{ap, subst, ◌∙◌, arith}
use Rattle.std.specs.Prelude.{◌==◌}
use Rattle.std.specs.Option.{option_map, option_map_or}
use Rattle.std.proofs.lemmas.Bool.{cases_Bool, cond-true, cond-false, and_from, eq-eqb}
use Rattle.std.proofs.lemmas.List.Elements.{All-head, All-contains}
use Rattle.s39_words.specs.declared.share.ShareFields.{ShareFields}
use Rattle.s39_words.specs.Share.{IsShare}
use Rattle.s39_kdf.specs.Bytes.{AreBytes}
use Rattle.s39_kdf.specs.Limits.{shortest_secret}
use Rattle.s39_set.specs.Names.{Name, most_members}
use Rattle.s39_set.specs.ShareSet.{IsShareSet, name_of, is_in_group, has_name}
use Rattle.s39_set.specs.Quorums.{group_threshold_of, member_threshold_of}
use Rattle.s39_lists.proofs.Finds.{Contains-find}
use Rattle.s39_backup.specs.Combination.{value_of}
use Rattle.s39_backup.specs.GroupShares.{value_bytes_of}

-- a name of a set has a share in it
pub record HasShare (set : List ShareFields) (name : Name) : Type 0 where
  pub share : ShareFields
  pub found : find (has_name name.0 name.1) set ≡ Some share
  pub among : Contains set share

found_share : (set : List ShareFields) (name : Name) → Contains (map name_of set) name
    → (share : ShareFields) × (find (has_name name.0 name.1) set ≡ Some share)
found_share [] name (k, below, here) = absurd (omega arith)
found_share (s ∷ ss) name (zero, below, here) =
    let group : s.group_index ≡ name.0 = ap (λ n. n.0) here in
    let member : s.member_index ≡ name.1 = ap (λ n. n.1) here in
    let passes : has_name name.0 name.1 s ≡ true =
    and_from (s.group_index == name.0) (s.member_index == name.1) (eq-eqb s.group_index name.0 group) (eq-eqb s.member_index name.1 member) in
    (s, cond-true (has_name name.0 name.1 s) (Some s) (find (has_name name.0 name.1) ss) passes)
found_share (s ∷ ss) name (suc k, below, here) =
    elim (cases_Bool (has_name name.0 name.1 s)) [
      | inl yes' ↦ (s, cond-true (has_name name.0 name.1 s) (Some s) (find (has_name name.0 name.1) ss) yes')
      | inr no' ↦ (
          let (t, found) = found_share ss name (k, omega arith, here) in
          (t, cond-false (has_name name.0 name.1 s) (Some s) (find (has_name name.0 name.1) ss) no' ∙ found))
    ]

pub has_share : (set : List ShareFields) (name : Name) → Contains (map name_of set) name → HasShare set name
has_share set name among =
    let (share, found) = found_share set name among in
    record { share = share; found = found; among = Contains-find (has_name name.0 name.1) set share found }

-- the values of a share set have one length
pub values_agree : (set : List ShareFields) → IsShareSet set → All (λ share. length share.value.items ≡ value_bytes_of set) set
values_agree [] is k d below = absurd (omega arith)
values_agree (s ∷ ss) is k d below = (is.agree k d below 0 d (omega arith)).value_length

-- which is long enough for a secret
pub value_bytes-long : (set : List ShareFields) (share : ShareFields) → IsShareSet set → Contains set share → shortest_secret ≤ value_bytes_of set
value_bytes-long set share is among =
    let valid : IsShare share = All-contains IsShare set share is.each among in
    let long : shortest_secret ≤ length share.value.items = valid.value.count.1 in
    let same : length share.value.items ≡ value_bytes_of set =
    All-contains (λ s. length s.value.items ≡ value_bytes_of set) set share (values_agree set is) among in
    omega arith

-- the value of a name
pub bytes-value_of : (set : List ShareFields) (name : Name) → IsShareSet set → Contains (map name_of set) name → AreBytes (value_of set name)
bytes-value_of set name is among =
    let has = has_share set name among in
    subst AreBytes (sym (ap (λ found. option_map_or (λ s. s.value.items) found []) has.found))
    (All-contains IsShare set has.share is.each has.among).value.bytes

pub length-value_of : (set : List ShareFields) (name : Name) → IsShareSet set → Contains (map name_of set) name
    → length (value_of set name) ≡ value_bytes_of set
length-value_of set name is among =
    let has = has_share set name among in
    ap (λ found. length (option_map_or (λ s. s.value.items) found [])) has.found
    ∙ All-contains (λ s. length s.value.items ≡ value_bytes_of set) set has.share (values_agree set is) has.among

-- thresholds are positive
pub member_threshold-positive : (set : List ShareFields) (group threshold : ℕ) → IsShareSet set
    → member_threshold_of set group ≡ Some threshold → (1 ≤ threshold) × (threshold ≤ most_members)
member_threshold-positive set group threshold is e = by (find (is_in_group group) set) refl e
  where
    by : (found : Option ShareFields) → find (is_in_group group) set ≡ found
        → option_map (λ share. share.member_threshold) found ≡ Some threshold → (1 ≤ threshold) × (threshold ≤ most_members)
    by None here h = absurd (let none : None ≡ Some threshold = h in cc)
    by (Some share) here h =
        let valid : IsShare share = All-contains IsShare set share is.each (Contains-find (is_in_group group) set share here) in
        let some : Some share.member_threshold ≡ Some threshold = h in
        let same : share.member_threshold ≡ threshold = cc in
        let low : 1 ≤ share.member_threshold = valid.member_threshold in
        let high : share.member_threshold ≤ most_members = valid.member_threshold_in_range in
        (omega arith, omega arith)

pub group_threshold-positive : (set : List ShareFields) (threshold : ℕ) → IsShareSet set → group_threshold_of set ≡ Some threshold → 1 ≤ threshold
group_threshold-positive [] threshold is e = absurd (let none : None ≡ Some threshold = e in cc)
group_threshold-positive (s ∷ ss) threshold is e =
    let some : Some s.group_threshold ≡ Some threshold = e in
    let same : s.group_threshold ≡ threshold = cc in
    let low : 1 ≤ s.group_threshold = (All-head IsShare s ss is.each).group_threshold in
    omega arith
