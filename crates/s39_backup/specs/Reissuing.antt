-- The steps of a reissue. No public contract cites this.
use Rattle.std.specs.Prelude.{◌≡◌, ◌≢◌, ◌⊎◌, ℕ, ◌<◌, ◌≤◌, ◌&&◌, nat_lt, true, List, length, map, filter, All, AllPairs}
use Rattle.s39_kdf.specs.Limits.{shortest_secret}
use Rattle.s39_split.specs.Sharing.{most_shares, secret_place}
use Rattle.s39_words.specs.declared.share.ShareFields.{ShareFields}
use Rattle.s39_set.specs.Names.{most_groups}
use Rattle.s39_set.specs.ShareSet.{is_in_group}
use Rattle.s39_backup.specs.declared.plan.Members.{Members}
use Rattle.s39_backup.specs.Plan.{IsGroup}
use Rattle.s39_backup.specs.Reissue.{is_at_hand}

-- the members of a group below an index that are at hand
abbrev pub members_below : List ShareFields → ℕ → ℕ → List (ℕ × List ℕ)
members_below set group index =
    map (λ share. (share.member_index, share.value.items)) (filter (λ share. is_in_group group share && nat_lt share.member_index index) set)

-- points that can be completed: at least one, at distinct places, and all of the same length
pub record ArePointsOfOneLevel (bytes : ℕ) (points : List (ℕ × List ℕ)) : Type 0 where
  pub some : 0 < length points
  pub few : length points ≤ most_shares
  pub distinct : AllPairs (λ a b. a.0 ≢ b.0) points
  pub places : All (λ point. (point.0 < most_shares) ⊎ (point.0 ≡ secret_place)) points
  pub lengths : All (λ point. length point.1 ≡ bytes) points
  pub long : shortest_secret ≤ bytes

-- groups of a plan, each once, of which enough members are at hand
pub record AreComplete (set : List ShareFields) (groups : List (ℕ × Members)) : Type 0 where
  pub few : length groups ≤ most_groups
  pub distinct : AllPairs (λ a b. a.0 ≢ b.0) groups
  pub indices : All (λ group. group.0 < most_groups) groups
  pub are_groups : All (λ group. IsGroup group.1) groups
  pub at_hand : All (λ group. is_at_hand set group ≡ true) groups
