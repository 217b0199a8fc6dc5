-- The shares of one level, as they are combined. No public contract cites this.
use Rattle.std.specs.Prelude.{◌≡◌, ◌≢◌, ℕ, ◌<◌, ◌≤◌, List, [], ◌∷◌, length, filter, nat_lt, All, AllPairs, Option, Result}
use Rattle.std.specs.List.{range_with_len, filter_map}
use Rattle.std.specs.Option.{option_map}
use Rattle.std.specs.Result.{result_map_both}
use Rattle.arrayvec.specs.ArrayVec.{ArrayVec}
use Rattle.s39_kdf.specs.Limits.{shortest_secret}
use Rattle.s39_split.specs.Sharing.{most_shares}
use Rattle.s39_words.specs.declared.ShareFields.{ShareFields}
use Rattle.s39_set.specs.Names.{Names, names_in_group}
use Rattle.s39_set.specs.ShareSet.{IsShareSet}
use Rattle.s39_set.specs.Quorums.{HasJustTheGroups}

-- each group share's index and bytes
abbrev pub indexed_group_shares : List (Option (ℕ × ArrayVec ℕ)) → List (ℕ × List ℕ)
indexed_group_shares shares = filter_map (λ place. option_map (λ share. (share.0, share.1.items)) place) shares

-- the same of an answer
abbrev pub in_pairs : {E : Type 0} → Result (ArrayVec (Option (ℕ × ArrayVec ℕ))) E → Result (List (ℕ × List ℕ)) E
in_pairs result = result_map_both (λ shares. indexed_group_shares shares.items) (λ error. error) result

-- the length of the values of a set's shares, in which they agree
abbrev pub value_bytes_of : List ShareFields → ℕ
value_bytes_of [] = 0
value_bytes_of (share ∷ shares) = length share.value.items

-- names with exactly as many groups and members as the thresholds of a share set ask for
pub record IsExactQuorum (set : List ShareFields) (names : Names) : Type 0 where
  pub is_set : IsShareSet set
  pub exact : HasJustTheGroups set names

-- Shares that can be combined: one to sixteen of them, with distinct indices below 16, and all of the same length, which is at
-- least that of the shortest secret.
pub record AreOfOneLevel (bytes : ℕ) (shares : List (ℕ × List ℕ)) : Type 0 where
  pub some : 0 < length shares
  pub few : length shares ≤ most_shares
  pub distinct : AllPairs (λ a b. a.0 ≢ b.0) shares
  pub indices : All (λ share. share.0 < most_shares) shares
  pub lengths : All (λ share. length share.1 ≡ bytes) shares
  pub long : shortest_secret ≤ bytes

-- the groups below a number that have a name among these
abbrev pub groups_below : Names → ℕ → List ℕ
groups_below names n = filter (λ group. nat_lt 0 (length (names_in_group group names))) (range_with_len 0 n)
