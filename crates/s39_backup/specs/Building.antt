-- Backups while they are created. No public contract cites this.
use Rattle.std.specs.Prelude.{◌≡◌, ℕ, ◌*◌, ◌≤◌, List, ◌++◌, length, take, drop, sum_by}
use Rattle.std.specs.List.{All, concat}
use Rattle.arrayvec.specs.ArrayVec.{ArrayVec, array_vec_len}
use Rattle.s39_kdf.specs.declared.params.Params.{Params}
use Rattle.s39_words.specs.declared.ShareFields.{ShareFields}
use Rattle.s39_split.specs.Sharing.{random_needed}
use Rattle.s39_set.specs.Names.{most_groups, most_members}
use Rattle.s39_backup.specs.declared.plan.Members.{Members}
use Rattle.s39_backup.specs.Created.{AreSplitAmong, created_groups}

-- the group threshold and the number of groups of a plan
pub record IsHeader (group_threshold group_count : ℕ) : Type 0 where
  pub positive : 1 ≤ group_threshold
  pub enough : group_threshold ≤ group_count
  pub few : group_count ≤ most_groups

-- all of these have the same number of bytes, which has this property
abbrev pub ShareOneLength : List (ArrayVec ℕ) → (ℕ → Type 0) → Type 0
ShareOneLength shares P = (n : ℕ) × All (λ share. array_vec_len share ≡ n) shares × P n

-- The shares of these groups were appended to others. They took a beginning of the random bytes.
pub record AreCreatedGroups (params : Params) (group_threshold group_count : ℕ) (groups : List Members) (group_shares : List (List ℕ))
    (random : List ℕ) (old new : List ShareFields) : Type 0 where
  pub pieces : List (List ℕ)
  pub values : List (List (List ℕ))
  pub consumed : random ≡ concat pieces
  pub split : AreSplitAmong groups group_shares pieces values
  pub shares_are : new ≡ old ++ created_groups params group_threshold group_count 0 groups values

-- The shares of the groups before this one were created. The rest of the random bytes is still to be taken.
pub record AreCreatedBefore (params : Params) (group_threshold group_count : ℕ) (groups : List Members) (group_shares : List (List ℕ))
    (random : List ℕ) (group : ℕ) (rest : List ℕ) (shares : List ShareFields) : Type 0 where
  pub pieces : List (List ℕ)
  pub values : List (List (List ℕ))
  pub consumed : random ≡ concat pieces ++ rest
  pub split : AreSplitAmong (take group groups) (take group group_shares) pieces values
  pub shares_are : shares ≡ created_groups params group_threshold group_count 0 (take group groups) values
  pub room : length shares ≤ most_members * group
  pub left : (n : ℕ) → All (λ share. length share ≡ n) group_shares
      → length random ≡ sum_by (λ members. random_needed members.threshold n) groups
      → length rest ≡ sum_by (λ members. random_needed members.threshold n) (drop group groups)
