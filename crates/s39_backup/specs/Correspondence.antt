-- Which random bytes of backups of two secrets correspond to each other, for names of shares that both backups are to
-- have in common.
use Rattle.std.specs.Prelude.{◌≡◌, ℕ, ◌+◌, ◌-◌, ◌<◌, List, [], ◌∷◌, ◌++◌, length, map, take, All, AllPairs, Contains, true, false}
use Rattle.std.specs.List.{concat, slice_get}
use Rattle.s39_kdf.specs.declared.params.Params.{Params}
use Rattle.s39_kdf.specs.Cipher.{IsEncryption}
use Rattle.s39_split.specs.Sharing.{digest_length, IsSplit}
use Rattle.s39_set.specs.Names.{Names, names_in_group}
use Rattle.s39_backup.specs.declared.plan.Members.{Members}
use Rattle.s39_backup.specs.Created.{AreCreatedParams, Asked}
use Rattle.s39_backup.specs.TwoShort.{is_held, held_groups}

-- the shares with these indices are the same
abbrev pub AreSameAt : List ℕ → List (List ℕ) → List (List ℕ) → Type 0
AreSameAt indices shares others = All (λ index. slice_get shares index ≡ slice_get others index) indices

-- Indices of shares of a level, exactly its threshold less two of them, or none if that is 1: those that are kept, and
-- the lowest others.
pub record AreStaying (threshold : ℕ) (kept indices : List ℕ) : Type 0 where
  pub ascending : AllPairs (λ a b. a < b) indices
  pub number : length indices ≡ threshold - 2
  pub among : All (Contains indices) kept
  pub lowest : (i j : ℕ) → i < j → Contains indices j → ¬ Contains kept j → Contains indices i

-- The random bytes of two splits begin with the same key of the digest, and the staying shares are the same.
pub record StayTheSame (threshold : ℕ) (secret kept random fitted : List ℕ) (shares others : List (List ℕ)) : Type 0 where
  pub indices : List ℕ
  pub staying : AreStaying threshold kept indices
  pub below : All (λ index. index < length shares) indices
  pub same : AreSameAt indices shares others
  pub key : take (length secret - digest_length) random ≡ take (length secret - digest_length) fitted

-- splits of two secrets, each with its random bytes, with the same key of the digest and the same staying shares
pub record CorrespondAtLevel (threshold count : ℕ) (secret other : List ℕ) (kept : List ℕ) (random fitted : List ℕ)
    (shares others : List (List ℕ)) : Type 0 where
  pub split : IsSplit threshold count secret random shares
  pub refitted : IsSplit threshold count other fitted others
  pub stay : StayTheSame threshold secret kept random fitted shares others

-- Splits of a group's share in two backups, each with its random bytes. If the group is held, the random bytes are the
-- same. Otherwise the key of the digest is, and so are the staying shares, for which the members that are named are kept.
pub record CorrespondInGroup (names : Names) (group : ℕ) (members : Members) (share other : List ℕ)
    (random fitted : List ℕ) : Type 0 where
  pub values : List (List ℕ)
  pub others : List (List ℕ)
  pub split : IsSplit members.threshold members.count share random values
  pub refitted : IsSplit members.threshold members.count other fitted others
  pub held : is_held names (group, members) ≡ true → fitted ≡ random
  pub stay : is_held names (group, members) ≡ false
      → StayTheSame members.threshold share (map (λ name. name.1) (names_in_group group names)) random fitted values others

-- each group from this one on, with its share in two backups and its random bytes in them
abbrev pub CorrespondInEach : Names → ℕ → List Members → (shares others pieces fitted : List (List ℕ)) → Type 0
CorrespondInEach names group [] [] [] [] [] = Unit {0}
CorrespondInEach names group (members ∷ groups) (share ∷ shares) (other ∷ others) (piece ∷ pieces) (fitted ∷ more) =
    CorrespondInGroup names group members share other piece fitted × CorrespondInEach names (group + 1) groups shares others pieces more
CorrespondInEach names group _ _ _ _ _ = ⊥

-- Random bytes of the backup of one secret correspond to those of the backup of another secret, with the same
-- passphrase, plan and options. The bytes of the identifier are the same. At the group level, and in each group that
-- isn't held, the key of the digest is the same, and as many shares as the threshold less two are: those that the names
-- keep, and the lowest others. The names keep the shares of the held groups, and the members that they name. Of a held
-- group all random bytes are the same.
pub record Correspond (names : Names) (asked : Asked) (other random fitted : List ℕ) : Type 0 where
  pub high : ℕ
  pub low : ℕ
  pub group_piece : List ℕ
  pub fitted_piece : List ℕ
  pub pieces : List (List ℕ)
  pub fitted_pieces : List (List ℕ)
  pub params : Params
  pub encrypted : List ℕ
  pub other_encrypted : List ℕ
  pub group_shares : List (List ℕ)
  pub other_shares : List (List ℕ)
  pub consumed : random ≡ high ∷ low ∷ group_piece ++ concat pieces
  pub fitted_consumed : fitted ≡ high ∷ low ∷ fitted_piece ++ concat fitted_pieces
  pub params_are : AreCreatedParams asked.options high low params
  pub encryption : IsEncryption asked.secret asked.passphrase params encrypted
  pub other_encryption : IsEncryption other asked.passphrase params other_encrypted
  pub levels : CorrespondAtLevel asked.group_threshold (length asked.groups) encrypted other_encrypted (held_groups names asked.groups)
      group_piece fitted_piece group_shares other_shares
  pub each : CorrespondInEach names 0 asked.groups group_shares other_shares pieces fitted_pieces
