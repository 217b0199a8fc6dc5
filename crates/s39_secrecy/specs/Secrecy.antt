-- What it means that shares of a backup tell nothing about its secret but its length: for every other secret of this
-- length, as many lists of random bytes give these shares. No definition speaks of chance.
use Rattle.std.specs.Prelude.{◌≡◌, ◌≢◌, ℕ, List, length, map, All, AllPairs, Contains}
use Rattle.s39_kdf.specs.Bytes.{AreBytes}
use Rattle.s39_kdf.specs.Limits.{IsSecretLength}
use Rattle.s39_words.specs.declared.share.ShareFields.{ShareFields}
use Rattle.s39_set.specs.Names.{Names, IsAscending}
use Rattle.s39_backup.specs.Plan.{IsPlan}
use Rattle.s39_backup.specs.Created.{Asked, needed_by, IsCreatedFrom}
use Rattle.s39_backup.specs.TwoShort.{IsTwoShort}
use Rattle.s39_backup.specs.InCommon.{for_secret, HaveTheShare}

-- a backup of this can be created: by a plan, of bytes that are as many as a secret may have
pub record CanBeAsked (asked : Asked) : Type 0 where
  pub is_plan : IsPlan asked.group_threshold asked.groups
  pub is_length : IsSecretLength (length asked.secret)
  pub bytes : AreBytes asked.secret

-- random bytes from which it is created: as many bytes as it takes
pub record AreRandomBytes (asked : Asked) (random : List ℕ) : Type 0 where
  pub bytes : AreBytes random
  pub number : length random ≡ needed_by asked

-- What a backup is created from, another secret that is as long, and names of shares, each once and in order, that are
-- two short of the plan.
pub record AreTwoShort (asked : Asked) (other : List ℕ) (names : Names) : Type 0 where
  pub can : CanBeAsked asked
  pub other_bytes : AreBytes other
  pub one_length : length other ≡ length asked.secret
  pub ascending : IsAscending names
  pub two_short : IsTwoShort asked.group_threshold asked.groups names

-- Two functions that undo each other, between the lists of two kinds: each leads from the lists of one kind to those of
-- the other, and one after the other gives back every list that it was given.
pub record UndoEachOther (P Q : List ℕ → Type 0) (there back : List ℕ → List ℕ) : Type 0 where
  pub leads_there : (list : List ℕ) → P list → Q (there list)
  pub leads_back : (list : List ℕ) → Q list → P (back list)
  pub there_and_back : (list : List ℕ) → P list → back (there list) ≡ list
  pub back_and_there : (list : List ℕ) → Q list → there (back list) ≡ list

-- the lists of one kind correspond one to one to those of the other, so there are as many of them
pub record CorrespondOneToOne (P Q : List ℕ → Type 0) : Type 0 where
  pub there : List ℕ → List ℕ
  pub back : List ℕ → List ℕ
  pub undo : UndoEachOther P Q there back

-- The shares with these names tell nothing of which of two secrets a backup has: the random bytes for one secret
-- correspond one to one to those for the other, and with random bytes that correspond, both backups have these shares.
pub record TellNothing (asked : Asked) (other : List ℕ) (names : Names) : Type 0 where
  pub there : List ℕ → List ℕ
  pub back : List ℕ → List ℕ
  pub undo : UndoEachOther (AreRandomBytes asked) (AreRandomBytes (for_secret other asked)) there back
  pub keep : (random : List ℕ) (shares : List ShareFields) → AreRandomBytes asked random → IsCreatedFrom asked random shares
      → (others : List ShareFields) × IsCreatedFrom (for_secret other asked) (there random) others × All (HaveTheShare shares others) names

-- random bytes with which the backup has all of these shares
pub record Give (asked : Asked) (some : List ShareFields) (random : List ℕ) : Type 0 where
  pub are : AreRandomBytes asked random
  pub shares : List ShareFields
  pub created : IsCreatedFrom asked random shares
  pub belong : All (Contains shares) some

-- lists of one kind, no two of them the same
pub record AreDifferent (P : List ℕ → Type 0) (lists : List (List ℕ)) : Type 0 where
  pub of_kind : All P lists
  pub different : AllPairs (λ a b. a ≢ b) lists

-- all lists of one kind, each once
pub record AreAll (P : List ℕ → Type 0) (lists : List (List ℕ)) : Type 0 where
  pub different : AreDifferent P lists
  pub complete : (list : List ℕ) → P list → Contains lists list

-- the member index and the value of each share
abbrev pub member_points : List ShareFields → List (ℕ × List ℕ)
member_points some = map (λ share. (share.member_index, share.value.items)) some
