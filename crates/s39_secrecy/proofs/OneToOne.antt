-- Random bytes for one secret correspond one to one to those for the other.
use Rattle.std.proofs.Common.{◌≡◌, ℕ, ◌<◌, List, [], ◌∷◌, length, get_or, map, All, Contains, sym, ap, subst, ◌∙◌, ◌⊎◌, inl, inr, arith}
use Rattle.std.proofs.lemmas.Bool.{cases_lt, cases_eq}
use Rattle.std.proofs.lemmas.List.{length-map, get_or-map}
use Rattle.std.proofs.lemmas.List.Elements.{All-nil, All-cons, All-head, All-tail, All-map, All-contains, Contains-get_or}
use Rattle.s39_kdf.specs.Bytes.{AreBytes}
use Rattle.s39_kdf.specs.Limits.{IsSecretLength}
use Rattle.s39_kdf.proofs.Rounds.{secrets_have_one_encryption, encryption_keeps_length_and_bytes}
use Rattle.s39_split.proofs.SplitLaws.{splits_take_the_bytes_needed, shares_are_bytes, have_a_split, have_one_split}
use Rattle.s39_split.proofs.Choices.{length-shares}
use Rattle.s39_words.specs.declared.share.ShareFields.{ShareFields}
use Rattle.s39_set.specs.Names.{Names}
use Rattle.s39_set.specs.ShareSet.{name_of}
use Rattle.s39_lists.proofs.Images.{Contains-map}
use Rattle.s39_backup.specs.Created.{Asked, needed_by, IsCreatedFrom}
use Rattle.s39_backup.proofs.Creations.{backup_exists}
use Rattle.s39_backup.specs.Correspondence.{Correspond}
use Rattle.s39_backup.specs.InCommon.{for_secret, HaveTheShare}
use Rattle.s39_secrecy.specs.Secrecy.{CanBeAsked, AreRandomBytes, AreTwoShort, UndoEachOther}
use Rattle.s39_secrecy.specs.Secrecy.{CorrespondOneToOne, TellNothing, Give, AreDifferent}
use Rattle.s39_secrecy.proofs.Back.{bytes_back}
use Rattle.s39_secrecy.proofs.Backups.{have_correspondent}
use Rattle.s39_backup.proofs.KeptShares.{created_once, shares_kept}

-- numbers are bytes, or one isn't
bytes_or_not : (xs : List ℕ) → AreBytes xs ⊎ (AreBytes xs → ⊥)
bytes_or_not [] = inl (All-nil (λ byte. byte < 256))
bytes_or_not (x ∷ xs) = elim (cases_lt x 256) [
  | inr large ↦ inr (λ all. let small = All-head (λ byte. byte < 256) x xs all in absurd (omega arith))
  | inl small ↦ elim (bytes_or_not xs) [
    | inl rest ↦ inl (All-cons (λ byte. byte < 256) x xs small rest)
    | inr not ↦ inr (λ all. not (All-tail (λ byte. byte < 256) x xs all))
  ]
]

pub random_or_not : (asked : Asked) (random : List ℕ) → AreRandomBytes asked random ⊎ (AreRandomBytes asked random → ⊥)
random_or_not asked random = elim (bytes_or_not random) [
  | inr not ↦ inr (λ are. not are.bytes)
  | inl bytes ↦ elim (cases_eq (length random) (needed_by asked)) [
    | inl number ↦ inl (record { bytes = bytes; number = number })
    | inr other ↦ inr (λ are. other are.number)
  ]
]

-- a list corresponds to random bytes, and is as many bytes
pub record IsCorrespondent (names : Names) (asked : Asked) (other random fitted : List ℕ) : Type 0 where
  pub correspond : Correspond names asked other random fitted
  pub are : AreRandomBytes (for_secret other asked) fitted

-- the list that corresponds to random bytes; nothing else is asked of it
correspondent_by : (asked : Asked) (other : List ℕ) (names : Names) → AreTwoShort asked other names → (random : List ℕ)
    → AreRandomBytes asked random ⊎ (AreRandomBytes asked random → ⊥) → List ℕ
correspondent_by asked other names setting random (inl are) = (have_correspondent asked other names setting random are).fitted
correspondent_by asked other names setting random (inr not) = []

is_correspondent_by : (asked : Asked) (other : List ℕ) (names : Names) (setting : AreTwoShort asked other names) (random : List ℕ)
    (either : AreRandomBytes asked random ⊎ (AreRandomBytes asked random → ⊥)) → AreRandomBytes asked random
    → IsCorrespondent names asked other random (correspondent_by asked other names setting random either)
unfolding correspondent_by
is_correspondent_by asked other names setting random (inl are) given =
    let have = have_correspondent asked other names setting random are in
    record { correspond = have.correspond; are = have.are }
is_correspondent_by asked other names setting random (inr not) given = absurd (not given)

pub correspondent : (asked : Asked) (other : List ℕ) (names : Names) → AreTwoShort asked other names → List ℕ → List ℕ
correspondent asked other names setting random = correspondent_by asked other names setting random (random_or_not asked random)

pub is_correspondent : (asked : Asked) (other : List ℕ) (names : Names) (setting : AreTwoShort asked other names) (random : List ℕ)
    → AreRandomBytes asked random → IsCorrespondent names asked other random (correspondent asked other names setting random)
unfolding correspondent
is_correspondent asked other names setting random are = is_correspondent_by asked other names setting random (random_or_not asked random) are

-- ---- from the other secret

pub from_other : (asked : Asked) (other : List ℕ) (names : Names) → AreTwoShort asked other names
    → AreTwoShort (for_secret other asked) asked.secret names
from_other asked other names setting = record {
  can = record {
    is_plan = setting.can.is_plan;
    is_length = subst IsSecretLength (sym setting.one_length) setting.can.is_length;
    bytes = setting.other_bytes;
  };
  other_bytes = setting.can.bytes;
  one_length = sym setting.one_length;
  ascending = setting.ascending;
  two_short = setting.two_short;
}

-- what corresponds to what corresponds to random bytes is these random bytes
pub back_again : (asked : Asked) (other : List ℕ) (names : Names) → AreTwoShort asked other names → (random fitted back : List ℕ)
    → Correspond names asked other random fitted → Correspond names (for_secret other asked) asked.secret fitted back → back ≡ random
back_again asked other names setting random fitted back there home =
    bytes_back splits_take_the_bytes_needed length-shares have_one_split secrets_have_one_encryption encryption_keeps_length_and_bytes
    names asked other random fitted back setting.can.is_length setting.one_length there home

module _ (asked : Asked) (other : List ℕ) (names : Names) (setting : AreTwoShort asked other names) where
  abbrev home_setting : AreTwoShort (for_secret other asked) asked.secret names
  home_setting = from_other asked other names setting

  abbrev there : List ℕ → List ℕ
  there = correspondent asked other names setting

  abbrev back : List ℕ → List ℕ
  back = correspondent (for_secret other asked) asked.secret names home_setting

  pub undo_each_other : UndoEachOther (AreRandomBytes asked) (AreRandomBytes (for_secret other asked)) there back
  undo_each_other = record {
    leads_there = λ random are. (is_correspondent asked other names setting random are).are;
    leads_back = λ fitted are. (is_correspondent (for_secret other asked) asked.secret names home_setting fitted are).are;
    there_and_back = λ random are.
        let going = is_correspondent asked other names setting random are in
        let coming = is_correspondent (for_secret other asked) asked.secret names home_setting (there random) going.are in
        back_again asked other names setting random (there random) (back (there random)) going.correspond coming.correspond;
    back_and_there = λ fitted are.
        let coming = is_correspondent (for_secret other asked) asked.secret names home_setting fitted are in
        let going = is_correspondent asked other names setting (back fitted) coming.are in
        back_again (for_secret other asked) asked.secret names home_setting fitted (back fitted) (there (back fitted)) coming.correspond going.correspond;
  }

  pub tell_nothing : TellNothing asked other names
  tell_nothing = record {
    there = there;
    back = back;
    undo = undo_each_other;
    keep = λ random shares are created.
        shares_kept names asked other random (there random) setting.two_short.of_plan
        (is_correspondent asked other names setting random are).correspond shares created;
  }

  -- ---- the correspondence

  -- the correspondent of random bytes leads back to them
  leads_home : (random : List ℕ) → AreRandomBytes asked random → Correspond names (for_secret other asked) asked.secret (there random) random
  leads_home random are =
      let going = is_correspondent asked other names setting random are in
      let coming = is_correspondent (for_secret other asked) asked.secret names home_setting (there random) going.are in
      let same : back (there random) ≡ random =
      back_again asked other names setting random (there random) (back (there random)) going.correspond coming.correspond in
      subst (λ r. Correspond names (for_secret other asked) asked.secret (there random) r) same coming.correspond

  -- and there is no other
  pub correspondent_once : (random fitted : List ℕ) → AreRandomBytes asked random → Correspond names asked other random fitted
      → fitted ≡ there random
  correspondent_once random fitted are going =
      back_again (for_secret other asked) asked.secret names home_setting (there random) random fitted (leads_home random are) going

  pub correspond_back : (random fitted : List ℕ) → AreRandomBytes asked random → Correspond names asked other random fitted
      → Correspond names (for_secret other asked) asked.secret fitted random
  correspond_back random fitted are going =
      subst (λ xs. Correspond names (for_secret other asked) asked.secret xs random) (sym (correspondent_once random fitted are going))
      (leads_home random are)

-- ---- shares

-- the shares that a backup has, the other backup has too
pub still_there : (asked : Asked) (random : List ℕ) (shares others some : List ShareFields) → IsCreatedFrom asked random shares
    → All (HaveTheShare shares others) (map name_of some) → All (Contains shares) some → All (Contains others) some
still_there asked random shares others some created same belong k d within =
    let share = get_or some k d in
    let have = All-contains (HaveTheShare shares others) (map name_of some) (name_of share) same
    (Contains-map name_of some share (Contains-get_or some k d within)) in
    let is : have.share ≡ share = created_once asked random shares created have.share share have.in_shares (belong k d within) have.name_is in
    subst (Contains others) is have.in_others

module _ (asked : Asked) (other : List ℕ) (some : List ShareFields) (setting : AreTwoShort asked other (map name_of some)) where
  -- what corresponds to random bytes that give the shares gives them too
  pub still_give : (random : List ℕ) → Give asked some random
      → Give (for_secret other asked) some (correspondent asked other (map name_of some) setting random)
  still_give random given =
      let going = is_correspondent asked other (map name_of some) setting random given.are in
      let (others, created, same) = shares_kept (map name_of some) asked other random (correspondent asked other (map name_of some) setting random)
      setting.two_short.of_plan going.correspond given.shares given.created in
      record {
        are = going.are;
        shares = others;
        created = created;
        belong = still_there asked random given.shares others some given.created same given.belong;
      }

pub as_many_give : (asked : Asked) (other : List ℕ) (some : List ShareFields) → AreTwoShort asked other (map name_of some)
    → CorrespondOneToOne (Give asked some) (Give (for_secret other asked) some)
as_many_give asked other some setting =
    let names = map name_of some in
    let home = from_other asked other names setting in
    let undo = undo_each_other asked other names setting in
    record {
      there = correspondent asked other names setting;
      back = correspondent (for_secret other asked) asked.secret names home;
      undo = record {
        leads_there = still_give asked other some setting;
        leads_back = still_give (for_secret other asked) asked.secret some home;
        there_and_back = λ random given. undo.there_and_back random given.are;
        back_and_there = λ fitted given. undo.back_and_there fitted given.are;
      };
    }

-- ---- lists of lists

-- different lists of one kind lead to as many different lists of the other
pub different_there : (P Q : List ℕ → Type 0) (there back : List ℕ → List ℕ) → UndoEachOther P Q there back → (lists : List (List ℕ))
    → AreDifferent P lists → AreDifferent Q (map there lists)
different_there P Q there back undo lists are = record {
  of_kind = All-map Q there lists (λ k d within. undo.leads_there (get_or lists k d) (are.of_kind k d within));
  different = λ i j d before within.
      let count : length (map there lists) ≡ length lists = length-map lists there in
      let at_i : get_or (map there lists) i d ≡ there (get_or lists i d) = get_or-map there lists i d d (omega arith) in
      let at_j : get_or (map there lists) j d ≡ there (get_or lists j d) = get_or-map there lists j d d (omega arith) in
      λ same.
      are.different i j d before (omega arith)
      (sym (undo.there_and_back (get_or lists i d) (are.of_kind i d (omega arith)))
      ∙ ap back (sym at_i ∙ same ∙ at_j)
      ∙ undo.there_and_back (get_or lists j d) (are.of_kind j d (omega arith)));
}

-- there is a backup
pub some_backup : (asked : Asked) → CanBeAsked asked → (random : List ℕ) → AreRandomBytes asked random
    → (shares : List ShareFields) × IsCreatedFrom asked random shares
some_backup asked can random are =
    backup_exists have_a_split length-shares shares_are_bytes secrets_have_one_encryption encryption_keeps_length_and_bytes asked random
    can.is_plan can.is_length can.bytes are.bytes are.number
