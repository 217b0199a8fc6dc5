-- What two functions that undo each other and keep the shares say of the random bytes that give shares.
use Rattle.std.proofs.Common.{◌≡◌, ℕ, List, map, All, Contains, subst}
use Rattle.s39_kdf.proofs.Rounds.{secrets_have_one_encryption}
use Rattle.s39_split.proofs.SplitLaws.{splits_take_the_bytes_needed, have_one_split}
use Rattle.s39_split.proofs.Choices.{length-shares}
use Rattle.s39_words.specs.declared.share.ShareFields.{ShareFields}
use Rattle.s39_set.specs.Names.{Name}
use Rattle.s39_set.specs.ShareSet.{name_of}
use Rattle.s39_backup.specs.Created.{Asked, IsCreatedFrom}
use Rattle.s39_backup.specs.InCommon.{for_secret, HaveTheShare}
use Rattle.s39_backup.proofs.Creations.{backup_once}
use Rattle.s39_secrecy.specs.Secrecy.{CanBeAsked, TellNothing, Give, CorrespondOneToOne}
use Rattle.s39_secrecy.proofs.OneToOne.{some_backup, still_there}

turned : (shares others : List ShareFields) (name : Name) → HaveTheShare shares others name → HaveTheShare others shares name
turned shares others name have =
    record { share = have.share; name_is = have.name_is; in_shares = have.in_others; in_others = have.in_shares }

module _ (asked : Asked) (other : List ℕ) (some : List ShareFields) (can : CanBeAsked asked) (nothing : TellNothing asked other (map name_of some)) where
  given_there : (random : List ℕ) → Give asked some random → Give (for_secret other asked) some (nothing.there random)
  given_there random given =
      let (others, created, same) = nothing.keep random given.shares given.are given.created in
      record {
        are = nothing.undo.leads_there random given.are;
        shares = others;
        created = created;
        belong = still_there asked random given.shares others some given.created same given.belong;
      }

  given_back : (fitted : List ℕ) → Give (for_secret other asked) some fitted → Give asked some (nothing.back fitted)
  given_back fitted given =
      let random = nothing.back fitted in
      let are = nothing.undo.leads_back fitted given.are in
      let (shares, created) = some_backup asked can random are in
      let (others, there, same) = nothing.keep random shares are created in
      let also : IsCreatedFrom (for_secret other asked) fitted others =
      subst (λ list. IsCreatedFrom (for_secret other asked) list others) (nothing.undo.back_and_there fitted given.are) there in
      let once : given.shares ≡ others =
      backup_once splits_take_the_bytes_needed length-shares have_one_split secrets_have_one_encryption
      (for_secret other asked) fitted given.shares others given.created also in
      record {
        are = are;
        shares = shares;
        created = created;
        belong = still_there (for_secret other asked) fitted others shares some also
            (λ k d within. turned shares others _ (same k d within)) (subst (λ xs. All (Contains xs) some) once given.belong);
      }

  pub from_two_functions : CorrespondOneToOne (Give asked some) (Give (for_secret other asked) some)
  from_two_functions = record {
    there = nothing.there;
    back = nothing.back;
    undo = record {
      leads_there = given_there;
      leads_back = given_back;
      there_and_back = λ random given. nothing.undo.there_and_back random given.are;
      back_and_there = λ fitted given. nothing.undo.back_and_there fitted given.are;
    };
  }
