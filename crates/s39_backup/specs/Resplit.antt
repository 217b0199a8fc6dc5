-- Backups whose encrypted secret is split anew, by another plan. That takes neither the secret nor a passphrase.
use Rattle.std.specs.Prelude.{◌≡◌, ◌⊎◌, ℕ, ◌==◌, not, Bool, false, if◌then◌else◌, List, [], ◌∷◌, ◌++◌, length, Result, Ok, Err}
use Rattle.std.specs.List.{concat}
use Rattle.s39_refusal.specs.declared.cause.Cause.{Cause}
use Rattle.s39_refusal.specs.Causes.{cause}
use Rattle.s39_kdf.specs.declared.params.Params.{Params}
use Rattle.s39_split.specs.Sharing.{IsSplit}
use Rattle.s39_words.specs.declared.ShareFields.{ShareFields}
use Rattle.s39_set.specs.Names.{Names}
use Rattle.s39_set.specs.Quorums.{IsLeastQuorum}
use Rattle.s39_set.specs.Lack.{IsLack, cause_of}
use Rattle.s39_set.specs.declared.set_lack.SetLack.{SetLack}
use Rattle.s39_backup.specs.declared.plan.Members.{Members}
use Rattle.s39_backup.specs.declared.options.Options.{Options}
use Rattle.s39_backup.specs.declared.combination.Mismatch.{Mismatch}
use Rattle.s39_backup.specs.declared.resplit_error.ResplitError.{ResplitError}
use Rattle.s39_backup.specs.declared.resplit_error.ResplitError.TheVariants.{Lack, DigestMismatch, NotExtendable, BadRandomLength, SameIdentifier}
use Rattle.s39_backup.specs.Combination.{combination_of}
use Rattle.s39_backup.specs.Outcome.{AreParams}
use Rattle.s39_backup.specs.RecoverError.{mismatch_cause_of}
use Rattle.s39_backup.specs.Created.{identifier_of, random_needed, AreSplitAmong, created_groups}

-- The shares of a backup with these parameters, in which an encrypted secret is split by a plan: into group shares, and
-- each of these among its members. The random bytes are those of the group level and of each group, in this order.
pub record AreSplitByPlan (params : Params) (group_threshold : ℕ) (groups : List Members) (encrypted random : List ℕ)
    (shares : List ShareFields) : Type 0 where
  pub group_piece : List ℕ
  pub pieces : List (List ℕ)
  pub group_shares : List (List ℕ)
  pub values : List (List (List ℕ))
  pub consumed : random ≡ group_piece ++ concat pieces
  pub groups_split : IsSplit group_threshold (length groups) encrypted group_piece group_shares
  pub members_split : AreSplitAmong groups group_shares pieces values
  pub shares_are : shares ≡ created_groups params group_threshold (length groups) 0 groups values

-- The parameters of the new backup. The first two random bytes give its identifier, and the others are for the levels. The
-- flag and the exponent stay.
pub record AreNewParams (old : Params) (random : List ℕ) (params : Params) : Type 0 where
  pub high : ℕ
  pub low : ℕ
  pub levels : List ℕ
  pub consumed : random ≡ high ∷ low ∷ levels
  pub id : params.id ≡ identifier_of high low
  pub extendable : params.extendable ≡ old.extendable
  pub exponent : params.exponent ≡ old.exponent

-- the options of parameters
abbrev pub options_of : Params → Options
options_of params = record { exponent = params.exponent; extendable = params.extendable; exponent_in_range = params.exponent_in_range }

-- the first two random bytes give this identifier
abbrev pub gives_identifier : List ℕ → ℕ → Bool
gives_identifier [] id = false
gives_identifier (high ∷ []) id = false
gives_identifier (high ∷ low ∷ levels) id = identifier_of high low == id

-- The encrypted secret that is split, which the shares of a backup with these parameters combine to; or the first cause
-- that applies: they don't combine, the backup isn't extendable, the plan takes another number of random bytes, or these
-- give the identifier that the backup has.
abbrev pub judged_split : Params → ℕ → List Members → List ℕ → Result (List ℕ) Mismatch → Result (List ℕ) ResplitError
judged_split params group_threshold groups random (Err mismatch) = Err (DigestMismatch mismatch)
judged_split params group_threshold groups random (Ok encrypted) =
    if not params.extendable then Err NotExtendable
    else if not (length random == random_needed group_threshold groups (length encrypted))
    then Err (BadRandomLength (random_needed group_threshold groups (length encrypted)))
    else if gives_identifier random params.id then Err SameIdentifier
    else Ok encrypted

module _ (old : Params) (group_threshold : ℕ) (groups : List Members) (random encrypted : List ℕ) where
  -- the shares of a new backup with this encrypted secret of a backup with the old parameters: it is split by the plan
  pub record IsCreatedFromEncrypted (shares : List ShareFields) : Type 0 where
    pub params : Params
    pub judged : judged_split old group_threshold groups random (Ok encrypted) ≡ Ok encrypted
    pub new : AreNewParams old random params
    pub split : AreSplitByPlan params group_threshold groups encrypted new.levels shares

  -- what an encrypted secret, a plan and random bytes give: the shares of a new backup, or the first cause for which there
  -- are none
  abbrev pub IsCreationFromEncrypted : Result (List ShareFields) ResplitError → Type 0
  IsCreationFromEncrypted (Ok shares) = IsCreatedFromEncrypted shares
  IsCreationFromEncrypted (Err error) = judged_split old group_threshold groups random (Ok encrypted) ≡ Err error

module _ (set : List ShareFields) (group_threshold : ℕ) (groups : List Members) (random : List ℕ) where
  -- the shares of the new backup: the encrypted secret to which the least quorum of the set combines is split by the plan
  pub record AreSplitAnew (shares : List ShareFields) : Type 0 where
    pub names : Names
    pub old : Params
    pub encrypted : List ℕ
    pub least : IsLeastQuorum set names
    pub old_are : AreParams set old
    pub combined : combination_of set names ≡ Ok encrypted
    pub created : IsCreatedFromEncrypted old group_threshold groups random encrypted shares

  -- the encrypted secret to which the least quorum combines isn't split, and this is the first cause that applies
  pub record IsRefusedSplit (error : ResplitError) : Type 0 where
    pub names : Names
    pub old : Params
    pub least : IsLeastQuorum set names
    pub old_are : AreParams set old
    pub judged : judged_split old group_threshold groups random (combination_of set names) ≡ Err error

  -- what a set, a plan and random bytes give: the shares of a new backup; or the first cause for which there are none,
  -- which is that the set has no quorum, or that what the least one combines to isn't split
  abbrev pub IsResplit : Result (List ShareFields) ResplitError → Type 0
  IsResplit (Ok shares) = AreSplitAnew shares
  IsResplit (Err error) = ((lack : SetLack) × IsLack set lack × (error ≡ Lack lack)) ⊎ IsRefusedSplit error

-- what a refusal says
abbrev pub resplit_cause_of : ResplitError → Cause
resplit_cause_of (Lack lack) = cause_of lack
resplit_cause_of (DigestMismatch mismatch) = mismatch_cause_of mismatch
resplit_cause_of NotExtendable = cause 67 0 0
resplit_cause_of (BadRandomLength needed) = cause 43 needed 0
resplit_cause_of SameIdentifier = cause 68 0 0
