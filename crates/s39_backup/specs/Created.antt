-- Backups created from a secret (SLIP-0039, "Shamir's secret sharing" and "Encryption of the master secret").
use Rattle.std.specs.Prelude.{◌≡◌, ◌≢◌, ℕ, ◌+◌, ◌*◌, ◌%◌, ◌^◌, List, [], ◌∷◌, ◌++◌, All, Contains, length, map, sum_by, Result, Ok, Err}
use Rattle.std.specs.List.{concat, enumerate_from}
use Rattle.s39_refusal.specs.declared.cause.Cause.{Cause}
use Rattle.s39_refusal.specs.Causes.{cause}
use Rattle.s39_kdf.specs.Causes.{passphrase_cause, length_cause}
use Rattle.s39_kdf.specs.declared.params.Params.{Params}
use Rattle.s39_kdf.specs.Limits.{id_bits, IsPrintable, IsFirstUnprintable, IsSecretLength}
use Rattle.s39_kdf.specs.Cipher.{IsEncryption}
use Rattle.s39_split.specs.Sharing.{random_needed as level_random_needed, IsSplit}
use Rattle.s39_words.specs.declared.ShareFields.{ShareFields}
use Rattle.s39_backup.specs.declared.plan.Members.{Members}
use Rattle.s39_backup.specs.declared.options.Options.{Options}
use Rattle.s39_backup.specs.declared.create_error.CreateError.{CreateError}
use Rattle.s39_backup.specs.declared.create_error.CreateError.TheVariants.{Passphrase, SecretLength, BadRandomLength}
use Rattle.s39_backup.specs.Plan.{IsPlan}

-- how many random bytes the identifier takes
abbrev pub identifier_length : ℕ
identifier_length = 2

-- How many random bytes a backup of a secret of n bytes takes: those of the identifier, of the group level, and of
-- each group.
abbrev pub random_needed : ℕ → List Members → ℕ → ℕ
random_needed group_threshold groups n =
    identifier_length + level_random_needed group_threshold n + sum_by (λ members. level_random_needed members.threshold n) groups

-- what a backup is created from, besides the random bytes
pub record Asked : Type 0 where
  pub secret : List ℕ
  pub passphrase : List ℕ
  pub group_threshold : ℕ
  pub groups : List Members
  pub options : Options

-- a record of all of these
abbrev pub asked_for : List ℕ → List ℕ → ℕ → List Members → Options → Asked
asked_for secret passphrase group_threshold groups options = record {
  secret = secret;
  passphrase = passphrase;
  group_threshold = group_threshold;
  groups = groups;
  options = options;
}

-- how many random bytes it takes
abbrev pub needed_by : Asked → ℕ
needed_by asked = random_needed asked.group_threshold asked.groups (length asked.secret)

-- the most random bytes that a backup takes: those of sixteen groups of sixteen members, all of which are needed, with
-- the longest secret
abbrev pub most_random : ℕ
most_random = 32574

-- the identifier that two random bytes give: big-endian, without the highest bit
abbrev pub identifier_of : ℕ → ℕ → ℕ
identifier_of high low = (256 * high + low) % 2 ^ id_bits

-- the parameters of the cipher
pub record AreCreatedParams (options : Options) (high low : ℕ) (params : Params) : Type 0 where
  pub id : params.id ≡ identifier_of high low
  pub extendable : params.extendable ≡ options.extendable
  pub exponent : params.exponent ≡ options.exponent

-- each group's share is split among its members by the group's piece of the random bytes
abbrev pub AreSplitAmong : List Members → List (List ℕ) → List (List ℕ) → List (List (List ℕ)) → Type 0
AreSplitAmong [] [] [] [] = Unit {0}
AreSplitAmong (members ∷ groups) (share ∷ shares) (piece ∷ pieces) (values ∷ others) =
    IsSplit members.threshold members.count share piece values × AreSplitAmong groups shares pieces others
AreSplitAmong _ _ _ _ = ⊥

module _ (params : Params) (group_threshold group_count : ℕ) where
  -- the share with this group and member index
  abbrev pub created_share : ℕ → Members → ℕ → List ℕ → ShareFields
  created_share group members member value = record {
    id = params.id;
    extendable = params.extendable;
    exponent = params.exponent;
    group_index = group;
    group_threshold = group_threshold;
    group_count = group_count;
    member_index = member;
    member_threshold = members.threshold;
    value = record { items = value };
  }

  -- the shares of a group's members
  abbrev pub created_group : ℕ → Members → List (List ℕ) → List ShareFields
  created_group group members values = map (λ share. created_share group members share.0 share.1) (enumerate_from 0 values)

  -- the shares of the groups from this one on
  abbrev pub created_groups : ℕ → List Members → List (List (List ℕ)) → List ShareFields
  created_groups group [] values = []
  created_groups group (members ∷ groups) [] = []
  created_groups group (members ∷ groups) (values ∷ others) =
      created_group group members values ++ created_groups (group + 1) groups others

-- A backup created from a secret, with a passphrase, a plan, options and random bytes. The encrypted secret is split
-- into the group shares, and each of these among its members. The random bytes are those of the identifier, of the
-- group level and of each group, in this order. The shares stand by group, then member.
pub record IsCreatedFrom (asked : Asked) (random : List ℕ) (shares : List ShareFields) : Type 0 where
  pub high : ℕ
  pub low : ℕ
  pub group_piece : List ℕ
  pub pieces : List (List ℕ)
  pub params : Params
  pub encrypted : List ℕ
  pub group_shares : List (List ℕ)
  pub values : List (List (List ℕ))
  pub consumed : random ≡ high ∷ low ∷ group_piece ++ concat pieces
  pub params_are : AreCreatedParams asked.options high low params
  pub encryption : IsEncryption asked.secret asked.passphrase params encrypted
  pub groups_split : IsSplit asked.group_threshold (length asked.groups) encrypted group_piece group_shares
  pub members_split : AreSplitAmong asked.groups group_shares pieces values
  pub shares_are : shares ≡ created_groups params asked.group_threshold (length asked.groups) 0 asked.groups values

-- what the creation of a backup gives: its shares, or the first cause of a refusal that applies
abbrev pub IsCreation : Asked → List ℕ → Result (List ShareFields) CreateError → Type 0
IsCreation asked random (Ok shares) =
    All IsPrintable asked.passphrase × IsSecretLength (length asked.secret) × (length random ≡ needed_by asked)
    × IsCreatedFrom asked random shares
IsCreation asked random (Err (Passphrase bad)) = IsFirstUnprintable asked.passphrase bad.position
IsCreation asked random (Err (SecretLength bad)) =
    All IsPrintable asked.passphrase × ¬ IsSecretLength (length asked.secret) × (bad.bytes ≡ length asked.secret)
IsCreation asked random (Err (BadRandomLength needed)) =
    All IsPrintable asked.passphrase × IsSecretLength (length asked.secret) × (needed ≡ needed_by asked)
    × (length random ≢ needed)

-- what a refusal says
abbrev pub create_cause_of : CreateError → Cause
create_cause_of (Passphrase bad) = passphrase_cause bad.position
create_cause_of (SecretLength bad) = length_cause bad.bytes
create_cause_of (BadRandomLength needed) = cause 43 needed 0

-- shares of a backup that was created from this secret with this passphrase, whatever the plan, options and random
-- bytes
pub record AreOfBackup (set : List ShareFields) (passphrase secret : List ℕ) : Type 0 where
  pub group_threshold : ℕ
  pub groups : List Members
  pub options : Options
  pub random : List ℕ
  pub shares : List ShareFields
  pub is_plan : IsPlan group_threshold groups
  pub created : IsCreatedFrom (asked_for secret passphrase group_threshold groups options) random shares
  pub belong : All (Contains shares) set
