-- Share sets: the shares of one backup that are at hand.
use Rattle.std.specs.Prelude.{◌≡◌, ◌↔◌, ◌⊎◌, ℕ, List, ◌∷◌, ◌++◌, length, map, All, Contains, Option, Some, None, Bool}
use Rattle.std.specs.Prelude.{not, ◌==◌, ◌&&◌, bytes_eq, filter, if◌then◌else◌}
use Rattle.std.specs.List.{list_any}
use Rattle.s39_refusal.specs.declared.cause.Cause.{Cause}
use Rattle.s39_refusal.specs.Causes.{cause}
use Rattle.s39_words.specs.declared.share.ShareFields.{ShareFields}
use Rattle.s39_words.specs.Share.{IsShare, flag_bit}
use Rattle.s39_set.specs.Names.{Name, IsAscending}
use Rattle.s39_set.specs.declared.set_error.SetError.{SetError}
use Rattle.s39_set.specs.declared.set_error.SetError.TheVariants.{OtherIdentifier, OtherExtendable, OtherExponent}
use Rattle.s39_set.specs.declared.set_error.SetError.TheVariants.{OtherGroupThreshold, OtherGroupCount, OtherLength}
use Rattle.s39_set.specs.declared.set_error.SetError.TheVariants.{OtherMemberThreshold, ConflictingShare}

-- a share's name
abbrev pub name_of : ShareFields → Name
name_of share = (share.group_index, share.member_index)

-- Two shares may be of one backup. Shares of a group have one member threshold.
pub record Agrees (s t : ShareFields) : Type 0 where
  pub id : s.id ≡ t.id
  pub extendable : s.extendable ≡ t.extendable
  pub exponent : s.exponent ≡ t.exponent
  pub group_threshold : s.group_threshold ≡ t.group_threshold
  pub group_count : s.group_count ≡ t.group_count
  pub value_length : length s.value.items ≡ length t.value.items
  pub member_threshold : s.group_index ≡ t.group_index → s.member_threshold ≡ t.member_threshold

-- shares of one backup, in the order of their names, each name once
pub record IsShareSet (shares : List ShareFields) : Type 0 where
  pub each : All IsShare shares
  pub ascending : IsAscending (map name_of shares)
  pub agree : All (λ share. All (Agrees share) shares) shares

-- one of the shares has another number here than this share
abbrev pub some_differs : (ShareFields → ℕ) → List ShareFields → ShareFields → Bool
some_differs number shares share = list_any (λ s. not (number s == number share)) shares

-- the share is of this group
abbrev pub is_in_group : ℕ → ShareFields → Bool
is_in_group group share = share.group_index == group

-- the share has this group and member index
abbrev pub has_name : ℕ → ℕ → ShareFields → Bool
has_name group member share = (share.group_index == group) && (share.member_index == member)

-- the first cause for which a share can't join these shares
abbrev pub refusal_of : List ShareFields → ShareFields → Option SetError
refusal_of shares share =
    if some_differs (λ s. s.id) shares share then Some OtherIdentifier
    else if some_differs (λ s. flag_bit s.extendable) shares share then Some OtherExtendable
    else if some_differs (λ s. s.exponent) shares share then Some OtherExponent
    else if some_differs (λ s. s.group_threshold) shares share then Some OtherGroupThreshold
    else if some_differs (λ s. s.group_count) shares share then Some OtherGroupCount
    else if some_differs (λ s. length s.value.items) shares share then Some OtherLength
    else if some_differs (λ s. s.member_threshold) (filter (is_in_group share.group_index) shares) share
    then Some (OtherMemberThreshold share.group_index)
    else if list_any (λ s. not (bytes_eq s.value.items share.value.items))
    (filter (has_name share.group_index share.member_index) shares)
    then Some (ConflictingShare share.group_index share.member_index)
    else None

-- the share agrees with each of these, and has the value of each that has its name
pub record CanJoin (shares : List ShareFields) (share : ShareFields) : Type 0 where
  pub agrees : All (λ s. Agrees s share) shares
  pub same_value : All (λ s. name_of s ≡ name_of share → s.value.items ≡ share.value.items) shares

-- the new list has this share more, and the others in their order
pub record HasOneMore (old : List ShareFields) (share : ShareFields) (new : List ShareFields) : Type 0 where
  pub before : List ShareFields
  pub after : List ShareFields
  pub old_is : old ≡ before ++ after
  pub new_is : new ≡ before ++ share ∷ after

-- shares refuse no share but one that can't join them
abbrev pub SharesThatAgreeJoin : Type 0
SharesThatAgreeJoin = (shares : List ShareFields) (share : ShareFields) → (refusal_of shares share ≡ None ↔ CanJoin shares share)

-- a share that a set doesn't refuse is one of the set, or there is the set with that share more
abbrev pub SetsTakeShares : Type 0
SetsTakeShares = (set : List ShareFields) (share : ShareFields)
    → IsShareSet set
    → IsShare share
    → refusal_of set share ≡ None
    → Contains set share ⊎ ((more : List ShareFields) × HasOneMore set share more × IsShareSet more)

-- what a refusal says
abbrev pub cause_of : SetError → Cause
cause_of OtherIdentifier = cause 21 0 0
cause_of OtherExtendable = cause 22 0 0
cause_of OtherExponent = cause 23 0 0
cause_of OtherGroupThreshold = cause 24 0 0
cause_of OtherGroupCount = cause 25 0 0
cause_of OtherLength = cause 26 0 0
cause_of (OtherMemberThreshold group) = cause 27 group 0
cause_of (ConflictingShare group member) = cause 28 group member
