-- The output of `reissue`.
use Rattle.std.specs.Prelude.{◌≡◌, ◌≢◌, ◌⊎◌, ◌↔◌, ℕ, ◌==◌, ◌&&◌, not, nat_lt, if◌then◌else◌, Bool, false, true, List, [], ◌∷◌, ◌++◌, length, find, All, Contains, Option, Some, None, Result, Ok, Err}
use Rattle.std.specs.List.{AllZip, list_all, slice_get}
use Rattle.std.specs.Option.{option_map_or}
use Rattle.std.specs.Result.{result_map_both}
use Rattle.s39_lists.specs.Each.{and_then, each}
use Rattle.s39_words.specs.declared.ShareFields.{ShareFields}
use Rattle.s39_set.specs.Names.{Name, Names}
use Rattle.s39_set.specs.declared.set_lack.SetLack.TheVariants.{NoShares}
use Rattle.s39_set.specs.ShareSet.{name_of}
use Rattle.s39_backup.specs.declared.plan.Members.{Members}
use Rattle.s39_backup.specs.declared.reissue_error.TooFew.{TooFew}
use Rattle.s39_backup.specs.Plan.{IsNameOfPlan}
use Rattle.s39_backup.specs.Reissue.{reissue_of, AreOfPlan, IsDetermined, IsUndetermined}
use Rattle.s39_input.specs.declared.fault.LineRefusal.{LineRefusal}
use Rattle.s39_input.specs.declared.fault.Stop.{Stop}
use Rattle.s39_input.specs.declared.fault.Refusal.TheVariants.{Lack, NotInPlan, OtherPlan, Undetermined as TooFewRefusal}
use Rattle.s39_input.specs.declared.fault.Fault.{Fault}
use Rattle.s39_input.specs.Input.{Input}
use Rattle.s39_input.specs.Fault.{fault_of, fault_of_stop, fault_of_reissue}
use Rattle.s39_input.specs.Accepted.{IsReadAs}
use Rattle.s39_input.specs.Create.{ArePrintedLines}
use Rattle.s39_input.specs.OfBackup.{HoldsMnemonicsOf}

-- ---- names

-- the plan has this name
abbrev pub is_name_of_plan : List Members → Name → Bool
is_name_of_plan groups name = option_map_or (λ members. nat_lt name.1 members.count) (slice_get groups name.0) false

-- the first of these names that the plan doesn't have
abbrev pub first_other : List Members → Names → Option Name
first_other groups names = find (λ name. not (is_name_of_plan groups name)) names

-- this is the first of these names that the plan doesn't have
pub record IsFirstOther (groups : List Members) (names : Names) (name : Name) : Type 0 where
  pub before : Names
  pub after : Names
  pub parts : names ≡ before ++ name ∷ after
  pub earlier : All (IsNameOfPlan groups) before
  pub other : ¬ IsNameOfPlan groups name

-- the fault of a name that the plan doesn't have
abbrev pub fault_of_name : Name → Fault
fault_of_name name = fault_of (NotInPlan name.0 name.1)

-- the fault of the first name that the plan doesn't have, if there is one
abbrev pub judged_names : List Members → Names → Result (Unit {0}) Fault
judged_names groups names = option_map_or (λ name. Err (fault_of_name name)) (first_other groups names) (Ok tt)

-- ---- the shares of the names

-- a backup of the plan can have this share
abbrev pub is_of_plan : ℕ → List Members → ShareFields → Bool
is_of_plan group_threshold groups share =
    (share.group_threshold == group_threshold) && (share.group_count == length groups)
    && option_map_or (λ members. nat_lt share.member_index members.count && (share.member_threshold == members.threshold))
    (slice_get groups share.group_index) false

-- These tests are the relations of plans: the plan has all names, or the one that is found is the first that it doesn't have; and
-- a backup of the plan can have all of these shares, or it can't.
pub record TestPlans (group_threshold : ℕ) (groups : List Members) (names : Names) (set : List ShareFields) : Type 0 where
  pub all : (first_other groups names ≡ None) ↔ All (IsNameOfPlan groups) names
  pub first : (name : Name) → first_other groups names ≡ Some name → IsFirstOther groups names name
  pub shares : (list_all (is_of_plan group_threshold groups) set ≡ true) ↔ AreOfPlan group_threshold groups set

-- the share that a set gives for a name of the plan, or the fault; a plan always gives one or the other for a name that it has
abbrev pub given : List ShareFields → ℕ → List Members → Name → Result ShareFields Fault
given set group_threshold groups name =
    option_map_or (λ result. result_map_both (λ share. share) fault_of_reissue result) (reissue_of set group_threshold groups name)
    (Err (fault_of OtherPlan))

-- The shares that a set gives for these names; or the first fault that applies: the set has no shares, no backup of the
-- plan can have all of them, or the share of a name isn't given.
abbrev pub given_all : ℕ → List Members → Names → List ShareFields → Result (List ShareFields) Fault
given_all group_threshold groups names [] = Err (fault_of (Lack NoShares))
given_all group_threshold groups names (share ∷ shares) =
    if list_all (is_of_plan group_threshold groups) (share ∷ shares) then each (given (share ∷ shares) group_threshold groups) names
    else Err (fault_of OtherPlan)

-- ---- the output

-- the set that an input is read as, or the fault
abbrev pub set_or_fault : Result (List ShareFields) (Stop LineRefusal) → Result (List ShareFields) Fault
set_or_fault read = result_map_both (λ set. set) fault_of_stop read

-- The shares of which `reissue` writes the mnemonics for the plan, the names and what the input is read as, or the
-- fault. It judges the names first, then the lines of the input, and then the set of their shares.
abbrev pub reissued : ℕ → List Members → Names → Result (List ShareFields) (Stop LineRefusal) → Result (List ShareFields) Fault
reissued group_threshold groups names read =
    and_then (λ _. and_then (given_all group_threshold groups names) (set_or_fault read)) (judged_names groups names)

-- these are the shares for an input, or this is the fault
abbrev pub IsReissued : ℕ → List Members → Names → Input → Result (List ShareFields) Fault → Type 0
IsReissued group_threshold groups names input result =
    (read : Result (List ShareFields) (Stop LineRefusal)) × IsReadAs input read × (reissued group_threshold groups names read ≡ result)

-- the mnemonics of these shares are written, one on each line; or nothing is written, and the answer is the fault
abbrev pub AreWritten : Result (List ShareFields) Fault → List ℕ → Result (Unit {0}) Fault → Type 0
AreWritten (Ok shares) text answer = ArePrintedLines shares text × (answer ≡ Ok tt)
AreWritten (Err fault) text answer = (text ≡ []) × (answer ≡ Err fault)

-- `reissue` writes this text for the plan, the names and the input, and gives this answer
abbrev pub IsReissueOutput : ℕ → List Members → Names → Input → List ℕ → Result (Unit {0}) Fault → Type 0
IsReissueOutput group_threshold groups names input text answer =
    (result : Result (List ShareFields) Fault) × IsReissued group_threshold groups names input result × AreWritten result text answer

-- ---- mnemonics of a created backup

module _ (set : List ShareFields) (group_threshold : ℕ) (groups : List Members) where
  -- the shares at hand determine those of all names, and the text has the mnemonics of the backup's shares with these
  -- names, one on each line, in the order of the names
  pub record WritesThoseOf (backup : List ShareFields) (names : Names) (text : List ℕ) : Type 0 where
    pub determined : All (IsDetermined set group_threshold groups) names
    pub shares : List ShareFields
    pub theirs : AllZip (λ name share. Contains backup share × (name_of share ≡ name)) names shares
    pub printed : ArePrintedLines shares text

  -- this is the first name whose share isn't determined, with both counts for it
  pub record IsFirstUndetermined (names : Names) (few : TooFew) : Type 0 where
    pub before : Names
    pub name : Name
    pub after : Names
    pub parts : names ≡ before ++ name ∷ after
    pub earlier : All (IsDetermined set group_threshold groups) before
    pub undetermined : IsUndetermined set group_threshold groups name few

  -- The mnemonics of these names are written. Or nothing is written, and the answer is that there are no shares, or
  -- both counts for the first name whose share isn't determined.
  abbrev pub WritesThoseOrCause : List ShareFields → Names → List ℕ → Result (Unit {0}) Fault → Type 0
  WritesThoseOrCause backup names text (Ok _) = (set ≢ []) × WritesThoseOf backup names text
  WritesThoseOrCause backup names text (Err fault) =
      (text ≡ [])
      × (((set ≡ []) × (fault ≡ fault_of (Lack NoShares)))
      ⊎ ((set ≢ []) × ((few : TooFew) × IsFirstUndetermined names few × (fault ≡ fault_of (TooFewRefusal few)))))

-- This holds for the set of the input's shares, if the input holds mnemonics of a backup that was created by this plan,
-- and the plan has the names.
abbrev pub ReissuesCreated : ℕ → List Members → Names → Input → List ℕ → Result (Unit {0}) Fault → Type 0
ReissuesCreated group_threshold groups names input text answer =
    (passphrase secret : List ℕ) (mnemonics : HoldsMnemonicsOf passphrase secret input)
    → mnemonics.group_threshold ≡ group_threshold → mnemonics.groups ≡ groups → All (IsNameOfPlan groups) names
    → (set : List ShareFields) × IsReadAs input (Ok set) × WritesThoseOrCause set group_threshold groups mnemonics.shares names text answer
