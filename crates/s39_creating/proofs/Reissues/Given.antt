-- The shares that a set gives for names, and the faults for which it gives none.
use Rattle.std.proofs.Common.{◌≡◌, ◌≢◌, ℕ, Bool, true, false, List, [], ◌∷◌, All, Option, Some, None, refl, ap, ◌∙◌, subst, Result, Ok, Err}
use Rattle.std.specs.Prelude.{IfOk, if◌then◌else◌}
use Rattle.std.specs.List.{list_all}
use Rattle.std.specs.Option.{option_map_or}
use Rattle.std.specs.Result.{result_map_both}
use Rattle.s39_lists.specs.Each.{and_then, each}
use Rattle.s39_lists.proofs.Each.{each-refuses, each-values}
use Rattle.s39_words.specs.declared.ShareFields.{ShareFields}
use Rattle.s39_words.specs.Share.{IsShare}
use Rattle.s39_set.specs.Names.{Name, Names}
use Rattle.s39_set.specs.ShareSet.{IsShareSet}
use Rattle.s39_set.specs.declared.set_lack.SetLack.TheVariants.{NoShares}
use Rattle.s39_backup.specs.declared.plan.Members.{Members}
use Rattle.s39_backup.specs.declared.reissue_error.ReissueError.{ReissueError}
use Rattle.s39_backup.specs.Plan.{IsPlan, IsNameOfPlan}
use Rattle.s39_backup.specs.Reissue.{reissue_of, IsReissue, AreOfPlan}
use Rattle.s39_input.specs.declared.fault.LineRefusal.{LineRefusal}
use Rattle.s39_input.specs.declared.fault.Stop.{Stop}
use Rattle.s39_input.specs.declared.fault.Refusal.TheVariants.{Lack, OtherPlan}
use Rattle.s39_input.specs.declared.fault.Fault.{Fault}
use Rattle.s39_input.specs.Fault.{fault_of, fault_of_reissue}
use Rattle.s39_creating.specs.Reissue.{first_other, fault_of_name, is_of_plan, given, given_all, set_or_fault, reissued}
use Rattle.s39_creating.proofs.Reissues.Named.{none_other, set_tested}

abbrev of_reissue : Option (Result ShareFields ReissueError) → Result ShareFields Fault
of_reissue reissue = option_map_or (λ result. result_map_both (λ share. share) fault_of_reissue result) reissue (Err (fault_of OtherPlan))

module _ (set : List ShareFields) (group_threshold : ℕ) (groups : List Members) where
  -- a share that is given
  pub given_share : (name : Name) (share : ShareFields) → given set group_threshold groups name ≡ Ok share
      → IsReissue set group_threshold groups name (Ok share)
  given_share name share is = by (reissue_of set group_threshold groups name) refl is
    where
      by : (reissue : Option (Result ShareFields ReissueError)) → reissue_of set group_threshold groups name ≡ reissue → of_reissue reissue ≡ Ok share
          → IsReissue set group_threshold groups name (Ok share)
      by None here is = absurd (cc)
      by (Some (Err error)) here is = absurd (cc)
      by (Some (Ok other)) here is = let same : other ≡ share = cc in here ∙ ap (λ (s : ShareFields). Some (Ok s)) same

  -- why none is given
  pub given_fault : (P : Fault → Type 0) (name : Name) → (reissue_of set group_threshold groups name ≡ None → P (fault_of OtherPlan))
      → ((error : ReissueError) → IsReissue set group_threshold groups name (Err error) → P (fault_of_reissue error))
      → (fault : Fault) → given set group_threshold groups name ≡ Err fault → P fault
  given_fault P name other of fault is = by (reissue_of set group_threshold groups name) refl is
    where
      by : (reissue : Option (Result ShareFields ReissueError)) → reissue_of set group_threshold groups name ≡ reissue → of_reissue reissue ≡ Err fault
          → P fault
      by None here is = let same : fault_of OtherPlan ≡ fault = cc in subst P same (other here)
      by (Some (Ok share)) here is = absurd (cc)
      by (Some (Err error)) here is = let same : fault_of_reissue error ≡ fault = cc in subst P same (of error here)

-- the names have shares, each by itself, if the set has some and all are of the plan
pub given_each : (group_threshold : ℕ) (groups : List Members) (names : Names) (set : List ShareFields) → set ≢ [] → AreOfPlan group_threshold groups set
    → given_all group_threshold groups names set ≡ each (given set group_threshold groups) names
given_each group_threshold groups names [] some of_plan = absurd (some refl)
given_each group_threshold groups names (share ∷ set) some of_plan = rw ((set_tested group_threshold groups (share ∷ set)).1 of_plan) refl

-- ---- all of them

-- the fault of the first name that the plan doesn't have, if there is one
abbrev pub name_fault : Option Name → Result (Unit {0}) Fault
name_fault other = option_map_or (λ name. Err (fault_of_name name)) other (Ok tt)

module _ (group_threshold : ℕ) (groups : List Members) (names : Names) where
  pub all_given : (set shares : List ShareFields) → given_all group_threshold groups names set ≡ Ok shares
      → each (given set group_threshold groups) names ≡ Ok shares
  all_given [] shares is = absurd (cc)
  all_given (share ∷ set) shares is = by (list_all (is_of_plan group_threshold groups) (share ∷ set)) is
    where
      by : (of_plan : Bool) → (if of_plan then each (given (share ∷ set) group_threshold groups) names else Err (fault_of OtherPlan)) ≡ Ok shares
          → each (given (share ∷ set) group_threshold groups) names ≡ Ok shares
      by true is = is
      by false is = absurd (cc)

  -- what is so of these faults is so of the fault of a set
  pub all_refused : (P : Fault → Type 0) → P (fault_of (Lack NoShares)) → P (fault_of OtherPlan) → ((error : ReissueError) → P (fault_of_reissue error))
      → (set : List ShareFields) (fault : Fault) → given_all group_threshold groups names set ≡ Err fault → P fault
  all_refused P none other of [] fault is = let same : fault_of (Lack NoShares) ≡ fault = cc in subst P same none
  all_refused P none other of (share ∷ set) fault is = by (list_all (is_of_plan group_threshold groups) (share ∷ set)) is
    where
      by : (of_plan : Bool) → (if of_plan then each (given (share ∷ set) group_threshold groups) names else Err (fault_of OtherPlan)) ≡ Err fault
          → P fault
      by false is = let same : fault_of OtherPlan ≡ fault = cc in subst P same other
      by true is =
          let (name, among, refused) = each-refuses (given (share ∷ set) group_threshold groups) names fault is in
          given_fault (share ∷ set) group_threshold groups P name (λ _. other) (λ error _. of error) fault refused

  -- which set the shares are of
  pub record FromSet (read : Result (List ShareFields) (Stop LineRefusal)) (shares : List ShareFields) : Type 0 where
    pub set : List ShareFields
    pub read_is : read ≡ Ok set
    pub named : All (IsNameOfPlan groups) names
    pub each_is : each (given set group_threshold groups) names ≡ Ok shares

  pub from_set : (read : Result (List ShareFields) (Stop LineRefusal)) (shares : List ShareFields) → reissued group_threshold groups names read ≡ Ok shares
      → FromSet read shares
  from_set read shares is = by read refl (first_other groups names) refl is
    where
      by : (answer : Result (List ShareFields) (Stop LineRefusal)) → read ≡ answer → (other : Option Name) → first_other groups names ≡ other
          → and_then (λ _. and_then (given_all group_threshold groups names) (set_or_fault answer))
          (name_fault other) ≡ Ok shares → FromSet read shares
      by answer here (Some name) first is = absurd (cc)
      by (Err stop) here None first is = absurd (cc)
      by (Ok set) here None first is =
          record { set = set; read_is = here; named = none_other groups names first; each_is = all_given set shares is }

  -- they can be printed
  pub shares_of_set : ((set : List ShareFields) (group_threshold : ℕ) (groups : List Members) (name : Name) (share : ShareFields) → IsShareSet set
      → IsPlan group_threshold groups → IsNameOfPlan groups name → IsReissue set group_threshold groups name (Ok share) → IsShare share)
      → IsPlan group_threshold groups → (read : Result (List ShareFields) (Stop LineRefusal)) → IfOk read IsShareSet
      → IfOk (reissued group_threshold groups names read) (All IsShare)
  shares_of_set are_shares plan read is = by (reissued group_threshold groups names read) refl
    where
      by : (result : Result (List ShareFields) Fault) → reissued group_threshold groups names read ≡ result → IfOk result (All IsShare)
      by (Err fault) same = tt
      by (Ok shares) same =
          let f = from_set read shares same in
          let share_set : IsShareSet f.set = subst (λ r. IfOk r IsShareSet) f.read_is is in
          each-values (given f.set group_threshold groups) (IsNameOfPlan groups) IsShare
          (λ name share in_plan so. are_shares f.set group_threshold groups name share share_set plan in_plan
          (given_share f.set group_threshold groups name share so))
          names shares f.named f.each_is
