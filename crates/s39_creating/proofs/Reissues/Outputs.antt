-- What `reissue` gives step by step, and what is put into a slice of it.
use Rattle.std.proofs.Common.{◌≡◌, ◌≢◌, ◌∙◌, ℕ, false, List, [], ◌∷◌, All, Some, refl, sym, ap, subst, Result, Ok, Err}
use Rattle.std.specs.List.{list_all}
use Rattle.std.proofs.lemmas.Bool.{false_from_ne_true}
use Rattle.s39_words.specs.declared.ShareFields.{ShareFields}
use Rattle.s39_set.specs.Names.{Name, Names}
use Rattle.s39_backup.specs.declared.plan.Members.{Members}
use Rattle.s39_backup.specs.Plan.{IsNameOfPlan}
use Rattle.s39_backup.specs.Reissue.{AreOfPlan}
use Rattle.s39_input.specs.declared.fault.LineRefusal.{LineRefusal}
use Rattle.s39_input.specs.declared.fault.Stop.{Stop}
use Rattle.s39_input.specs.declared.fault.Refusal.TheVariants.{OtherPlan}
use Rattle.s39_input.specs.declared.fault.Fault.{Fault}
use Rattle.s39_input.specs.Fault.{fault_of, fault_of_stop}
use Rattle.s39_input.specs.declared.slices.NoOutput.{NoOutput}
use Rattle.s39_input.specs.declared.slices.NoOutput.TheVariants.{Refused, TooShort}
use Rattle.s39_input.specs.declared.slices.WrittenLines.{WrittenLines}
use Rattle.s39_input.specs.Slices.{Puts}
use Rattle.s39_creating.specs.Reissue.{is_of_plan, first_other, fault_of_name, given_all, reissued}
use Rattle.s39_creating.proofs.Reissues.Named.{all_named, set_tested}

-- what is known of each output is known of what is put into a slice
pub puts_of : {Is Also : List ℕ → Result (Unit {0}) Fault → Type 0}
    → ((text : List ℕ) (answer : Result (Unit {0}) Fault) → Is text answer → Also text answer)
    → (old new : List ℕ) (result : Result WrittenLines NoOutput) → Puts Is old new result → Puts Also old new result
puts_of also old new (Ok put) (text, is, front, bytes, lines) = (text, also text (Ok tt) is, front, bytes, lines)
puts_of also old new (Err (TooShort short)) (text, is, needed, long, same) = (text, also text (Ok tt) is, needed, long, same)
puts_of also old new (Err (Refused fault)) (is, same) = (also [] (Err fault) is, same)

-- a set of which a share is of no backup of the plan
pub given_other : (group_threshold : ℕ) (groups : List Members) (names : Names) (set : List ShareFields) → set ≢ []
    → (AreOfPlan group_threshold groups set → ⊥) → given_all group_threshold groups names set ≡ Err (fault_of OtherPlan)
given_other group_threshold groups names [] some other = absurd (some refl)
given_other group_threshold groups names (share ∷ set) some other =
    let fails : list_all (is_of_plan group_threshold groups) (share ∷ set) ≡ false =
    false_from_ne_true _ (λ passes. other ((set_tested group_threshold groups (share ∷ set)).0 passes)) in
    rw fails refl

-- the steps one after another
module _ (group_threshold : ℕ) (groups : List Members) (names pairs : Names) (same : pairs ≡ names) where
  pub names_refused : (read : Result (List ShareFields) (Stop LineRefusal)) (name : Name) → first_other groups pairs ≡ Some name
      → reissued group_threshold groups names read ≡ Err (fault_of_name name)
  names_refused read name first = let here = ap (first_other groups) (sym same) ∙ first in rw here refl

  pub set_refused : (stop : Stop LineRefusal) → All (IsNameOfPlan groups) pairs → reissued group_threshold groups names (Err stop) ≡ Err (fault_of_stop stop)
  set_refused stop named = let here = all_named groups names (subst (All (IsNameOfPlan groups)) same named) in rw here refl

  pub set_gives : {result : Result (List ShareFields) Fault} (set : List ShareFields) → All (IsNameOfPlan groups) pairs
      → given_all group_threshold groups pairs set ≡ result → reissued group_threshold groups names (Ok set) ≡ result
  set_gives set named given =
      let here = all_named groups names (subst (All (IsNameOfPlan groups)) same named) in
      rw here (ap (λ ns. given_all group_threshold groups ns set) (sym same) ∙ given)
