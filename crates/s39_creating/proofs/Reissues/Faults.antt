-- The faults of `reissue`.
use Rattle.std.proofs.Common.{◌≡◌, ℕ, Bool, true, false, List, Option, Some, None, refl, ap, ◌∙◌, Result, Ok, Err}
use Rattle.s39_lists.specs.Each.{and_then}
use Rattle.s39_words.specs.declared.ShareFields.{ShareFields}
use Rattle.s39_set.specs.Names.{Name, Names}
use Rattle.s39_backup.specs.declared.plan.Members.{Members}
use Rattle.s39_backup.specs.declared.reissue_error.ReissueError.{ReissueError}
use Rattle.s39_backup.specs.declared.reissue_error.ReissueError.TheVariants.{Undetermined, DigestMismatch}
use Rattle.s39_input.specs.declared.fault.LineRefusal.{LineRefusal}
use Rattle.s39_input.specs.declared.fault.Stop.{Stop}
use Rattle.s39_input.specs.declared.fault.Stop.TheVariants.{AtLine, ReadFailed}
use Rattle.s39_input.specs.declared.fault.Refusal.{Refusal}
use Rattle.s39_input.specs.declared.fault.Refusal.TheVariants.{NotInPlan}
use Rattle.s39_input.specs.declared.fault.Fault.{Fault}
use Rattle.s39_input.specs.Fault.{fault_of, fault_of_stop, fault_of_reissue, read_failures_in, write_failures_in}
use Rattle.s39_input.specs.Input.{Input}
use Rattle.s39_creating.proofs.Reissues.Named.{first_is}
use Rattle.s39_creating.specs.Reissue.{first_other, IsFirstOther, fault_of_name, given_all, set_or_fault, AreWritten, IsReissueOutput}
use Rattle.s39_creating.proofs.Reissues.Given.{name_fault, all_refused}

abbrev is_name : Refusal → Bool
is_name (NotInPlan group member) = true
is_name _ = false

pub not_of_name : (group member : ℕ) (fault : Fault) → fault_of (NotInPlan group member) ≡ fault → is_name fault.refusal ≡ false → ⊥
not_of_name group member fault is other = let both : true ≡ false = ap (λ (f : Fault). is_name f.refusal) is ∙ other in absurd (cc)

-- the fault of a line or of a failed read is of no name
pub stop_elsewhere : (stop : Stop LineRefusal) → is_name (fault_of_stop stop).refusal ≡ false
stop_elsewhere (AtLine refused) = refl
stop_elsewhere ReadFailed = refl

-- that of a set is of no device either
pub record IsOfSet (fault : Fault) : Type 0 where
  pub reads : read_failures_in fault.refusal ≡ 0
  pub writes : write_failures_in fault.refusal ≡ 0
  pub elsewhere : is_name fault.refusal ≡ false

pub of_set : (group_threshold : ℕ) (groups : List Members) (names : Names) (set : List ShareFields) (fault : Fault)
    → given_all group_threshold groups names set ≡ Err fault → IsOfSet fault
of_set group_threshold groups names =
    all_refused group_threshold groups names IsOfSet (record { reads = refl; writes = refl; elsewhere = refl })
    (record { reads = refl; writes = refl; elsewhere = refl }) of
  where
    of : (error : ReissueError) → IsOfSet (fault_of_reissue error)
    of (Undetermined few) = record { reads = refl; writes = refl; elsewhere = refl }
    of (DigestMismatch mismatch) = record { reads = refl; writes = refl; elsewhere = refl }

-- ---- a name is refused where the plan doesn't have it

abbrev name_in : Refusal → Name
name_in (NotInPlan group member) = (group, member)
name_in _ = (0, 0)

-- a fault that is answered is that of the shares
pub fault_written : (result : Result (List ShareFields) Fault) (text : List ℕ) (fault : Fault) → AreWritten result text (Err fault) → result ≡ Err fault
fault_written (Ok shares) text fault (printed, same) = absurd (cc)
fault_written (Err other) text fault (empty, same) = let faults : other ≡ fault = cc in ap Err faults

pub name_cause : (group_threshold : ℕ) (groups : List Members) (names : Names) (input : Input) (text : List ℕ) (group member : ℕ)
    → IsReissueOutput group_threshold groups names input text (Err (fault_of (NotInPlan group member))) → IsFirstOther groups names (group, member)
name_cause group_threshold groups names input text group member (result, (read, is, same), written) =
    by (first_other groups names) refl read (same ∙ fault_written result text (fault_of (NotInPlan group member)) written)
  where
    by : (other : Option Name) → first_other groups names ≡ other → (answer : Result (List ShareFields) (Stop LineRefusal))
        → and_then (λ _. and_then (given_all group_threshold groups names) (set_or_fault answer))
        (name_fault other) ≡ Err (fault_of (NotInPlan group member)) → IsFirstOther groups names (group, member)
    by (Some name) first answer refused =
        let faults : fault_of_name name ≡ fault_of (NotInPlan group member) = cc in
        first_is groups names (group, member) (first ∙ ap (λ (f : Fault). Some (name_in f.refusal)) faults)
    by None first (Err stop) refused =
        let faults : fault_of (NotInPlan group member) ≡ fault_of_stop stop = cc in
        absurd (not_of_name group member (fault_of_stop stop) faults (stop_elsewhere stop))
    by None first (Ok set) refused =
        absurd (not_of_name group member _ refl (of_set group_threshold groups names set (fault_of (NotInPlan group member)) refused).elsewhere)
