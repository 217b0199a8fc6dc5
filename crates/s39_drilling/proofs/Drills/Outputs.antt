-- What a drill of a set writes is one thing, and something.
use Rattle.std.proofs.Common.{◌≡◌, ◌≢◌, ◌⊎◌, ℕ, suc, List, ◌++◌, refl, ap, ap₂, subst, inl, inr, Option, Some, None, IfSome, Result, Ok, Err}
use Rattle.std.proofs.lemmas.Bool.{cases_eq}
use Rattle.s39_words.specs.declared.ShareFields.{ShareFields}
use Rattle.s39_set.specs.Names.{Name, Names}
use Rattle.s39_set.specs.declared.set_lack.SetLack.{SetLack}
use Rattle.s39_set.specs.ShareSet.{IsShareSet}
use Rattle.s39_set.specs.Quorums.{IsQuorum, IsFirstQuorumAfter}
use Rattle.s39_set.specs.Lack.{IsLack}
use Rattle.s39_set.specs.Listing.{IsListing}
use Rattle.s39_set.specs.SetFacts.{SetsHaveOneLack, SetsWithQuorumsHaveNone}
use Rattle.s39_backup.specs.declared.combination.Mismatch.{Mismatch}
use Rattle.s39_backup.specs.Outcome.{IsOutcome}
use Rattle.s39_kdf.specs.declared.secret_form.SecretForm.{SecretForm}
use Rattle.s39_drilling.specs.declared.drill.NoDrill.{NoDrill}
use Rattle.s39_drilling.specs.declared.drill.NoDrill.TheVariants.{Lack, NotAQuorum}
use Rattle.s39_drilling.specs.declared.drill.Done.{Done}
use Rattle.s39_input.specs.declared.fault.Fault.{Fault}
use Rattle.s39_input.specs.Input.{Input}
use Rattle.s39_input.specs.Fault.{read_failures_in, write_failures_in}
use Rattle.s39_input.specs.Steps.{gives, refuses}
use Rattle.s39_drilling.specs.Drill.{DrillLaws, last_line, IsNoDrill, fault_of_no_drill, IsDrillable, WritesLines, WritesDrillOf, IsDrillOutput}
use Rattle.s39_input.proofs.Steps.{AtMostOne, AtLeastOne, then_once, then_some}
use Rattle.s39_input.proofs.Sets.Checked.{same_writing}
use Rattle.s39_lists.proofs.Decided.{same_or_other, among_or_not}
use Rattle.s39_drilling.proofs.Drills.Drilling.{some_drill_of}
use Rattle.s39_drilling.proofs.Drills.OneDrill.{one_drill_of_a_set}

-- which failures a fault says
pub no_drill_reads : (cause : NoDrill) → read_failures_in (fault_of_no_drill cause).refusal ≡ 0
no_drill_reads (Lack lack) = refl
no_drill_reads NotAQuorum = refl

pub no_drill_writes : (cause : NoDrill) → write_failures_in (fault_of_no_drill cause).refusal ≡ 0
no_drill_writes (Lack lack) = refl
no_drill_writes NotAQuorum = refl

-- ---- at most one

pub no_drill_once : SetsHaveOneLack → (set : List ShareFields) (after : Option Names) → AtMostOne (IsNoDrill set after)
no_drill_once one_lack set after (Lack lack) (Lack other) p q = ap Lack (one_lack set lack other p q)
no_drill_once one_lack set after (Lack lack) NotAQuorum p q = absurd (q.0 lack p)
no_drill_once one_lack set after NotAQuorum (Lack lack) p q = absurd (p.0 lack q)
no_drill_once one_lack set after NotAQuorum NotAQuorum p q = refl

pub drilled_or_not : (set : List ShareFields) (after : Option Names) (cause : NoDrill) → ((lack : SetLack) → ¬ IsLack set lack)
    → IfSome after (IsQuorum set) → IsNoDrill set after cause → ⊥
drilled_or_not set after (Lack lack) no_lack cursor refused = no_lack lack refused
drilled_or_not set after NotAQuorum no_lack cursor (none, (names, is, other)) = other (subst (λ a. IfSome a (IsQuorum set)) is cursor)

drillable_once : SetsHaveOneLack → (set : List ShareFields) (after : Option Names) → AtMostOne (IsDrillable set after)
drillable_once one_lack set after (Ok _) (Ok _) p q = refl
drillable_once one_lack set after (Ok _) (Err cause) p q = absurd (drilled_or_not set after cause p.0 p.1 q)
drillable_once one_lack set after (Err cause) (Ok _) p q = absurd (drilled_or_not set after cause q.0 q.1 p)
drillable_once one_lack set after (Err cause) (Err other) p q = ap Err (no_drill_once one_lack set after cause other p q)

module _ (one_lack : SetsHaveOneLack)
    (one_listing : (set : List ShareFields) (given : Option Names) (limit : ℕ) (listed others : List Names) → IsListing set given limit listed
    → IsListing set given limit others → listed ≡ others)
    (one_outcome : (set : List ShareFields) (names : Names) (passphrase : List ℕ) (outcome other : Result (List ℕ) Mismatch) → IsShareSet set
    → IsQuorum set names
    → IsOutcome set names passphrase outcome → IsOutcome set names passphrase other → outcome ≡ other)
    (form : SecretForm) (passphrase : List ℕ) (after : Option Names) (limit : ℕ) (set : List ShareFields) (is : IsShareSet set) where
  lines_once : AtMostOne (WritesLines form set passphrase after limit)
  lines_once written other (lines, more, m, d, is_written) (lines', more', n, e, is_other) =
      let (texts, goes_on, mismatches) = one_drill_of_a_set one_listing one_outcome set passphrase is after limit lines lines' more more' m n d e in
      rw (is_written, is_other, texts, goes_on, mismatches) refl

  pub drill_of_set_once : AtMostOne (WritesDrillOf form passphrase after limit set)
  drill_of_set_once = then_once (IsDrillable set after) _ _ (drillable_once one_lack set after) (λ _ _. lines_once)

-- a refusal with one limit is one with any
pub refused_with : {form : SecretForm} (passphrase : List ℕ) (after : Option Names) (limit n : ℕ) (input : Input) (text : List ℕ) (fault : Fault)
    → IsDrillOutput form passphrase after limit input text (Err fault) → IsDrillOutput form passphrase after n input text (Err fault)
refused_with passphrase after limit n input text fault (refuses f checked is) = refuses f checked is
refused_with passphrase after limit n input text fault (gives set checked (refuses cause so is)) = gives set checked (refuses cause so is)
refused_with passphrase after limit n input text fault (gives set checked (gives _ so (lines, more, m, drill, is))) =
    let answers = (same_writing {T = Done} text (lines ++ last_line more) (Err fault) (Ok (record { mismatches = m })) is).1 in absurd (cc)

-- ---- at least one

same_name_or_other : (a b : Name) → (a ≡ b) ⊎ (a ≢ b)
same_name_or_other (g, m) (h, n) =
    elim (cases_eq g h) [
      | inl groups ↦ (elim (cases_eq m n) [
        | inl members ↦ inl (ap₂ (λ (x y : ℕ). (x, y)) groups members)
        | inr other ↦ inr (λ e. other (ap (λ (p : Name). p.1) e))
      ])
      | inr other ↦ inr (λ e. other (ap (λ (p : Name). p.0) e))
    ]

module _ (laws : DrillLaws) (no_lack : SetsWithQuorumsHaveNone)
    (quorum_or_lack : (set : List ShareFields) → IsShareSet set
    → ((names : Names) × IsFirstQuorumAfter set None names) ⊎ ((lack : SetLack) × IsLack set lack))
    (set : List ShareFields) (is : IsShareSet set) where
  -- names are a quorum or not
  quorum_or_not : (names : Names) → IsQuorum set names ⊎ ¬ IsQuorum set names
  quorum_or_not names =
      let (listed, l) = laws.exists set None 0 is in
      elim (among_or_not (same_or_other same_name_or_other) l.all names) [
        | inl among ↦ inl ((l.all_are.each names).0 among).0
        | inr missing ↦ inr (λ quorum. missing ((l.all_are.each names).1 (quorum, tt)))
      ]

  cursor_or_not : ((lack : SetLack) → ¬ IsLack set lack) → (after : Option Names) → AtLeastOne (IsDrillable set after)
  cursor_or_not none None = (Ok tt, (none, tt))
  cursor_or_not none (Some names) =
      elim (quorum_or_not names) [
        | inl quorum ↦ (Ok tt, (none, quorum))
        | inr other ↦ (Err NotAQuorum, (none, (names, refl, other)))
      ]

  drillable_or_not : (after : Option Names) → AtLeastOne (IsDrillable set after)
  drillable_or_not after =
      elim (quorum_or_lack set is) [
        | inl (names, least) ↦ cursor_or_not (λ lack. no_lack set names lack least.quorum) after
        | inr (lack, lacks) ↦ (Err (Lack lack), lacks)
      ]

  pub some_drill_of_set : (form : SecretForm) (passphrase : List ℕ) (after : Option Names) (limit : ℕ)
      → AtLeastOne (WritesDrillOf form passphrase after (suc limit) set)
  some_drill_of_set form passphrase after limit =
      let d = some_drill_of laws set passphrase is form after limit in
      then_some (IsDrillable set after) _ _ (drillable_or_not after)
      (λ _ _. ((d.text ++ last_line d.more, Ok (record { mismatches = d.mismatches })), (d.text, d.more, d.mismatches, d.drill, refl)))
