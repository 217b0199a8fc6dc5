-- What `reissue` writes of mnemonics of a created backup.
use Rattle.std.proofs.Common.{◌≡◌, ◌≢◌, ◌⊎◌, ◌∙◌, ℕ, List, [], ◌∷◌, All, Contains, refl, sym, ap, subst, subst₂, inl, inr, Result, Ok, Err}
use Rattle.s39_lists.specs.Each.{each}
use Rattle.s39_words.specs.declared.ShareFields.{ShareFields}
use Rattle.s39_set.specs.Names.{Name, Names}
use Rattle.s39_set.specs.declared.set_lack.SetLack.TheVariants.{NoShares}
use Rattle.s39_set.specs.ShareSet.{IsShareSet, name_of}
use Rattle.s39_backup.specs.declared.plan.Members.{Members}
use Rattle.s39_backup.specs.declared.reissue_error.ReissueError.{ReissueError}
use Rattle.s39_backup.specs.declared.reissue_error.ReissueError.TheVariants.{Undetermined, DigestMismatch}
use Rattle.s39_backup.specs.declared.reissue_error.TooFew.{TooFew}
use Rattle.s39_backup.specs.Created.{AreOfBackup}
use Rattle.s39_backup.specs.Plan.{IsPlan, IsNameOfPlan}
use Rattle.s39_backup.specs.Reissue.{AreOfPlan, IsReissue, IsDetermined, IsUndetermined, IsRightFor}
use Rattle.s39_input.specs.declared.fault.Refusal.TheVariants.{Lack}
use Rattle.s39_input.specs.declared.fault.Fault.{Fault}
use Rattle.s39_input.specs.Input.{Input}
use Rattle.s39_input.specs.Fault.{fault_of, fault_of_reissue}
use Rattle.s39_input.specs.Accepted.{IsReadAs}
use Rattle.s39_input.specs.Create.{ArePrintedLines}
use Rattle.s39_input.specs.OfBackup.{HoldsMnemonicsOf}
use Rattle.s39_creating.specs.Reissue.{given, given_all, reissued, AreWritten, IsReissueOutput, WritesThoseOrCause, ReissuesCreated}
use Rattle.s39_input.proofs.Sets.OneSet.{InputsAreReadOnce, AcceptedAreShareSets}
use Rattle.s39_input.proofs.Sets.BackupSets.{of_backup}
use Rattle.s39_creating.proofs.Reissues.Firsts.{all_at, each-all, each-zip, each-first, IsStopped}
use Rattle.s39_creating.proofs.Reissues.Given.{given_share, given_fault, given_each}
use Rattle.s39_creating.proofs.Reissues.Named.{all_named}

empty_or_not : (set : List ShareFields) → (set ≡ []) ⊎ (set ≢ [])
empty_or_not [] = inl refl
empty_or_not (share ∷ set) = inr (λ none. absurd (cc))

module _ (of_plan : (set : List ShareFields) (passphrase secret : List ℕ) → IsShareSet set → (backup : AreOfBackup set passphrase secret)
    → AreOfPlan backup.group_threshold backup.groups set)
    (right : (set : List ShareFields) (passphrase secret : List ℕ) (name : Name) (result : Result ShareFields ReissueError) → IsShareSet set
    → (backup : AreOfBackup set passphrase secret) → IsNameOfPlan backup.groups name → IsReissue set backup.group_threshold backup.groups name result
    → IsRightFor backup.shares name result)
    (every_name : (set : List ShareFields) (group_threshold : ℕ) (groups : List Members) (name : Name) → IsShareSet set
    → IsPlan group_threshold groups → IsNameOfPlan groups name
    → (result : Result ShareFields ReissueError) × IsReissue set group_threshold groups name result)
    (determined : (set : List ShareFields) (group_threshold : ℕ) (groups : List Members) (name : Name) (share : ShareFields) → IsShareSet set
    → IsReissue set group_threshold groups name (Ok share) → IsDetermined set group_threshold groups name)
    (undetermined : (set : List ShareFields) (group_threshold : ℕ) (groups : List Members) (name : Name) (few : TooFew) → IsShareSet set
    → IsReissue set group_threshold groups name (Err (Undetermined few)) → IsUndetermined set group_threshold groups name few) where
  module _ (set : List ShareFields) (passphrase secret : List ℕ) (is : IsShareSet set) (backup : AreOfBackup set passphrase secret)
      (names : Names) (named : All (IsNameOfPlan backup.groups) names) where
    abbrev Cause : List ℕ → Result (Unit {0}) Fault → Type 0
    Cause = WritesThoseOrCause set backup.group_threshold backup.groups backup.shares names

    abbrev gives : Name → Result ShareFields Fault
    gives = given set backup.group_threshold backup.groups

    all_determined : (some : Names) (shares : List ShareFields) → each gives some ≡ Ok shares
        → All (IsDetermined set backup.group_threshold backup.groups) some
    all_determined =
        each-all gives (IsDetermined set backup.group_threshold backup.groups)
        (λ name share so. determined set backup.group_threshold backup.groups name share is
        (given_share set backup.group_threshold backup.groups name share so))

    -- no digest refuses what a share is computed from
    missing_cause : set ≢ [] → (fault : Fault) (first : IsStopped gives names fault) (error : ReissueError)
        → IsReissue set backup.group_threshold backup.groups first.item (Err error) → IsNameOfPlan backup.groups first.item
        → Cause [] (Err (fault_of_reissue error))
    missing_cause some fault first (DigestMismatch mismatch) missing in_plan =
        absurd (right set passphrase secret first.item (Err (DigestMismatch mismatch)) is backup in_plan missing)
    missing_cause some fault first (Undetermined few) missing in_plan = (
      refl,
      inr (
        some,
        (
          few,
          record {
            before = first.before;
            name = first.item;
            after = first.after;
            parts = first.parts_are;
            earlier = all_determined first.before first.values first.earlier;
            undetermined = undetermined set backup.group_threshold backup.groups first.item few is missing;
          },
          refl,
        ),
      ),
    )

    fault_cause : set ≢ [] → (fault : Fault) → each gives names ≡ Err fault → Cause [] (Err fault)
    fault_cause some fault refused =
        let first = each-first gives names fault refused in
        let in_plan =
        all_at (IsNameOfPlan backup.groups) first.before first.item first.after (subst (All (IsNameOfPlan backup.groups)) first.parts_are named) in
        let (result, so) = every_name set backup.group_threshold backup.groups first.item is backup.is_plan in_plan in
        given_fault set backup.group_threshold backup.groups (λ f. Cause [] (Err f)) first.item (λ none. absurd (cc))
        (λ error missing. missing_cause some fault first error missing in_plan) fault first.refused

    shares_cause : set ≢ [] → (shares : List ShareFields) → each gives names ≡ Ok shares → (text : List ℕ) → ArePrintedLines shares text
        → Cause text (Ok tt)
    shares_cause some shares so text printed = (
      some,
      record {
        determined = all_determined names shares so;
        shares = shares;
        theirs = each-zip gives (IsNameOfPlan backup.groups) (λ name share. Contains backup.shares share × (name_of share ≡ name))
            (λ name share in_plan here. right set passphrase secret name (Ok share) is backup in_plan
            (given_share set backup.group_threshold backup.groups name share here)) names shares named so;
        printed = printed;
      },
    )

    set_cause : (result : Result (List ShareFields) Fault) (text : List ℕ) (answer : Result (Unit {0}) Fault)
        → given_all backup.group_threshold backup.groups names set ≡ result → AreWritten result text answer → Cause text answer
    set_cause result text answer same written =
        elim (empty_or_not set) [
          | inl none ↦
              let lack : result ≡ Err (fault_of (Lack NoShares)) =
              sym same ∙ ap (given_all backup.group_threshold backup.groups names) none in
              let (empty, is_lack) = subst (λ r. AreWritten r text answer) lack written in
              subst₂ Cause (sym empty) (sym is_lack) (refl, inl (none, refl))
          | inr some ↦
              by result some
              (sym (given_each backup.group_threshold backup.groups names set some (of_plan set passphrase secret is backup)) ∙ same) written
        ]
      where
        by : (result : Result (List ShareFields) Fault) → set ≢ [] → each gives names ≡ result → AreWritten result text answer → Cause text answer
        by (Ok shares) some so (printed, done) = subst (Cause text) (sym done) (shares_cause some shares so text printed)
        by (Err fault) some so (empty, is_fault) = subst₂ Cause (sym empty) (sym is_fault) (fault_cause some fault so)

  -- what `reissue` gives of mnemonics of a created backup
  pub reissues_created : InputsAreReadOnce → AcceptedAreShareSets
      → ((passphrase secret : List ℕ) (input : Input) (mnemonics : HoldsMnemonicsOf passphrase secret input)
      → (set : List ShareFields) × IsReadAs input (Ok set) × All (Contains mnemonics.shares) set)
      → (group_threshold : ℕ) (groups : List Members) (names : Names) (input : Input) (text : List ℕ) (answer : Result (Unit {0}) Fault)
      → IsReissueOutput group_threshold groups names input text answer → ReissuesCreated group_threshold groups names input text answer
  unfolding of_backup
  reissues_created one_set share_sets read_as group_threshold groups names input text answer (result, (read, is_read, same), written) passphrase secret
      mnemonics threshold_is groups_are named =
      let (set, is_set, belong) = read_as passphrase secret input mnemonics in
      let is = share_sets input set is_set in
      let backup = of_backup passphrase secret input mnemonics set belong in
      let of_set : given_all group_threshold groups names set ≡ result =
      sym (rw (all_named groups names named) refl) ∙ ap (reissued group_threshold groups names) (sym (one_set input read (Ok set) is_read is_set)) ∙ same in
      let ours : given_all mnemonics.group_threshold mnemonics.groups names set ≡ result =
      subst₂ (λ (t : ℕ) (gs : List Members). given_all t gs names set ≡ result) (sym threshold_is) (sym groups_are) of_set in
      let so =
      set_cause set passphrase secret is backup names (subst (λ gs. All (IsNameOfPlan gs) names) (sym groups_are) named) result text answer ours written in
      (set, is_set, subst₂ (λ (t : ℕ) (gs : List Members). WritesThoseOrCause set t gs mnemonics.shares names text answer) threshold_is groups_are so)
