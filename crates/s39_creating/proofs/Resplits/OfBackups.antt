-- What `resplit` writes of mnemonics of a created backup.
use Rattle.std.proofs.Common.{◌≡◌, ◌≢◌, ◌∙◌, ◌<◌, ◌^◌, ◌==◌, not, ℕ, Bool, true, false, if◌then◌else◌, List, [], ◌∷◌, length, All, Contains, inl, inr, refl, sym, ap, subst, arith, eqb-true, Result, Ok, Err}
use Rattle.std.proofs.Math.Bridge.{le_prop}
use Rattle.std.proofs.lemmas.Bool.{eqb-false}
use Rattle.std.proofs.lemmas.List.Elements.{All-head, All-contains}
use Rattle.s39_lists.proofs.Sublists.{each}
use Rattle.s39_kdf.specs.declared.params.Params.{Params}
use Rattle.s39_kdf.specs.Limits.{exponent_bits}
use Rattle.s39_kdf.specs.Cipher.{EncryptionKeepsLengthAndBytes}
use Rattle.s39_words.specs.declared.ShareFields.{ShareFields}
use Rattle.s39_set.specs.Names.{Names}
use Rattle.s39_set.specs.ShareSet.{IsShareSet, Agrees}
use Rattle.s39_set.specs.Quorums.{IsQuorum}
use Rattle.s39_set.specs.Lack.{IsLack}
use Rattle.s39_set.specs.declared.set_lack.SetLack.{SetLack}
use Rattle.s39_backup.specs.declared.combination.Mismatch.{Mismatch}
use Rattle.s39_backup.specs.declared.options.Options.{Options}
use Rattle.s39_backup.specs.declared.plan.Members.{Members}
use Rattle.s39_backup.specs.declared.resplit_error.ResplitError.{ResplitError}
use Rattle.s39_backup.specs.declared.resplit_error.ResplitError.TheVariants.{Lack, DigestMismatch, NotExtendable, BadRandomLength, SameIdentifier}
use Rattle.s39_backup.specs.Created.{asked_for, random_needed, AreOfBackup, IsCreatedFrom, Asked}
use Rattle.s39_backup.specs.Outcome.{AreParams, IsOutcome, Recovers}
use Rattle.s39_backup.specs.Resplit.{gives_identifier, judged_split, IsRefusedSplit, IsResplit}
use Rattle.s39_backup.proofs.Promise.{in_created_groups}
use Rattle.s39_input.specs.declared.fault.Refusal.{Refusal}
use Rattle.s39_input.specs.declared.fault.Fault.{Fault}
use Rattle.s39_input.specs.Input.{Input, whole}
use Rattle.s39_input.specs.Fault.{fault_of, fault_of_resplit}
use Rattle.s39_input.specs.Accepted.{IsReadAs}
use Rattle.s39_input.specs.Create.{IsCreateOutput}
use Rattle.s39_input.specs.OfBackup.{HoldsMnemonicsOf}
use Rattle.s39_input.specs.Steps.{gives, refuses}
use Rattle.s39_input.proofs.Sets.OneSet.{InputsAreReadOnce, AcceptedAreShareSets}
use Rattle.s39_input.proofs.Sets.BackupSets.{of_backup}
use Rattle.s39_creating.specs.Reissue.{AreWritten}
use Rattle.s39_creating.specs.Resplit.{IsSplitOf, IsResplitOutput, Hinders, WritesCreatedOrCause, ResplitsCreated}
use Rattle.s39_creating.proofs.Resplits.Outputs.{SplitsAreCreations, split_of}

-- ---- options

-- options are known by their fields
same_options : (p q : Options) → p.extendable ≡ q.extendable → p.exponent ≡ q.exponent → p ≡ q
same_options p q extendable exponent =
    subst
    (λ (f : Bool). p ≡ of f q.exponent q.exponent_in_range)
    extendable
    (subst
    (λ (e : ℕ). (k : e < 2 ^ exponent_bits) → p ≡ of p.extendable e k)
    exponent
    (λ k. ap (λ (t : p.exponent < 2 ^ exponent_bits). of p.extendable p.exponent t) (le_prop p.exponent_in_range k))
    q.exponent_in_range)
  where
    of : (extendable : Bool) (exponent : ℕ) → exponent < 2 ^ exponent_bits → Options
    of extendable exponent t = record { exponent = exponent; extendable = extendable; exponent_in_range = t }

-- a created share has those of its creation
created_options : (asked : Asked) (random : List ℕ) (shares : List ShareFields) (share : ShareFields) → IsCreatedFrom asked random shares
    → Contains shares share → (share.extendable ≡ asked.options.extendable) × (share.exponent ≡ asked.options.exponent)
created_options asked random shares share created among =
    let is = in_created_groups created.params asked.group_threshold (length asked.groups) asked.groups created.values 0 share
    (subst (λ (xs : List ShareFields). Contains xs share) created.shares_are among) in (
      ap (λ (s : ShareFields). s.extendable) is.share_is ∙ created.params_are.extendable,
      ap (λ (s : ShareFields). s.exponent) is.share_is ∙ created.params_are.exponent,
    )

-- the fault of a split is at no line
no_line : (error : ResplitError) → fault_of_resplit error ≡ fault_of (fault_of_resplit error).refusal
no_line (Lack lack) = refl
no_line (DigestMismatch mismatch) = refl
no_line NotExtendable = refl
no_line (BadRandomLength needed) = refl
no_line SameIdentifier = refl

-- ---- what is judged

-- why what is combined isn't split
abbrev IsJudged : Params → ℕ → List Members → List ℕ → List ℕ → ResplitError → Type 0
IsJudged old group_threshold groups random encrypted (Lack lack) = ⊥
IsJudged old group_threshold groups random encrypted (DigestMismatch mismatch) = ⊥
IsJudged old group_threshold groups random encrypted NotExtendable = old.extendable ≡ false
IsJudged old group_threshold groups random encrypted (BadRandomLength needed) =
    (needed ≡ random_needed group_threshold groups (length encrypted)) × (length random ≢ needed)
IsJudged old group_threshold groups random encrypted SameIdentifier = gives_identifier random old.id ≡ true

module _ (old : Params) (group_threshold : ℕ) (groups : List Members) (random encrypted : List ℕ) where
  abbrev needed : ℕ
  needed = random_needed group_threshold groups (length encrypted)

  abbrev by_tests : (extendable same_count same_id : Bool) → Result (List ℕ) ResplitError
  by_tests extendable same_count same_id =
      if not extendable then Err NotExtendable else if not same_count then Err (BadRandomLength needed)
      else if same_id then Err SameIdentifier else Ok encrypted

  judged_error : (error : ResplitError) → judged_split old group_threshold groups random (Ok encrypted) ≡ Err error
      → IsJudged old group_threshold groups random encrypted error
  judged_error error is = by old.extendable (length random == needed) (gives_identifier random old.id) refl refl refl is
    where
      Is : ResplitError → Type 0
      Is = IsJudged old group_threshold groups random encrypted

      by : (extendable same_count same_id : Bool) → old.extendable ≡ extendable → length random == needed ≡ same_count
          → gives_identifier random old.id ≡ same_id → by_tests extendable same_count same_id ≡ Err error → Is error
      by false same_count same_id extendable count id judged = let same : NotExtendable ≡ error = cc in subst Is same extendable
      by true false same_id extendable count id judged =
          let same : BadRandomLength needed ≡ error = cc in
          subst Is same (refl, λ equal. eqb-false (length random) needed count equal)
      by true true true extendable count id judged = let same : SameIdentifier ≡ error = cc in subst Is same id
      by true true false extendable count id judged = absurd (let bad : Ok encrypted ≡ Err error = judged in cc)

-- ---- mnemonics of a created backup

module _ (creations : SplitsAreCreations) (one_set : InputsAreReadOnce) (are_sets : AcceptedAreShareSets)
    (read_as : (passphrase secret : List ℕ) (input : Input) (mnemonics : HoldsMnemonicsOf passphrase secret input)
    → (set : List ShareFields) × IsReadAs input (Ok set) × All (Contains mnemonics.shares) set)
    (recovers : (set : List ShareFields) (names : Names) (passphrase secret : List ℕ) → IsShareSet set → IsQuorum set names
    → AreOfBackup set passphrase secret → IsOutcome set names passphrase (Ok secret))
    (keeps : EncryptionKeepsLengthAndBytes) where
  module _ (group_threshold : ℕ) (groups : List Members) (random : List ℕ) (passphrase secret : List ℕ) (input : Input)
      (mnemonics : HoldsMnemonicsOf passphrase secret input) (set : List ShareFields) (read : IsReadAs input (Ok set))
      (belong : All (Contains mnemonics.shares) set) where
    abbrev asked : Asked
    asked = asked_for secret passphrase group_threshold groups mnemonics.options

    is_set : IsShareSet set
    is_set = are_sets input set read

    recovers_secret : (names : Names) → IsQuorum set names → Recovers set names passphrase secret
    recovers_secret names quorum = recovers set names passphrase secret is_set quorum (of_backup passphrase secret input mnemonics set belong)

    -- a share that is at hand has the options of the creation
    at_hand : (share : ShareFields) → Contains set share
        → (share.extendable ≡ mnemonics.options.extendable) × (share.exponent ≡ mnemonics.options.exponent)
    at_hand share among =
        created_options (asked_for secret passphrase mnemonics.group_threshold mnemonics.groups mnemonics.options) mnemonics.random mnemonics.shares share
        mnemonics.created.3 (All-contains (Contains mnemonics.shares) set share belong among)

    -- parameters of the set are those of some share
    some_share : (old : Params) → AreParams set old
        → (share : ShareFields) × Contains set share × (old.id ≡ share.id) × (old.extendable ≡ share.extendable)
    some_share old are = by set refl are
      where
        by : (xs : List ShareFields) → set ≡ xs → AreParams xs old
            → (share : ShareFields) × Contains set share × (old.id ≡ share.id) × (old.extendable ≡ share.extendable)
        by [] here are = absurd are
        by (s ∷ ss) here are = (s, subst (λ (xs : List ShareFields). Contains xs s) (sym here) (0, omega arith, refl), are.0, are.1)

    -- ---- the mnemonics are written

    written : (text : List ℕ) (shares : List ShareFields) → IsResplit set group_threshold groups random (Ok shares)
        → AreWritten (Ok shares) text (Ok tt) → IsCreateOutput asked (whole random) text (Ok tt)
    written text shares split printed =
        let (options, have, creation) = creations set group_threshold groups random shares split.names passphrase secret is_set split split.least
        (recovers_secret split.names split.least.quorum) mnemonics.created.0 in
        let (share, among, id, extendable) = some_share split.old split.old_are in
        let theirs = All-contains (λ (s : ShareFields). (s.extendable ≡ options.extendable) × (s.exponent ≡ options.exponent)) set share have among in
        let own = at_hand share among in
        let same : options ≡ mnemonics.options = same_options options mnemonics.options (sym theirs.0 ∙ own.0) (sym theirs.1 ∙ own.1) in
        subst (λ (o : Options). IsCreateOutput (asked_for secret passphrase group_threshold groups o) (whole random) text (Ok tt)) same
        (shares, refl, creation, printed.0)

    -- ---- nothing is written

    abbrev IsHindered : ResplitError → Type 0
    IsHindered error = Hinders set asked random (fault_of_resplit error).refusal

    hindered : (error : ResplitError) (refused : IsRefusedSplit set group_threshold groups random error) → IsHindered error
    hindered error refused = by error (judged_error refused.old group_threshold groups random here.encrypted error judged)
      where
        here : Recovers set refused.names passphrase secret
        here = recovers_secret refused.names refused.least.quorum

        judged : judged_split refused.old group_threshold groups random (Ok here.encrypted) ≡ Err error
        judged = subst (λ (c : Result (List ℕ) Mismatch). judged_split refused.old group_threshold groups random c ≡ Err error) here.combined refused.judged

        by : (e : ResplitError) → IsJudged refused.old group_threshold groups random here.encrypted e → IsHindered e
        by (Lack lack) is = absurd is
        by (DigestMismatch mismatch) is = absurd is
        by NotExtendable is =
            let (share, among, id, extendable) = some_share refused.old refused.old_are in
            sym (at_hand share among).0 ∙ sym extendable ∙ is
        by (BadRandomLength count) is =
            let kept = (keeps passphrase here.params secret here.encrypted here.secret_is).0 in
            (is.0 ∙ ap (random_needed group_threshold groups) kept, is.1)
        by SameIdentifier is =
            let (share, among, id, extendable) = some_share refused.old refused.old_are in
            each (λ (s : ShareFields). gives_identifier random s.id ≡ true) set (λ s in_set.
            subst (λ (k : ℕ). gives_identifier random k ≡ true) (id ∙ (agree share s among in_set)) is)
          where
            agree : (s t : ShareFields) → Contains set s → Contains set t → s.id ≡ t.id
            agree s t in_s in_t =
                (All-contains (Agrees s) set t (All-contains (λ (u : ShareFields). All (Agrees u) set) set s is_set.agree in_s) in_t).id

    lacking : (lack : SetLack) (error : ResplitError) → IsLack set lack → error ≡ Lack lack → IsHindered error
    lacking lack error lacks same = subst IsHindered (sym same) lacks

    unwritten : (text : List ℕ) (error : ResplitError) → IsResplit set group_threshold groups random (Err error)
        → AreWritten (Err (fault_of_resplit error)) text (Err (fault_of_resplit error))
        → WritesCreatedOrCause set asked random text (Err (fault_of_resplit error))
    unwritten text error (inl (lack, lacks, same)) none = (none.0, no_line error, lacking lack error lacks same)
    unwritten text error (inr refused) none = (none.0, no_line error, hindered error refused)

    by_result : (text : List ℕ) (answer : Result (Unit {0}) Fault) (result : Result (List ShareFields) Fault)
        → IsSplitOf group_threshold groups random set result → AreWritten result text answer → WritesCreatedOrCause set asked random text answer
    by_result text answer result (gives shares split same) are =
        let here : AreWritten (Ok shares) text answer = subst (λ (r : Result (List ShareFields) Fault). AreWritten r text answer) same are in
        subst (WritesCreatedOrCause set asked random text) (sym here.1) (written text shares split (here.0, refl))
    by_result text answer result (refuses error split same) are =
        let here : AreWritten (Err (fault_of_resplit error)) text answer =
        subst (λ (r : Result (List ShareFields) Fault). AreWritten r text answer) same are in
        subst (WritesCreatedOrCause set asked random text) (sym here.1) (unwritten text error split (here.0, refl))

  pub split_anew : (group_threshold : ℕ) (groups : List Members) (random : List ℕ) (input : Input) (text : List ℕ) (answer : Result (Unit {0}) Fault)
      → IsResplitOutput group_threshold groups random input text answer → ResplitsCreated group_threshold groups random input text answer
  split_anew group_threshold groups random input text answer (result, from, are) passphrase secret mnemonics =
      let (set, read, belong) = read_as passphrase secret input mnemonics in (
        set,
        read,
        by_result group_threshold groups random passphrase secret input mnemonics set read belong text answer result
            (split_of one_set group_threshold groups random input set result read from) are,
      )
