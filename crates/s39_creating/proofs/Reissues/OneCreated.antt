-- What `reissue` writes of mnemonics of a created backup is one thing.
use Rattle.std.proofs.Common.{◌≡◌, ℕ, List, [], ◌∷◌, All, Contains, Option, Some, None, refl, sym, ap, ◌∙◌, subst, inl, inr, arith, Result, Ok, Err}
use Rattle.std.specs.Prelude.{IsSomeAnd}
use Rattle.std.specs.List.{AllZip, slice_get}
use Rattle.std.proofs.lemmas.List.Elements.{All-nil, All-cons, All-contains_itself}
use Rattle.s39_words.specs.declared.ShareFields.{ShareFields}
use Rattle.s39_words.specs.Printing.{IsPrinted}
use Rattle.s39_set.specs.Names.{Name, Names}
use Rattle.s39_set.specs.ShareSet.{name_of, refusal_of, SharesThatAgreeJoin}
use Rattle.s39_set.proofs.SharesThatJoin.{same_from_joins}
use Rattle.s39_backup.specs.declared.plan.Members.{Members}
use Rattle.s39_backup.specs.declared.reissue_error.TooFew.{TooFew}
use Rattle.s39_backup.specs.Created.{AreOfBackup}
use Rattle.s39_backup.specs.Plan.{IsNameOfPlan}
use Rattle.s39_backup.specs.Reissue.{IsDetermined, counts_for}
use Rattle.s39_input.specs.declared.fault.Refusal.TheVariants.{Undetermined as TooFewRefusal}
use Rattle.s39_input.specs.declared.fault.Fault.{Fault}
use Rattle.s39_input.specs.Input.{Input}
use Rattle.s39_input.specs.Fault.{fault_of}
use Rattle.s39_input.specs.Create.{ArePrintedLines}
use Rattle.s39_input.specs.OfBackup.{HoldsMnemonicsOf}
use Rattle.s39_creating.specs.Reissue.{WritesThoseOf, IsFirstUndetermined, WritesThoseOrCause, ReissuesCreated}
use Rattle.s39_input.proofs.Runs.PrintedLines.{text_once}
use Rattle.s39_input.proofs.Sets.BackupSets.{of_backup}
use Rattle.s39_input.proofs.Sets.OneSet.{InputsAreReadOnce, same_set}
use Rattle.s39_creating.proofs.Reissues.Firsts.{all_at, first_once}

-- ---- shares of a backup

module _ (backup : List ShareFields)
    (one_named : (share other : ShareFields) → Contains backup share → Contains backup other → name_of share ≡ name_of other → share ≡ other) where
  -- names have one share each
  theirs_once : (names : Names) (shares others : List ShareFields)
      → AllZip (λ name share. Contains backup share × (name_of share ≡ name)) names shares
      → AllZip (λ name share. Contains backup share × (name_of share ≡ name)) names others → shares ≡ others
  theirs_once [] [] [] p q = refl
  theirs_once [] [] (o ∷ os) p q = absurd q
  theirs_once [] (s ∷ ss) others p q = absurd p
  theirs_once (n ∷ ns) [] others p q = absurd p
  theirs_once (n ∷ ns) (s ∷ ss) [] p q = absurd q
  theirs_once (n ∷ ns) (s ∷ ss) (o ∷ os) p q =
      let same = one_named s o p.0.0 q.0.0 (p.0.1 ∙ sym q.0.1) in let rest = theirs_once ns ss os p.1 q.1 in cc

-- ---- counts

-- counts that follow from what is there
counts_once : (at : Option Members) (counts : Members → TooFew) (few other : TooFew) → IsSomeAnd at (λ members. few ≡ counts members)
    → IsSomeAnd at (λ members. other ≡ counts members) → few ≡ other
counts_once None counts few other p q = absurd p
counts_once (Some members) counts few other p q = p ∙ sym q

module _ (set : List ShareFields) (group_threshold : ℕ) (groups : List Members) (names : Names) where
  abbrev Determined : Name → Type 0
  Determined = IsDetermined set group_threshold groups

  not_all_determined : (few : TooFew) → All Determined names → IsFirstUndetermined set group_threshold groups names few → ⊥
  not_all_determined few all first =
      first.undetermined.undetermined (all_at Determined first.before first.name first.after (subst (All Determined) first.parts all))

  first_undetermined_once : (few other : TooFew) → IsFirstUndetermined set group_threshold groups names few
      → IsFirstUndetermined set group_threshold groups names other → few ≡ other
  first_undetermined_once few other p q =
      let same =
      first_once Determined p.before q.before p.after q.after p.name q.name (sym p.parts ∙ q.parts) p.earlier p.undetermined.undetermined q.earlier
      q.undetermined.undetermined in
      counts_once (slice_get groups p.name.0) (counts_for set group_threshold groups p.name) few other p.undetermined.counts
      (subst (λ (n : Name). IsSomeAnd (slice_get groups n.0) (λ members. other ≡ counts_for set group_threshold groups n members)) (sym same)
      q.undetermined.counts)

-- ---- what is written

module _ (one_printed_form : (share : ShareFields) (text other : List ℕ) → IsPrinted text share → IsPrinted other share → text ≡ other)
    (set : List ShareFields) (group_threshold : ℕ) (groups : List Members) (backup : List ShareFields)
    (one_named : (share other : ShareFields) → Contains backup share → Contains backup other → name_of share ≡ name_of other → share ≡ other)
    (names : Names) where
  abbrev Cause : List ℕ → Result (Unit {0}) Fault → Type 0
  Cause = WritesThoseOrCause set group_threshold groups backup names

  those_once : (text other : List ℕ) → WritesThoseOf set group_threshold groups backup names text
      → WritesThoseOf set group_threshold groups backup names other → text ≡ other
  those_once text other p q =
      let same = theirs_once backup one_named names p.shares q.shares p.theirs q.theirs in
      text_once one_printed_form q.shares text other (subst (λ shares. ArePrintedLines shares text) same p.printed) q.printed

  not_both : (text other : List ℕ) (fault : Fault) → Cause text (Ok tt) → Cause other (Err fault) → ⊥
  not_both text other fault (some, those) (empty, inl (none, is)) = some none
  not_both text other fault (some, those) (empty, inr (also, (few, first, is))) =
      not_all_determined set group_threshold groups names few those.determined first

  faults_once : (text other : List ℕ) (fault another : Fault) → Cause text (Err fault) → Cause other (Err another) → fault ≡ another
  faults_once text other fault another (empty, inl (none, is)) (empty', inl (none', is')) = is ∙ sym is'
  faults_once text other fault another (empty, inl (none, is)) (empty', inr (some', rest)) = absurd (some' none)
  faults_once text other fault another (empty, inr (some, rest)) (empty', inl (none', is')) = absurd (some none')
  faults_once text other fault another (empty, inr (some, (few, first, is))) (empty', inr (some', (few', first', is'))) =
      is ∙ ap (λ (f : TooFew). fault_of (TooFewRefusal f)) (first_undetermined_once set group_threshold groups names few few' first first') ∙ sym is'

  those_or_cause_once : (text other : List ℕ) (answer another : Result (Unit {0}) Fault) → Cause text answer → Cause other another
      → (text ≡ other) × (answer ≡ another)
  those_or_cause_once text other (Ok _) (Ok _) p q = (those_once text other p.1 q.1, refl)
  those_or_cause_once text other (Ok _) (Err g) p q = absurd (not_both text other g p q)
  those_or_cause_once text other (Err f) (Ok _) p q = absurd (not_both other text f q p)
  those_or_cause_once text other (Err f) (Err g) p q = (p.0 ∙ sym q.0, ap Err (faults_once text other f g p q))

module _ (agree : (set earlier : List ShareFields) (share : ShareFields) (passphrase secret : List ℕ) → AreOfBackup set passphrase secret
    → All (Contains set) earlier → Contains set share → refusal_of earlier share ≡ None)
    (joins : SharesThatAgreeJoin) where
  -- a name has one share of a backup
  one_named : (backup : List ShareFields) (passphrase secret : List ℕ) → AreOfBackup backup passphrase secret → (share other : ShareFields)
      → Contains backup share → Contains backup other → name_of share ≡ name_of other → share ≡ other
  one_named backup passphrase secret of share other has also same =
      let none = agree backup (share ∷ []) other passphrase secret of (All-cons (Contains backup) share [] has (All-nil (Contains backup))) also in
      same_from_joins (share ∷ []) share other ((joins (share ∷ []) other).0 none) (0, omega arith, refl) same

  pub reissues_once : InputsAreReadOnce
      → ((share : ShareFields) (text other : List ℕ) → IsPrinted text share → IsPrinted other share → text ≡ other)
      → (group_threshold : ℕ) (groups : List Members) (names : Names) (passphrase secret : List ℕ) (input : Input) (text other : List ℕ)
      (answer another : Result (Unit {0}) Fault) (mnemonics : HoldsMnemonicsOf passphrase secret input)
      → mnemonics.group_threshold ≡ group_threshold → mnemonics.groups ≡ groups → All (IsNameOfPlan groups) names
      → ReissuesCreated group_threshold groups names input text answer → ReissuesCreated group_threshold groups names input other another
      → (text ≡ other) × (answer ≡ another)
  reissues_once one_set one_printed_form group_threshold groups names passphrase secret input text other answer another mnemonics
      threshold_is groups_are named p q =
      let (set, read, gives) = p passphrase secret mnemonics threshold_is groups_are named in
      let (again, read', gives') = q passphrase secret mnemonics threshold_is groups_are named in
      let same = same_set one_set input set again read read' in
      let of = of_backup passphrase secret input mnemonics mnemonics.shares (All-contains_itself mnemonics.shares) in
      those_or_cause_once one_printed_form set group_threshold groups mnemonics.shares (one_named mnemonics.shares passphrase secret of) names text other
      answer another gives (subst (λ s. WritesThoseOrCause s group_threshold groups mnemonics.shares names other another) same gives')
