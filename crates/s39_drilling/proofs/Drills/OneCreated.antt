-- What is written of mnemonics of a created backup is one thing.
use Rattle.std.proofs.Common.{◌≡◌, ℕ, List, ◌++◌, sym, ap, ap₂, ◌∙◌, subst, Option, Result, Ok, Err}
use Rattle.std.specs.List.{flat_map}
use Rattle.s39_words.specs.declared.ShareFields.{ShareFields}
use Rattle.s39_set.specs.Names.{Names}
use Rattle.s39_set.specs.Listing.{IsListing}
use Rattle.s39_set.specs.SetFacts.{SetsHaveOneLack}
use Rattle.s39_kdf.specs.declared.secret_form.SecretForm.{SecretForm}
use Rattle.s39_input.specs.declared.fault.Fault.{Fault}
use Rattle.s39_drilling.specs.declared.drill.Done.{Done}
use Rattle.s39_input.specs.Input.{Input}
use Rattle.s39_input.specs.OfBackup.{HoldsMnemonicsOf}
use Rattle.s39_drilling.specs.Drill.{quorum_line, last_line, last_reached, GoesOn, fault_of_no_drill, unexpected_in}
use Rattle.s39_drilling.specs.Drill.{ListsSecret, ListsSecretOrCause, DrillsCreated}
use Rattle.s39_drilling.proofs.Drills.OneDrill.{goes_on_once}
use Rattle.s39_drilling.proofs.Drills.Outputs.{no_drill_once, drilled_or_not}
use Rattle.s39_input.proofs.Sets.OneSet.{InputsAreReadOnce, same_set}

module _ (one_set : InputsAreReadOnce) (one_lack : SetsHaveOneLack)
    (one_listing : (set : List ShareFields) (given : Option Names) (limit : ℕ) (listed others : List Names) → IsListing set given limit listed
    → IsListing set given limit others → listed ≡ others) (form : SecretForm) where
  lists_once : (set : List ShareFields) (secret : List ℕ) (after : Option Names) (limit : ℕ) (text other : List ℕ)
      (p : ListsSecret form set secret after limit text) (q : ListsSecret form set secret after limit other) → (text ≡ other) × (p.listed ≡ q.listed)
  lists_once set secret after limit text other p q =
      let names = one_listing set after limit p.listed q.listed p.listing q.listing in
      let more = goes_on_once set (last_reached after p.listed) p.more q.more p.goes_on
      (subst (λ l. GoesOn set (last_reached after l) q.more) (sym names) q.goes_on) in
      let texts = ap₂ (λ (l : List Names) (o : Option Names). flat_map (λ n. quorum_line form (n, Ok secret)) l ++ last_line o) names more in
      (p.text_is ∙ texts ∙ sym q.text_is, names)

  secret_or_cause_once : (set : List ShareFields) (secret : List ℕ) (after : Option Names) (limit : ℕ) (text other : List ℕ)
      (answer another : Result Done Fault) → ListsSecretOrCause form set secret after limit text answer
      → ListsSecretOrCause form set secret after limit other another → (text ≡ other) × (answer ≡ another)
  secret_or_cause_once set secret after limit text other (Ok done) (Ok done') (none, cursor, (lists, m)) (none', cursor', (lists', n)) =
      let (texts, listed) = lists_once set secret after limit text other lists lists' in
      (texts, ap (λ (k : ℕ). Ok (record { mismatches = k })) (m ∙ ap (unexpected_in form secret) listed ∙ sym n))
  secret_or_cause_once set secret after limit text other (Ok done) (Err g) (none, cursor, (lists, m)) (empty, (cause, refused, is)) =
      absurd (drilled_or_not set after cause none cursor refused)
  secret_or_cause_once set secret after limit text other (Err f) (Ok done) (empty, (cause, refused, is)) (none, cursor, (lists, m)) =
      absurd (drilled_or_not set after cause none cursor refused)
  secret_or_cause_once set secret after limit text other (Err f) (Err g) (empty, (cause, refused, is)) (empty', (cause', refused', is')) =
      let same = no_drill_once one_lack set after cause cause' refused refused' in
      (empty ∙ sym empty', ap Err (is ∙ ap fault_of_no_drill same ∙ sym is'))

  pub drills_once : (passphrase secret : List ℕ) (after : Option Names) (limit : ℕ) (input : Input) (text other : List ℕ)
      (answer another : Result Done Fault) → HoldsMnemonicsOf passphrase secret input → DrillsCreated form passphrase after limit input text answer
      → DrillsCreated form passphrase after limit input other another → (text ≡ other) × (answer ≡ another)
  drills_once passphrase secret after limit input text other answer another mnemonics p q =
      let (set, read, gives) = p secret mnemonics in
      let (again, read', gives') = q secret mnemonics in
      let same = same_set one_set input set again read read' in
      secret_or_cause_once set secret after limit text other answer another gives
      (subst (λ s. ListsSecretOrCause form s secret after limit other another) same gives')
