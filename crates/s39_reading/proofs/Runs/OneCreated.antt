-- What is written of mnemonics of a created backup is one thing.
use Rattle.std.proofs.Common.{◌≡◌, ℕ, List, refl, sym, ap, ◌∙◌, subst, true, false, inl, inr, Option, Result, Ok, Err}
use Rattle.s39_set.specs.Names.{Names}
use Rattle.s39_set.specs.Quorums.{IsQuorum}
use Rattle.s39_kdf.specs.declared.noted.NotedFingerprint.{NotedFingerprint}
use Rattle.s39_words.specs.declared.ShareFields.{ShareFields}
use Rattle.s39_set.specs.declared.set_lack.SetLack.{SetLack}
use Rattle.s39_set.specs.SetFacts.{SetsHaveOneLack, SetsWithQuorumsHaveNone}
use Rattle.s39_kdf.specs.declared.secret_form.SecretForm.{SecretForm}
use Rattle.s39_input.specs.declared.fault.Refusal.TheVariants.{Lack}
use Rattle.s39_input.specs.declared.fault.Fault.{Fault}
use Rattle.s39_input.specs.Input.{Input}
use Rattle.s39_input.specs.Fault.{fault_of}
use Rattle.s39_input.specs.OfBackup.{HoldsMnemonicsOf}
use Rattle.s39_reading.specs.Recover.{is_other_than, IsUnwritten, IsSecretOrCause, RecoversCreated}
use Rattle.s39_input.proofs.Sets.OneSet.{InputsAreReadOnce, same_set}

module _ (one_set : InputsAreReadOnce) (one_lack : SetsHaveOneLack) (no_lack : SetsWithQuorumsHaveNone) (form : SecretForm)
    (expected : Option NotedFingerprint) where
  -- a fault is one
  no_output_once : (set : List ShareFields) (secret : List ℕ) (fault other : Fault) → IsUnwritten expected set secret fault
      → IsUnwritten expected set secret other → fault ≡ other
  no_output_once set secret fault other (inl (lack, lacks, is)) (inl (lack', lacks', is')) =
      is ∙ ap (λ (l : SetLack). fault_of (Lack l)) (one_lack set lack lack' lacks lacks') ∙ sym is'
  no_output_once set secret fault other (inl (lack, lacks, is)) (inr ((names, quorum), told, is')) = absurd (no_lack set names lack quorum lacks)
  no_output_once set secret fault other (inr ((names, quorum), told, is)) (inl (lack, lacks, is')) = absurd (no_lack set names lack quorum lacks)
  no_output_once set secret fault other (inr (some, told, is)) (inr (also, told', is')) = is ∙ sym is'

  -- and there is none where the secret is written
  written_or_not : (set : List ShareFields) (secret : List ℕ) (fault : Fault) → (names : Names) × IsQuorum set names
      → is_other_than expected secret ≡ false → IsUnwritten expected set secret fault → ⊥
  written_or_not set secret fault (names, quorum) told (inl (lack, lacks, is)) = no_lack set names lack quorum lacks
  written_or_not set secret fault (names, quorum) told (inr (some, told', is)) = absurd (let bad : true ≡ false = sym told' ∙ told in cc)

  secret_or_cause_once : (set : List ShareFields) (secret text other : List ℕ) (answer another : Result (Unit {0}) Fault)
      → IsSecretOrCause form expected set secret text answer → IsSecretOrCause form expected set secret other another
      → (text ≡ other) × (answer ≡ another)
  secret_or_cause_once set secret text other (Ok _) (Ok _) (some, told, is) (also, told', is') = (is ∙ sym is', refl)
  secret_or_cause_once set secret text other (Ok _) (Err g) (some, told, is) (none, cause) = absurd (written_or_not set secret g some told cause)
  secret_or_cause_once set secret text other (Err f) (Ok _) (none, cause) (some, told, is) = absurd (written_or_not set secret f some told cause)
  secret_or_cause_once set secret text other (Err f) (Err g) (none, cause) (none', cause') =
      (none ∙ sym none', ap Err (no_output_once set secret f g cause cause'))

  pub recovers_once : (passphrase secret : List ℕ) (input : Input) (text other : List ℕ) (answer another : Result (Unit {0}) Fault)
      → HoldsMnemonicsOf passphrase secret input → RecoversCreated form expected passphrase input text answer
      → RecoversCreated form expected passphrase input other another
      → (text ≡ other) × (answer ≡ another)
  recovers_once passphrase secret input text other answer another mnemonics p q =
      let (set, read, gives) = p secret mnemonics in
      let (again, read', gives') = q secret mnemonics in
      let same = same_set one_set input set again read read' in
      secret_or_cause_once set secret text other answer another gives (subst (λ s. IsSecretOrCause form expected s secret other another) same gives')
