-- What is recovered from a set is one thing, and something.
use Rattle.std.proofs.Common.{◌≡◌, ◌⊎◌, ℕ, List, [], refl, sym, ap, ◌∙◌, subst, subst₂, inl, inr}
use Rattle.std.proofs.Common.{None, Option, Result, Ok, Err, Bool, true, false}
use Rattle.std.specs.Prelude.{if◌then◌else◌}
use Rattle.s39_kdf.specs.declared.noted.NotedFingerprint.{NotedFingerprint}
use Rattle.s39_words.specs.declared.ShareFields.{ShareFields}
use Rattle.s39_set.specs.Names.{Names}
use Rattle.s39_set.specs.declared.set_lack.SetLack.{SetLack}
use Rattle.s39_set.specs.ShareSet.{IsShareSet}
use Rattle.s39_set.specs.Quorums.{IsQuorum, IsFirstQuorumAfter}
use Rattle.s39_set.specs.Lack.{IsLack}
use Rattle.s39_set.specs.SetFacts.{SetsHaveOneLack, SetsWithQuorumsHaveNone}
use Rattle.s39_backup.specs.declared.combination.Mismatch.{Mismatch}
use Rattle.s39_backup.specs.Outcome.{IsOutcome}
use Rattle.s39_backup.specs.Created.{AreOfBackup}
use Rattle.s39_kdf.specs.declared.secret_form.SecretForm.{SecretForm}
use Rattle.s39_input.specs.declared.fault.Refusal.TheVariants.{Lack, DigestMismatch, OtherSecret}
use Rattle.s39_input.specs.declared.fault.Fault.{Fault}
use Rattle.s39_input.specs.Input.{Input}
use Rattle.s39_input.specs.Fault.{fault_of}
use Rattle.s39_input.specs.Steps.{gives, refuses, nothing_for}
use Rattle.s39_input.specs.Accepted.{IsReadAs, IsCheckedSet}
use Rattle.s39_input.specs.OfBackup.{HoldsMnemonicsOf}
use Rattle.s39_reading.specs.Recover.{as_expected, is_other_than, IsUnwritten, IsSecretOrCause, RecoversCreated}
use Rattle.s39_reading.specs.Recover.{secret_line, IsLeastOrLack, IsRecovered, WritesSecret, IsRecoverOutput}
use Rattle.s39_input.proofs.Steps.{AtMostOne, AtLeastOne, then_once, then_some}
use Rattle.s39_input.proofs.Sets.OneSet.{AcceptedAreShareSets}

-- the secret, or the fault of another one
abbrev chosen : Bool → List ℕ → Result (List ℕ) Fault
chosen other secret = if other then Err (fault_of OtherSecret) else Ok secret

-- the fault of a secret that isn't the expected one
not_expected : (other : Bool) (secret : List ℕ) (fault : Fault) → Err fault ≡ chosen other secret
    → fault_of OtherSecret ≡ fault
not_expected true secret fault is = cc
not_expected false secret fault is = absurd (cc)

-- What is so of the faults of a lack and of a mismatch, and of that of another secret, is so of the fault of a set that
-- gives no secret.
pub recovered_fault : (P : Fault → Type 0) → ((lack : SetLack) → P (fault_of (Lack lack))) → ((mismatch : Mismatch) → P (fault_of (DigestMismatch mismatch)))
    → P (fault_of OtherSecret) → (expected : Option NotedFingerprint) (passphrase : List ℕ) (set : List ShareFields) (fault : Fault)
    → IsRecovered expected passphrase set (Err fault) → P fault
recovered_fault P lacks mismatches other expected passphrase set fault (refuses lack is_lack is) =
    let same : fault_of (Lack lack) ≡ fault = cc in subst P same (lacks lack)
recovered_fault P lacks mismatches other expected passphrase set fault (gives names least (refuses mismatch outcome is)) =
    let same : fault_of (DigestMismatch mismatch) ≡ fault = cc in subst P same (mismatches mismatch)
recovered_fault P lacks mismatches other expected passphrase set fault (gives names least (gives secret outcome is)) =
    subst P (not_expected (is_other_than expected secret) secret fault is) other

-- each set has one least quorum or one lack
module _ (one_lack : SetsHaveOneLack) (no_lack : SetsWithQuorumsHaveNone)
    (one_first_quorum : (set : List ShareFields) (given : Option Names) (names others : Names)
    → IsFirstQuorumAfter set given names → IsFirstQuorumAfter set given others → names ≡ others) where
  pub least_once : (set : List ShareFields) → AtMostOne (IsLeastOrLack set)
  least_once set (Ok names) (Ok others) p q = ap Ok (one_first_quorum set None names others p q)
  least_once set (Ok names) (Err lack) p q = absurd (no_lack set names lack p.quorum q)
  least_once set (Err lack) (Ok names) p q = absurd (no_lack set names lack q.quorum p)
  least_once set (Err lack) (Err other) p q = ap Err (one_lack set lack other p q)

  -- and each quorum one outcome
  pub secret_once : ((set : List ShareFields) (names : Names) (passphrase : List ℕ) (outcome other : Result (List ℕ) Mismatch) → IsShareSet set
      → IsQuorum set names
      → IsOutcome set names passphrase outcome → IsOutcome set names passphrase other → outcome ≡ other)
      → (form : SecretForm) (expected : Option NotedFingerprint) (passphrase : List ℕ) (set : List ShareFields) → IsShareSet set
      → AtMostOne (WritesSecret form expected passphrase set)
  secret_once one_outcome form expected passphrase set is =
      then_once (IsRecovered expected passphrase set) nothing_for _
      (then_once (IsLeastOrLack set) _ _ (least_once set) (λ names least.
      then_once (IsOutcome set names passphrase) _ _ (λ o p. one_outcome set names passphrase o p is least.quorum) (λ secret _ r s p q. p ∙ sym q)))
      (λ secret _ r s p q. p ∙ sym q)

-- every set has a least quorum or a lack
pub least_or_lack : ((set : List ShareFields) → IsShareSet set
    → ((names : Names) × IsFirstQuorumAfter set None names) ⊎ ((lack : SetLack) × IsLack set lack)) → (set : List ShareFields) → IsShareSet set
    → AtLeastOne (IsLeastOrLack set)
least_or_lack quorum_or_lack set is =
    elim (quorum_or_lack set is) [
      | inl (names, least) ↦ (Ok names, least)
      | inr (lack, lacks) ↦ (Err lack, lacks)
    ]

module _ (quorum_or_lack : (set : List ShareFields) → IsShareSet set
    → ((names : Names) × IsFirstQuorumAfter set None names) ⊎ ((lack : SetLack) × IsLack set lack)) (form : SecretForm)
    (expected : Option NotedFingerprint) where
  -- every quorum has an outcome
  pub some_secret : ((set : List ShareFields) (names : Names) (passphrase : List ℕ) → IsShareSet set → IsQuorum set names
      → (outcome : Result (List ℕ) Mismatch) × IsOutcome set names passphrase outcome)
      → (passphrase : List ℕ) (set : List ShareFields) → IsShareSet set → AtLeastOne (WritesSecret form expected passphrase set)
  some_secret every_outcome passphrase set is =
      then_some (IsRecovered expected passphrase set) nothing_for _
      (then_some (IsLeastOrLack set) _ _ (least_or_lack quorum_or_lack set is) (λ names first.
      then_some (IsOutcome set names passphrase) _ _ (every_outcome set names passphrase is first.quorum) (λ secret _. (as_expected expected secret, refl))))
      (λ secret _. ((secret_line form secret, Ok tt), refl))

  -- an input has one output
  abbrev OutputsAreOne : Type 0
  OutputsAreOne = (passphrase : List ℕ) (input : Input) (text other : List ℕ) (answer another : Result (Unit {0}) Fault)
      → IsRecoverOutput form expected passphrase input text answer → IsRecoverOutput form expected passphrase input other another
      → (text ≡ other) × (answer ≡ another)

  -- of a set whose quorums all give this secret, the one output
  module _ (once : OutputsAreOne) (passphrase secret : List ℕ) (input : Input) (text : List ℕ) (answer : Result (Unit {0}) Fault)
      (output : IsRecoverOutput form expected passphrase input text answer) (set : List ShareFields) (is : IsShareSet set)
      (checked : IsCheckedSet passphrase input (Ok set))
      (gives_secret : (names : Names) → IsQuorum set names → IsOutcome set names passphrase (Ok secret)) where
    only : (other : List ℕ) (another : Result (Unit {0}) Fault) → IsRecoverOutput form expected passphrase input other another
        → IsSecretOrCause form expected set secret other another → IsSecretOrCause form expected set secret text answer
    only other another so is_so =
        let same = once passphrase input text other answer another output so in
        subst₂ (λ (t : List ℕ) (a : Result (Unit {0}) Fault). IsSecretOrCause form expected set secret t a) (sym same.0) (sym same.1) is_so

    refused : (fault : Fault) → IsRecovered expected passphrase set (Err fault) → IsUnwritten expected set secret fault
        → IsSecretOrCause form expected set secret text answer
    refused fault recovered cause = only [] (Err fault) (gives set checked (refuses fault recovered refl)) (refl, cause)

    by_told : (names : Names) → IsFirstQuorumAfter set None names → (other : Bool) → is_other_than expected secret ≡ other
        → IsRecovered expected passphrase set (chosen other secret) → IsSecretOrCause form expected set secret text answer
    by_told names least true told recovered = refused (fault_of OtherSecret) recovered (inr ((names, least.quorum), told, refl))
    by_told names least false told recovered =
        only (secret_line form secret) (Ok tt) (gives set checked (gives secret recovered refl)) ((names, least.quorum), told, refl)

    of_quorum : (names : Names) → IsFirstQuorumAfter set None names → IsSecretOrCause form expected set secret text answer
    of_quorum names least =
        by_told names least (is_other_than expected secret) refl (gives names least (gives secret (gives_secret names least.quorum) refl))

    so_far : IsSecretOrCause form expected set secret text answer
    so_far = elim (quorum_or_lack set is) [
      | inl (names, least) ↦ of_quorum names least
      | inr (lack, lacks) ↦ refused (fault_of (Lack lack)) (refuses lack lacks refl) (inl (lack, lacks, refl))
    ]

  -- of mnemonics of a created backup there is the output with its secret, or with why it isn't written, and no other
  pub recovers_created : AcceptedAreShareSets → OutputsAreOne
      → ((set : List ShareFields) (names : Names) (passphrase secret : List ℕ) → IsShareSet set → IsQuorum set names
      → AreOfBackup set passphrase secret → IsOutcome set names passphrase (Ok secret))
      → ((passphrase secret : List ℕ) (input : Input) → HoldsMnemonicsOf passphrase secret input
      → (set : List ShareFields) × IsReadAs input (Ok set) × AreOfBackup set passphrase secret)
      → (passphrase : List ℕ) (input : Input) (text : List ℕ) (answer : Result (Unit {0}) Fault)
      → IsRecoverOutput form expected passphrase input text answer → RecoversCreated form expected passphrase input text answer
  recovers_created are_share_sets once every_quorum_recovers are_a_set passphrase input text answer output secret mnemonics =
      let (set, read, backup) = are_a_set passphrase secret input mnemonics in
      let is = are_share_sets input set read in
      let checked : IsCheckedSet passphrase input (Ok set) = gives tt mnemonics.created.0 (gives set read refl) in (
        set,
        read,
        so_far once passphrase secret input text answer output set is checked
            (λ names quorum. every_quorum_recovers set names passphrase secret is quorum backup),
      )
