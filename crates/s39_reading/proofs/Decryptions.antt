-- A recovery is the decryption of an encrypted secret. Each of these two steps has one result.
use Rattle.std.proofs.Common.{◌≡◌, ◌⊎◌, ℕ, List, [], length, refl, sym, ap, ◌∙◌, subst}
use Rattle.std.proofs.Common.{None, Option, Result, Ok, Err}
use Rattle.std.specs.Result.{IfOk}
use Rattle.s39_kdf.specs.declared.noted.NotedFingerprint.{NotedFingerprint}
use Rattle.s39_kdf.specs.declared.params.Params.{Params}
use Rattle.s39_kdf.specs.declared.secret_form.SecretForm.{SecretForm}
use Rattle.s39_kdf.specs.Cipher.{IsEncryption, EncryptsOneSecret, TextsHaveOneSecret, EncryptionKeepsLengthAndBytes}
use Rattle.s39_kdf.specs.Limits.{IsSecretLength}
use Rattle.s39_kdf.specs.Passphrases.{PassphrasesHaveOneFirstUnprintable, PrintablePassphrasesHaveNone, PassphrasesArePrintableOrNot}
use Rattle.s39_words.specs.declared.ShareFields.{ShareFields}
use Rattle.s39_set.specs.Names.{Names}
use Rattle.s39_set.specs.declared.set_lack.SetLack.{SetLack}
use Rattle.s39_set.specs.ShareSet.{IsShareSet}
use Rattle.s39_set.specs.Quorums.{IsQuorum, IsFirstQuorumAfter}
use Rattle.s39_set.specs.Lack.{IsLack}
use Rattle.s39_set.specs.SetFacts.{SetsHaveOneLack, SetsWithQuorumsHaveNone}
use Rattle.s39_backup.specs.declared.combination.Mismatch.{Mismatch}
use Rattle.s39_backup.specs.Combination.{combination_of}
use Rattle.s39_backup.specs.Outcome.{AreParams, IsOutcome}
use Rattle.s39_backup.proofs.OneRecovery.{one_params}
use Rattle.s39_input.specs.declared.fault.LineRefusal.{LineRefusal}
use Rattle.s39_input.specs.declared.fault.Stop.{Stop}
use Rattle.s39_input.specs.declared.fault.Refusal.TheVariants.{Lack, DigestMismatch, Passphrase}
use Rattle.s39_input.specs.declared.fault.Fault.{Fault}
use Rattle.s39_input.specs.Input.{Input}
use Rattle.s39_input.specs.Fault.{fault_of, fault_of_stop}
use Rattle.s39_input.specs.Steps.{Then, gives, refuses, nothing_for}
use Rattle.s39_input.specs.Accepted.{IsReadAs, IsJudged, IsMeasured}
use Rattle.s39_input.proofs.Steps.{AtMostOne, AtLeastOne, then_once, then_some}
use Rattle.s39_input.proofs.Measures.{measured_once, some_measure}
use Rattle.s39_input.proofs.Sets.Checked.{judged_once, some_judged}
use Rattle.s39_input.proofs.Sets.OneSet.{InputsAreReadOnce, AcceptedAreShareSets}
use Rattle.s39_reading.proofs.Runs.Recovering.{least_once, least_or_lack}
use Rattle.s39_reading.specs.Recover.{as_expected, secret_line, IsLeastOrLack, IsRecovered, IsRecoverOutput}
use Rattle.s39_reading.specs.Encrypted.{IsEncryptedOf, IsEncryptedIn, IsDecrypted, IsDecryption}

abbrev Found : Type 0
Found = Result (Params × List ℕ) Fault

abbrev found : Params × List ℕ → Found
found encrypted = Ok encrypted

abbrev not_found : Fault → Found
not_found fault = Err fault

abbrev secret_of : List ℕ → Result (List ℕ) Fault
secret_of secret = Ok secret

abbrev no_secret : Fault → Result (List ℕ) Fault
no_secret fault = Err fault

abbrev combined_to : List ℕ → Result (List ℕ) Mismatch
combined_to bytes = Ok bytes

abbrev no_set : Fault → Result (List ShareFields) Fault
no_set fault = Err fault

-- ---- a set

module _ (expected : Option NotedFingerprint) (passphrase : List ℕ) (set : List ShareFields) where
  abbrev pub IsTwoSteps : Result (List ℕ) Fault → Type 0
  IsTwoSteps = Then (IsEncryptedOf set) (λ fault. Err fault) (IsDecrypted expected passphrase)

  pub in_two_steps : (result : Result (List ℕ) Fault) → IsRecovered expected passphrase set result → IsTwoSteps result
  in_two_steps result (refuses lack lacks is) = refuses (fault_of (Lack lack)) (refuses lack lacks refl) is
  in_two_steps result (gives names least (refuses mismatch combines is)) =
      refuses (fault_of (DigestMismatch mismatch)) (gives names least (refuses mismatch combines refl)) is
  in_two_steps result (gives names least (gives secret recovers is)) =
      gives (recovers.params, recovers.encrypted)
      (gives names least (gives recovers.encrypted recovers.combined (recovers.params, recovers.params_are, refl))) (secret, recovers.secret_is, is)

  pub in_one_step : (result : Result (List ℕ) Fault) → IsTwoSteps result → IsRecovered expected passphrase set result
  in_one_step result (refuses fault (refuses lack lacks why) is) =
      let same : fault ≡ fault_of (Lack lack) = cc in refuses lack lacks (is ∙ ap no_secret same)
  in_one_step result (refuses fault (gives names least (refuses mismatch combines why)) is) =
      let same : fault ≡ fault_of (DigestMismatch mismatch) = cc in gives names least (refuses mismatch combines (is ∙ ap no_secret same))
  in_one_step result (refuses fault (gives names least (gives bytes combines (params, are, why))) is) = absurd (cc)
  in_one_step result (gives encrypted (refuses lack lacks why) decrypted) = absurd (cc)
  in_one_step result (gives encrypted (gives names least (refuses mismatch combines why)) decrypted) = absurd (cc)
  in_one_step result (gives encrypted (gives names least (gives bytes combines (params, are, why))) (secret, encrypts, is)) =
      let same : encrypted ≡ (params, bytes) = cc in
      gives names least (gives secret (record {
        encrypted = bytes;
        params = params;
        combined = combines;
        params_are = are;
        secret_is = subst (λ (e : Params × List ℕ). IsEncryption secret passphrase e.0 e.1) same encrypts;
      }) is)

-- ---- an input

-- an encrypted secret of a set is as long as a secret
module _ (some_outcome : (set : List ShareFields) (names : Names) (passphrase : List ℕ) → IsShareSet set → IsQuorum set names
    → (outcome : Result (List ℕ) Mismatch) × IsOutcome set names passphrase outcome)
    (in_range : (set : List ShareFields) (names : Names) (passphrase secret : List ℕ) → IsShareSet set → IsQuorum set names
    → IsOutcome set names passphrase (Ok secret) → IsSecretLength (length secret))
    (keeps_length : EncryptionKeepsLengthAndBytes) (set : List ShareFields) (is : IsShareSet set) where
  combined_length : (names : Names) → IsQuorum set names → (bytes : List ℕ) → combination_of set names ≡ Ok bytes
      → (outcome : Result (List ℕ) Mismatch) → IsOutcome set names [] outcome → IsSecretLength (length bytes)
  combined_length names quorum bytes combines (Err mismatch) none = let differ : combined_to bytes ≡ Err mismatch = sym combines ∙ none in absurd (cc)
  combined_length names quorum bytes combines (Ok secret) recovers =
      let both : combined_to recovers.encrypted ≡ combined_to bytes = sym recovers.combined ∙ combines in
      let same : recovers.encrypted ≡ bytes = cc in
      let long = (keeps_length [] recovers.params secret recovers.encrypted recovers.secret_is).0 in
      subst (λ (n : ℕ). IsSecretLength n) (sym long ∙ ap length same) (in_range set names [] secret is quorum recovers)

  pub encrypted_length : (encrypted : Params × List ℕ) → IsEncryptedOf set (Ok encrypted) → IsSecretLength (length encrypted.1)
  encrypted_length encrypted (refuses lack lacks why) = absurd (cc)
  encrypted_length encrypted (gives names least (refuses mismatch combines why)) = absurd (cc)
  encrypted_length encrypted (gives names least (gives bytes combines (params, are, why))) =
      let same : encrypted ≡ (params, bytes) = cc in
      let (outcome, is_outcome) = some_outcome set names [] is least.quorum in
      subst (λ (e : Params × List ℕ). IsSecretLength (length e.1)) (sym same) (combined_length names least.quorum bytes combines outcome is_outcome)

module _ (none_unprintable : PrintablePassphrasesHaveNone) (input : Input)
    (long : (set : List ShareFields) → IsReadAs input (Ok set) → (encrypted : Params × List ℕ) → IsEncryptedOf set (Ok encrypted)
    → IsSecretLength (length encrypted.1))
    (form : SecretForm) (expected : Option NotedFingerprint) (passphrase : List ℕ) where
  abbrev Written : Type 0
  Written = List ℕ × Result (Unit {0}) Fault

  abbrev pub WritesDecrypted : Params × List ℕ → Written → Type 0
  WritesDecrypted encrypted =
      Then (IsDecryption expected passphrase encrypted) nothing_for (λ secret written. written ≡ (secret_line form secret, Ok tt))

  abbrev pub WritesTwoSteps : Written → Type 0
  WritesTwoSteps =
      Then (IsJudged passphrase) (λ bad. nothing_for (fault_of (Passphrase bad)))
      (λ _. Then (IsEncryptedIn input) nothing_for WritesDecrypted)

  abbrev nothing : Fault → Written
  nothing fault = nothing_for fault

  module _ (written : Written) where
    two_of_set : (set : List ShareFields) → IsReadAs input (Ok set) → (printable : IsJudged passphrase (Ok tt))
        → Then (IsRecovered expected passphrase set) nothing_for (λ secret written. written ≡ (secret_line form secret, Ok tt)) written
        → WritesTwoSteps written
    two_of_set set read printable (gives secret recovered is) = by (in_two_steps expected passphrase set (Ok secret) recovered)
      where
        by : IsTwoSteps expected passphrase set (Ok secret) → WritesTwoSteps written
        by (refuses fault none same) = absurd (cc)
        by (gives encrypted of (s, encrypts, same)) =
            gives tt printable (gives encrypted (gives set read of)
            (gives secret (gives tt printable (gives tt (long set read encrypted of) (s, encrypts, same))) is))
    two_of_set set read printable (refuses fault recovered is) = by (in_two_steps expected passphrase set (Err fault) recovered)
      where
        by : IsTwoSteps expected passphrase set (Err fault) → WritesTwoSteps written
        by (refuses other none same) = let faults : fault ≡ other = cc in gives tt printable (refuses other (gives set read none) (is ∙ ap nothing faults))
        by (gives encrypted of (s, encrypts, same)) =
            gives tt printable (gives encrypted (gives set read of)
            (refuses fault (gives tt printable (gives tt (long set read encrypted of) (s, encrypts, same))) is))

    pub output_in_two_steps : IsRecoverOutput form expected passphrase input written.0 written.1 → WritesTwoSteps written
    output_in_two_steps (gives set (gives _ printable (gives other read is)) writes) =
        let same : set ≡ other = cc in two_of_set set (subst (λ (s : List ShareFields). IsReadAs input (Ok s)) (sym same) read) printable writes
    output_in_two_steps (gives set (gives _ printable (refuses stop read why)) writes) = absurd (cc)
    output_in_two_steps (gives set (refuses bad first why) writes) = absurd (cc)
    output_in_two_steps (refuses fault (refuses bad first why) is) =
        let same : fault ≡ fault_of (Passphrase bad) = cc in refuses bad first (is ∙ ap nothing same)
    output_in_two_steps (refuses fault (gives _ printable (refuses stop read why)) is) =
        let same : fault ≡ fault_of_stop stop = cc in gives tt printable (refuses fault (refuses stop read (ap not_found same)) is)
    output_in_two_steps (refuses fault (gives _ printable (gives set read why)) is) = absurd (cc)

    -- where a secret is decrypted, its encryption is of a printable passphrase and as long as a secret
    decrypted : (set : List ShareFields) → IsReadAs input (Ok set) → IsJudged passphrase (Ok tt) → (encrypted : Params × List ℕ)
        → IsEncryptedOf set (Ok encrypted) → (result : Result (List ℕ) Fault) → IsDecryption expected passphrase encrypted result
        → IsRecovered expected passphrase set result
    decrypted set read printable encrypted of result (refuses bad first why) = absurd (none_unprintable passphrase bad.position printable first)
    decrypted set read printable encrypted of result (gives _ also (refuses bad (not, many) why)) = absurd (not (long set read encrypted of))
    decrypted set read printable encrypted of result (gives _ also (gives _ measured decrypts)) =
        in_one_step expected passphrase set result (gives encrypted of decrypts)

    pub output_in_one_step : WritesTwoSteps written → IsRecoverOutput form expected passphrase input written.0 written.1
    output_in_one_step (refuses bad first is) = refuses (fault_of (Passphrase bad)) (refuses bad first refl) is
    output_in_one_step (gives _ printable (refuses fault (refuses stop read why) is)) =
        let same : fault ≡ fault_of_stop stop = cc in refuses fault (gives tt printable (refuses stop read (ap no_set same))) is
    output_in_one_step (gives _ printable (refuses fault (gives set read none) is)) =
        gives set (gives tt printable (gives set read refl)) (refuses fault (in_one_step expected passphrase set (Err fault) (refuses fault none refl)) is)
    output_in_one_step (gives _ printable (gives encrypted (refuses stop read why) writes)) = absurd (cc)
    output_in_one_step (gives _ printable (gives encrypted (gives set read of) (gives secret decryption is))) =
        gives set (gives tt printable (gives set read refl)) (gives secret (decrypted set read printable encrypted of (Ok secret) decryption) is)
    output_in_one_step (gives _ printable (gives encrypted (gives set read of) (refuses fault decryption is))) =
        gives set (gives tt printable (gives set read refl)) (refuses fault (decrypted set read printable encrypted of (Err fault) decryption) is)

-- ---- one result

-- the encrypted secret of a quorum has one list of parameters
one_of_quorum : (set : List ShareFields) (bytes : List ℕ)
    → AtMostOne (λ (result : Found). (params : Params) × AreParams set params × (result ≡ Ok (params, bytes)))
one_of_quorum set bytes x y (params, are, is) (others, also, too) =
    is ∙ ap (λ (p : Params). found (p, bytes)) (one_params set params others are also) ∙ sym too

module _ (one_lack : SetsHaveOneLack) (no_lack : SetsWithQuorumsHaveNone)
    (one_first_quorum : (set : List ShareFields) (given : Option Names) (names others : Names)
    → IsFirstQuorumAfter set given names → IsFirstQuorumAfter set given others → names ≡ others) (one_set : InputsAreReadOnce) where
  pub encrypted_once : (input : Input) → AtMostOne (IsEncryptedIn input)
  encrypted_once input =
      then_once (IsReadAs input) _ _ (one_set input) (λ set _.
      then_once (IsLeastOrLack set) _ _ (least_once one_lack no_lack one_first_quorum set) (λ names _.
      then_once (λ combined. combination_of set names ≡ combined) _ _ (λ x y p q. sym p ∙ q) (λ bytes _. one_of_quorum set bytes)))

-- a quorum combines to something, if it has an outcome with some passphrase
some_of_quorum : (set : List ShareFields) (names : Names) (outcome : Result (List ℕ) Mismatch) → IsOutcome set names [] outcome
    → AtLeastOne (Then (λ combined. combination_of set names ≡ combined) (λ mismatch. not_found (fault_of (DigestMismatch mismatch)))
    (λ bytes result. (params : Params) × AreParams set params × (result ≡ Ok (params, bytes))))
some_of_quorum set names (Ok secret) recovers =
    (found (recovers.params, recovers.encrypted), gives recovers.encrypted recovers.combined (recovers.params, recovers.params_are, refl))
some_of_quorum set names (Err mismatch) is = (not_found (fault_of (DigestMismatch mismatch)), refuses mismatch is refl)

module _ (quorum_or_lack : (set : List ShareFields) → IsShareSet set
    → ((names : Names) × IsFirstQuorumAfter set None names) ⊎ ((lack : SetLack) × IsLack set lack))
    (some_outcome : (set : List ShareFields) (names : Names) (passphrase : List ℕ) → IsShareSet set → IsQuorum set names
    → (outcome : Result (List ℕ) Mismatch) × IsOutcome set names passphrase outcome) where
  some_of_set : (set : List ShareFields) → IsShareSet set → AtLeastOne (IsEncryptedOf set)
  some_of_set set is =
      then_some (IsLeastOrLack set) _ _ (least_or_lack quorum_or_lack set is) (λ names least.
      let (outcome, is_outcome) = some_outcome set names [] is least.quorum in some_of_quorum set names outcome is_outcome)

  pub some_encrypted : AcceptedAreShareSets
      → ((input : Input) → (read : Result (List ShareFields) (Stop LineRefusal)) × IsReadAs input read × IfOk read IsShareSet)
      → (input : Input) → AtLeastOne (IsEncryptedIn input)
  some_encrypted are_share_sets every_input_is_read input =
      let (read, is_read, _) = every_input_is_read input in
      then_some (IsReadAs input) _ _ (read, is_read) (λ set accepted. some_of_set set (are_share_sets input set accepted))

-- ---- a decryption

module _ (one_unprintable : PassphrasesHaveOneFirstUnprintable) (none_unprintable : PrintablePassphrasesHaveNone)
    (printable_or_not : PassphrasesArePrintableOrNot) (passphrase : List ℕ) where
  pub decryption_once : EncryptsOneSecret → (expected : Option NotedFingerprint) (encrypted : Params × List ℕ)
      → AtMostOne (IsDecryption expected passphrase encrypted)
  decryption_once encrypts_once expected encrypted =
      then_once (IsJudged passphrase) _ _ (judged_once one_unprintable none_unprintable printable_or_not passphrase) (λ _ _.
      then_once (IsMeasured encrypted.1) _ _ (measured_once encrypted.1) (λ _ _ x y p q.
      p.2 ∙ ap (as_expected expected) (encrypts_once passphrase encrypted.0 p.0 q.0 encrypted.1 p.1 q.1) ∙ sym q.2))

  pub some_decryption : TextsHaveOneSecret → (expected : Option NotedFingerprint) (encrypted : Params × List ℕ)
      → AtLeastOne (IsDecryption expected passphrase encrypted)
  some_decryption texts expected encrypted =
      then_some (IsJudged passphrase) _ _ (some_judged one_unprintable none_unprintable printable_or_not passphrase) (λ _ _.
      then_some (IsMeasured encrypted.1) _ _ (some_measure encrypted.1) (λ _ long.
      let (secret, encrypts, _) = texts passphrase encrypted.0 encrypted.1 long.0 in
      (as_expected expected secret, (secret, encrypts, refl))))
