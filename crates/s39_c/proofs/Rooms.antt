-- Which slices are too short for a call.
use Rattle.std.proofs.Common.{◌≡◌, ℕ, ◌*◌, ◌<◌, ◌≤◌, List, length, codes, ap, ◌∙◌, refl, inl, inr, arith, Option, Result, Ok, Err}
use Rattle.s39_refusal.specs.declared.cause.Cause.{Cause}
use Rattle.std.proofs.lemmas.List.{length-take-le}
use Rattle.hex.specs.Hex.{lower_digits, encode_lower}
use Rattle.hex.proofs.HexLemmas.{length-encode_with}
use Rattle.s39_kdf.specs.Fingerprint.{fingerprint_length, fingerprint_of}
use Rattle.s39_kdf.specs.Hmac.{hmac}
use Rattle.s39_kdf.proofs.Lengths.{length-hmac}
use Rattle.s39_words.specs.declared.word_error.WordError.{WordError}
use Rattle.s39_words.specs.declared.word_error.WordError.TheVariants.{UnknownWord}
use Rattle.s39_words.specs.Reading.{cause_of as word_cause_of}
use Rattle.s39_set.specs.Lack.{cause_of as lack_cause_of}
use Rattle.s39_set.specs.Causes.{names_cause}
use Rattle.s39_set.specs.Names.{Names, AreNames}
use Rattle.s39_set.specs.ShareSet.{cause_of as set_cause_of}
use Rattle.s39_set.specs.declared.status.Status.{Status}
use Rattle.s39_set.specs.declared.set_error.SetError.{SetError}
use Rattle.s39_set.specs.declared.set_error.SetError.TheVariants.{OtherIdentifier}
use Rattle.s39_set.specs.declared.set_lack.SetLack.{SetLack}
use Rattle.s39_set.specs.declared.set_lack.SetLack.TheVariants.{NoShares}
use Rattle.s39_backup.specs.declared.combination.Mismatch.{Mismatch}
use Rattle.s39_backup.specs.declared.combination.Mismatch.TheVariants.{OfGroups}
use Rattle.s39_backup.specs.declared.plan.Members.{Members}
use Rattle.s39_backup.specs.declared.plan_error.PlanError.{PlanError}
use Rattle.s39_backup.specs.declared.plan_error.PlanError.TheVariants.{BadPlan}
use Rattle.s39_backup.specs.Created.{Asked, asked_for}
use Rattle.s39_backup.specs.Plan.{plan_cause_of}
use Rattle.s39_backup.specs.RecoverError.{mismatch_cause_of}
use Rattle.s39_kdf.specs.declared.params.Params.{Params}
use Rattle.s39_kdf.specs.declared.secret_form.SecretForm.{SecretForm}
use Rattle.s39_repair.specs.declared.repair_error.RepairError.{RepairError}
use Rattle.s39_repair.specs.declared.repair_error.RepairError.TheVariants.{NoMnemonic}
use Rattle.s39_repair.specs.Answer.{cause_of as marks_cause_of}
use Rattle.s39_drilling.specs.declared.drill.Done.{Done}
use Rattle.s39_input.specs.declared.fault.DeviceFailure.{DeviceFailure}
use Rattle.s39_input.specs.declared.fault.DeviceFailure.TheVariants.{Read}
use Rattle.s39_input.specs.declared.fault.Fault.{Fault}
use Rattle.s39_input.specs.declared.fault.LineRefusal.{LineRefusal}
use Rattle.s39_input.specs.declared.fault.LineRefusal.TheVariants.{Word, Marks, Set}
use Rattle.s39_input.specs.declared.fault.Refusal.{Refusal}
use Rattle.s39_input.specs.declared.fault.Refusal.TheVariants.{Line, Lack, DigestMismatch, Device}
use Rattle.s39_input.specs.Create.{IsCreateOutput}
use Rattle.s39_drilling.specs.Drill.{IsDrillOutput}
use Rattle.s39_input.specs.Fault.{cause_of, line_cause_of, device_cause_of}
use Rattle.s39_input.specs.Input.{Input, lines_in, whole}
use Rattle.s39_drilling.specs.Lengths.{longest_listing}
use Rattle.s39_creating.specs.Lengths.{longest_backup}
use Rattle.s39_reading.specs.Lengths.{longest_status}
use Rattle.s39_creating.specs.Reissue.{IsReissueOutput}
use Rattle.s39_creating.specs.Resplit.{IsOutputFromEncrypted}
use Rattle.s39_reading.specs.Status.{IsStatusOf, IsStatusOutput}
use Rattle.s39_words.specs.declared.ShareFields.{ShareFields}
use Rattle.s39_set.specs.ShareSet.{IsShareSet}
use Rattle.s39_input.specs.Judging.{judgement}
use Rattle.s39_input.specs.declared.judging.Judged.{Judged}
use Rattle.s39_c.specs.Judging.{GivesJudgement}
use Rattle.s39_c.specs.declared.encrypted.ShamirParameters.{ShamirParameters}
use Rattle.s39_c.specs.declared.judging.ShamirJudgement.{ShamirJudgement}
use Rattle.s39_c.specs.declared.answer.ShamirAnswer.{ShamirAnswer}
use Rattle.s39_c.specs.Answers.{Gives, GivesOutputAs, created, done, too_short, refusal, refused}
use Rattle.s39_c.specs.Creating.{Wanted, GivesBackup}
use Rattle.s39_c.specs.Drilling.{GivesListing, GivesDrill}
use Rattle.s39_c.specs.Exponents.{IsUpTo, GivesUpTo}
use Rattle.s39_c.proofs.MostExponents.{refused_up_to}
use Rattle.s39_input.specs.Steps.{gives as goes_on, refuses}
use Rattle.s39_c.specs.Fingerprinting.{GivesFingerprint}
use Rattle.s39_c.specs.Reissuing.{GivesReissued}
use Rattle.s39_c.specs.Resplitting.{GivesFromEncrypted, GivesSplit}
use Rattle.s39_c.specs.Status.{GivesStatus}
use Rattle.s39_c.specs.Telling.{longest_text, GivesText}

-- ---- the numbers of the program's refusals are above that of a slice that is too short

above-word : (error : WordError) → 2 ≤ (word_cause_of error).code
above-word (UnknownWord position) = omega arith
above-word _ = omega arith

above-marks : (error : RepairError) → 2 ≤ (marks_cause_of error).code
above-marks NoMnemonic = omega arith
above-marks _ = omega arith

above-set : (error : SetError) → 2 ≤ (set_cause_of error).code
above-set OtherIdentifier = omega arith
above-set _ = omega arith

above-lack : (lack : SetLack) → 2 ≤ (lack_cause_of lack).code
above-lack NoShares = omega arith
above-lack _ = omega arith

above-mismatch : (mismatch : Mismatch) → 2 ≤ (mismatch_cause_of mismatch).code
above-mismatch OfGroups = omega arith
above-mismatch _ = omega arith

above-device : (failure : DeviceFailure) → 2 ≤ (device_cause_of failure).code
above-device Read = omega arith
above-device _ = omega arith

above-line : (refusal : LineRefusal) → 2 ≤ (line_cause_of refusal).code
above-line (Word error) = above-word error
above-line (Marks error) = above-marks error
above-line (Set error) = above-set error
above-line _ = omega arith

pub above : (refusal : Refusal) → 2 ≤ (cause_of refusal).code
above (Line refusal) = above-line refusal
above (Lack lack) = above-lack lack
above (DigestMismatch mismatch) = above-mismatch mismatch
above (Device failure) = above-device failure
above _ = omega arith

above-plan : (error : PlanError) → 2 ≤ (plan_cause_of error).code
above-plan BadPlan = omega arith
above-plan _ = omega arith

-- ---- other answers aren't that of a slice that is too short

module _ (needed : ℕ) where
  pub no_other : (other : ShamirAnswer) → too_short needed ≡ other → other.code ≡ 1
  no_other other same = let code : 1 ≡ other.code = ap (λ (a : ShamirAnswer). a.code) same in omega (arith, code)

  pub no_refusal : (says : Cause) (line : ℕ) → 2 ≤ says.code → too_short needed ≡ refusal says line → ⊥
  no_refusal says line high same = let code : says.code ≡ 1 = no_other (refusal says line) same in absurd (omega (arith, high, code))

  no_fault : (fault : Fault) → too_short needed ≡ refused fault → ⊥
  no_fault fault same = let code : (cause_of fault.refusal).code ≡ 1 = no_other (refused fault) same in absurd (omega (arith, above fault.refusal, code))

-- ---- the calls

-- nor is a refusal of lines up to an exponent
not_short : (most : ℕ) (passphrase lines : List ℕ) (needed : ℕ) (refusal : ShamirAnswer) → IsUpTo most passphrase lines (Err refusal)
    → too_short needed ≡ refusal → ⊥
not_short most passphrase lines needed refusal (refuses fault checked is) says =
    let same : refusal ≡ refused fault = cc in no_fault needed fault (says ∙ same)
not_short most passphrase lines needed refusal (goes_on set checked (refuses fault lacks is)) says =
    let same : refusal ≡ refused fault = cc in no_fault needed fault (says ∙ same)
not_short most passphrase lines needed refusal (goes_on set checked (goes_on exponent has is)) says =
    let code : 3 ≡ 1 = no_other needed _ (says ∙ refused_up_to most exponent set refusal is) in absurd (omega (arith, code))

module _ (short : (form : SecretForm) (passphrase : List ℕ) (after : Option Names) (input : Input) (text : List ℕ) (answer : Result Done Fault)
    → IsDrillOutput form passphrase after 1 input text answer → length text ≤ longest_listing)
    (passphrase lines cursor : List ℕ) (limit number : ℕ) (digits old new : List ℕ) (needed : ℕ) where
  listing_fits : (form : SecretForm) (after : Option Names)
      → GivesListing (λ n. IsDrillOutput form passphrase after n (whole lines)) limit old new (too_short needed) → length old < longest_listing
  listing_fits form after (inl (listing, lists, says)) = let code : 0 ≡ 1 = no_other needed _ says in absurd (omega (arith, code))
  listing_fits form after (inr (inl (found, (text, mismatches, output, needs, less), same, says))) =
      omega (arith, less, short form passphrase after (whole lines) text (Ok (record { mismatches = mismatches })) output)
  listing_fits form after (inr (inr (fault, output, same, says))) = absurd (no_fault needed fault says)

  up_to_fits : (most : ℕ) (form : SecretForm) (after : Option Names)
      → GivesUpTo most passphrase lines (GivesListing (λ n. IsDrillOutput form passphrase after n (whole lines)) limit old) old new (too_short needed)
      → length old < longest_listing
  up_to_fits most form after (inr (set, is, lists)) = listing_fits form after lists
  up_to_fits most form after (inl (refusal, is, same, says)) = absurd (not_short most passphrase lines needed refusal is says)

  pub drill_fits : (most : ℕ) → GivesDrill (λ form names. GivesUpTo most passphrase lines
      (GivesListing (λ n. IsDrillOutput form passphrase names n (whole lines)) limit old) old)
      cursor limit number digits old new (too_short needed) → length old < longest_listing
  drill_fits most (inl (none, range, same, says)) = let code : 2 ≡ 1 = no_other needed _ says in absurd (omega (arith, code))
  drill_fits most (inr (form, is, inl (bad, none, same, says))) = let code : 61 ≡ 1 = no_other needed _ says in absurd (omega (arith, code))
  drill_fits most (inr (form, is, inr (after, names, inl (bad, none, same, says)))) =
      let code : 44 ≡ 1 = no_other needed _ says in absurd (omega (arith, code))
  drill_fits most (inr (form, is, inr (after, names, inr (kind, read, lists)))) = up_to_fits most kind after lists

-- what a command writes is no longer than this
module _ (success : List ℕ → ShamirAnswer) (IsOutput : List ℕ → Result (Unit {0}) Fault → Type 0) (most : ℕ)
    (short : (text : List ℕ) → IsOutput text (Ok tt) → length text ≤ most) (zero : (text : List ℕ) → (success text).code ≡ 0)
    (old new : List ℕ) (needed : ℕ) where
  output_fits : GivesOutputAs success IsOutput old new (too_short needed) → length old < most
  output_fits (inl (fault, output, same, says)) = absurd (no_fault needed fault says)
  output_fits (inr (text, output, inl (fits, is, says))) = absurd (omega (arith, no_other needed (success text) says, zero text))
  output_fits (inr (text, output, inr (less, same, says))) = omega (arith, less, short text output)

module _ (random old new : List ℕ) (needed : ℕ) (short : (asked : Asked) (input : Input) (text : List ℕ) → IsCreateOutput asked input text (Ok tt)
    → length text ≤ longest_backup) where
  pub backup_fits : (wanted : Wanted) → GivesBackup wanted random old new (too_short needed) → length old < longest_backup
  backup_fits wanted (inl (high, range, same, says)) = let code : 2 ≡ 1 = no_other needed _ says in absurd (omega (arith, code))
  backup_fits wanted (inr (options, are, inl (error, reads, same, says))) = absurd (no_refusal needed (plan_cause_of error) 0 (above-plan error) says)
  backup_fits wanted (inr (options, are, inr (plan, reads, gives))) =
      let asked = asked_for wanted.secret wanted.passphrase plan.0 plan.1 options in
      output_fits (λ text. created (length text) (lines_in text)) (IsCreateOutput asked (whole random)) longest_backup (short asked (whole random))
      (λ text. refl) old new needed gives

-- ---- bytes

pub gives_short : (bytes old new : List ℕ) (needed : ℕ) → Gives bytes old new (too_short needed) → length old < length bytes
gives_short bytes old new needed (inl (fits, is, says)) = let code : 0 ≡ 1 = no_other needed _ says in absurd (omega (arith, code))
gives_short bytes old new needed (inr (less, same, says)) = less

-- ---- a fingerprint

-- a fingerprint has two digits for each of its bytes
fingerprint_digits : (secret : List ℕ) → length (encode_lower (fingerprint_of secret)) ≡ 2 * fingerprint_length
fingerprint_digits secret =
    let mac = length-hmac (codes "shamir fingerprint") secret in
    let four = length-take-le fingerprint_length (hmac (codes "shamir fingerprint") secret) (omega (arith, mac)) in
    length-encode_with lower_digits (fingerprint_of secret) ∙ ap (λ n. 2 * n) four

pub fingerprint_fits : (secret old new : List ℕ) (needed : ℕ) → GivesFingerprint secret old new (too_short needed)
    → (needed ≡ 2 * fingerprint_length) × (length old < 2 * fingerprint_length)
fingerprint_fits secret old new needed (inl (bad, same, says)) =
    let code : 1 ≡ 42 = ap (λ (a : ShamirAnswer). a.code) says in absurd (omega (arith, code))
fingerprint_fits secret old new needed (inr (right, inl (fits, bytes, says))) =
    let code : 1 ≡ 0 = ap (λ (a : ShamirAnswer). a.code) says in absurd (omega (arith, code))
fingerprint_fits secret old new needed (inr (right, inr (less, same, says))) =
    let digits = fingerprint_digits secret in
    (ap (λ (a : ShamirAnswer). a.first) says ∙ digits, omega (arith, less, digits))

module _ (short : (input : Input) (text : List ℕ) (status : Status) → IsStatusOutput input text (Ok status) → length text ≤ longest_status)
    (lines old new : List ℕ) (needed : ℕ) where
  pub status_fits : GivesStatus (IsStatusOutput (whole lines)) old new (too_short needed) → length old < longest_status
  status_fits (inl (fault, output, same, says)) = absurd (no_fault needed fault says)
  status_fits (inr (written, output, inl (fits, is, says))) = let code : 0 ≡ 1 = no_other needed _ says in absurd (omega (arith, code))
  status_fits (inr (written, output, inr (less, same, says))) = omega (arith, less, short (whole lines) written.0 written.1 output)

module _ (short : (set : List ShareFields) → IsShareSet set → (text : List ℕ) (status : Status) → IsStatusOf set text (Ok status)
    → length text ≤ longest_status)
    (are : (lines line : List ℕ) (judged : Judged) → judgement lines line ≡ Ok judged → IsShareSet judged.set)
    (lines line : List ℕ) (before after : ShamirJudgement) (old new : List ℕ) (needed : ℕ) where
  pub judgement_fits : GivesJudgement lines line before after old new (too_short needed) → length old < longest_status
  judgement_fits (inl (fault, found, same, says)) = absurd (no_fault needed fault says)
  judgement_fits (inr (judged, found, inl (fault, output, same, says))) = absurd (no_fault needed fault says)
  judgement_fits (inr (judged, found, inr (written, output, inl (fits, is, says)))) =
      let code : 0 ≡ 1 = no_other needed _ says in absurd (omega (arith, code))
  judgement_fits (inr (judged, found, inr (written, output, inr (less, same, says)))) =
      omega (arith, less, short judged.set (are lines line judged found.0) written.0 written.1 output)

module _ (short : (group_threshold : ℕ) (groups : List Members) (names : Names) (input : Input) (text : List ℕ) → AreNames names
    → IsReissueOutput group_threshold groups names input text (Ok tt) → length text ≤ longest_backup)
    (plan listed lines old new : List ℕ) (needed : ℕ) where
  abbrev Is : ℕ → List Members → Names → List ℕ → Result (Unit {0}) Fault → Type 0
  Is threshold groups names = IsReissueOutput threshold groups names (whole lines)

  pub reissue_fits : GivesReissued Is plan listed old new (too_short needed) → length old < longest_backup
  reissue_fits (inl (error, reads, same, says)) = absurd (no_refusal needed (plan_cause_of error) 0 (above-plan error) says)
  reissue_fits (inr (read, is, inl (bad, none, same, says))) = let code : names_cause.code ≡ 1 = no_other needed _ says in absurd (omega (arith, code))
  reissue_fits (inr (read, is, inr (names, form, gives))) =
      output_fits (λ text. done (length text)) (Is read.0 read.1 names) longest_backup
      (λ text. short read.0 read.1 names (whole lines) text form.are_names) (λ text. refl) old new needed gives

module _ (IsOutput : ℕ → List Members → List ℕ → Result (Unit {0}) Fault → Type 0)
    (short : (threshold : ℕ) (groups : List Members) (text : List ℕ) → IsOutput threshold groups text (Ok tt) → length text ≤ longest_backup)
    (plan old new : List ℕ) (needed : ℕ) where
  pub split_fits : GivesSplit IsOutput plan old new (too_short needed) → length old < longest_backup
  split_fits (inl (error, reads, same, says)) = absurd (no_refusal needed (plan_cause_of error) 0 (above-plan error) says)
  split_fits (inr (read, is, gives)) =
      output_fits (λ text. created (length text) (lines_in text)) (IsOutput read.0 read.1) longest_backup
      (short read.0 read.1) (λ text. refl) old new needed gives

module _ (encrypted random : List ℕ)
    (short : (params : Params) (threshold : ℕ) (groups : List Members) (text : List ℕ)
    → IsOutputFromEncrypted threshold groups random (params, encrypted) text (Ok tt) → length text ≤ longest_backup)
    (parameters : ShamirParameters) (plan old new : List ℕ) (needed : ℕ) where
  pub from_encrypted_fits : GivesFromEncrypted parameters encrypted random plan old new (too_short needed) → length old < longest_backup
  from_encrypted_fits (inl (bad, range, same, says)) = let code : 2 ≡ 1 = no_other needed _ says in absurd (omega (arith, code))
  from_encrypted_fits (inr (params, are, gives)) =
      split_fits (λ threshold groups. IsOutputFromEncrypted threshold groups random (params, encrypted)) (short params) plan old new needed gives

-- ---- the text of an answer

pub text_fits : (old new : List ℕ) (needed : ℕ) → GivesText old new (too_short needed) → (length old < longest_text) × (needed ≤ longest_text)
text_fits old new needed (text, few, inl (fits, bytes, says)) =
    let code : 1 ≡ 0 = ap (λ (a : ShamirAnswer). a.code) says in absurd (omega (arith, code))
text_fits old new needed (text, few, inr (less, same, says)) =
    let asked : needed ≡ length text = ap (λ (a : ShamirAnswer). a.first) says in (omega (arith, less, few), omega (arith, asked, few))

pub text_written : (old new : List ℕ) (written : ℕ) → GivesText old new (done written) → (written ≤ length old) × (written ≤ longest_text)
text_written old new written (text, few, inl (fits, bytes, says)) =
    let told : written ≡ length text = ap (λ (a : ShamirAnswer). a.written) says in (omega (arith, told, fits), omega (arith, told, few))
text_written old new written (text, few, inr (less, same, says)) =
    let code : 0 ≡ 1 = ap (λ (a : ShamirAnswer). a.code) says in absurd (omega (arith, code))
