-- What is written of an encrypted secret is one thing, and something, and it is what a creation writes.
use Rattle.std.proofs.Common.{◌≡◌, ◌∙◌, ℕ, List, [], length, All, refl, sym, subst, Result, Ok, Err}
use Rattle.std.specs.Prelude.{IfOk}
use Rattle.s39_kdf.specs.declared.params.Params.{Params}
use Rattle.s39_kdf.specs.Bytes.{AreBytes}
use Rattle.s39_kdf.specs.Cipher.{IsEncryption, EncryptionKeepsLengthAndBytes, TextsHaveOneSecret}
use Rattle.s39_kdf.specs.Limits.{IsPrintable, IsSecretLength}
use Rattle.s39_words.specs.declared.ShareFields.{ShareFields}
use Rattle.s39_words.specs.Printing.{IsPrinted}
use Rattle.s39_words.specs.Share.{IsShare}
use Rattle.s39_backup.specs.declared.plan.Members.{Members}
use Rattle.s39_backup.specs.declared.resplit_error.ResplitError.{ResplitError}
use Rattle.s39_backup.specs.Created.{Asked, asked_for, random_needed, IsCreatedFrom}
use Rattle.s39_backup.specs.Plan.{IsPlan}
use Rattle.s39_backup.specs.Resplit.{options_of, IsCreatedFromEncrypted, IsCreationFromEncrypted}
use Rattle.s39_input.specs.declared.fault.Refusal.TheVariants.{SecretLength}
use Rattle.s39_input.specs.declared.fault.Fault.{Fault}
use Rattle.s39_input.specs.Accepted.{IsMeasured}
use Rattle.s39_input.specs.Create.{ArePrintedLines, IsCreateOutput}
use Rattle.s39_input.specs.Fault.{fault_of, fault_of_resplit}
use Rattle.s39_input.specs.Input.{whole}
use Rattle.s39_input.specs.Steps.{Then, gives, refuses}
use Rattle.s39_input.proofs.Measures.{measured_once, some_measure}
use Rattle.s39_input.proofs.Steps.{AtLeastOne, AtMostOne, then_once, then_some}
use Rattle.s39_creating.specs.Reissue.{AreWritten}
use Rattle.s39_creating.specs.Resplit.{AreFromEncrypted, IsOutputFromEncrypted}
use Rattle.s39_creating.proofs.Reissues.OneReissued.{some_written, written_once}

-- an encrypted secret that is split is a creation, by as many random bytes as it takes
abbrev pub EncryptedAreCreations : Type 0
EncryptedAreCreations = (old : Params) (group_threshold : ℕ) (groups : List Members) (random encrypted : List ℕ) (shares : List ShareFields)
    (passphrase secret : List ℕ) → IsCreatedFromEncrypted old group_threshold groups random encrypted shares
    → IsEncryption secret passphrase old encrypted
    → (length random ≡ random_needed group_threshold groups (length secret))
    × IsCreatedFrom (asked_for secret passphrase group_threshold groups (options_of old)) random shares

module _ (group_threshold : ℕ) (groups : List Members) (random : List ℕ) (encrypted : Params × List ℕ) where
  abbrev Is : Result (List ShareFields) ResplitError → Type 0
  Is = IsCreationFromEncrypted encrypted.0 group_threshold groups random encrypted.1

  -- ---- one output

  shares_once : ((result other : Result (List ShareFields) ResplitError) → IsSecretLength (length encrypted.1) → Is result → Is other → result ≡ other)
      → AtMostOne (AreFromEncrypted group_threshold groups random encrypted)
  shares_once once =
      then_once (IsMeasured encrypted.1) (λ bad. Err (fault_of (SecretLength bad))) _ (measured_once encrypted.1) (λ _ long.
      then_once Is (λ error. Err (fault_of_resplit error)) (λ shares result. result ≡ Ok shares)
      (λ result other is also. once result other long is also)
      (λ shares is result other same also. same ∙ sym also))

  pub output_once : ((result other : Result (List ShareFields) ResplitError) → IsSecretLength (length encrypted.1) → Is result → Is other → result ≡ other)
      → ((share : ShareFields) (text other : List ℕ) → IsPrinted text share → IsPrinted other share → text ≡ other)
      → (text other : List ℕ) (answer another : Result (Unit {0}) Fault) → IsOutputFromEncrypted group_threshold groups random encrypted text answer
      → IsOutputFromEncrypted group_threshold groups random encrypted other another → (text ≡ other) × (answer ≡ another)
  output_once once one_printed_form text other answer another (result, from, w) (result', from', w') =
      let results : result ≡ result' = shares_once once result result' from from' in
      written_once one_printed_form result' text other answer another (subst (λ r. AreWritten r text answer) results w) w'

  -- ---- what is split

  -- the shares that an encrypted secret gives, which is as long as a secret
  made_parts : (shares : List ShareFields) → AreFromEncrypted group_threshold groups random encrypted (Ok shares)
      → IsSecretLength (length encrypted.1) × IsCreatedFromEncrypted encrypted.0 group_threshold groups random encrypted.1 shares
  made_parts shares (refuses bad many same) = absurd (let clash : Ok shares ≡ Err (fault_of (SecretLength bad)) = same in cc)
  made_parts shares (gives _ long (refuses error is same)) = absurd (let clash : Ok shares ≡ Err (fault_of_resplit error) = same in cc)
  made_parts shares (gives _ long (gives others is same)) =
      let here : others ≡ shares = let both : Ok shares ≡ Ok others = same in cc in
      (long, subst (IsCreatedFromEncrypted encrypted.0 group_threshold groups random encrypted.1) here is)

  -- what is written is the mnemonics of shares
  written_parts : (text : List ℕ) → IsOutputFromEncrypted group_threshold groups random encrypted text (Ok tt)
      → (shares : List ShareFields) × AreFromEncrypted group_threshold groups random encrypted (Ok shares) × ArePrintedLines shares text
  written_parts text (Ok shares, from, (printed, same)) = (shares, from, printed)
  written_parts text (Err fault, from, (empty, same)) = absurd (cc)

  -- what gives mnemonics is as long as a secret
  pub is_measured : (text : List ℕ) → IsOutputFromEncrypted group_threshold groups random encrypted text (Ok tt) → IsSecretLength (length encrypted.1)
  is_measured text output = let (shares, from, printed) = written_parts text output in (made_parts shares from).0

  -- ---- a creation

  module _ (creations : EncryptedAreCreations) (keeps : EncryptionKeepsLengthAndBytes) where
    pub create_writes : (text passphrase secret : List ℕ) → IsOutputFromEncrypted group_threshold groups random encrypted text (Ok tt)
        → All IsPrintable passphrase → IsEncryption secret passphrase encrypted.0 encrypted.1
        → IsCreateOutput (asked_for secret passphrase group_threshold groups (options_of encrypted.0)) (whole random) text (Ok tt)
    create_writes text passphrase secret output printable is =
        let (shares, from, printed) = written_parts text output in
        let (long, made) = made_parts shares from in
        let (count, created) = creations encrypted.0 group_threshold groups random encrypted.1 shares passphrase secret made is in
        let length_is = (keeps passphrase encrypted.0 secret encrypted.1 is).0 in
        (shares, refl, (printable, subst (λ (n : ℕ). IsSecretLength n) length_is long, count, created), printed)

    -- ---- some output

    module _ (texts : TextsHaveOneSecret)
        (are_shares : (asked : Asked) (shares : List ShareFields) → IsPlan asked.group_threshold asked.groups → IsSecretLength (length asked.secret)
        → AreBytes asked.secret → IsCreatedFrom asked random shares → All IsShare shares)
        (plan : IsPlan group_threshold groups) (bytes : AreBytes encrypted.1) where
      shares_of : (result : Result (List ShareFields) Fault) → AreFromEncrypted group_threshold groups random encrypted result
          → IfOk result (All IsShare)
      shares_of (Ok shares) from =
          let (long, made) = made_parts shares from in
          let (secret, is, only) = texts [] encrypted.0 encrypted.1 long.0 in
          let kept = keeps [] encrypted.0 secret encrypted.1 is in
          are_shares (asked_for secret [] group_threshold groups (options_of encrypted.0)) shares plan (subst (λ (n : ℕ). IsSecretLength n) kept.0 long)
          (kept.2 bytes) (creations encrypted.0 group_threshold groups random encrypted.1 shares [] secret made is).1
      shares_of (Err fault) from = tt

      pub some_output : (IsSecretLength (length encrypted.1) → (result : Result (List ShareFields) ResplitError) × Is result)
          → ((share : ShareFields) → IsShare share → (text : List ℕ) × IsPrinted text share)
          → (text : List ℕ) × (answer : Result (Unit {0}) Fault) × IsOutputFromEncrypted group_threshold groups random encrypted text answer
      some_output split_exists printed_form =
          let (result, from) = some_shares in
          let (text, answer, written) = some_written printed_form result (shares_of result from) in
          (text, answer, (result, from, written))
        where
          some_shares : AtLeastOne (AreFromEncrypted group_threshold groups random encrypted)
          some_shares =
              then_some (IsMeasured encrypted.1) (λ bad. Err (fault_of (SecretLength bad))) _ (some_measure encrypted.1) (λ _ long.
              then_some Is (λ error. Err (fault_of_resplit error)) (λ shares result. result ≡ Ok shares) (split_exists long)
              (λ shares is. (Ok shares, refl)))
