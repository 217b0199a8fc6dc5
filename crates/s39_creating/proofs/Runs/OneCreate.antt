-- An input has one output of `create`.
use Rattle.std.proofs.Common.{◌≡◌, ◌⊎◌, ℕ, Bool, true, false, List, [], length, All, inl, inr, refl, sym, ap, ◌∙◌, subst, arith}
use Rattle.std.proofs.Common.{Result, Ok, Err}
use Rattle.std.proofs.lemmas.Bool.{cases_lt}
use Rattle.s39_kdf.specs.Passphrases.{PrintablePassphrasesHaveNone}
use Rattle.s39_words.specs.declared.ShareFields.{ShareFields}
use Rattle.s39_words.specs.Printing.{IsPrinted}
use Rattle.s39_words.specs.Share.{IsShare}
use Rattle.s39_backup.specs.declared.create_error.CreateError.{CreateError}
use Rattle.s39_backup.specs.declared.create_error.CreateError.TheVariants.{Passphrase, SecretLength, BadRandomLength}
use Rattle.s39_input.specs.declared.fault.DeviceFailure.TheVariants.{Read}
use Rattle.s39_input.specs.declared.fault.Refusal.TheVariants.{Device}
use Rattle.s39_input.specs.declared.fault.Fault.{Fault}
use Rattle.s39_input.specs.Fault.{fault_of}
use Rattle.s39_input.specs.Input.{Input}
use Rattle.s39_backup.specs.Created.{Asked, IsCreation, needed_by}
use Rattle.s39_input.specs.Create.{ArePrintedLines, fault_of_creation, Applies, FailsBefore, IsCreateOutput}
use Rattle.s39_input.proofs.Runs.PrintedLines.{printed_all, text_once}

-- ---- one output

module _ (one_creation : (asked : Asked) (random : List ℕ) (r s : Result (List ShareFields) CreateError) → IsCreation asked random r → IsCreation asked random s
    → r ≡ s)
    (none_unprintable : PrintablePassphrasesHaveNone)
    (one_printed_form : (share : ShareFields) (text other : List ℕ) → IsPrinted text share → IsPrinted other share → text ≡ other) where
  -- a refusal that applies isn't a failed read
  not_both : (asked : Asked) (input : Input) (error : CreateError) → IsCreation asked input.bytes (Err error)
      → Applies input error → FailsBefore asked input → ⊥
  not_both asked input (Passphrase bad) creates applies fails = none_unprintable asked.passphrase bad.position fails.printable creates
  not_both asked input (SecretLength bad) creates applies fails = creates.1 fails.secret_length
  not_both asked input (BadRandomLength needed) creates (inl ended) fails = let bad : true ≡ false = sym ended ∙ fails.failed in absurd (cc)
  not_both asked input (BadRandomLength needed) creates (inr more) fails =
      let needed_is : needed ≡ needed_by asked = creates.2 in
      let few = fails.few in
      absurd (omega arith)

  -- why nothing is written
  abbrev Stops : Asked → Input → Fault → Type 0
  Stops asked input fault =
      ((error : CreateError) × IsCreation asked input.bytes (Err error) × Applies input error × (fault ≡ fault_of_creation error))
      ⊎ (FailsBefore asked input × (fault ≡ fault_of (Device Read)))

  fault_once : (asked : Asked) (input : Input) (f g : Fault) → Stops asked input f → Stops asked input g → f ≡ g
  fault_once asked input f g (inl (error, creates, applies, is)) (inl (other, creates', applies', is')) =
      let both = one_creation asked input.bytes (Err error) (Err other) creates creates' in
      let same : error ≡ other = cc in
      is ∙ ap fault_of_creation same ∙ sym is'
  fault_once asked input f g (inl (error, creates, applies, is)) (inr (fails, is')) = absurd (not_both asked input error creates applies fails)
  fault_once asked input f g (inr (fails, is')) (inl (error, creates, applies, is)) = absurd (not_both asked input error creates applies fails)
  fault_once asked input f g (inr (fails, is)) (inr (fails', is')) = is ∙ sym is'

  written_not_stopped : (asked : Asked) (input : Input) (shares : List ShareFields) (fault : Fault) → input.ended ≡ true
      → IsCreation asked input.bytes (Ok shares) → Stops asked input fault → ⊥
  written_not_stopped asked input shares fault ended creates (inl (error, creates', applies, is)) =
      let both = one_creation asked input.bytes (Ok shares) (Err error) creates creates' in absurd (cc)
  written_not_stopped asked input shares fault ended creates (inr (fails, is)) = let bad : true ≡ false = sym ended ∙ fails.failed in absurd (cc)

  pub create_once : (asked : Asked) (input : Input) (text other : List ℕ) (answer another : Result (Unit {0}) Fault)
      → IsCreateOutput asked input text answer → IsCreateOutput asked input other another → (text ≡ other) × (answer ≡ another)
  create_once asked input text other (Ok _) (Ok _) (shares, ended, creates, printed) (others, ended', creates', printed') =
      let both = one_creation asked input.bytes (Ok shares) (Ok others) creates creates' in
      let same : shares ≡ others = cc in
      (text_once one_printed_form others text other (subst (λ s. ArePrintedLines s text) same printed) printed', refl)
  create_once asked input text other (Ok _) (Err g) (shares, ended, creates, printed) q = absurd (written_not_stopped asked input shares g ended creates q.1)
  create_once asked input text other (Err f) (Ok _) p (shares, ended, creates, printed) = absurd (written_not_stopped asked input shares f ended creates p.1)
  create_once asked input text other (Err f) (Err g) p q = (p.0 ∙ sym q.0, ap Err (fault_once asked input f g p.1 q.1))

-- ---- some output

abbrev HasOutput : Asked → Input → Type 0
HasOutput asked input = (text : List ℕ) × (answer : Result (Unit {0}) Fault) × IsCreateOutput asked input text answer

module _ (every_share_has_a_printed_form : (share : ShareFields) → IsShare share → (text : List ℕ) × IsPrinted text share) where
  module _ (asked : Asked) (input : Input) where
    refused : (error : CreateError) → IsCreation asked input.bytes (Err error) → Applies input error → HasOutput asked input
    refused error creates applies = ([], Err (fault_of_creation error), (refl, inl (error, creates, applies, refl)))

    failed : FailsBefore asked input → HasOutput asked input
    failed fails = ([], Err (fault_of (Device Read)), (refl, inr (fails, refl)))

    of_creation : (ended : Bool) → input.ended ≡ ended → (result : Result (List ShareFields) CreateError) → IsCreation asked input.bytes result
        → ((shares : List ShareFields) → IsCreation asked input.bytes (Ok shares) → All IsShare shares) → HasOutput asked input
    of_creation ended is (Err (Passphrase bad)) creates are_shares = refused (Passphrase bad) creates tt
    of_creation ended is (Err (SecretLength bad)) creates are_shares = refused (SecretLength bad) creates tt
    of_creation true is (Err (BadRandomLength needed)) creates are_shares = refused (BadRandomLength needed) creates (inl is)
    of_creation false is (Err (BadRandomLength needed)) creates are_shares =
        let needed_is : needed ≡ needed_by asked = creates.2 in
        elim (cases_lt needed (length input.bytes)) [
          | inl more ↦ refused (BadRandomLength needed) creates (inr more)
          | inr few ↦ failed (record { failed = is; printable = creates.0; secret_length = creates.1; few = omega arith })
        ]
    of_creation true is (Ok shares) creates are_shares =
        let (text, printed) = printed_all every_share_has_a_printed_form shares (are_shares shares creates) in
        (text, Ok tt, (shares, is, creates, printed))
    of_creation false is (Ok shares) creates are_shares =
        let enough : length input.bytes ≡ needed_by asked = creates.2 in
        failed (record { failed = is; printable = creates.0; secret_length = creates.1; few = omega arith })

    pub some_output : (result : Result (List ShareFields) CreateError) × IsCreation asked input.bytes result
        → ((shares : List ShareFields) → IsCreation asked input.bytes (Ok shares) → All IsShare shares) → HasOutput asked input
    some_output (result, creates) are_shares = of_creation input.ended refl result creates are_shares
