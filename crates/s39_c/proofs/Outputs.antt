-- What calls give, by what is put into a slice, and what follows from it; and what a drill gives where it is refused.
use Rattle.std.proofs.Common.{◌≡◌, ℕ, List, [], ap, ◌∙◌, inl, inr}
use Rattle.std.specs.Prelude.{Option, Result, Ok, Err}
use Rattle.s39_set.specs.Names.{Names}
use Rattle.s39_drilling.specs.declared.drill.Done.{Done}
use Rattle.s39_input.specs.declared.fault.Fault.{Fault}
use Rattle.s39_input.specs.declared.slices.NoOutput.{NoOutput}
use Rattle.s39_input.specs.declared.slices.NoOutput.TheVariants.{Refused, TooShort}
use Rattle.s39_input.specs.declared.slices.WrittenLines.{WrittenLines}
use Rattle.s39_reading.specs.declared.status.WrittenStatus.{WrittenStatus}
use Rattle.s39_set.specs.declared.status.Status.{Status}
use Rattle.s39_kdf.specs.declared.secret_form.SecretForm.{SecretForm}
use Rattle.s39_input.specs.Slices.{Puts}
use Rattle.s39_reading.specs.Slices.{PutsStatus}
use Rattle.s39_drilling.specs.Slices.{Lists}
use Rattle.s39_drilling.proofs.Drills.Weaker.{lists_weaker}
use Rattle.s39_kdf.specs.declared.noted.NotedFingerprint.{NotedFingerprint}
use Rattle.s39_kdf.specs.declared.secret_form.SecretForm.TheVariants.{Digits}
use Rattle.s39_input.specs.Input.{Input, whole}
use Rattle.s39_drilling.specs.Drill.{IsDrillOutput, DrillsCreated}
use Rattle.s39_reading.specs.Recover.{secret_line, IsRecoverOutput, RecoversCreated}
use Rattle.s39_c.specs.Exponents.{GivesUpTo}
use Rattle.s39_c.specs.declared.answer.ShamirAnswer.{ShamirAnswer}
use Rattle.s39_c.specs.Answers.{GivesOutput, done, counted, too_short, without_output}
use Rattle.s39_c.specs.Drilling.{GivesListing, GivesDrill}
use Rattle.s39_c.specs.Recovering.{GivesSecret, GivesExpectedSecret}
use Rattle.s39_c.specs.Resplitting.{GivesSplit}
use Rattle.s39_c.specs.Status.{GivesStatus}
use Rattle.s39_backup.specs.declared.plan.Members.{Members}

-- the answer for what is put into a slice, or isn't
abbrev pub answer_of : Result WrittenLines NoOutput → ShamirAnswer
answer_of (Ok put) = done put.written
answer_of (Err cause) = without_output cause

-- what a command writes
pub gives_puts : (IsOutput : List ℕ → Result (Unit {0}) Fault → Type 0) (old new : List ℕ) (result : Result WrittenLines NoOutput) (answer : ShamirAnswer)
    → Puts IsOutput old new result → answer ≡ answer_of result → GivesOutput IsOutput old new answer
gives_puts IsOutput old new (Ok put) answer (text, output, front, bytes, lines) is =
    inr (text, output, inl (front.fits, front.bytes, is ∙ ap done bytes))
gives_puts IsOutput old new (Err (TooShort short)) answer (text, output, needed, long, same) is =
    inr (text, output, inr (long, same, is ∙ ap too_short needed))
gives_puts IsOutput old new (Err (Refused fault)) answer (output, same) is = inl (fault, output, same, is)

-- the answer for a status that is put into a slice, or isn't
abbrev pub status_answer_of : Result WrittenStatus NoOutput → ShamirAnswer
status_answer_of (Ok told) = counted told.written told.status
status_answer_of (Err cause) = without_output cause

-- a status
pub gives_status : (IsOutput : List ℕ → Result Status Fault → Type 0) (old new : List ℕ) (result : Result WrittenStatus NoOutput)
    (answer : ShamirAnswer) → PutsStatus IsOutput old new result → answer ≡ status_answer_of result → GivesStatus IsOutput old new answer
gives_status IsOutput old new (Ok told) answer (text, output, front, bytes) is =
    inr ((text, told.status), output, inl (front.fits, front.bytes, is ∙ ap (λ n. counted n told.status) bytes))
gives_status IsOutput old new (Err (TooShort short)) answer (text, status, output, needed, long, same) is =
    inr ((text, status), output, inr (long, same, is ∙ ap too_short needed))
gives_status IsOutput old new (Err (Refused fault)) answer (output, same) is = inl (fault, output, same, is)

-- why nothing is listed, as it is answered
pub gives_refusal : (IsOutput : ℕ → List ℕ → Result Done Fault → Type 0) (limit : ℕ) (old new : List ℕ) (cause : NoOutput) (answer : ShamirAnswer)
    → Lists IsOutput limit old new (Err cause) → answer ≡ without_output cause → GivesListing IsOutput limit old new answer
gives_refusal IsOutput limit old new (Refused fault) answer (output, same) is = inr (inr (fault, output, same, is))
gives_refusal IsOutput limit old new (TooShort short) answer (is_short, same) is = inr (inl (short, is_short, same, is))

-- ---- what follows from what is given

module _ {IsOutput Follows : ℕ → List ℕ → Result Done Fault → Type 0}
    (follows : (n : ℕ) (text : List ℕ) (answer : Result Done Fault) → IsOutput n text answer → Follows n text answer) (limit : ℕ) (old new : List ℕ)
    (answer : ShamirAnswer) where
  pub listing_weaker : GivesListing IsOutput limit old new answer → GivesListing Follows limit old new answer
  listing_weaker (inl (listing, fits, is)) = inl (listing, lists_weaker follows limit old new (Ok listing) fits, is)
  listing_weaker (inr (inl (short, is_short, same, is))) =
      let (also, again) = lists_weaker follows limit old new (Err (TooShort short)) (is_short, same) in inr (inl (short, also, again, is))
  listing_weaker (inr (inr (fault, output, same, is))) = inr (inr (fault, follows limit [] (Err fault) output, same, is))

-- ---- mnemonics of a created backup

module _ (created : (expected : Option NotedFingerprint) (passphrase : List ℕ) (input : Input) (text : List ℕ) (answer : Result (Unit {0}) Fault)
    → IsRecoverOutput Digits expected passphrase input text answer → RecoversCreated Digits expected passphrase input text answer)
    (most : ℕ) (passphrase lines digits old new : List ℕ) (answer : ShamirAnswer) where
  pub recovers_created : GivesExpectedSecret (λ noted. GivesUpTo most passphrase lines
      (GivesSecret (IsRecoverOutput Digits noted passphrase (whole lines)) old) old) digits old new answer
      → GivesExpectedSecret (λ noted. GivesUpTo most passphrase lines
      (GivesSecret (RecoversCreated Digits noted passphrase (whole lines)) old) old) digits old new answer
  recovers_created (inl none) = inl none
  recovers_created (inr (noted, is, inl none)) = inr (noted, is, inl none)
  recovers_created (inr (noted, is, inr (set, up, inl (fault, output, same, says)))) =
      inr (noted, is, inr (set, up, inl (fault, created noted passphrase (whole lines) [] (Err fault) output, same, says)))
  recovers_created (inr (noted, is, inr (set, up, inr (secret, (bytes, output), given)))) =
      inr (noted, is, inr (set, up, inr (secret, (bytes, created noted passphrase (whole lines) (secret_line Digits secret) (Ok tt) output), given)))

module _ (created : (form : SecretForm) (passphrase : List ℕ) (after : Option Names) (limit : ℕ) (input : Input) (text : List ℕ)
    (answer : Result Done Fault) → IsDrillOutput form passphrase after limit input text answer
    → DrillsCreated form passphrase after limit input text answer)
    (most : ℕ) (passphrase lines cursor : List ℕ) (limit number : ℕ) (digits old new : List ℕ) (answer : ShamirAnswer) where
  pub drills_created : GivesDrill (λ form names. GivesUpTo most passphrase lines
      (GivesListing (λ n. IsDrillOutput form passphrase names n (whole lines)) limit old) old) cursor limit number digits old new answer
      → GivesDrill (λ form names. GivesUpTo most passphrase lines
      (GivesListing (λ n. DrillsCreated form passphrase names n (whole lines)) limit old) old) cursor limit number digits old new answer
  drills_created (inl none) = inl none
  drills_created (inr (form, is, inl none)) = inr (form, is, inl none)
  drills_created (inr (form, is, inr (after, names, inl none))) = inr (form, is, inr (after, names, inl none))
  drills_created (inr (form, is, inr (after, names, inr (kind, of, inl none)))) = inr (form, is, inr (after, names, inr (kind, of, inl none)))
  drills_created (inr (form, is, inr (after, names, inr (kind, of, inr (set, up, listing))))) =
      let lists = listing_weaker {IsOutput = λ n. IsDrillOutput kind passphrase after n (whole lines)}
      {Follows = λ n. DrillsCreated kind passphrase after n (whole lines)}
      (λ n. created kind passphrase after n (whole lines)) limit old new answer listing in
      inr (form, is, inr (after, names, inr (kind, of, inr (set, up, lists))))

-- ---- a split

module _ (IsOutput Follows : ℕ → List Members → List ℕ → Result (Unit {0}) Fault → Type 0)
    (follows : (threshold : ℕ) (groups : List Members) (text : List ℕ) (answer : Result (Unit {0}) Fault) → IsOutput threshold groups text answer
    → Follows threshold groups text answer) (plan old new : List ℕ) (answer : ShamirAnswer) where
  pub split_weaker : GivesSplit IsOutput plan old new answer → GivesSplit Follows plan old new answer
  split_weaker (inl none) = inl none
  split_weaker (inr (read, is, inl (fault, output, same, says))) = inr (read, is, inl (fault, follows read.0 read.1 [] (Err fault) output, same, says))
  split_weaker (inr (read, is, inr (text, output, given))) = inr (read, is, inr (text, follows read.0 read.1 text (Ok tt) output, given))
