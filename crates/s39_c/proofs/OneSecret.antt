-- A recovery of the same lines gives one answer and one memory.
use Rattle.std.proofs.Common.{◌≡◌, ℕ, List, [], length, refl, sym, ap, ◌∙◌}
use Rattle.std.proofs.Common.{Option, Some, None, Result, Ok, Err}
use Rattle.s39_kdf.specs.declared.noted.BadFingerprint.{BadFingerprint}
use Rattle.s39_kdf.specs.declared.noted.NotedFingerprint.{NotedFingerprint}
use Rattle.s39_kdf.specs.declared.secret_form.SecretForm.TheVariants.{Digits}
use Rattle.s39_input.proofs.Steps.{AtMostOne}
use Rattle.s39_input.specs.declared.fault.Fault.{Fault}
use Rattle.s39_reading.specs.Recover.{secret_line}
use Rattle.s39_reading.proofs.Texts.SecretLines.{same_secret}
use Rattle.s39_c.specs.declared.answer.ShamirAnswer.{ShamirAnswer}
use Rattle.s39_c.specs.Answers.{done, fingerprint_refused, refused}
use Rattle.s39_c.specs.Recovering.{WritesDigits, IsExpected, GivesSecret, GivesExpectedSecret}
use Rattle.s39_c.proofs.InSteps.{Once, OneOutput, gives_as_once, step_once}

module _ (IsOutput : List ℕ → Result (Unit {0}) Fault → Type 0) (once : OneOutput IsOutput) where
  digits_once : AtMostOne (WritesDigits IsOutput)
  digits_once (Ok s) (Ok t) (bytes, p) (others, q) =
      ap Ok (same_secret s t bytes others (once (secret_line Digits s) (secret_line Digits t) (Ok tt) (Ok tt) p q).0)
  digits_once (Ok s) (Err fault) (bytes, p) q = let differ = (once (secret_line Digits s) [] (Ok tt) (Err fault) p q).1 in absurd (cc)
  digits_once (Err fault) (Ok s) p (bytes, q) = let differ = (once [] (secret_line Digits s) (Err fault) (Ok tt) p q).1 in absurd (cc)
  digits_once (Err fault) (Err other) p q = let same = (once [] [] (Err fault) (Err other) p q).1 in cc

  pub secret_once : (old : List ℕ) → Once (GivesSecret IsOutput old)
  secret_once old = step_once (WritesDigits IsOutput) refused _ old digits_once (λ secret _. gives_as_once (done (length secret)) secret old)

abbrev noted_result : Result NotedFingerprint BadFingerprint → Result NotedFingerprint BadFingerprint
noted_result result = result

-- a text stands for one fingerprint, for none, or it is refused
expected_once : (text : List ℕ) → AtMostOne (IsExpected text)
expected_once text (Ok None) (Ok None) is also = refl
expected_once text (Ok None) (Ok (Some noted)) is also = absurd (also.0 is)
expected_once text (Ok None) (Err bad) is also = absurd (also.0 is)
expected_once text (Ok (Some noted)) (Ok None) is also = absurd (is.0 also)
expected_once text (Ok (Some noted)) (Ok (Some other)) is also =
    let same : noted_result (Ok noted) ≡ noted_result (Ok other) = sym is.1 ∙ also.1 in cc
expected_once text (Ok (Some noted)) (Err bad) is also =
    let differ : noted_result (Ok noted) ≡ noted_result (Err bad) = sym is.1 ∙ also.1 in absurd (cc)
expected_once text (Err bad) (Ok None) is also = absurd (is.0 also)
expected_once text (Err bad) (Ok (Some noted)) is also =
    let differ : noted_result (Ok noted) ≡ noted_result (Err bad) = sym also.1 ∙ is.1 in absurd (cc)
expected_once text (Err bad) (Err other) is also = refl

-- What is given with a text is one thing where it is with each fingerprint.
pub expected_secret_once : (Given : Option NotedFingerprint → List ℕ → ShamirAnswer → Type 0) → ((expected : Option NotedFingerprint) → Once (Given expected))
    → (text old : List ℕ) → Once (GivesExpectedSecret Given text old)
expected_secret_once Given once text old =
    step_once (IsExpected text) (λ _. fingerprint_refused) Given old (expected_once text) (λ expected _. once expected)
