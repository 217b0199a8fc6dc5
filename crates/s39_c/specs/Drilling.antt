-- What `shamir_drill` gives.
use Rattle.std.specs.Prelude.{◌≡◌, ◌≢◌, ◌⊎◌, ℕ, ◌≤◌, ◌==◌, if◌then◌else◌, List, [], length, Option, Some, None, Result, Ok, Err}
use Rattle.s39_set.specs.Names.{Names}
use Rattle.s39_set.specs.declared.cursor.BadCursor.{BadCursor}
use Rattle.s39_set.specs.Written.{IsWrittenForm}
use Rattle.s39_drilling.specs.declared.drill.Done.{Done}
use Rattle.s39_input.specs.declared.fault.Fault.{Fault}
use Rattle.s39_drilling.specs.declared.listing.Listing.{Listing}
use Rattle.s39_kdf.specs.Noted.{noted_in}
use Rattle.s39_kdf.specs.declared.noted.BadFingerprint.{BadFingerprint}
use Rattle.s39_kdf.specs.declared.noted.NotedFingerprint.{NotedFingerprint}
use Rattle.s39_kdf.specs.declared.secret_form.SecretForm.{SecretForm}
use Rattle.s39_kdf.specs.declared.secret_form.SecretForm.TheVariants.{Digits, Fingerprint, Expected}
use Rattle.s39_input.specs.declared.slices.TooShort.{TooShort}
use Rattle.s39_drilling.specs.Slices.{ListsWhatFits, IsTooShort}
use Rattle.s39_c.specs.declared.answer.ShamirAnswer.{ShamirAnswer}
use Rattle.s39_c.specs.Answers.{Step, too_short, listed, out_of_range, cursor_refused, fingerprint_refused, refused}

-- What a drill with these outputs writes with the limit, or with the first lower one after which one quorum more doesn't
-- fit; or how many bytes one quorum needs; or the refusal that it answers. After the last two the slice is as it was.
abbrev pub GivesListing : (ℕ → List ℕ → Result Done Fault → Type 0) → ℕ → List ℕ → List ℕ → ShamirAnswer → Type 0
GivesListing IsOutput limit old new answer =
    ((listing : Listing) × ListsWhatFits IsOutput limit old new listing × (answer ≡ listed listing))
    ⊎ ((short : TooShort) × IsTooShort IsOutput (length old) short × (new ≡ old) × (answer ≡ too_short short.needed))
    ⊎ ((fault : Fault) × IsOutput limit [] (Err fault) × (new ≡ old) × (answer ≡ refused fault))

-- no text stands for no cursor, and another text for the names that it lists, if it lists some
abbrev pub IsCursor : List ℕ → Result (Option Names) BadCursor → Type 0
IsCursor cursor (Ok None) = cursor ≡ []
IsCursor cursor (Ok (Some names)) = IsWrittenForm cursor names
IsCursor cursor (Err _) = (cursor ≢ []) × ((names : Names) → ¬ IsWrittenForm cursor names)

-- a line says whether a secret has the fingerprint that was read
abbrev pub expecting : Result NotedFingerprint BadFingerprint → Result SecretForm BadFingerprint
expecting (Ok noted) = Ok (Expected noted)
expecting (Err bad) = Err bad

-- the form of secrets that a number stands for, with the text of the fingerprint that is expected
abbrev pub form_of : ℕ → List ℕ → Option (Result SecretForm BadFingerprint)
form_of number text =
    if number == 0 then Some (Ok Digits)
    else if number == 1 then Some (Ok Fingerprint)
    else if number == 2 then Some (expecting (noted_in text))
    else None

-- the number stands for a form, and the limit isn't 0
abbrev pub IsInRange : ℕ → ℕ → List ℕ → Result (Result SecretForm BadFingerprint) (Unit {0}) → Type 0
IsInRange limit number text (Ok form) = (1 ≤ limit) × (form_of number text ≡ Some form)
IsInRange limit number text (Err _) = (limit ≡ 0) ⊎ (form_of number text ≡ None)

-- The first that applies: a text that writes no fingerprint; and then what is given for the form.
abbrev pub GivesDrillIn : (SecretForm → List ℕ → ShamirAnswer → Type 0) → Result SecretForm BadFingerprint → List ℕ → List ℕ → ShamirAnswer
    → Type 0
GivesDrillIn Given form old = Step (λ read. form ≡ read) (λ _. fingerprint_refused) Given old

-- The first that applies: a cursor that is no written form; and then what is given for the form and the names of the cursor, or
-- for none.
abbrev pub GivesDrillAfter : (SecretForm → Option Names → List ℕ → ShamirAnswer → Type 0) → Result SecretForm BadFingerprint → List ℕ → List ℕ
    → List ℕ → ShamirAnswer → Type 0
GivesDrillAfter Given form cursor old =
    Step (IsCursor cursor) (λ _. cursor_refused) (λ after. GivesDrillIn (λ kind. Given kind after) form old) old

-- The first that applies: a limit of 0, or a number that stands for no form; and then what is given for the form that the number
-- stands for, and the cursor.
abbrev pub GivesDrill : (SecretForm → Option Names → List ℕ → ShamirAnswer → Type 0) → List ℕ → ℕ → ℕ → List ℕ → List ℕ → List ℕ
    → ShamirAnswer → Type 0
GivesDrill Given cursor limit number text old =
    Step (IsInRange limit number text) (λ _. out_of_range) (λ form. GivesDrillAfter Given form cursor old) old
