-- What a call gives that takes the greatest exponent for mnemonics.
use Rattle.std.specs.Prelude.{◌≡◌, ℕ, nat_lt, if◌then◌else◌, List, Result, Ok, Err}
use Rattle.s39_words.specs.declared.ShareFields.{ShareFields}
use Rattle.s39_input.specs.Input.{whole}
use Rattle.s39_input.specs.Accepted.{IsCheckedSet}
use Rattle.s39_input.specs.Steps.{Then}
use Rattle.s39_reading.specs.Exponent.{IsExponent}
use Rattle.s39_c.specs.declared.answer.ShamirAnswer.{ShamirAnswer}
use Rattle.s39_c.specs.Answers.{Step, high_exponent, refused}

-- a set with this exponent, or the refusal of the exponent if it is above the maximum
abbrev pub up_to : ℕ → ℕ → List ShareFields → Result (List ShareFields) ShamirAnswer
up_to most exponent set = if nat_lt most exponent then Err (high_exponent exponent) else Ok set

-- The set of the lines, or the first refusal that applies: of the passphrase, of a line, of a set without a quorum, of an
-- exponent above the maximum.
abbrev pub IsUpTo : ℕ → List ℕ → List ℕ → Result (List ShareFields) ShamirAnswer → Type 0
IsUpTo most passphrase lines =
    Then (IsCheckedSet passphrase (whole lines)) (λ fault. Err (refused fault)) (λ set.
    Then (IsExponent set) (λ fault. Err (refused fault)) (λ exponent result. result ≡ up_to most exponent set))

-- What a call leaves in a slice, and answers. If the lines are refused, the slice is as it was. Otherwise the call gives this.
abbrev pub GivesUpTo : ℕ → List ℕ → List ℕ → (List ℕ → ShamirAnswer → Type 0) → List ℕ → List ℕ → ShamirAnswer → Type 0
GivesUpTo most passphrase lines Given old = Step (IsUpTo most passphrase lines) (λ refusal. refusal) (λ _. Given) old
