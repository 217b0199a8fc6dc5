-- What `shamir_decrypt_round` gives.
use Rattle.std.specs.Prelude.{ℕ, ◌<◌, List, Result, Ok, Err}
use Rattle.s39_kdf.specs.Rounds.{rounds}
use Rattle.s39_reading.specs.Encrypted.{IsRoundDecryption}
use Rattle.s39_c.specs.declared.answer.ShamirAnswer.{ShamirAnswer}
use Rattle.s39_c.specs.declared.encrypted.ShamirParameters.{ShamirParameters}
use Rattle.s39_c.specs.Answers.{Step, out_of_range}
use Rattle.s39_c.specs.Encrypted.{AreParameters, GivesDecryption}

-- there is a round with this number, or there is none
abbrev pub IsRound : ℕ → Result (Unit {0}) (Unit {0}) → Type 0
IsRound number (Ok _) = number < rounds
IsRound number (Err _) = ¬ (number < rounds)

-- The first that applies: a number of the parameters out of its range; a number of no round; and then the refusal, or what the round
-- gives when it is undone.
abbrev pub GivesDecryptedRound : ShamirParameters → ℕ → List ℕ → List ℕ → List ℕ → List ℕ → ShamirAnswer → Type 0
GivesDecryptedRound parameters round encrypted passphrase old =
    Step (AreParameters parameters) (λ _. out_of_range) (λ params.
    Step (IsRound round) (λ _. out_of_range) (λ _. GivesDecryption (IsRoundDecryption round passphrase (params, encrypted)) old) old) old
