use Rattle.std.proofs.Common.{ℕ, List, Ok, length}
use Rattle.s39_kdf.specs.Limits.{IsSecretLength}
use Rattle.s39_kdf.specs.declared.params.Params.{Params}
use Rattle.s39_words.specs.declared.ShareFields.{ShareFields}
use Rattle.s39_input.specs.Accepted.{IsReadAs}
use Rattle.s39_reading.specs.Encrypted.{IsEncryptedOf}
use Rattle.s39_reading.proofs.Decryptions.{encrypted_length, in_one_step, in_two_steps, output_in_one_step, output_in_two_steps}
use Rattle.s39_reading.proofs.encrypted.recoveries_are_decryptions.Goals as goal

pub returns-clause-set : goal.returns-clause-set
returns-clause-set c = λ expected passphrase set result.
    (in_two_steps expected passphrase set result, in_one_step expected passphrase set result)

pub returns-clause-input : goal.returns-clause-input
returns-clause-input c = λ form expected passphrase input text answer.
    let none = c.passphrases_are_printable_or_not.ensures.none in
    let long : (set : List ShareFields) → IsReadAs input (Ok set) → (encrypted : Params × List ℕ) → IsEncryptedOf set (Ok encrypted)
    → IsSecretLength (length encrypted.1) = λ set read.
    encrypted_length c.every_quorum_has_an_outcome.ensures c.outcomes_in_range.ensures.secret c.encryption_keeps_length_and_bytes.ensures set
    (c.accepted_inputs_are_share_sets.ensures input set read) in (
      output_in_two_steps none input long form expected passphrase (text, answer),
      output_in_one_step none input long form expected passphrase (text, answer),
    )
