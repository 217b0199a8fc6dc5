use Rattle.std.proofs.Common.{ℕ, List, None, Ok, length}
use Rattle.s39_kdf.specs.Limits.{IsSecretLength}
use Rattle.s39_kdf.specs.declared.params.Params.{Params}
use Rattle.s39_words.specs.declared.ShareFields.{ShareFields}
use Rattle.s39_input.specs.Accepted.{IsReadAs}
use Rattle.s39_input.specs.Input.{whole}
use Rattle.s39_reading.specs.Encrypted.{IsEncryptedOf}
use Rattle.s39_reading.proofs.Decryptions.{encrypted_length}
use Rattle.s39_c.proofs.Compositions.{same_output, no_output, same_calls}
use Rattle.s39_c.proofs.laws.resplits_are_compositions.Goals as goal

pub returns-clause-outputs : goal.returns-clause-outputs
returns-clause-outputs c = λ threshold groups random input encrypted text answer.
    let long : (set : List ShareFields) → IsReadAs input (Ok set) → (found : Params × List ℕ) → IsEncryptedOf set (Ok found)
    → IsSecretLength (length found.1) = λ set read.
    encrypted_length c.every_quorum_has_an_outcome.ensures c.outcomes_in_range.ensures.secret c.encryption_keeps_length_and_bytes.ensures set
    (c.accepted_inputs_are_share_sets.ensures input set read) in
    same_output (λ set. c.one_first_quorum.ensures set None) c.one_lack.ensures.none threshold groups random input
    (λ set names old bytes result. c.resplits_split_encrypted_secrets.ensures set threshold groups random names old bytes result)
    long encrypted text answer

pub returns-clause-refusals : goal.returns-clause-refusals
returns-clause-refusals c = λ threshold groups random input fault text answer.
    no_output (λ set. c.one_first_quorum.ensures set None) c.one_lack.ensures.none threshold groups random input c.one_lack.ensures.one fault text answer

pub returns-clause-calls : goal.returns-clause-calls
returns-clause-calls c = λ lines before after buffer filled n plan random old new answer.
    same_calls lines before after buffer filled n
    (λ threshold groups drawn encrypted text result. returns-clause-outputs c threshold groups drawn (whole lines) encrypted text result)
    plan random old new answer
