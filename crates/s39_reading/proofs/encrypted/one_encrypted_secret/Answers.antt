use Rattle.s39_reading.proofs.Decryptions.{encrypted_once, some_encrypted}
use Rattle.s39_reading.proofs.encrypted.one_encrypted_secret.Goals as goal

pub returns-clause-once : goal.returns-clause-once
returns-clause-once c = encrypted_once c.one_lack.ensures.one c.one_lack.ensures.none c.one_first_quorum.ensures c.one_set.ensures

pub returns-clause-exists : goal.returns-clause-exists
returns-clause-exists c =
    some_encrypted c.quorum_or_lack.ensures c.every_quorum_has_an_outcome.ensures c.accepted_inputs_are_share_sets.ensures c.every_input_is_read.ensures
