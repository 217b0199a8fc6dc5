use Rattle.std.proofs.Common.{None}
use Rattle.s39_c.proofs.FourRounds.{four_rounds, first_refusal, four_calls, begins, goes_on}
use Rattle.s39_c.proofs.laws.decryptions_are_four_rounds.Goals as goal

pub returns-clause-secrets : goal.returns-clause-secrets
returns-clause-secrets c = λ passphrase params. four_rounds passphrase params c.undone_rounds_decrypt.ensures

pub returns-clause-refusals : goal.returns-clause-refusals
returns-clause-refusals c = first_refusal

pub returns-clause-calls : goal.returns-clause-calls
returns-clause-calls c = λ parameters passphrase encrypted.
    four_calls parameters passphrase encrypted c.undone_rounds_decrypt.ensures c.undoing_keeps_length_and_bytes.ensures
    c.passphrases_are_printable_or_not.ensures.none

pub returns-clause-goes_on : goal.returns-clause-goes_on
returns-clause-goes_on c = λ parameters passphrase text.
    goes_on parameters passphrase text c.undone_rounds_decrypt.ensures c.undoing_keeps_length_and_bytes.ensures
    c.passphrases_are_printable_or_not.ensures.none text

pub returns-clause-begins : goal.returns-clause-begins
returns-clause-begins c = λ parameters passphrase encrypted.
    begins parameters passphrase encrypted c.undoing_keeps_length_and_bytes.ensures c.encryption_keeps_length_and_bytes.ensures
    c.passphrases_are_printable_or_not.ensures.none (c.one_decryption.ensures.once None passphrase)
