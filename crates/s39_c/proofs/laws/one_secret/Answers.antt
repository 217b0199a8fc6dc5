use Rattle.s39_input.specs.Input.{whole}
use Rattle.s39_kdf.specs.declared.secret_form.SecretForm.TheVariants.{Digits}
use Rattle.s39_reading.specs.Recover.{IsRecoverOutput}
use Rattle.s39_c.specs.Exponents.{GivesUpTo}
use Rattle.s39_c.specs.Recovering.{GivesSecret}
use Rattle.s39_c.proofs.OneSecret.{secret_once, expected_secret_once}
use Rattle.s39_c.proofs.MostExponents.{one_up_to, up_to_once}
use Rattle.s39_c.proofs.laws.one_secret.Goals as goal

pub returns : goal.returns
returns c = λ most passphrase lines digits old.
    expected_secret_once (λ noted. GivesUpTo most passphrase lines (GivesSecret (IsRecoverOutput Digits noted passphrase (whole lines)) old) old)
    (λ noted. up_to_once most passphrase lines (GivesSecret (IsRecoverOutput Digits noted passphrase (whole lines)) old)
    (one_up_to most passphrase lines c.one_checked_set.ensures c.one_exponent.ensures.once)
    (secret_once (IsRecoverOutput Digits noted passphrase (whole lines)) (c.one_recover_output.ensures Digits noted passphrase (whole lines)) old) old)
    digits old
