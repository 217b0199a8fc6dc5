use Rattle.std.proofs.Common.{◌≡◌, ◌*◌, ◌≤◌, length, arith, codes, ap, ◌∙◌}
use Rattle.std.proofs.lemmas.List.{length-append, length-take}
use Rattle.hex.specs.Hex.{lower_digits, encode_lower}
use Rattle.hex.proofs.HexLemmas.{length-encode_with}
use Rattle.s39_kdf.specs.Limits.{longest_secret}
use Rattle.s39_kdf.specs.Hmac.{hmac}
use Rattle.s39_input.proofs.secret_form.push_secret.Goals as goal

pub returns-in-Digits-clause-room : goal.returns-in-Digits-clause-room
returns-in-Digits-clause-room c =
    let secret = c.as_slice.result.now in
    let short : length secret ≤ longest_secret = c.as_slice.ensures.fits in
    let digits : length (encode_lower secret) ≡ 2 * length secret = length-encode_with _ secret in
    rw (c.push_hex.ensures, length-append) (omega (arith, short, digits))

pub returns-in-Fingerprint-clause-room : goal.returns-in-Fingerprint-clause-room
returns-in-Fingerprint-clause-room c =
    let four = ap length c.fingerprint.ensures ∙ length-take 4 (hmac (codes "shamir fingerprint") c.as_slice-in-Fingerprint.result.now) in
    let digits = length-encode_with lower_digits c.fingerprint.result in
    rw (c.push_hex-in-Fingerprint.ensures, length-append) (omega (arith, four, digits))
