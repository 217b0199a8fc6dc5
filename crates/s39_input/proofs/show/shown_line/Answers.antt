use Rattle.std.proofs.Common.{◌≡◌, ◌*◌, ◌<◌, ◌≤◌, length, arith}
use Rattle.s39_kdf.specs.Limits.{longest_secret}
use Rattle.s39_input.specs.declared.output.TheConstants.{LINE_BYTES}
use Rattle.std.proofs.lemmas.List.{length-append}
use Rattle.hex.specs.Hex.{encode_lower}
use Rattle.hex.proofs.HexLemmas.{length-encode_with}
use Rattle.s39_input.proofs.show.shown_line.Goals as goal

pub push-requires : goal.push-requires
push-requires c =
    let value = c.as_slice.result.now in
    let short : length value ≤ longest_secret = c.as_slice.ensures.fits in
    let room = c.push_header.ensures.room in
    let digits : length (encode_lower value) ≡ 2 * length value = length-encode_with _ value in
    let fits : length c.push_hex.new.line.items < LINE_BYTES = rw (c.push_hex.ensures, c.push_text.ensures, length-append, length-append)
    (omega (arith, short, room, digits)) in
    (omega arith, fits)
