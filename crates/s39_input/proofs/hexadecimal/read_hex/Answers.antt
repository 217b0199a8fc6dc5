use Rattle.std.proofs.Common.{refl, arith}
use Rattle.s39_input.proofs.Texts.HexDigits.{reading_begins, read_more, reading_ends}
use Rattle.s39_input.proofs.hexadecimal.read_hex.Goals as goal

pub loop-i-init : goal.loop-i-init
loop-i-init c = reading_begins c.args.digits.now c.args.bytes.now

pub loop-i-preserved : goal.loop-i-preserved
loop-i-preserved c =
    let digits = c.args.digits.now in
    let i = c.loop-i.i in
    rw (c.value_of-high.ensures, c.value_of-low.ensures)
    (read_more digits c.loop-i.bytes i c.loop-i.worth _ _ (omega arith) (omega arith) refl refl c.loop-i.invariant)

pub returns : goal.returns
returns c = reading_ends c.args.digits.now c.loop-i.bytes c.loop-i.i c.loop-i.worth (omega arith) (omega arith) c.loop-i.invariant
