use Rattle.s39_input.proofs.Texts.HexDigits.{IsReading}
use Rattle.s39_input.proofs.hexadecimal.read_hex.Given as goal

abbrev pub invariant-loop-i : goal.invariant-loop-i
invariant-loop-i l = IsReading l.digits l.bytes l.i l.worth
