use Rattle.s39_input.proofs.Texts.HexDigits.{digit_is}
use Rattle.s39_input.proofs.hexadecimal.digit.Goals as goal

pub returns : goal.returns
returns c = digit_is c.args.number c.requires
