use Rattle.std.proofs.Common.{arith}
use Rattle.std.proofs.lemmas.List.{length-append}
use Rattle.s39_input.proofs.Texts.Decimals.{length-decimal-u16}
use Rattle.s39_input.proofs.output.push_field.Goals as goal

pub push_number-requires : goal.push_number-requires
push_number-requires c = let digits = length-decimal-u16 c.args.number (omega arith) in
    rw (c.push_text.ensures, length-append, c.from.ensures) (omega (arith, c.requires))

pub returns-clause-room : goal.returns-clause-room
returns-clause-room c = let digits = length-decimal-u16 c.args.number (omega arith) in
    rw (c.push_number.ensures, c.push_text.ensures, length-append, length-append, c.from.ensures) (omega arith)
