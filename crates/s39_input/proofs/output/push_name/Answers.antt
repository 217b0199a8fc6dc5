use Rattle.std.proofs.Common.{arith}
use Rattle.std.proofs.lemmas.List.{length-append}
use Rattle.s39_input.proofs.Texts.Names.{length-index}
use Rattle.s39_input.proofs.output.push_name.Goals as goal

pub push_number-requires : goal.push_number-requires
push_number-requires c =
    let group = length-index c.args.name.0 c.requires.group in rw c.from.ensures (omega (arith, c.requires.room))

pub push-requires : goal.push-requires
push-requires c =
    let group = length-index c.args.name.0 c.requires.group in
    (omega arith, rw (c.push_number.ensures, length-append, c.from.ensures) (omega (arith, c.requires.room)))

pub push_number-requires-2 : goal.push_number-requires-2
push_number-requires-2 c =
    let group = length-index c.args.name.0 c.requires.group in
    let member = length-index c.args.name.1 c.requires.member in
    rw (c.push.ensures.items, c.push_number.ensures, length-append, length-append, c.from.ensures, c.from-2.ensures)
    (omega (arith, c.requires.room))

pub returns-clause-room : goal.returns-clause-room
returns-clause-room c =
    let group = length-index c.args.name.0 c.requires.group in
    let member = length-index c.args.name.1 c.requires.member in
    rw (c.push_number-2.ensures, c.push.ensures.items, c.push_number.ensures, length-append, length-append, length-append, c.from.ensures, c.from-2.ensures)
    (omega arith)
