use Rattle.std.proofs.Common.{◌≡◌, [], length, inr, Some, None, arith}
use Rattle.std.proofs.lemmas.List.{nil_from_length}
use Rattle.s39_backup.proofs.Combined.{none_from_test}
use Rattle.s39_c.proofs.drilling.drill_after.Goals as goal

pub returns-then-is_empty : goal.returns-then-is_empty
returns-then-is_empty c =
    let none : c.args.after.now ≡ [] =
    nil_from_length c.args.after.now (omega (arith, none_from_test c.is_empty.result (length c.args.after.now) c.is_empty.ensures c.if-is_empty.true)) in
    inr (None, none, c.drill_in.ensures)

pub returns-in-Ok : goal.returns-in-Ok
returns-in-Ok c = inr (Some c.in-Ok.quorum, c.in-Ok.ensures.names, c.drill_in-in-Ok.ensures)
