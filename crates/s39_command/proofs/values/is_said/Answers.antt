use Rattle.std.proofs.Common.{◌≡◌, ◌∙◌, None, Some, ap, is_some, sym}
use Rattle.clap.specs.Words.{first_of, found_of, rows_of}
use Rattle.s39_command.proofs.Jobs.{missing_of_rows, said_of_rows, unsaid_of_rows}
use Rattle.s39_command.proofs.values.is_said.Goals as goal

pub returns-in-Some-clause-said : goal.returns-in-Some-clause-said
returns-in-Some-clause-said c said =
    said_of_rows (found_of c.args.options.now) c.args.id.now c.args.wanted.now c.get_str.result c.in-Some.text c.get_str.ensures c.in-Some.is
    (sym c.eq.ensures ∙ said)

pub returns-in-Some-clause-unsaid : goal.returns-in-Some-clause-unsaid
returns-in-Some-clause-unsaid c unsaid =
    unsaid_of_rows (found_of c.args.options.now) c.args.id.now c.args.wanted.now c.get_str.result c.in-Some.text c.get_str.ensures c.in-Some.is
    (sym c.eq.ensures ∙ unsaid)

pub returns-in-None-clause-unsaid : goal.returns-in-None-clause-unsaid
returns-in-None-clause-unsaid c _ said =
    let none : first_of c.args.id.now (rows_of (found_of c.args.options.now)) ≡ None =
    missing_of_rows (found_of c.args.options.now) c.args.id.now c.get_str.result c.get_str.ensures (ap is_some c.in-None.is) in
    let bad : None ≡ Some c.args.wanted.now = sym none ∙ said in cc
