use Rattle.s39_c.proofs.Outputs.{drills_created}
use Rattle.s39_c.proofs.drilling.shamir_drill.Goals as goal

pub returns-clause-complete : goal.returns-clause-complete
returns-clause-complete c =
    drills_created c.created_backups_drill.ensures c.args.max_exponent c.args.passphrase.now c.args.lines.now c.args.after.now c.args.limit c.args.form
    c.args.expected.now c.args.text.now c.drill_answer-answer.new.text c.drill_answer-answer.result c.drill_answer-answer.ensures
