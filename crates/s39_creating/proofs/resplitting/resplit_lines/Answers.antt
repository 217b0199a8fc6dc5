use Rattle.s39_input.specs.Input.{whole}
use Rattle.s39_creating.specs.Reissue.{AreWritten}
use Rattle.s39_creating.specs.Resplit.{IsResplitOutput}
use Rattle.s39_creating.proofs.Reissues.Outputs.{puts_of}
use Rattle.s39_creating.proofs.resplitting.resplit_lines.Goals as goal

pub returns-clause-resplit : goal.returns-clause-resplit
returns-clause-resplit c =
    let plan = c.args.plan.now in
    puts_of {Is = AreWritten c.split_from.result}
    {Also = IsResplitOutput plan.group_threshold plan.groups.items c.args.random.now (whole c.args.lines.now)}
    (λ text answer written. (c.split_from.result, c.split_from.ensures, written)) c.args.text.now c.put_answer.new.text c.put_answer.result
    c.put_answer.ensures

-- mnemonics of a created backup
pub returns-clause-created : goal.returns-clause-created
returns-clause-created c =
    puts_of (c.created_backups_are_split_anew.ensures _ _ _ _) c.args.text.now c.put_answer.new.text c.put_answer.result (returns-clause-resplit c)
