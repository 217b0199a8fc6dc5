use Rattle.s39_input.specs.Input.{whole}
use Rattle.s39_creating.specs.Reissue.{AreWritten, IsReissueOutput}
use Rattle.s39_creating.proofs.Reissues.Outputs.{puts_of}
use Rattle.s39_creating.proofs.reissuing.reissue_lines.Goals as goal

pub returns-clause-reissued : goal.returns-clause-reissued
returns-clause-reissued c =
    let plan = c.args.plan.now in
    puts_of {Is = AreWritten c.reissued_of.result}
    {Also = IsReissueOutput plan.group_threshold plan.groups.items c.args.names.now (whole c.args.lines.now)}
    (λ text answer written. (c.reissued_of.result, c.reissued_of.ensures, written)) c.args.text.now c.put_answer.new.text c.put_answer.result
    c.put_answer.ensures

-- mnemonics of a created backup
pub returns-clause-created : goal.returns-clause-created
returns-clause-created c =
    puts_of (c.created_backups_reissue.ensures _ _ _ _) c.args.text.now c.put_answer.new.text c.put_answer.result (returns-clause-reissued c)
