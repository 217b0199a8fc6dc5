use Rattle.s39_creating.specs.Reissue.{AreWritten}
use Rattle.s39_creating.specs.Resplit.{IsOutputFromEncrypted}
use Rattle.s39_creating.proofs.Reissues.Outputs.{puts_of}
use Rattle.s39_creating.proofs.resplitting.lines_from_encrypted.Goals as goal

pub returns : goal.returns
returns c =
    let plan = c.args.plan.now in
    puts_of {Is = AreWritten c.from_encrypted.result}
    {Also = IsOutputFromEncrypted plan.group_threshold plan.groups.items c.args.random.now (c.args.params, c.args.encrypted.now)}
    (λ text answer written. (c.from_encrypted.result, c.from_encrypted.ensures, written)) c.args.text.now c.put_answer.new.text c.put_answer.result
    c.put_answer.ensures
