use Rattle.std.proofs.Common.{Ok, Err}
use Rattle.s39_input.specs.Input.{whole}
use Rattle.s39_creating.specs.Reissue.{IsReissueOutput, ReissuesCreated}
use Rattle.s39_c.proofs.Outputs.{gives_puts}
use Rattle.s39_c.proofs.reissuing.reissue.Goals as goal

pub returns-in-Ok-clause-reissues : goal.returns-in-Ok-clause-reissues
returns-in-Ok-clause-reissues c =
    let plan = c.args.plan.now in
    gives_puts (IsReissueOutput plan.group_threshold plan.groups.items c.args.names.now (whole c.args.lines.now)) c.args.mnemonics.now
    c.reissue_lines.new.text (Ok c.in-Ok.put) c.done.result c.in-Ok.ensures.reissued c.done.ensures

pub returns-in-Err-clause-reissues : goal.returns-in-Err-clause-reissues
returns-in-Err-clause-reissues c =
    let plan = c.args.plan.now in
    gives_puts (IsReissueOutput plan.group_threshold plan.groups.items c.args.names.now (whole c.args.lines.now)) c.args.mnemonics.now
    c.reissue_lines.new.text (Err c.in-Err.cause) c.from.result c.in-Err.ensures.reissued c.from.ensures

pub returns-in-Ok-clause-created : goal.returns-in-Ok-clause-created
returns-in-Ok-clause-created c =
    let plan = c.args.plan.now in
    gives_puts (ReissuesCreated plan.group_threshold plan.groups.items c.args.names.now (whole c.args.lines.now)) c.args.mnemonics.now
    c.reissue_lines.new.text (Ok c.in-Ok.put) c.done.result c.in-Ok.ensures.created c.done.ensures

pub returns-in-Err-clause-created : goal.returns-in-Err-clause-created
returns-in-Err-clause-created c =
    let plan = c.args.plan.now in
    gives_puts (ReissuesCreated plan.group_threshold plan.groups.items c.args.names.now (whole c.args.lines.now)) c.args.mnemonics.now
    c.reissue_lines.new.text (Err c.in-Err.cause) c.from.result c.in-Err.ensures.created c.from.ensures
