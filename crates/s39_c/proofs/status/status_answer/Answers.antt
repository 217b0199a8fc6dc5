use Rattle.std.proofs.Common.{Ok, Err}
use Rattle.s39_input.specs.Input.{whole}
use Rattle.s39_reading.specs.Status.{IsStatusOutput}
use Rattle.s39_c.proofs.Outputs.{gives_status}
use Rattle.s39_c.proofs.status.status_answer.Goals as goal

pub returns-in-Ok : goal.returns-in-Ok
returns-in-Ok c =
    gives_status (IsStatusOutput (whole c.args.lines.now)) c.args.text.now c.status_lines.new.text (Ok c.in-Ok.told) c.counted.result c.in-Ok.ensures
    c.counted.ensures

pub returns-in-Err : goal.returns-in-Err
returns-in-Err c =
    gives_status (IsStatusOutput (whole c.args.lines.now)) c.args.text.now c.status_lines.new.text (Err c.in-Err.cause) c.from.result c.in-Err.ensures
    c.from.ensures
