use Rattle.std.proofs.Common.{Ok, Err}
use Rattle.s39_reading.specs.Status.{IsStatusOf}
use Rattle.s39_c.proofs.Outputs.{gives_status}
use Rattle.s39_c.proofs.judging.give_status.Goals as goal

pub returns-in-Ok : goal.returns-in-Ok
returns-in-Ok c =
    gives_status (IsStatusOf c.args.set.now) c.args.text.now c.set_status.new.text (Ok c.in-Ok.told) c.counted.result c.in-Ok.ensures c.counted.ensures

pub returns-in-Err : goal.returns-in-Err
returns-in-Err c =
    gives_status (IsStatusOf c.args.set.now) c.args.text.now c.set_status.new.text (Err c.in-Err.cause) c.from.result c.in-Err.ensures c.from.ensures
