use Rattle.std.specs.Option.{option_copied}
use Rattle.s39_drilling.specs.Drill.{WritesDrillOf}
use Rattle.s39_c.proofs.Outputs.{gives_refusal}
use Rattle.s39_c.proofs.drilling.give_listing.Goals as goal

pub returns-in-Err : goal.returns-in-Err
returns-in-Err c =
    gives_refusal (λ n text answer. WritesDrillOf c.args.form c.args.passphrase.now (option_copied c.args.after) n c.args.set.now (text, answer)) c.args.limit
    c.args.text.now c.drill_set.new.text c.in-Err.cause c.from.result c.in-Err.ensures c.from.ensures
