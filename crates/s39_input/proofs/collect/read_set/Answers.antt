use Rattle.std.proofs.Common.{Ok, Err}
use Rattle.std.proofs.lemmas.Result.{err_from_is_err_and}
use Rattle.s39_input.proofs.Runs.Devices.{OfInput-map, some_input}
use Rattle.s39_input.proofs.Sets.Collected.{runs_read, accepted}
use Rattle.s39_input.proofs.collect.read_set.Goals as goal

pub returns-in_err-take_lines-clause-read : goal.returns-in_err-take_lines-clause-read
returns-in_err-take_lines-clause-read g c =
    let p = err_from_is_err_and c.from_residual.result c.from_residual.ensures.1 in
    rw (p.1, p.2) (OfInput-map c.in_err-take_lines.ensures.runs
    (λ input runs. runs_read input c.new-shares.result c.take_lines.new.taker (Err c.in_err-take_lines.field-0.0) c.new-shares.ensures runs))

pub returns-clause-read : goal.returns-clause-read
returns-clause-read g c =
    OfInput-map c.in_ok-take_lines.ensures.runs
    (λ input runs. runs_read input c.new-shares.result c.take_lines.new.taker (Ok tt) c.new-shares.ensures runs)

pub returns-clause-is_set : goal.returns-clause-is_set
returns-clause-is_set g c =
    let (input, runs) = some_input g.R.Read.remaining c.args.input.now c.take_lines.new.input _ c.in_ok-take_lines.ensures.runs in
    (accepted input c.take_lines.new.taker (runs_read input c.new-shares.result c.take_lines.new.taker (Ok tt) c.new-shares.ensures runs)).0
