use Rattle.std.proofs.Common.{◌∙◌, ◌+◌, Ok, Err, refl, sym, ap}
use Rattle.std.proofs.lemmas.Result.{err_from_is_err_and}
use Rattle.s39_input.specs.Steps.{gives, refuses}
use Rattle.s39_input.proofs.Runs.Devices.{OfInput-map, of_nothing, some_input}
use Rattle.s39_input.proofs.Sets.Checked.{stop_reads, stop_writes}
use Rattle.s39_input.proofs.Sets.Collected.{runs_read, accepted}
use Rattle.s39_input.proofs.collect.checked_set.Goals as goal

pub returns-in_err-check_passphrase-clause-checked : goal.returns-in_err-check_passphrase-clause-checked
returns-in_err-check_passphrase-clause-checked g c =
    let p = err_from_is_err_and c.from_residual.result c.from_residual.ensures.1 in
    rw (p.1, p.2) (of_nothing g.R.Read.remaining c.args.input.now _
    (λ input. refuses c.in_err-check_passphrase.field-0.0 c.in_err-check_passphrase.ensures.first refl))

pub returns-in_err-take_lines-clause-checked : goal.returns-in_err-take_lines-clause-checked
returns-in_err-take_lines-clause-checked g c =
    let p = err_from_is_err_and c.from_residual-in_err-take_lines.result c.from_residual-in_err-take_lines.ensures.1 in
    let stop = c.in_err-take_lines.field-0.0 in
    rw (p.1, p.2) (OfInput-map c.in_err-take_lines.ensures.runs
    (λ input runs. gives tt (c.in_ok-check_passphrase.ensures.accepted.0 refl) (refuses stop
    (runs_read input c.new-set.result c.take_lines.new.taker (Err stop) c.new-set.ensures runs) refl)))

pub returns-in_err-take_lines-clause-read_failures : goal.returns-in_err-take_lines-clause-read_failures
returns-in_err-take_lines-clause-read_failures g c =
    let p = err_from_is_err_and c.from_residual-in_err-take_lines.result c.from_residual-in_err-take_lines.ensures.1 in
    rw (p.1, p.2) (c.in_err-take_lines.ensures.failures ∙ ap (λ n. c.args.input.now.failures + n) (sym (stop_reads c.in_err-take_lines.field-0.0)))

pub returns-in_err-take_lines-clause-write_failures : goal.returns-in_err-take_lines-clause-write_failures
returns-in_err-take_lines-clause-write_failures g c =
    let p = err_from_is_err_and c.from_residual-in_err-take_lines.result c.from_residual-in_err-take_lines.ensures.1 in
    rw (p.1, p.2) (stop_writes c.in_err-take_lines.field-0.0)

pub returns-clause-checked : goal.returns-clause-checked
returns-clause-checked g c =
    OfInput-map c.in_ok-take_lines.ensures.runs
    (λ input runs. gives tt (c.in_ok-check_passphrase.ensures.accepted.0 refl) (gives c.take_lines.new.taker
    (runs_read input c.new-set.result c.take_lines.new.taker (Ok tt) c.new-set.ensures runs) refl))

pub returns-clause-is_set : goal.returns-clause-is_set
returns-clause-is_set g c =
    let (input, runs) = some_input g.R.Read.remaining c.args.input.now c.take_lines.new.input _ c.in_ok-take_lines.ensures.runs in
    (accepted input c.take_lines.new.taker (runs_read input c.new-set.result c.take_lines.new.taker (Ok tt) c.new-set.ensures runs)).0
