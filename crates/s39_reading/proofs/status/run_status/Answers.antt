use Rattle.std.proofs.Common.{◌≡◌, ◌∙◌, ◌+◌, [], get_or, refl, sym, ap, arith, rules, Ok}
use Rattle.std.proofs.lemmas.Result.{err_from_is_err_and}
use Rattle.s39_input.specs.Steps.{gives, refuses}
use Rattle.s39_reading.specs.Status.{lines_of_status, status_text, status_written}
use Rattle.s39_input.proofs.Runs.Devices.{OfInput-map}
use Rattle.s39_input.proofs.Runs.Writing.{nothing_written, run_whole, run_part}
use Rattle.s39_input.proofs.Sets.Checked.{stop_writes}
use Rattle.s39_reading.proofs.Statuses.{refused_reads}
use Rattle.s39_reading.proofs.status.run_status.Goals as goal

pub returns-in_err-set-clause-runs : goal.returns-in_err-set-clause-runs
returns-in_err-set-clause-runs g c =
    let p = err_from_is_err_and c.from_residual.result c.from_residual.ensures.1 in
    let stop = c.in_err-set.field-0.0 in
    let refused = c.in_err-set.ensures in
    rw (p.1, p.2) (run_whole (nothing_written g.W.Write.contents c.args.output.now)
    (OfInput-map refused.read (λ input read. refuses stop read refl))
    (refused.failures ∙ ap (λ n. c.args.input.now.failures + n) (sym (refused_reads stop))) (stop_writes stop))

pub returns-in_default-clause-runs : goal.returns-in_default-clause-runs
returns-in_default-clause-runs g c =
    let set = c.in_ok-set.set in
    rw c.from.ensures (run_whole (nothing_written g.W.Write.contents c.args.output.now)
    (OfInput-map c.in_ok-set.ensures.read (λ input read. gives set read (ap (status_written set) c.in_default.ensures)))
    c.in_ok-set.ensures.failures refl)

pub returns-in_err-write_lines-clause-runs : goal.returns-in_err-write_lines-clause-runs
returns-in_err-write_lines-clause-runs g c =
    let p = err_from_is_err_and c.from_residual-in_err-write_lines.result c.from_residual-in_err-write_lines.ensures.1 in
    let set = c.in_ok-set.set in
    let lines = lines_of_status set c.in-Some.status in
    let written = c.in_err-write_lines.ensures lines
    (record {
      many = refl;
      each = λ index line below given. (let is : line.items ≡ get_or lines index [] = search rules in is);
    }) in
    rw (p.1, p.2) (run_part {text = status_text set c.in-Some.status} (Ok c.in-Some.status) written
    (OfInput-map c.in_ok-set.ensures.read (λ input read. gives set read (ap (status_written set) c.in-Some.ensures)))
    (omega (arith, c.in_ok-set.ensures.failures)))

pub returns-clause-runs : goal.returns-clause-runs
returns-clause-runs g c =
    let set = c.in_ok-set.set in
    let lines = lines_of_status set c.in-Some.status in
    let written = c.in_ok-write_lines.ensures lines
    (record {
      many = refl;
      each = λ index line below given. (let is : line.items ≡ get_or lines index [] = search rules in is);
    }) in
    run_whole {text = status_text set c.in-Some.status} written
    (OfInput-map c.in_ok-set.ensures.read (λ input read. gives set read (ap (status_written set) c.in-Some.ensures)))
    c.in_ok-set.ensures.failures refl
