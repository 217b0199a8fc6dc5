use Rattle.std.proofs.Common.{◌∙◌, sym, ap, Ok, Err}
use Rattle.std.proofs.lemmas.Result.{err_from_is_err_and}
use Rattle.s39_words.specs.declared.ShareFields.{ShareFields}
use Rattle.s39_input.specs.Judging.{judged, mates, share_of}
use Rattle.s39_input.proofs.Sets.Mates.{judged_beside, judged_stopped, read_again, runs_to_mates}
use Rattle.s39_input.proofs.judging.judge.Goals as goal

pub returns-in_err-take_lines_of : goal.returns-in_err-take_lines_of
returns-in_err-take_lines_of c =
    let p = err_from_is_err_and c.from_residual-in_err-take_lines_of.result c.from_residual-in_err-take_lines_of.ensures.1 in
    let stop = c.in_err-take_lines_of.field-0.0 in
    let led = runs_to_mates c.args.lines.now (record { id = c.id.result; set = c.new.result }) c.take_lines_of.new.taker (Err stop) c.new.ensures
    c.in_err-take_lines_of.ensures in
    rw (p.1, p.2) (judged_stopped c.args.lines.now c.args.line.now c.in_ok-share.share stop c.in_ok-share.ensures
    (ap (λ n. mates n c.args.lines.now) (sym c.id.ensures) ∙ led))

pub returns-in_err-again : goal.returns-in_err-again
returns-in_err-again c =
    let p = err_from_is_err_and c.from_residual-in_err-again.result c.from_residual-in_err-again.ensures.1 in
    let share = c.in_ok-share_of.field-0 in
    let same = read_again (share_of c.args.line.now) share c.in_ok-share.share c.in_ok-share_of.ensures c.in_ok-share.ensures in
    let led = runs_to_mates c.args.lines.now (record { id = c.id.result; set = c.new.result }) c.take_lines_of.new.taker (Ok tt) c.new.ensures
    c.in_ok-take_lines_of.ensures in
    let own = ap (λ n. mates n c.args.lines.now) (ap (λ (s : ShareFields). s.id) same ∙ sym c.id.ensures) ∙ led in
    rw (p.1, p.2) (judged_beside c.args.lines.now c.args.line.now share c.take_lines_of.new.taker.set c.in_ok-share_of.ensures own
    ∙ c.in_err-again.ensures.refused)

pub returns : goal.returns
returns c =
    let share = c.in_ok-share_of.field-0 in
    let same = read_again (share_of c.args.line.now) share c.in_ok-share.share c.in_ok-share_of.ensures c.in_ok-share.ensures in
    let led = runs_to_mates c.args.lines.now (record { id = c.id.result; set = c.new.result }) c.take_lines_of.new.taker (Ok tt) c.new.ensures
    c.in_ok-take_lines_of.ensures in
    let own = ap (λ n. mates n c.args.lines.now) (ap (λ (s : ShareFields). s.id) same ∙ sym c.id.ensures) ∙ led in
    judged_beside c.args.lines.now c.args.line.now share c.take_lines_of.new.taker.set c.in_ok-share_of.ensures own
    ∙ c.in_ok-again.ensures.joined ∙ ap (λ s. Ok (judged s c.in_ok-again.again c.joins.new.set)) same
