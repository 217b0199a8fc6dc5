use Rattle.std.proofs.Common.{subst, sym}
use Rattle.std.proofs.lemmas.List.{take_rest}
use Rattle.s39_cli.specs.Ending.{IsGoingOut}
use Rattle.s39_cli.proofs.GoingOut.{going_out_goes_on, going_out_starts, going_out_stops, nothing_taken}
use Rattle.s39_cli.proofs.delivery.write_whole.Goals as goal

pub loop-rest-init : goal.loop-rest-init
loop-rest-init g c = going_out_starts (g.W.Write.contents c.args.output.now) c.args.text.now

pub loop-rest-preserved : goal.loop-rest-preserved
loop-rest-preserved g c =
    let rest = c.loop-rest.rest.now in
    subst (λ l. IsGoingOut (g.W.Write.contents c.args.output.now) (g.W.Write.contents c.write.new.self) c.args.text.now l) (sym (take_rest rest c.in-Ok.count))
    (going_out_goes_on (g.W.Write.contents c.args.output.now) (g.W.Write.contents c.loop-rest.output) (g.W.Write.contents c.write.new.self)
    c.args.text.now rest c.in-Ok.count c.loop-rest.invariant c.in-Ok.ensures.bytes)

pub returns-in_default : goal.returns-in_default
returns-in_default g c =
    going_out_stops (g.W.Write.contents c.args.output.now) (g.W.Write.contents c.loop-rest.output) (g.W.Write.contents c.write.new.self)
    c.args.text.now c.loop-rest.rest.now c.loop-rest.invariant c.in_default.ensures.bytes

pub returns-then-count-eq0 : goal.returns-then-count-eq0
returns-then-count-eq0 g c =
    going_out_stops (g.W.Write.contents c.args.output.now) (g.W.Write.contents c.loop-rest.output) (g.W.Write.contents c.write.new.self)
    c.args.text.now c.loop-rest.rest.now c.loop-rest.invariant
    (nothing_taken (g.W.Write.contents c.loop-rest.output) (g.W.Write.contents c.write.new.self) c.loop-rest.rest.now c.in-Ok.count
    c.in-Ok.ensures.bytes c.if-count-eq0.true)
