use Rattle.std.proofs.Common.{◌≡◌, arith, subst, sym}
use Rattle.std.proofs.lemmas.List.{take_rest}
use Rattle.s39_input.proofs.Texts.Write.{IsWriting, writing_goes_on}
use Rattle.s39_input.proofs.output.write_text.Goals as goal

pub loop-rest-preserved : goal.loop-rest-preserved
loop-rest-preserved g c =
    let rest = c.loop-rest.rest.now in
    let same : c.write.new.self.failures ≡ c.loop-rest.output.failures = omega (arith, c.in-Ok.ensures.failures) in
    let next = writing_goes_on g.W.Write.contents c.args.output.now c.loop-rest.output c.write.new.self c.args.text.now rest c.in-Ok.count
    c.loop-rest.invariant c.in-Ok.ensures.bytes same in
    subst (λ l. IsWriting g.W.Write.contents c.args.output.now c.write.new.self c.args.text.now l) (sym (take_rest rest c.in-Ok.count)) next
