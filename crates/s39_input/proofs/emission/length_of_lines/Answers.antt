use Rattle.std.proofs.Common.{length, take, ap, arith}
use Rattle.std.specs.List.{concat}
use Rattle.std.proofs.lemmas.List.{length-append}
use Rattle.s39_input.proofs.Texts.Emitted.{one_more}
use Rattle.s39_input.proofs.emission.length_of_lines.Goals as goal

pub loop-index-preserved : goal.loop-index-preserved
loop-index-preserved g c =
    let line = c.line.result in
    let size = c.len-needed.ensures.value in (
      omega (arith, c.loop-index.invariant.0, c.len-needed.ensures.fits),
      λ texts are.
          let before = concat (take c.loop-index.index texts) in
          let more = ap length (one_more are c.loop-index.index line c.loop-index-test.true c.line.ensures) in
          omega (arith, c.loop-index.invariant.1 texts are, size, more, length-append before line.items),
    )
