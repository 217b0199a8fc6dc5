use Rattle.std.proofs.Common.{◌++◌, ◌∙◌, length, take, drop, sym, ap, arith}
use Rattle.std.specs.List.{concat}
use Rattle.std.proofs.lemmas.List.{length-append}
use Rattle.s39_input.proofs.Texts.Emitted.{one_more, fits}
use Rattle.s39_input.proofs.Texts.Fronts.{put_at}
use Rattle.s39_input.proofs.emission.copy_lines.Goals as goal

pub put-requires : goal.put-requires
put-requires g c =
    let (texts, are, room) = c.requires.room in
    let (place, out) = c.loop-index.invariant texts are in
    let within = fits are c.loop-index.index c.line-line.result c.loop-index-test.true c.line-line.ensures in
    let size = ap length c.as_slice.ensures.value in
    omega (arith, place, within, room, size, c.loop-index.auto.text)

pub loop-index-preserved : goal.loop-index-preserved
loop-index-preserved g c = λ texts are.
    let line = c.line-line.result in
    let before = concat (take c.loop-index.index texts) in
    let (place, out) = c.loop-index.invariant texts are in
    let next = one_more are c.loop-index.index line c.loop-index-test.true c.line-line.ensures in
    let front = put_at before c.as_slice.result.now c.args.text.now c.loop-index.text c.put.new.slice c.loop-index.written out place c.put.ensures in (
      omega (arith, place, c.len-written.ensures.value, ap length next, length-append before line.items),
      front
          ∙ ap (λ b. (before ++ b) ++ drop (length (before ++ b)) c.args.text.now) c.as_slice.ensures.value
          ∙ ap (λ t. t ++ drop (length t) c.args.text.now) (sym next),
    )
