use Rattle.std.proofs.Common.{◌+◌, ◌∙◌, take, drop, sym, subst}
use Rattle.std.specs.List.{concat}
use Rattle.std.proofs.lemmas.Result.{err_from_is_err_and}
use Rattle.s39_input.specs.Output.{WritesWhole, WritesPart}
use Rattle.s39_input.proofs.Runs.Writing.{both_written, part_after}
use Rattle.s39_input.proofs.Texts.Emitted.{one_more, others}
use Rattle.s39_input.proofs.emission.write_lines.Goals as goal

pub returns-in_err-write_text : goal.returns-in_err-write_text
returns-in_err-write_text g c =
    let p = err_from_is_err_and c.from_residual.result c.from_residual.ensures.1 in
    let contents = g.W.Write.contents in
    let index = c.loop-index.index in
    rw p.1 (λ texts are.
    subst (λ t. WritesPart contents c.args.output.now t c.write_text.new.output)
    (sym (others are index c.line.result c.loop-index-test.true c.line.ensures))
    (part_after contents c.args.output.now c.loop-index.output c.write_text.new.output (concat (take index texts)) c.line.result.items
    (concat (drop (index + 1) texts)) (c.loop-index.invariant.1 texts are)
    (subst (λ t. WritesPart contents c.loop-index.output t c.write_text.new.output) c.as_slice.ensures.value c.in_err-write_text.ensures)))

pub loop-index-preserved : goal.loop-index-preserved
loop-index-preserved g c =
    let contents = g.W.Write.contents in
    let index = c.loop-index.index in (
      c.in_ok-write_text.ensures.no_failure ∙ c.loop-index.invariant.0,
      λ texts are.
          subst (λ t. WritesWhole contents c.args.output.now t c.write_text.new.output)
          (sym (one_more are index c.line.result c.loop-index-test.true c.line.ensures))
          (both_written contents c.args.output.now c.loop-index.output c.write_text.new.output (concat (take index texts)) c.line.result.items
          (c.loop-index.invariant.1 texts are)
          (subst (λ t. WritesWhole contents c.loop-index.output t c.write_text.new.output) c.as_slice.ensures.value c.in_ok-write_text.ensures)),
    )
