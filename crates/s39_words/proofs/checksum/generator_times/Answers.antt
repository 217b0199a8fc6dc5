use Rattle.std.proofs.Common.{ap, ◌∙◌}
use Rattle.std.specs.Prelude.{bit_xor}
use Rattle.s39_words.specs.declared.checksum.TheConstants.{GENERATOR_TIMES}
use Rattle.std.proofs.Common.{get_or}
use Rattle.s39_words.proofs.Registers.{times-none, times-more, times-same}
use Rattle.s39_words.proofs.checksum.generator_times.Goals as goal
use Rattle.s39_words.proofs.checksum.generator_times.Goals.{then-element-i-eq1, else-element-i-eq1}

pub loop-i-init : goal.loop-i-init
loop-i-init c = times-none c.args.element

pub loop-i-preserved : goal.loop-i-preserved
loop-i-preserved c =
    elim c.if-element-i-eq1.branch [
      | then-element-i-eq1 w ↦
          w.sum-is ∙ ap (λ sum. bit_xor sum (get_or GENERATOR_TIMES c.loop-i.i 0)) c.loop-i.invariant
          ∙ times-more c.args.element c.loop-i.i c.loop-i-test.true w.if-element-i-eq1.true
      | else-element-i-eq1 w ↦ w.sum-is ∙ c.loop-i.invariant ∙ times-same c.args.element c.loop-i.i w.if-element-i-eq1.false
    ]
