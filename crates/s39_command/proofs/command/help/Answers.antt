use Rattle.std.proofs.Common.{arith}
use Rattle.s39_command.proofs.Help.{help_of_others, help_of_three}
use Rattle.s39_command.proofs.command.help.Goals as goal

pub returns-then-count-ne3 : goal.returns-then-count-ne3
returns-then-count-ne3 c =
    help_of_others c.args.words.now c.too_many.result (λ two. absurd (omega (arith, two, c.if-count-eq2.false)))
    (λ three. absurd (omega (arith, three, c.if-count-ne3.true))) c.too_many.ensures c.requires

pub returns : goal.returns
returns c = help_of_three c.args.words.now _ _ c.help_of_command.result (omega (arith, c.if-count-ne3.false)) c.help_of_command.ensures c.requires
