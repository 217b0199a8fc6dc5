use Rattle.std.proofs.Common.{Bool, subst}
use Rattle.s39_cli.specs.Said.{Says, is_attended, line_if, plan_form_line}
use Rattle.s39_cli.proofs.Said.{says_both}
use Rattle.s39_cli.proofs.telling.refuse_plan.Goals as goal

pub returns-then-eq-clause-formless : goal.returns-then-eq-clause-formless
returns-then-eq-clause-formless g c is =
    let said = c.refuse-status.ensures.said in (
      said.0,
      said.1,
      says_both g.E.Write.contents c.args.person.now c.refuse-status.new.person c.say_if.new.self said.0
          (line_if (is_attended c.args.person.now.terminals) plan_form_line) said.2
          (subst (λ (b : Bool). Says g.E.Write.contents c.refuse-status.new.person c.say_if.new.self (line_if b plan_form_line)) c.is_attended-is_attended.ensures
          c.say_if.ensures.said),
    )
