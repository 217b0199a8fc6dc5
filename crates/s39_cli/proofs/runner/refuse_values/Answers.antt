use Rattle.std.proofs.Common.{◌∙◌, ap, Bool, List, ℕ, subst}
use Rattle.s39_command.specs.Command.{bad_text}
use Rattle.s39_cli.specs.Said.{Says, is_attended, line_if, new_secret_line, tells_of_drawing}
use Rattle.s39_cli.proofs.Said.{says_both}
use Rattle.s39_cli.proofs.runner.refuse_values.Goals as goal

pub returns : goal.returns
returns g c =
    let contents = g.E.Write.contents in
    says_both contents c.args.person.now c.say.new.self c.say_if.new.self (bad_text c.args.bad)
    (line_if (tells_of_drawing (is_attended c.args.person.now.terminals) c.args.bad) new_secret_line)
    (subst (λ (text : List ℕ). Says contents c.args.person.now c.say.new.self text) (c.as_bytes.ensures.value ∙ c.text.ensures) c.say.ensures.said)
    (subst (λ (tells : Bool). Says contents c.say.new.self c.say_if.new.self (line_if tells new_secret_line))
    (c.tells_of_drawing-tells.ensures ∙ ap (λ (b : Bool). tells_of_drawing b c.args.bad) c.is_attended.ensures) c.say_if.ensures.said)
