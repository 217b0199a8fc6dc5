use Rattle.std.proofs.Common.{Bool, subst}
use Rattle.s39_cli.specs.Said.{Says, line_if, passphrase_asked_line, secret_asked_line}
use Rattle.s39_cli.proofs.Said.{says_both}
use Rattle.s39_cli.proofs.person.Person.ask_for.Goals as goal

pub returns-clause-said : goal.returns-clause-said
returns-clause-said g c =
    let held = g.E.Write.contents in
    let person = c.args.self.now in
    says_both held person c.say_if.new.self c.say_if-2.new.self _ _
    (subst (λ (b : Bool). Says held person c.say_if.new.self (line_if b secret_asked_line)) c.types_value-types_secret.ensures c.say_if.ensures.said)
    (subst (λ (b : Bool). Says held c.say_if.new.self c.say_if-2.new.self (line_if b passphrase_asked_line)) c.types_value-types_passphrase.ensures
    c.say_if-2.ensures.said)
