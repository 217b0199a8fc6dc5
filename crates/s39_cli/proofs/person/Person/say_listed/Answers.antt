use Rattle.std.proofs.Common.{◌++◌, ℕ, subst}
use Rattle.std.specs.Prelude.{codes}
use Rattle.std.specs.Fmt.{decimal}
use Rattle.s39_cli.specs.Said.{Says}
use Rattle.s39_cli.proofs.person.Person.say_listed.Goals as goal

pub returns : goal.returns
returns g c =
    subst (λ (n : ℕ). Says g.E.Write.contents c.args.self.now c.say_number.new.self (codes "shamir: quorums listed: " ++ decimal n ++ codes "\n"))
    c.from.ensures c.say_number.ensures
