use Rattle.s39_secrecy.proofs.OneToOne.{tell_nothing}
use Rattle.s39_secrecy.proofs.laws.two_short_fit_every_secret.Goals as goal

pub returns : goal.returns
returns c asked other names random shares setting are created =
    let nothing = tell_nothing asked other names setting in
    (nothing.there random, nothing.undo.leads_there random are, nothing.keep random shares are created)
