use Rattle.s39_secrecy.proofs.OneToOne.{tell_nothing}
use Rattle.s39_secrecy.proofs.laws.two_short_tell_nothing.Goals as goal

pub returns : goal.returns
returns c = tell_nothing
