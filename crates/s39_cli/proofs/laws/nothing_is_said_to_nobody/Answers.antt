use Rattle.s39_cli.proofs.SaidOfWords.{silent_to_nobody}
use Rattle.s39_cli.proofs.laws.nothing_is_said_to_nobody.Goals as goal

pub returns : goal.returns
returns g c = λ told remaining contents words reader old new ended. silent_to_nobody told remaining contents words reader old new ended
