use Rattle.s39_clap.proofs.Values.{has_value}
use Rattle.s39_clap.proofs.laws.arguments_have_values.Goals as goal

pub returns : goal.returns
returns c = has_value
