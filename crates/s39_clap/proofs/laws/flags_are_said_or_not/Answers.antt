use Rattle.s39_clap.proofs.Values.{flag_said}
use Rattle.s39_clap.proofs.laws.flags_are_said_or_not.Goals as goal

pub returns : goal.returns
returns c = flag_said
