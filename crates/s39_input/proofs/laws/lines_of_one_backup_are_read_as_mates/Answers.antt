use Rattle.s39_input.proofs.Sets.MateLines.{mates_read}
use Rattle.s39_input.proofs.laws.lines_of_one_backup_are_read_as_mates.Goals as goal

pub returns : goal.returns
returns c = mates_read
