use Rattle.s39_cli.proofs.Literals.{names_literal}
use Rattle.s39_cli.proofs.laws.some_text_writes_names.Goals as goal

pub returns : goal.returns
returns c = names_literal
