use Rattle.std.proofs.Common.{ap, ◌∙◌}
use Rattle.accounts.specs.Accounts.{private_text}
use Rattle.accounts.proofs.derivation.master_text.Goals as goal

pub returns : goal.returns
returns c = c.private_text.ensures ∙ ap private_text c.master_node.ensures
