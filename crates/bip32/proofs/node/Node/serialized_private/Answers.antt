use Rattle.std.proofs.Common.{ap, ◌∙◌}
use Rattle.bip32.specs.Serialization.{serialized}
use Rattle.bip32.proofs.node.Node.serialized_private.Goals as goal

pub returns : goal.returns
returns c = c.serialized.ensures ∙ ap (serialized c.args.version c.args.self.now) c.private_bytes.ensures
