use Rattle.std.proofs.Common.{sym, ◌∙◌}
use Rattle.bech32.proofs.Texts.{sound}
use Rattle.bech32.proofs.reading.read_segwit_address.Goals as goal

pub program_of-requires-clause-most : goal.program_of-requires-clause-most
program_of-requires-clause-most c = (sound c.args.prefix.now c.args.text.now (sym c.refusal_of.ensures ∙ c.in-None.is)).most

pub program_of-requires-clause-least : goal.program_of-requires-clause-least
program_of-requires-clause-least c = (sound c.args.prefix.now c.args.text.now (sym c.refusal_of.ensures ∙ c.in-None.is)).least

pub program_of-requires-clause-letters : goal.program_of-requires-clause-letters
program_of-requires-clause-letters c = (sound c.args.prefix.now c.args.text.now (sym c.refusal_of.ensures ∙ c.in-None.is)).letters
