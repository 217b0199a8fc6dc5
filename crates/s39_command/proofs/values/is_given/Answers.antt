use Rattle.std.proofs.Common.{sym, ◌∙◌}
use Rattle.clap.specs.Words.{found_of}
use Rattle.s39_command.proofs.Jobs.{given_of_rows, missing_of_rows}
use Rattle.s39_command.proofs.values.is_given.Goals as goal

pub returns-clause-given : goal.returns-clause-given
returns-clause-given c given =
    given_of_rows (found_of c.args.options.now) c.args.id.now c.get_str.result c.get_str.ensures (sym c.is_some.ensures ∙ given)

pub returns-clause-missing : goal.returns-clause-missing
returns-clause-missing c none =
    missing_of_rows (found_of c.args.options.now) c.args.id.now c.get_str.result c.get_str.ensures (sym c.is_some.ensures ∙ none)
