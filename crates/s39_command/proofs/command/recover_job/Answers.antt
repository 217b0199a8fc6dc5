use Rattle.std.proofs.Common.{codes, refl, ◌∙◌}
use Rattle.clap.specs.Words.{found_of}
use Rattle.clap.proofs.WalkLemmas.{first_value-rows}
use Rattle.s39_command.proofs.Jobs.{recover_form_there}
use Rattle.s39_command.proofs.command.recover_job.Goals as goal

pub returns-clause-gives : goal.returns-clause-gives
returns-clause-gives c = (
  refl,
  recover_form_there (found_of c.args.options.now) c.form_of.result c.requires c.form_of.ensures.said c.form_of.ensures.unsaid,
  c.get_str.ensures ∙ first_value-rows (found_of c.args.options.now) (codes "expect"),
)
