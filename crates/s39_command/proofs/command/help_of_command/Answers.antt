use Rattle.std.proofs.Common.{[], ◌∷◌, codes}
use Rattle.clap.specs.Words.{app_of, kind_of}
use Rattle.s39_command.proofs.Help.{help_by_kind, help_if_taken}
use Rattle.s39_command.proofs.Jobs.{known_faults}
use Rattle.s39_command.proofs.command.help_of_command.Goals as goal

pub returns-in-Ok-try_get_matches_from : goal.returns-in-Ok-try_get_matches_from
returns-in-Ok-try_get_matches_from c =
    let words = c.args.program.now ∷ c.args.name.now ∷ codes "--help" ∷ [] in
    let a = app_of c.in-Ok.command in
    help_if_taken c.too_many.result a words c.in-Ok.ensures c.too_many.ensures
    (c.in-Ok-try_get_matches_from.ensures.kinds (known_faults a c.in-Ok.ensures))

pub returns : goal.returns
returns c =
    let words = c.args.program.now ∷ c.args.name.now ∷ codes "--help" ∷ [] in
    let a = app_of c.in-Ok.command in
    help_by_kind c.no_job.result (kind_of c.in-Err.error) a words c.in-Ok.ensures c.no_job.ensures.answer
    (c.in-Err.ensures.kinds (known_faults a c.in-Ok.ensures))
