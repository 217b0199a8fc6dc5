use Rattle.std.proofs.Common.{codes, refl}
use Rattle.clap.specs.Words.{found_of}
use Rattle.s39_command.proofs.Jobs.{found_of_rows, random_file_there, resplit_plan_there}
use Rattle.s39_command.proofs.command.resplit_job.Goals as goal

pub unwrap-requires : goal.unwrap-requires
unwrap-requires c = resplit_plan_there (found_of c.args.options.now) c.get_str.result c.requires c.get_str.ensures

pub unwrap-requires-2 : goal.unwrap-requires-2
unwrap-requires-2 c = random_file_there (found_of c.args.options.now) c.get_str-2.result c.requires c.get_str-2.ensures

pub returns-clause-gives : goal.returns-clause-gives
returns-clause-gives c =
    let f = found_of c.args.options.now in (
      refl,
      found_of_rows f (codes "plan") c.get_str.result c.unwrap.result c.get_str.ensures c.unwrap.ensures,
      found_of_rows f (codes "random-file") c.get_str-2.result c.unwrap-2.result c.get_str-2.ensures c.unwrap-2.ensures,
    )
