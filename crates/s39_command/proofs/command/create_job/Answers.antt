use Rattle.std.proofs.Common.{ap, arith, codes, is_some, refl, subst, ◌<◌, ◌≡◌}
use Rattle.clap.specs.Words.{found_of, rows_of}
use Rattle.s39_clap.specs.Found.{HasNumber}
use Rattle.s39_command.proofs.Jobs.{exponent_there, extendable_there, found_of_rows, plan_there}
use Rattle.s39_command.proofs.command.create_job.Goals as goal

pub unwrap-requires : goal.unwrap-requires
unwrap-requires c = plan_there (found_of c.args.options.now) c.get_str.result c.requires c.get_str.ensures

pub unwrap-requires-2 : goal.unwrap-requires-2
unwrap-requires-2 c = ap is_some (exponent_there (found_of c.args.options.now) c.get_one.result c.requires c.get_one.ensures.value).1

pub returns-clause-gives : goal.returns-clause-gives
returns-clause-gives c =
    let f = found_of c.args.options.now in
    let exponent = exponent_there f c.get_one.result c.requires c.get_one.ensures.value in
    let same : exponent.0 ≡ c.unwrap-2.result = cc in (
      refl,
      found_of_rows f (codes "plan") c.get_str.result c.unwrap.result c.get_str.ensures c.unwrap.ensures,
      subst (HasNumber (codes "exponent") (rows_of f)) same exponent.4,
      extendable_there f c.get_flag.result c.requires c.get_flag.ensures.value c.get_flag.ensures.other,
    )

pub returns-clause-range : goal.returns-clause-range
returns-clause-range c =
    let exponent = exponent_there (found_of c.args.options.now) c.get_one.result c.requires c.get_one.ensures.value in
    let same : exponent.0 ≡ c.unwrap-2.result = cc in
    subst (λ n. n < 16) same (omega (arith, exponent.3))
