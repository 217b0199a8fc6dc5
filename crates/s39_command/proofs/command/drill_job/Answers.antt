use Rattle.std.proofs.Common.{ap, codes, is_some, refl, subst, ◌∙◌, ◌≤◌, ◌≡◌}
use Rattle.clap.specs.Words.{found_of, rows_of}
use Rattle.clap.proofs.WalkLemmas.{first_value-rows}
use Rattle.s39_clap.specs.Found.{HasNumber}
use Rattle.s39_command.proofs.Jobs.{drill_form_there, limit_there}
use Rattle.s39_command.proofs.command.drill_job.Goals as goal

pub unwrap-requires : goal.unwrap-requires
unwrap-requires c = ap is_some (limit_there (found_of c.args.options.now) c.get_one.result c.requires c.get_one.ensures.value).1

pub returns-clause-gives : goal.returns-clause-gives
returns-clause-gives c =
    let f = found_of c.args.options.now in
    let limit = limit_there f c.get_one.result c.requires c.get_one.ensures.value in
    let same : limit.0 ≡ c.unwrap.result = cc in (
      refl,
      c.get_str.ensures ∙ first_value-rows f (codes "after"),
      subst (HasNumber (codes "limit") (rows_of f)) same limit.4,
      drill_form_there f c.form_of.result c.requires c.form_of.ensures.said c.form_of.ensures.unsaid,
      c.get_str-expected.ensures ∙ first_value-rows f (codes "expect"),
    )

pub returns-clause-range : goal.returns-clause-range
returns-clause-range c =
    let limit = limit_there (found_of c.args.options.now) c.get_one.result c.requires c.get_one.ensures.value in
    let same : limit.0 ≡ c.unwrap.result = cc in
    subst (λ n. 1 ≤ n) same limit.2
