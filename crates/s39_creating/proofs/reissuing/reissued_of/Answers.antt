use Rattle.std.proofs.Common.{Ok, Err}
use Rattle.std.proofs.lemmas.Result.{err_from_is_err_and}
use Rattle.s39_input.specs.Input.{whole}
use Rattle.s39_creating.proofs.Reissues.Outputs.{names_refused, set_refused, set_gives}
use Rattle.s39_creating.proofs.reissuing.reissued_of.Goals as goal

pub returns-in_err-check_names : goal.returns-in_err-check_names
returns-in_err-check_names c =
    let p = err_from_is_err_and c.from_residual.result c.from_residual.ensures.1 in
    let name = c.in_err-check_names.field-0.0 in
    let (read, is, set) = c.every_input_is_read.ensures (whole c.args.lines.now) in
    rw (p.1, p.2) (
      read,
      is,
      names_refused c.args.plan.now.group_threshold c.args.plan.now.groups.items c.args.names.now
          c.pairs-wanted.result.now c.pairs-wanted.ensures.same read (name.group, name.member) c.in_err-check_names.ensures.other,
    )

pub returns-in_err-set : goal.returns-in_err-set
returns-in_err-set c =
    let p = err_from_is_err_and c.from_residual-in_err-set.result c.from_residual-in_err-set.ensures.1 in
    let stop = c.in_err-set.field-0.0 in
    rw (p.1, p.2) (
      Err stop,
      c.in_err-set.ensures.read,
      set_refused c.args.plan.now.group_threshold c.args.plan.now.groups.items
          c.args.names.now c.pairs-wanted.result.now c.pairs-wanted.ensures.same stop c.in_ok-check_names.ensures.all,
    )

pub returns : goal.returns
returns c = (
  Ok c.in_ok-set.set,
  c.in_ok-set.ensures.read,
  set_gives c.args.plan.now.group_threshold c.args.plan.now.groups.items c.args.names.now c.pairs-wanted.result.now
      c.pairs-wanted.ensures.same c.in_ok-set.set c.in_ok-check_names.ensures.all c.shares_of.ensures,
)
