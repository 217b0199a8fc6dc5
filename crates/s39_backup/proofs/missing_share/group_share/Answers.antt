use Rattle.std.proofs.Common.{◌≡◌, Ok, sym, ap, ◌∙◌}
use Rattle.std.specs.Option.{ok_or}
use Rattle.std.proofs.lemmas.Result.{err_from_is_err_and}
use Rattle.s39_lists.specs.Each.{and_then, each}
use Rattle.s39_split.specs.Completion.{completed}
use Rattle.s39_backup.specs.declared.combination.Mismatch.TheVariants.{OfGroups}
use Rattle.s39_backup.specs.GroupShares.{value_bytes_of}
use Rattle.s39_backup.specs.Reissue.{least_share, share_by_others}
use Rattle.s39_backup.proofs.OtherGroups.{shares_level}
use Rattle.s39_backup.proofs.missing_share.group_share.Goals as goal
use Rattle.s39_backup.proofs.missing_share.group_share.Goals.{After-lend}

all : (c : After-lend) → each (least_share c.args.set.now) c.args.others.now ≡ Ok c.lend.result
all c = c.in_ok-shares.ensures ∙ ap (λ pairs. Ok pairs) (sym c.lend.ensures)

pub complete_all-requires : goal.complete_all-requires
complete_all-requires c =
    let d = (goal.at.complete_all-requires c).After-lend in (
      value_bytes_of c.args.set.now,
      shares_level c.args.set.now c.are_a_share_set.ensures c.args.others.now c.requires.complete c.requires.some c.lend.result (all d),
    )

pub returns-in_err-shares : goal.returns-in_err-shares
unfolding share_by_others
returns-in_err-shares c =
    let error = err_from_is_err_and c.from_residual.result c.from_residual.ensures.1 in
    rw (error.1, error.2) (ap (and_then (λ shares. ok_or (completed shares c.args.group) OfGroups)) c.in_err-shares.ensures)

pub returns-in-Ok : goal.returns-in-Ok
unfolding share_by_others
returns-in-Ok c =
    let d = (goal.at.returns-in-Ok c).After-lend in
    ap (and_then (λ shares. ok_or (completed shares c.args.group) OfGroups)) (all d) ∙ ap (λ o. ok_or o OfGroups) (sym c.in-Ok.ensures)

pub returns-in-Err : goal.returns-in-Err
unfolding share_by_others
returns-in-Err c =
    let d = (goal.at.returns-in-Err c).After-lend in
    ap (and_then (λ shares. ok_or (completed shares c.args.group) OfGroups)) (all d) ∙ ap (λ o. ok_or o OfGroups) (sym c.in-Err.ensures)
