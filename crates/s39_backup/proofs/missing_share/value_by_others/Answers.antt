use Rattle.std.proofs.Common.{◌∷◌, ap, ◌∙◌, arith}
use Rattle.std.specs.Result.{result_map_both}
use Rattle.s39_lists.specs.Each.{and_then}
use Rattle.s39_split.specs.Sharing.{secret_place}
use Rattle.s39_backup.specs.declared.reissue_error.ReissueError.TheVariants.{DigestMismatch}
use Rattle.s39_backup.specs.Reissue.{members_at_hand, value_at}
use Rattle.s39_backup.proofs.OtherGroups.{share_like_values}
use Rattle.s39_backup.proofs.missing_share.value_by_others.Goals as goal

pub value_by-requires-clause-length : goal.value_by-requires-clause-length
value_by-requires-clause-length c =
    (share_like_values c.args.set.now c.are_a_share_set.ensures c.args.others.now c.requires.complete c.requires.some c.args.group.0 c.in-Ok.share.items
    (omega arith) c.in-Ok.ensures).0.0

pub value_by-requires-clause-long : goal.value_by-requires-clause-long
value_by-requires-clause-long c =
    (share_like_values c.args.set.now c.are_a_share_set.ensures c.args.others.now c.requires.complete c.requires.some c.args.group.0 c.in-Ok.share.items
    (omega arith) c.in-Ok.ensures).1

pub returns-in-Ok : goal.returns-in-Ok
returns-in-Ok c =
    ap (λ r. and_then (value_at c.args.group.0 c.args.member)
    (result_map_both (λ share. (secret_place, share) ∷ members_at_hand c.args.set.now c.args.group.0) (λ mismatch. DigestMismatch mismatch) r)) c.in-Ok.ensures
    ∙ c.value_by.ensures

pub returns-in-Err : goal.returns-in-Err
returns-in-Err c =
    ap (λ r. and_then (value_at c.args.group.0 c.args.member)
    (result_map_both (λ share. (secret_place, share) ∷ members_at_hand c.args.set.now c.args.group.0) (λ mismatch. DigestMismatch mismatch) r)) c.in-Err.ensures
