use Rattle.std.proofs.Common.{◌≡◌, ℕ, List, ◌∷◌, [], ◌++◌, sym, ap, subst, ◌∙◌, arith}
use Rattle.s39_split.specs.Sharing.{secret_place}
use Rattle.s39_backup.specs.GroupShares.{value_bytes_of}
use Rattle.s39_backup.specs.Reissue.{members_at_hand, value_at}
use Rattle.s39_backup.specs.Reissuing.{ArePointsOfOneLevel}
use Rattle.s39_backup.proofs.MembersAtHand.{share_level, filled}
use Rattle.s39_backup.proofs.missing_share.value_by.Goals as goal
use Rattle.s39_backup.proofs.missing_share.value_by.Goals.{After-push_least}

known : (c : After-push_least) → c.push_least.new.points ≡ (secret_place, c.args.share.now.items) ∷ members_at_hand c.args.set.now c.args.group.0
known c =
    let point : ℕ × List ℕ = (secret_place, c.args.share.now.items) in
    filled point c.push.new.self c.push_least.new.points (members_at_hand c.args.set.now c.args.group.0) c.args.group.1.threshold
    (c.push.ensures ∙ ap (λ ps. ps ++ point ∷ []) c.new-points.ensures) c.push_least.ensures c.requires.one_short

pub value_at-requires : goal.value_at-requires
value_at-requires c =
    let most = c.requires.group.enough.few in
    let enough = c.requires.group.enough.enough in
    let one = c.requires.one_short in (
      value_bytes_of c.args.set.now,
      subst (ArePointsOfOneLevel (value_bytes_of c.args.set.now)) (sym (known (goal.at.value_at-requires c).After-push_least))
          (share_level c.args.set.now c.are_a_share_set.ensures c.args.group.0 c.args.share.now.items c.requires.length c.requires.long (omega arith)),
    )

pub returns : goal.returns
returns c = ap (value_at c.args.group.0 c.args.member) (sym (known (goal.at.returns c).After-push_least)) ∙ c.value_at.ensures
