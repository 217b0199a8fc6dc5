use Rattle.std.proofs.Common.{List, ℕ, sym, subst}
use Rattle.s39_backup.specs.declared.plan.Members.{Members}
use Rattle.s39_backup.specs.Plan.{IsNameOfPlan}
use Rattle.s39_backup.specs.Reissue.{IsReissue}
use Rattle.s39_backup.proofs.missing_share.reissue.Goals as goal

pub returns-clause-created : goal.returns-clause-created
returns-clause-created c = λ passphrase secret backup threshold groups.
    let set = c.args.set.now in
    let plan = c.args.plan.now in
    let result = c.share_of_name.result in
    c.backups_reissue_their_shares.ensures.right set passphrase secret (c.args.group, c.args.member) result c.are_a_share_set.ensures backup
    (subst (λ (gs : List Members). IsNameOfPlan gs (c.args.group, c.args.member)) (sym groups) c.requires.name)
    (subst (λ (gs : List Members). IsReissue set backup.group_threshold gs (c.args.group, c.args.member) result) (sym groups)
    (subst (λ (t : ℕ). IsReissue set t plan.groups.items (c.args.group, c.args.member) result) (sym threshold) c.share_of_name.ensures))
