use Rattle.s39_set.proofs.Sets.{name_found}
use Rattle.s39_set.proofs.share_set.ShareSet.is_at_hand.Goals as goal

pub returns : goal.returns
returns c = rw c.is_some.ensures (name_found c.args.self.now c.args.group c.args.member c.share_at.result c.share_at.ensures.share)
