use Rattle.std.proofs.Common.{inr}
use Rattle.s39_c.proofs.reissuing.reissue_answer.Goals as goal

pub returns-in-Ok-clause-reissues : goal.returns-in-Ok-clause-reissues
returns-in-Ok-clause-reissues c =
    inr ((c.in-Ok.plan.group_threshold, c.in-Ok.plan.groups.items), c.in-Ok.ensures.reading, c.reissue_named.ensures.reissues)

pub returns-in-Ok-clause-created : goal.returns-in-Ok-clause-created
returns-in-Ok-clause-created c =
    inr ((c.in-Ok.plan.group_threshold, c.in-Ok.plan.groups.items), c.in-Ok.ensures.reading, c.reissue_named.ensures.created)
