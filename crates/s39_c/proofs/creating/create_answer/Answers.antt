use Rattle.std.proofs.Common.{refl, inl, inr}
use Rattle.s39_c.proofs.creating.create_answer.Goals as goal

pub returns-in-Ok-parse_bytes : goal.returns-in-Ok-parse_bytes
returns-in-Ok-parse_bytes c =
    let plan = c.in-Ok-parse_bytes.plan in
    inr (c.in-Ok.options, c.in-Ok.ensures, inr ((plan.group_threshold, plan.groups.items), c.in-Ok-parse_bytes.ensures.reading, c.create_by.ensures))

pub returns-in-Err : goal.returns-in-Err
returns-in-Err c = inr (c.in-Ok.options, c.in-Ok.ensures, inl (c.in-Err.error, c.in-Err.ensures.reading, refl, c.from.ensures))
