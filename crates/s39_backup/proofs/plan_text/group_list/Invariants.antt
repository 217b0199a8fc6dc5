use Rattle.std.proofs.Common.{map}
use Rattle.s39_backup.specs.PlanText.{AreListed}
use Rattle.s39_backup.proofs.plan_text.group_list.Given as goal

abbrev pub invariant-loop-part : goal.invariant-loop-part
invariant-loop-part l = record {
  can_next : (goal.iterator-loop-part).can_next l.part-iterator;
  is_finite : (goal.iterator-loop-part).is_finite l.part-iterator;
  listed : AreListed (map (λ part. part.now) l.yielded) l.groups;
}
