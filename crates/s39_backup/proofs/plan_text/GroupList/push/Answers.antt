use Rattle.std.proofs.Common.{◌≡◌, ◌+◌, ◌++◌, [], ◌∷◌, length, ap, ◌∙◌, arith, length-append}
use Rattle.s39_backup.proofs.PlanTexts.{pushed-few, pushed-many}
use Rattle.s39_backup.proofs.plan_text.GroupList.push.Goals as goal
use Rattle.s39_backup.proofs.plan_text.GroupList.push.Goals.{then-len-lt-GROUPS, else-len-lt-GROUPS}

pub returns-clause-list : goal.returns-clause-list
returns-clause-list c = λ groups is.
    let members = c.args.members in
    let count = is.count in
    let all : length (groups ++ members ∷ []) ≡ length groups + 1 = length-append groups (members ∷ []) in
    elim c.if-len-lt-GROUPS.branch [
      | then-len-lt-GROUPS w ↦ (
          let counted = ap (λ list. list.count) w.self-is in
          let few = w.if-len-lt-GROUPS.true in
          let as_many = c.len.ensures.value in
          record {
            count = omega arith;
            first = ap (λ list. list.first.items) w.self-is ∙ w.push.ensures.items
                ∙ pushed-few groups c.args.self.now.first.items members is.first (omega arith);
          })
      | else-len-lt-GROUPS w ↦ (
          let counted = ap (λ list. list.count) w.self-is in
          let many = w.if-len-lt-GROUPS.false in
          let as_many = c.len.ensures.value in
          record {
            count = omega arith;
            first = ap (λ list. list.first.items) w.self-is ∙ pushed-many groups c.args.self.now.first.items members is.first (omega arith);
          })
    ]
