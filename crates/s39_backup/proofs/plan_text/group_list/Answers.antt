use Rattle.std.proofs.Common.{◌==◌, [], ◌∷◌, ◌++◌, refl, sym, ap₂, ◌∙◌, rules}
use Rattle.std.specs.List.{slice_split}
use borrow.Author.Tests.{tests}
use Rattle.std.proofs.lemmas.List.{map_push}
use Rattle.std.proofs.lemmas.List.Elements.{All-push}
use Rattle.std.proofs.lemmas.Iterator.Consumers.{YieldsList-at}
use Rattle.std.proofs.lemmas.Iterator.Splits.{YieldsList-from_slice_split}
use Rattle.s39_lists.proofs.Loops.{turn, ended}
use Rattle.s39_backup.specs.Plan.{members_text}
use Rattle.s39_backup.specs.PlanText.{HasPlanNumbers}
use Rattle.s39_backup.proofs.PlanTexts.{part_of_groups, groups_of_parts}
use Rattle.s39_backup.proofs.plan_text.group_list.Goals as goal

pub returns-in_err-members-clause-none : goal.returns-in_err-members-clause-none
returns-in_err-members-clause-none c = λ none groups is.
    let now = turn _ _ _ _ _ _ c.loop-part.yielded_by c.in-Some.is c.next.ensures.steps
    (slice_split (λ b. b == 44) c.args.text.now)
    (YieldsList-at c.into_iter-part-iterator.ensures.into_iter_gives
    (YieldsList-from_slice_split _ (λ b. b == 44) c.args.text.now c.split-part-items.ensures.rest c.split-part-items.ensures.done
    c.split-part-items.ensures.closure (λ x b q k. search (rules, tests)))) in
    let (members, member_text) = part_of_groups c.args.text.now c.in-Some.part.now groups _ is now.1 now.2 in
    c.in_err-members.ensures.none refl members member_text

pub loop-part-preserved : goal.loop-part-preserved
loop-part-preserved c =
    let before = c.loop-part.invariant.listed in
    let members = c.in_ok-members.members in
    let is = c.in_ok-members.ensures.members in
    record {
      can_next = search rules;
      is_finite = search rules;
      listed = record {
        groups = before.groups ++ members ∷ [];
        numbers = All-push HasPlanNumbers before.groups members before.numbers is.numbers;
        parts_are = map_push members_text before.groups members ∙ ap₂ (λ xs x. xs ++ x ∷ []) before.parts_are (sym is.text_is)
            ∙ sym (map_push (λ part. part.now) c.loop-part.yielded c.in-Some.part);
        is_list = c.push.ensures.list before.groups before.is_list;
      };
    }

pub returns-clause-groups : goal.returns-clause-groups
returns-clause-groups c =
    let listed = c.loop-part.invariant.listed in
    let whole = ended _ _ _ _ _ c.loop-part.yielded_by c.in-None.is c.next.ensures.steps
    (slice_split (λ b. b == 44) c.args.text.now)
    (YieldsList-at c.into_iter-part-iterator.ensures.into_iter_gives
    (YieldsList-from_slice_split _ (λ b. b == 44) c.args.text.now c.split-part-items.ensures.rest c.split-part-items.ensures.done
    c.split-part-items.ensures.closure (λ x b q k. search (rules, tests)))) in
    groups_of_parts c.args.text.now c.loop-part.groups
    (record { groups = listed.groups; numbers = listed.numbers; parts_are = listed.parts_are ∙ whole; is_list = listed.is_list })
