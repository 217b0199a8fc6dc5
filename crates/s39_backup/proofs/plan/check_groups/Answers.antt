use Rattle.std.proofs.Common.{◌≡◌, ◌<◌, ◌≤◌, ℕ, ◌≢◌, ◌⊎◌, List, Ok, length, get_or, take, inl, inr, sym, ap, ◌∙◌, arith}
use Rattle.std.specs.List.{enumerate_from}
use Rattle.std.proofs.lemmas.List.{take_all, take_more}
use Rattle.std.proofs.lemmas.List.FromFn.{length-enumerate_from}
use Rattle.s39_lists.proofs.Each.{each-more, each-stops}
use Rattle.s39_set.specs.Names.{most_members}
use Rattle.s39_backup.specs.declared.plan.Members.{Members}
use Rattle.s39_backup.specs.declared.plan_error.PlanError.TheVariants.{PlanMembers, OneOfMany}
use Rattle.s39_backup.specs.Plan.{judged_group}
use Rattle.s39_backup.proofs.PlanReadings.{judged_at, refused_members, refused_one_of_many, accepted}
use Rattle.s39_backup.proofs.plan.check_groups.Goals as goal
use Rattle.s39_backup.proofs.plan.check_groups.Goals.{then-members-gt-MAX_MEMBERS-via-then-members-gt-MAX_MEMBERS}
use Rattle.s39_backup.proofs.plan.check_groups.Goals.{then-members-gt-MAX_MEMBERS-via-else-members-gt-MAX_MEMBERS+then-members}
use Rattle.s39_backup.proofs.plan.check_groups.Goals.{else-members-eq1-via-then-members-eq1+else-members-gt1, else-members-eq1-via-else-members-eq1}

abbrev blank : ℕ × Members
blank = (0, record { threshold = 0; count = 0 })

-- a place among the groups is one among them with their places
within : (groups : List Members) (k : ℕ) → k < length groups → k < length (enumerate_from 0 groups)
within groups k below = omega (arith, length-enumerate_from 0 groups)

pub returns-then-members-gt-MAX_MEMBERS : goal.returns-then-members-gt-MAX_MEMBERS
returns-then-members-gt-MAX_MEMBERS c =
    let groups = c.args.groups.now in
    let place = c.loop-place.place in
    let members = get_or groups place blank.1 in
    let why : (most_members < members.count) ⊎ (members.count < members.threshold) =
    elim c.then-members-gt-MAX_MEMBERS.branch [
      | then-members-gt-MAX_MEMBERS-via-then-members-gt-MAX_MEMBERS w ↦ inl w.if-members-gt-MAX_MEMBERS.true
      | then-members-gt-MAX_MEMBERS-via-else-members-gt-MAX_MEMBERS+then-members w ↦ inr w.if-members.true
    ] in
    each-stops judged_group (enumerate_from 0 groups) place blank (take place groups) (PlanMembers place) (within groups place c.loop-place-test.true)
    c.loop-place.invariant (judged_at groups place blank c.loop-place-test.true ∙ refused_members place members why)

pub returns-then-members-gt1 : goal.returns-then-members-gt1
returns-then-members-gt1 c =
    let groups = c.args.groups.now in
    let place = c.loop-place.place in
    let members = get_or groups place blank.1 in
    each-stops judged_group (enumerate_from 0 groups) place blank (take place groups) (OneOfMany place) (within groups place c.loop-place-test.true)
    c.loop-place.invariant (judged_at groups place blank c.loop-place-test.true
    ∙ refused_one_of_many place members (omega arith) (omega arith) c.if-members-eq1.true c.if-members-gt1.true)

pub loop-place-preserved : goal.loop-place-preserved
loop-place-preserved c =
    let groups = c.args.groups.now in
    let place = c.loop-place.place in
    let members = get_or groups place blank.1 in
    let why : (members.threshold ≢ 1) ⊎ (members.count ≤ 1) =
    elim c.else-members-eq1.branch [
      | else-members-eq1-via-then-members-eq1+else-members-gt1 w ↦ inr w.if-members-gt1.false
      | else-members-eq1-via-else-members-eq1 w ↦ inl w.if-members-eq1.false
    ] in
    each-more judged_group (enumerate_from 0 groups) place blank (take place groups) members (within groups place c.loop-place-test.true)
    c.loop-place.invariant (judged_at groups place blank c.loop-place-test.true ∙ accepted place members (omega arith) (omega arith) why)
    ∙ ap (λ gs. Ok gs) (sym (take_more groups place blank.1 c.loop-place-test.true))

pub returns : goal.returns
returns c =
    let groups = c.args.groups.now in
    let all : take c.loop-place.place groups ≡ groups = take_all c.loop-place.place groups (omega arith) in
    let all' : take c.loop-place.place (enumerate_from 0 groups) ≡ enumerate_from 0 groups =
    take_all c.loop-place.place (enumerate_from 0 groups) (omega (arith, length-enumerate_from 0 groups)) in
    rw (all, all') at c.loop-place.invariant
