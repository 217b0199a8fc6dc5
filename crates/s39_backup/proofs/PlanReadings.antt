-- A text has one reading as a plan.
use Rattle.std.proofs.Common.{◌≡◌, ◌≢◌, ◌⊎◌, ℕ, ◌+◌, ◌<◌, ◌≤◌, ◌==◌, ◌&&◌, nat_lt, nat_le, Bool, true, false, List, [], ◌∷◌, length, get_or, map, All}
use Rattle.std.proofs.Common.{Result, Ok, Err, inl, inr, refl, sym, ap, ap₂, subst, ◌∙◌, arith}
use Rattle.std.specs.Prelude.{if◌then◌else◌}
use Rattle.std.specs.List.{enumerate_from}
use Rattle.std.proofs.lemmas.Bool.{and_parts, and_from, and_left, and_right, cases_lt, cases_eq, eq-eqb, ne_eqb, le-leb, leb-true, lt-leb, lt-ltb, le-ltb}
use Rattle.std.proofs.lemmas.List.Folds.{map_fixed}
use Rattle.std.proofs.lemmas.List.FromFn.{get_or-enumerate_from, length-enumerate_from}
use Rattle.s39_lists.specs.Each.{each}
use Rattle.s39_lists.proofs.Each.{each-values, each-images, each-map, each-refuses}
use Rattle.s39_lists.proofs.Pairs.{All-from_map}
use Rattle.s39_set.specs.Names.{most_groups, most_members}
use Rattle.s39_backup.specs.declared.plan.Members.{Members}
use Rattle.s39_backup.specs.declared.plan_error.PlanError.{PlanError}
use Rattle.s39_backup.specs.declared.plan_error.PlanError.TheVariants.{BadPlan, PlanGroups, PlanMembers, OneOfMany}
use Rattle.s39_backup.specs.Plan.{IsGroup, IsOneOfMany, HasEnoughGroups, IsPlan}
use Rattle.s39_backup.specs.Plan.{HasPlanForm, PlanForm, judged_group, with_threshold, judged, IsPlanReading, IsOnlyReading}
use Rattle.s39_backup.proofs.PlanTexts.{form_once}

-- ---- one group

module _ (place : ℕ) (members : Members) where
  pub refused_members : (most_members < members.count) ⊎ (members.count < members.threshold) → judged_group (place, members) ≡ Err (PlanMembers place)
  refused_members why =
      let fails : (nat_le members.count most_members && nat_le members.threshold members.count) ≡ false = elim why [
        | inl many ↦ and_left (nat_le members.count most_members) (nat_le members.threshold members.count) (lt-leb members.count most_members many)
        | inr few ↦ and_right (nat_le members.count most_members) (nat_le members.threshold members.count) (lt-leb members.threshold members.count few)
      ] in
      rw fails refl

  module _ (few : members.count ≤ most_members) (enough : members.threshold ≤ members.count) where
    passes : (nat_le members.count most_members && nat_le members.threshold members.count) ≡ true
    passes =
        and_from (nat_le members.count most_members) (nat_le members.threshold members.count) (le-leb members.count most_members few)
        (le-leb members.threshold members.count enough)

    pub refused_one_of_many : members.threshold ≡ 1 → 1 < members.count → judged_group (place, members) ≡ Err (OneOfMany place)
    refused_one_of_many one many = rw (passes, eq-eqb members.threshold 1 one, lt-ltb 1 members.count many) refl

    pub accepted : (members.threshold ≢ 1) ⊎ (members.count ≤ 1) → judged_group (place, members) ≡ Ok members
    accepted why =
        let other : ((members.threshold == 1) && nat_lt 1 members.count) ≡ false = elim why [
          | inl several ↦ and_left (members.threshold == 1) (nat_lt 1 members.count) (ne_eqb members.threshold 1 several)
          | inr few ↦ and_right (members.threshold == 1) (nat_lt 1 members.count) (le-ltb 1 members.count few)
        ] in
        rw (passes, other) refl

-- what is judged is the group, or it isn't a group of a plan
record IsJudged (group : ℕ × Members) (result : Result Members PlanError) : Type 0 where
  value : (members : Members) → result ≡ Ok members → (members ≡ group.1) × (1 ≤ group.1.threshold → IsGroup group.1)
  not_bad : result ≡ Err BadPlan → ⊥

is_judged : (group : ℕ × Members) → IsJudged group (judged_group group)
is_judged (place, members) = elim (cases_lt most_members members.count) [
  | inl many ↦ refused (PlanMembers place) (refused_members place members (inl many)) (λ e. cc)
  | inr few ↦ elim (cases_lt members.count members.threshold) [
    | inl lack ↦ refused (PlanMembers place) (refused_members place members (inr lack)) (λ e. cc)
    | inr enough ↦ elim (cases_lt 1 members.count) [
      | inr one ↦ taken few enough (inr one) (λ both. let many = both.1 in omega arith)
      | inl many ↦ elim (cases_eq members.threshold 1) [
        | inl one ↦ refused (OneOfMany place) (refused_one_of_many place members few enough one many) (λ e. cc)
        | inr several ↦ taken few enough (inl several) (λ both. several both.0)
      ]
    ]
  ]
]
  where
    refused : (error : PlanError) → judged_group (place, members) ≡ Err error → error ≢ BadPlan → IsJudged (place, members) (judged_group (place, members))
    refused error is other = record {
      value = λ m same. let clash : Err error ≡ Ok m = sym is ∙ same in absurd (cc);
      not_bad = λ bad. let same : Err error ≡ Err BadPlan = sym is ∙ bad in (let e : error ≡ BadPlan = cc in other e);
    }

    taken : members.count ≤ most_members → members.threshold ≤ members.count → (members.threshold ≢ 1) ⊎ (members.count ≤ 1)
        → ¬ IsOneOfMany members → IsJudged (place, members) (judged_group (place, members))
    taken few enough why several =
        let is = accepted place members few enough why in
        record {
          value = λ m same.
              let both : Ok members ≡ Ok m = sym is ∙ same in
              let e : members ≡ m = cc in
              (sym e, λ positive. record { positive = positive; enough = record { few = few; enough = enough }; not_one_of_many = several });
          not_bad = λ bad. let clash : Ok members ≡ Err BadPlan = sym is ∙ bad in cc;
        }

-- ---- all groups

seconds : {X : Type 0} (n : ℕ) (xs : List X) → map (λ p. p.1) (enumerate_from n xs) ≡ xs
seconds n [] = refl
seconds n (x ∷ xs) = ap (λ ys. x ∷ ys) (seconds (n + 1) xs)

pub groups_judged : (groups values : List Members) → each judged_group (enumerate_from 0 groups) ≡ Ok values
    → (values ≡ groups) × (All (λ m. 1 ≤ m.threshold) groups → All IsGroup groups)
groups_judged groups values all =
    let places = enumerate_from 0 groups in
    let same : values ≡ groups =
    sym (map_fixed (λ m. m) values (λ k d within. refl))
    ∙ each-images judged_group (λ m. m) (λ g. g.1) (λ g m is. ((is_judged g).value m is).0) places values all ∙ seconds 0 groups in (
      same,
      λ positive. subst (All IsGroup) same
          (each-values judged_group (λ g. 1 ≤ g.1.threshold) IsGroup
          (λ g m low is. let j = (is_judged g).value m is in subst IsGroup (sym j.0) (j.1 low)) places values
          (All-from_map (λ m. 1 ≤ m.threshold) (λ (g : ℕ × Members). g.1) places (subst (All (λ m. 1 ≤ m.threshold)) (sym (seconds 0 groups)) positive)) all),
    )

pub judged_at : (groups : List Members) (k : ℕ) (d : ℕ × Members) → k < length groups
    → judged_group (get_or (enumerate_from 0 groups) k d) ≡ judged_group (k, get_or groups k d.1)
judged_at groups k d within =
    let start : 0 + k ≡ k = omega arith in
    ap judged_group (get_or-enumerate_from 0 groups k d within ∙ ap (λ (p : ℕ). (p, get_or groups k d.1)) start)

module _ (group_threshold : ℕ) (groups : List Members) where
  abbrev IsEnough : Bool
  IsEnough = nat_le (length groups) most_groups && nat_le group_threshold (length groups)

  enough_test : HasEnoughGroups group_threshold groups → IsEnough ≡ true
  enough_test enough =
      and_from (nat_le (length groups) most_groups) (nat_le group_threshold (length groups)) (le-leb (length groups) most_groups enough.few)
      (le-leb group_threshold (length groups) enough.enough)

  -- with a right number of groups, the groups decide
  pub judged_each : HasEnoughGroups group_threshold groups
      → judged (group_threshold, groups) ≡ with_threshold group_threshold (each judged_group (enumerate_from 0 groups))
  judged_each enough = rw (enough_test enough) refl

  pub judged_groups : (most_groups < length groups) ⊎ (length groups < group_threshold) → judged (group_threshold, groups) ≡ Err PlanGroups
  judged_groups why =
      let fails : IsEnough ≡ false = elim why [
        | inl many ↦ and_left (nat_le (length groups) most_groups) (nat_le group_threshold (length groups)) (lt-leb (length groups) most_groups many)
        | inr few ↦ and_right (nat_le (length groups) most_groups) (nat_le group_threshold (length groups)) (lt-leb group_threshold (length groups) few)
      ] in
      rw fails refl

  -- they are accepted exactly if they are those of a plan
  pub judged_ok : IsPlan group_threshold groups → judged (group_threshold, groups) ≡ Ok (group_threshold, groups)
  judged_ok is =
      judged_each is.enough
      ∙ ap (with_threshold group_threshold)
      (each-map judged_group (λ g. g.1) (enumerate_from 0 groups)
      (λ k d within.
      let below : k < length groups = omega (arith, length-enumerate_from 0 groups) in
      let is_group = is.each k d.1 below in
      let start : 0 + k ≡ k = omega arith in
      let at : get_or (enumerate_from 0 groups) k d ≡ (k, get_or groups k d.1) =
      get_or-enumerate_from 0 groups k d below ∙ ap (λ (p : ℕ). (p, get_or groups k d.1)) start in
      rw at (accepted k (get_or groups k d.1) is_group.enough.few is_group.enough.enough (elim (cases_eq (get_or groups k d.1).threshold 1) [
        | inl one ↦ inr (elim (cases_lt 1 (get_or groups k d.1).count) [
          | inl many ↦ absurd (is_group.not_one_of_many (one, many))
          | inr few ↦ few
        ])
        | inr several ↦ inl several
      ])))
      ∙ ap (λ gs. Ok gs) (seconds 0 groups))

  pub ok_judged : 1 ≤ group_threshold → All (λ m. 1 ≤ m.threshold) groups → (plan : ℕ × List Members) → judged (group_threshold, groups) ≡ Ok plan
      → (plan ≡ (group_threshold, groups)) × IsPlan group_threshold groups
  ok_judged low positive plan is = by IsEnough refl (each judged_group (enumerate_from 0 groups)) refl is
    where
      by : (enough : Bool) → IsEnough ≡ enough → (all : Result (List Members) PlanError) → each judged_group (enumerate_from 0 groups) ≡ all
          → (if enough then with_threshold group_threshold all else Err PlanGroups) ≡ Ok plan
          → (plan ≡ (group_threshold, groups)) × IsPlan group_threshold groups
      by false test all all_is clash = absurd (cc)
      by true test (Err e) all_is clash = absurd (cc)
      by true test (Ok values) all_is same =
          let judges = groups_judged groups values all_is in
          let plan_is : (group_threshold, values) ≡ plan = cc in
          let parts = and_parts (nat_le (length groups) most_groups) (nat_le group_threshold (length groups)) test in (
            sym plan_is ∙ ap (λ gs. (group_threshold, gs)) judges.0,
            record {
              positive = low;
              enough = record { few = leb-true (length groups) most_groups parts.0; enough = leb-true group_threshold (length groups) parts.1 };
              each = judges.1 positive;
            },
          )

  -- and never refused for their form
  not_bad : judged (group_threshold, groups) ≡ Err BadPlan → ⊥
  not_bad is = by IsEnough (each judged_group (enumerate_from 0 groups)) refl is
    where
      by : (enough : Bool) (all : Result (List Members) PlanError) → each judged_group (enumerate_from 0 groups) ≡ all
          → (if enough then with_threshold group_threshold all else Err PlanGroups) ≡ Err BadPlan → ⊥
      by false all all_is clash = cc
      by true (Ok values) all_is clash = cc
      by true (Err e) all_is same =
          let bad : e ≡ BadPlan = cc in
          let (g, among, refused) = each-refuses judged_group (enumerate_from 0 groups) e all_is in
          (is_judged g).not_bad (refused ∙ ap (λ x. Err x) bad)

-- ---- readings

-- what is judged of a text that has a plan's form is what it is read as
module _ (text : List ℕ) (group_threshold : ℕ) (groups : List Members) (form : HasPlanForm text group_threshold groups) where
  abbrev read_form : PlanForm text
  read_form = record { group_threshold = group_threshold; groups = groups; form = form }

  pub reading_judged : (reading : Result (ℕ × List Members) PlanError) → judged (group_threshold, groups) ≡ reading → IsPlanReading text reading
  reading_judged (Ok plan) is =
      let number = form.threshold_number in
      let same = ok_judged group_threshold groups number.positive (λ k d below. (form.thresholds k d below).positive) plan is in
      subst (λ (p : ℕ × List Members). HasPlanForm text p.0 p.1 × IsPlan p.0 p.1) (sym same.0) (form, same.1)
  reading_judged (Err BadPlan) is = absurd (not_bad group_threshold groups is)
  reading_judged (Err PlanGroups) is = (read_form, is)
  reading_judged (Err (PlanMembers group)) is = (read_form, is)
  reading_judged (Err (OneOfMany group)) is = (read_form, is)

-- a text that has no plan's form
pub record IsRefusedForm (text : List ℕ) (reading : Result (ℕ × List Members) PlanError) : Type 0 where
  pub no_form : ¬ PlanForm text
  pub reading_is : reading ≡ Err BadPlan

-- and one that has it
pub record IsReadForm (text : List ℕ) (reading : Result (ℕ × List Members) PlanError) : Type 0 where
  pub plan : PlanForm text
  pub judged_is : judged (plan.group_threshold, plan.groups) ≡ reading

reading_cases : (text : List ℕ) (reading : Result (ℕ × List Members) PlanError) → IsPlanReading text reading
    → IsRefusedForm text reading ⊎ IsReadForm text reading
reading_cases text (Ok plan) is =
    inr (record { plan = record { group_threshold = plan.0; groups = plan.1; form = is.0 }; judged_is = judged_ok plan.0 plan.1 is.1 })
reading_cases text (Err BadPlan) is = inl (record { no_form = is; reading_is = refl })
reading_cases text (Err PlanGroups) is = inr (record { plan = is.0; judged_is = is.1 })
reading_cases text (Err (PlanMembers group)) is = inr (record { plan = is.0; judged_is = is.1 })
reading_cases text (Err (OneOfMany group)) is = inr (record { plan = is.0; judged_is = is.1 })

pub reading_once : (text : List ℕ) (reading other : Result (ℕ × List Members) PlanError) → IsPlanReading text reading → IsPlanReading text other
    → reading ≡ other
reading_once text reading other is also =
    elim (reading_cases text reading is) [
      | inl none ↦ elim (reading_cases text other also) [
        | inl none' ↦ none.reading_is ∙ sym none'.reading_is
        | inr read' ↦ absurd (none.no_form read'.plan)
      ]
      | inr read ↦ elim (reading_cases text other also) [
        | inl none' ↦ absurd (none'.no_form read.plan)
        | inr read' ↦
            let same = form_once text read.plan.group_threshold read'.plan.group_threshold read.plan.groups read'.plan.groups read.plan.form read'.plan.form in
            sym read.judged_is ∙ ap₂ (λ (t : ℕ) (gs : List Members). judged (t, gs)) same.threshold same.groups_are ∙ read'.judged_is
      ]
    ]

pub only_reading : (text : List ℕ) (answer : Result (ℕ × List Members) PlanError) → IsPlanReading text answer → IsOnlyReading text answer
only_reading text answer is = record { reading = is; only = λ other also. reading_once text other answer also is }
