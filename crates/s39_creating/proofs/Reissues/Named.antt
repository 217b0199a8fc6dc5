-- Names of a plan and shares of it, by tests.
use Rattle.std.proofs.Common.{◌≡◌, ◌↔◌, ℕ, suc, ◌+◌, ◌<◌, ◌&&◌, ◌==◌, not, Bool, true, false, List, [], ◌∷◌, length, take, drop, get_or, find, All, Option, Some, None, refl, sym, subst, ap, ◌∙◌, arith, Ok}
use Rattle.std.specs.Prelude.{IsSomeAnd, nat_lt}
use Rattle.std.specs.List.{list_all, slice_get}
use Rattle.std.specs.Option.{option_map_or}
use Rattle.std.proofs.Math.Seq.{split_at}
use Rattle.std.proofs.lemmas.Bool.{and_parts, and_from, eqb-true, eq-eqb, not-false, not_from_true}
use Rattle.std.proofs.lemmas.Bool.Decides.{nat_tests}
use Rattle.std.proofs.lemmas.List.{take_more}
use Rattle.std.proofs.lemmas.List.Elements.{All-cons, All-nil, All-weaker}
use Rattle.std.proofs.lemmas.List.Folds.{find-append}
use Rattle.std.proofs.lemmas.List.Sums.{AllPass-from_list_all, list_all-from_AllPass}
use Rattle.s39_lists.proofs.Finds.{find-none, none-passes}
use Rattle.s39_words.specs.declared.ShareFields.{ShareFields}
use Rattle.s39_set.specs.Names.{Name, Names}
use Rattle.s39_backup.specs.declared.plan.Members.{Members}
use Rattle.s39_backup.specs.Plan.{IsNameOfPlan}
use Rattle.s39_backup.specs.Reissue.{IsOfPlan, AreOfPlan}
use Rattle.s39_creating.specs.Reissue.{is_name_of_plan, first_other, IsFirstOther, judged_names, is_of_plan, TestPlans}

-- ---- the first element that passes a test

module _ {X : Type 0} (test : X → Bool) (xs : List X) (k : ℕ) (d : X) (below : k < length xs) (earlier : find test (take k xs) ≡ None) where
  pub find-here : test (get_or xs k d) ≡ true → find test xs ≡ Some (get_or xs k d)
  find-here passes =
      ap (find test) (split_at xs k d below) ∙ find-append test (take k xs) (get_or xs k d ∷ drop (suc k) xs) ∙ rw (earlier, passes) refl

  pub find-later : test (get_or xs k d) ≡ false → find test (take (k + 1) xs) ≡ None
  find-later fails = ap (find test) (take_more xs k d below) ∙ find-append test (take k xs) (get_or xs k d ∷ []) ∙ rw (earlier, fails) refl

-- ---- names

module _ (groups : List Members) where
  pub name_tested : (name : Name) → (is_name_of_plan groups name ≡ true) ↔ IsNameOfPlan groups name
  name_tested name = by (slice_get groups name.0)
    where
      by : (at : Option Members) → (option_map_or (λ members. nat_lt name.1 members.count) at false ≡ true) ↔ IsSomeAnd at (λ members. name.1 < members.count)
      by None = ((λ t. absurd (cc)), (λ s. absurd s))
      by (Some members) = ((λ t. grind (arith, nat_tests)), (λ s. grind (arith, nat_tests)))

  -- the plan has all names if none is refused
  pub none_other : (names : Names) → first_other groups names ≡ None → All (IsNameOfPlan groups) names
  none_other names none =
      All-weaker _ (IsNameOfPlan groups) (λ name fails. (name_tested name).0 (not-false (is_name_of_plan groups name) fails)) names
      (none-passes (λ name. not (is_name_of_plan groups name)) names none)

  -- the first name that is refused follows names of the plan
  pub first_is : (names : Names) (name : Name) → first_other groups names ≡ Some name → IsFirstOther groups names name
  first_is [] name found = absurd (cc)
  first_is (n ∷ ns) name found = by (first_is ns name) (is_name_of_plan groups n) refl
    where
      by : (first_other groups ns ≡ Some name → IsFirstOther groups ns name) → (b : Bool) → is_name_of_plan groups n ≡ b
          → IsFirstOther groups (n ∷ ns) name
      by further true is =
          let step : first_other groups (n ∷ ns) ≡ first_other groups ns = rw is refl in
          let rest = further (sym step ∙ found) in
          record {
            before = n ∷ rest.before;
            after = rest.after;
            parts = ap (λ (l : Names). n ∷ l) rest.parts;
            earlier = All-cons (IsNameOfPlan groups) n rest.before ((name_tested n).0 is) rest.earlier;
            other = rest.other;
          }
      by further false is =
          let here : first_other groups (n ∷ ns) ≡ Some n = rw is refl in
          let both : Some n ≡ Some name = sym here ∙ found in
          let same : n ≡ name = cc in
          record {
            before = [];
            after = ns;
            parts = ap (λ (x : Name). x ∷ ns) same;
            earlier = All-nil (IsNameOfPlan groups);
            other = λ of. (let test : is_name_of_plan groups n ≡ true = (name_tested n).1 (subst (IsNameOfPlan groups) (sym same) of) in
                let bad : true ≡ false = sym test ∙ is in absurd (cc));
          }

  pub none_found : (names : Names) → All (IsNameOfPlan groups) names → first_other groups names ≡ None
  none_found names named =
      find-none (λ name. not (is_name_of_plan groups name)) names
      (All-weaker (IsNameOfPlan groups) _ (λ name has. not_from_true (is_name_of_plan groups name) ((name_tested name).1 has)) names named)

  pub all_named : (names : Names) → All (IsNameOfPlan groups) names → judged_names groups names ≡ Ok tt
  all_named names named =
      rw (none_found names named) refl

-- ---- shares

module _ (group_threshold : ℕ) (groups : List Members) where
  share_tested : (share : ShareFields) → (is_of_plan group_threshold groups share ≡ true) ↔ IsOfPlan group_threshold groups share
  share_tested share = (
    λ passes.
        let (first, member) = and_parts _ _ passes in
        let (threshold, count) = and_parts _ _ first in
        record { threshold_is = eqb-true _ _ threshold; count_is = eqb-true _ _ count; member_is = (by (slice_get groups share.group_index)).0 member },
    λ of.
        and_from _ _ (and_from _ _ (eq-eqb _ _ of.threshold_is) (eq-eqb _ _ of.count_is)) ((by (slice_get groups share.group_index)).1 of.member_is),
  )
    where
      by : (at : Option Members)
          → (option_map_or (λ members. nat_lt share.member_index members.count && (share.member_threshold == members.threshold)) at false ≡ true)
          ↔ IsSomeAnd at (λ members. (share.member_index < members.count) × (share.member_threshold ≡ members.threshold))
      by None = ((λ t. absurd (cc)), (λ s. absurd s))
      by (Some members) = ((λ t. (grind (arith, nat_tests), grind (arith, nat_tests))), (λ s. grind (arith, nat_tests)))

  pub set_tested : (set : List ShareFields) → (list_all (is_of_plan group_threshold groups) set ≡ true) ↔ AreOfPlan group_threshold groups set
  set_tested set = (
    λ passes.
        All-weaker _ (IsOfPlan group_threshold groups) (λ share. (share_tested share).0) set
        (AllPass-from_list_all (is_of_plan group_threshold groups) set passes),
    λ of.
        list_all-from_AllPass (is_of_plan group_threshold groups) set
        (All-weaker (IsOfPlan group_threshold groups) _ (λ share. (share_tested share).1) set of),
  )

pub test_plans : (group_threshold : ℕ) (groups : List Members) (names : Names) (set : List ShareFields) → TestPlans group_threshold groups names set
test_plans group_threshold groups names set = record {
  all = (none_other groups names, none_found groups names);
  first = first_is groups names;
  shares = set_tested group_threshold groups set;
}
