-- The parts of a plan's text.
use Rattle.std.proofs.Common.{◌≡◌, ◌≢◌, ℕ, ◌+◌, ◌<◌, ◌≤◌, ◌==◌, List, [], ◌∷◌, ◌++◌, length, get_or, take, min, All, false, inl, inr, refl}
use Rattle.std.proofs.Common.{sym, ap, ap₂, ◌∙◌, arith, subst}
use Rattle.std.specs.List.{slice_split}
use Rattle.std.specs.Fmt.{decimal}
use Rattle.std.proofs.lemmas.Bool.{ne_eqb}
use Rattle.std.proofs.lemmas.Fmt.{decimal_injective}
use Rattle.std.proofs.lemmas.List.{length-append, length-take, take-append-le, take_all}
use Rattle.std.proofs.lemmas.List.Elements.{All-nil, All-cons, All-append}
use Rattle.s39_lists.proofs.Splits.{IsWithout, not_without, joined-without, joined-from_parts, joined_once, part_is}
use Rattle.s39_set.specs.Names.{most_groups}
use Rattle.s39_set.specs.Texts.{IsCut}
use Rattle.s39_set.proofs.NameText.{same_cut}
use Rattle.s39_set.proofs.NumberText.{decimal-without}
use Rattle.s39_backup.specs.declared.plan.Members.{Members}
use Rattle.s39_backup.specs.declared.plan_text.GroupList.{GroupList}
use Rattle.s39_backup.specs.Plan.{IsPlanNumber, members_text, groups_text, HasPlanForm, PlanForm}
use Rattle.s39_backup.specs.PlanText.{HasPlanNumbers, IsMembersText, IsGroupsText, AreListed, IsListOf, ListsGroupsOf}

-- ---- numbers

-- a number's text has digits alone
number-without : (n byte : ℕ) → IsPlanNumber n → ((digit : ℕ) → 48 ≤ digit → digit < 58 → digit ≢ byte) → IsWithout byte (decimal n)
number-without n byte is other = decimal-without n byte is.short other

same_number : (m n : ℕ) → IsPlanNumber m → IsPlanNumber n → decimal m ≡ decimal n → m ≡ n
same_number m n is also e =
    let low = is.short in
    let low' = also.short in
    decimal_injective m n (omega arith) (omega arith) e

-- ---- the members of a group

-- a group's text is cut at its letters
pub cut_of_members : (text : List ℕ) (members : Members) → IsMembersText text members → IsCut text 111 (decimal members.threshold) (102 ∷ decimal members.count)
cut_of_members text members is = record {
  first = number-without members.threshold 111 is.numbers.0 (λ digit from below e. omega arith);
  text_is = is.text_is;
}

-- and what stands behind the first of them at the other, which stands right there
pub rest_of_members : (text front rest : List ℕ) → IsCut text 111 front rest → (members : Members) → IsMembersText text members
    → IsCut rest 102 [] (decimal members.count)
rest_of_members text front rest cut members is = record {
  first = All-nil (λ b. (b == 102) ≡ false);
  text_is = (same_cut text 111 front rest (decimal members.threshold) (102 ∷ decimal members.count) cut (cut_of_members text members is)).1;
}

-- so the parts of a text that is cut at both are those of the members that it is the text of
pub parts_of_members : (text front rest between back : List ℕ) → IsCut text 111 front rest → IsCut rest 102 between back → (members : Members)
    → IsMembersText text members → (front ≡ decimal members.threshold) × (between ≡ []) × (back ≡ decimal members.count)
parts_of_members text front rest between back cut next members is =
    let parts = same_cut text 111 front rest (decimal members.threshold) (102 ∷ decimal members.count) cut (cut_of_members text members is) in
    let others = same_cut rest 102 between back [] (decimal members.count) next (rest_of_members text front rest cut members is) in
    (parts.0, others.0, others.1)

-- a group's text has no other separator
members-without : (byte : ℕ) → byte < 48 → (members : Members) → HasPlanNumbers members → IsWithout byte (members_text members)
members-without byte low members numbers =
    let other : (digit : ℕ) → 48 ≤ digit → digit < 58 → digit ≢ byte = λ digit from below e. omega arith in
    All-append (λ b. (b == byte) ≡ false) (decimal members.threshold) (111 ∷ 102 ∷ decimal members.count)
    (number-without members.threshold byte numbers.0 other)
    (All-cons (λ b. (b == byte) ≡ false) 111 (102 ∷ decimal members.count) (ne_eqb 111 byte (λ e. omega arith))
    (All-cons (λ b. (b == byte) ≡ false) 102 (decimal members.count) (ne_eqb 102 byte (λ e. omega arith))
    (number-without members.count byte numbers.1 other)))

pub commaless : (members : Members) → HasPlanNumbers members → IsWithout 44 (members_text members)
commaless = members-without 44 (omega arith)

-- and is that of one group
members_once : (a b : Members) → HasPlanNumbers a → HasPlanNumbers b → members_text a ≡ members_text b → a ≡ b
members_once a b is also e =
    let parts = same_cut (members_text a) 111 (decimal a.threshold) (102 ∷ decimal a.count) (decimal b.threshold) (102 ∷ decimal b.count)
    (cut_of_members (members_text a) a (record { numbers = is; text_is = refl }))
    (cut_of_members (members_text a) b (record { numbers = also; text_is = e })) in
    let behind = parts.1 in
    let counts : decimal a.count ≡ decimal b.count = cc in
    ap₂ the_members (same_number a.threshold b.threshold is.0 also.0 parts.0) (same_number a.count b.count is.1 also.1 counts)
  where
    the_members : ℕ → ℕ → Members
    the_members t n = record { threshold = t; count = n }

-- ---- the groups

pub numbers_of : (text : List ℕ) (groups : List Members) → IsGroupsText text groups → All HasPlanNumbers groups
numbers_of text groups is k d below = (is.thresholds k d below, is.counts k d below)

-- a text is that of one list of groups
pub groups_once : (text : List ℕ) (groups others : List Members) → IsGroupsText text groups → IsGroupsText text others → groups ≡ others
groups_once text groups others is also =
    joined_once 44 members_text HasPlanNumbers commaless members_once groups others is.some also.some
    (numbers_of text groups is) (numbers_of text others also) (sym is.text_is ∙ also.text_is)

-- each part of it is the text of a group
pub part_of_groups : (text part : List ℕ) (groups : List Members) (k : ℕ) → IsGroupsText text groups → k < length (slice_split (λ b. b == 44) text)
    → part ≡ get_or (slice_split (λ b. b == 44) text) k part → (members : Members) × IsMembersText part members
part_of_groups text part groups k is within here =
    let blank : Members = record { threshold = 0; count = 0 } in
    let numbers = numbers_of text groups is in
    let (below, part_text) = part_is 44 members_text HasPlanNumbers commaless text part groups k blank is.some numbers is.text_is within here in
    (get_or groups k blank, record { numbers = numbers k blank below; text_is = part_text })

-- and the texts of groups are its parts
pub groups_of_parts : (text : List ℕ) (list : GroupList) → AreListed (slice_split (λ b. b == 44) text) list → ListsGroupsOf text list
groups_of_parts text list listed =
    let joined = joined-from_parts 44 members_text text listed.groups listed.parts_are in
    record {
      groups = listed.groups;
      is_text = record {
        some = joined.0;
        thresholds = λ k d below. (listed.numbers k d below).0;
        counts = λ k d below. (listed.numbers k d below).1;
        text_is = joined.1;
      };
      is_list = listed.is_list;
    }

-- ---- the list of the groups

-- the first sixteen, after a group more
pub pushed-few : (groups first : List Members) (members : Members) → first ≡ take most_groups groups → length first < most_groups
    → first ++ members ∷ [] ≡ take most_groups (groups ++ members ∷ [])
pushed-few groups first members is few =
    let taken : length first ≡ min most_groups (length groups) = ap length is ∙ length-take most_groups groups in
    let all : length (groups ++ members ∷ []) ≡ length groups + 1 = length-append groups (members ∷ []) in
    ap (λ gs. gs ++ members ∷ []) (is ∙ take_all most_groups groups (omega arith)) ∙ sym (take_all most_groups (groups ++ members ∷ []) (omega arith))

pub pushed-many : (groups first : List Members) (members : Members) → first ≡ take most_groups groups → most_groups ≤ length first
    → first ≡ take most_groups (groups ++ members ∷ [])
pushed-many groups first members is many =
    let taken : length first ≡ min most_groups (length groups) = ap length is ∙ length-take most_groups groups in
    is ∙ sym (take-append-le most_groups groups (members ∷ []) (omega arith))

pub list-few : (list : GroupList) (groups : List Members) → IsListOf list groups → list.count ≤ most_groups → list.first.items ≡ groups
list-few list groups is few = let count = is.count in is.first ∙ take_all most_groups groups (omega arith)

-- ---- the form of a plan

cut_of_threshold : (group_threshold : ℕ) (rest : List ℕ) → IsPlanNumber group_threshold
    → IsCut (decimal group_threshold ++ 47 ∷ rest) 47 (decimal group_threshold) rest
cut_of_threshold group_threshold rest is = record {
  first = number-without group_threshold 47 is (λ digit from below e. omega arith);
  text_is = refl;
}

-- the text of groups has no slash
slashless : (text : List ℕ) (groups : List Members) → IsGroupsText text groups → IsWithout 47 text
slashless text groups is =
    subst (IsWithout 47) (sym is.text_is)
    (joined-without 44 47 members_text (λ e. omega arith) groups
    (λ k d below. members-without 47 (omega arith) (get_or groups k d) (numbers_of text groups is k d below)))

module _ (text : List ℕ) (plan : PlanForm text) where
  abbrev form : HasPlanForm text plan.group_threshold plan.groups
  form = plan.form

  groups_of : (part : List ℕ) → part ≡ groups_text plan.groups → IsGroupsText part plan.groups
  groups_of part e = record { some = form.some; thresholds = form.thresholds; counts = form.counts; text_is = e }

  -- a text that is cut at a slash has the group threshold before it, and the groups behind it
  pub with_slash : (front back : List ℕ) → IsCut text 47 front back → (front ≡ decimal plan.group_threshold) × IsGroupsText back plan.groups
  with_slash front back cut =
      elim form.written [
        | inl with ↦ (
            let own = cut_of_threshold plan.group_threshold (groups_text plan.groups) form.threshold_number in
            let parts = same_cut text 47 front back (decimal plan.group_threshold) (groups_text plan.groups) cut
            (record { first = own.first; text_is = with }) in
            (parts.0, groups_of back parts.1))
        | inr one ↦ absurd (not_without 47 front back (subst (IsWithout 47) cut.text_is (slashless text plan.groups (groups_of text one.2))))
      ]

  -- another one is one group
  pub without_slash : ((front back : List ℕ) → IsCut text 47 front back → ⊥)
      → (plan.group_threshold ≡ 1) × (length plan.groups ≡ 1) × IsGroupsText text plan.groups
  without_slash none =
      elim form.written [
        | inl with ↦ (
            let own = cut_of_threshold plan.group_threshold (groups_text plan.groups) form.threshold_number in
            absurd (none (decimal plan.group_threshold) (groups_text plan.groups) (record { first = own.first; text_is = with })))
        | inr one ↦ (one.0, one.1, groups_of text one.2)
      ]

-- a text is of one plan's form
pub record AreSamePlan (m n : ℕ) (groups others : List Members) : Type 0 where
  pub threshold : m ≡ n
  pub groups_are : groups ≡ others

pub form_once : (text : List ℕ) (m n : ℕ) (groups others : List Members) → HasPlanForm text m groups → HasPlanForm text n others → AreSamePlan m n groups others
form_once text m n groups others is also =
    elim is.written [
      | inl with ↦ (
          let own = cut_of_threshold m (groups_text groups) is.threshold_number in
          let parts = with_slash text (record { group_threshold = n; groups = others; form = also }) (decimal m) (groups_text groups)
          (record { first = own.first; text_is = with }) in
          let one = with_slash text (record { group_threshold = m; groups = groups; form = is }) (decimal m) (groups_text groups)
          (record { first = own.first; text_is = with }) in
          record {
            threshold = same_number m n is.threshold_number also.threshold_number parts.0;
            groups_are = groups_once (groups_text groups) groups others one.1 parts.1;
          })
      | inr one ↦ (
          let none = slashless text groups (groups_of text (record { group_threshold = m; groups = groups; form = is }) text one.2) in
          let parts = without_slash text (record { group_threshold = n; groups = others; form = also })
          (λ front back cut. not_without 47 front back (subst (IsWithout 47) cut.text_is none)) in
          record {
            threshold = one.0 ∙ sym parts.0;
            groups_are = groups_once text groups others (groups_of text (record { group_threshold = m; groups = groups; form = is }) text one.2) parts.2;
          })
    ]
