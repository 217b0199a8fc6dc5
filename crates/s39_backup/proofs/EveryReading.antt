-- Every text is read as a plan, or refused: each part of what a plan's form says is decided.
use Rattle.std.proofs.Common.{◌≡◌, ℕ, zero, suc, ◌<◌, ◌≤◌, ◌==◌, List, [], ◌∷◌, ◌++◌, length, map, All, Option, Some, None, Result, Err}
use Rattle.std.proofs.Common.{◌⊎◌, inl, inr, refl, sym, ap, ap₂, subst, ◌∙◌, arith}
use Rattle.std.specs.List.{position, slice_split}
use Rattle.std.specs.Fmt.{decimal}
use Rattle.std.proofs.lemmas.Bool.{cases_lt, cases_eq}
use Rattle.std.proofs.lemmas.List.Elements.{All-nil, All-cons, All-head, All-tail}
use Rattle.s39_lists.proofs.Decided.{same_or_other}
use Rattle.s39_lists.proofs.Splits.{cut_at, position-cut, joined-from_parts, split-joined}
use Rattle.s39_set.specs.Texts.{IsCut}
use Rattle.s39_backup.specs.declared.plan.Members.{Members}
use Rattle.s39_backup.specs.declared.plan_error.PlanError.{PlanError}
use Rattle.s39_backup.specs.declared.plan_error.PlanError.TheVariants.{BadPlan}
use Rattle.s39_backup.specs.Plan.{IsPlanNumber, members_text, PlanForm, judged, IsPlanReading}
use Rattle.s39_backup.specs.PlanText.{IsNumberText, HasPlanNumbers, IsMembersText, IsGroupsText}
use Rattle.s39_backup.proofs.PlanReadings.{reading_judged}
use Rattle.s39_backup.proofs.PlanTexts.{commaless, numbers_of, groups_once, with_slash, without_slash}

-- ---- what is decided

abbrev Decided : Type 0 → Type 0
Decided P = P ⊎ ¬ P

at_most_or_not : (m n : ℕ) → Decided (m ≤ n)
at_most_or_not m n = elim (cases_lt n m) [ inl more ↦ inr (λ few. omega arith) | inr few ↦ inl few ]

-- what has two parts
both_or_not : {P Q R : Type 0} → Decided P → Decided Q → (P → Q → R) → (R → P) → (R → Q) → Decided R
both_or_not (inl p) (inl q) make first second = inl (make p q)
both_or_not (inl p) (inr not) make first second = inr (λ r. not (second r))
both_or_not (inr not) q make first second = inr (λ r. not (first r))

-- whether there is such a number below a limit
below_or_not : (P : ℕ → Type 0) → ((n : ℕ) → Decided (P n)) → (limit : ℕ) → Decided ((n : ℕ) × (n < limit) × P n)
below_or_not P each zero = inr (λ some. let less = some.1 in omega arith)
below_or_not P each (suc limit) =
    elim (each limit) [
      | inl is ↦ inl (limit, omega arith, is)
      | inr other ↦ elim (below_or_not P each limit) [
        | inl some ↦ (let less = some.1 in inl (some.0, omega arith, some.2))
        | inr none ↦ inr (λ some. let less = some.1 in elim (cases_eq some.0 limit) [
          | inl same ↦ other (subst P same some.2)
          | inr another ↦ none (some.0, omega arith, some.2)
        ])
      ]
    ]

-- ---- the parts of a text

number_or_not : (n : ℕ) → Decided (IsPlanNumber n)
number_or_not n =
    both_or_not (at_most_or_not 1 n) (at_most_or_not n 99) (λ positive low. record { positive = positive; short = omega arith })
    (λ is. is.positive) (λ is. let short = is.short in omega arith)

number_text_or_not : (text : List ℕ) → Decided ((n : ℕ) × (n < 100) × IsNumberText text n)
number_text_or_not text = below_or_not (IsNumberText text) (λ n.
    both_or_not (number_or_not n) (same_or_other cases_eq text (decimal n)) (λ number same. record { number = number; text_is = same })
    (λ is. is.number) (λ is. is.text_is)) 100

abbrev these : ℕ → ℕ → Members
these t n = record { threshold = t; count = n }

members_or_not : (text : List ℕ) → Decided ((members : Members) × IsMembersText text members)
members_or_not text =
    elim (below_or_not (λ t. (n : ℕ) × (n < 100) × IsMembersText text (these t n)) (λ t. below_or_not (λ n. IsMembersText text (these t n)) (λ n.
    both_or_not (both_or_not (number_or_not t) (number_or_not n) (λ p q. (p, q)) (λ is. is.0) (λ is. is.1))
    (same_or_other cases_eq text (members_text (these t n))) (λ numbers same. record { numbers = numbers; text_is = same })
    (λ is. is.numbers) (λ is. is.text_is)) 100) 100) [
      | inl found ↦ inl (these found.0 found.2.0, found.2.2)
      | inr none ↦ inr (λ some. let is = some.1 in none (some.0.threshold, is.numbers.0.short, (some.0.count, is.numbers.1.short, is)))
    ]

-- groups that have these texts
record HaveTexts (parts : List (List ℕ)) : Type 0 where
  pub groups : List Members
  pub numbers : All HasPlanNumbers groups
  pub texts : map members_text groups ≡ parts

first_and_others : (part : List ℕ) (parts : List (List ℕ)) (groups : List Members) → All HasPlanNumbers groups → map members_text groups ≡ part ∷ parts
    → ((members : Members) × IsMembersText part members) × HaveTexts parts
first_and_others part parts [] numbers e = absurd (cc)
first_and_others part parts (g ∷ gs) numbers e =
    let text : part ≡ members_text g = cc in
    let others : map members_text gs ≡ parts = cc in (
      (g, record { numbers = All-head HasPlanNumbers g gs numbers; text_is = text }),
      record { groups = gs; numbers = All-tail HasPlanNumbers g gs numbers; texts = others },
    )

texts_or_not : (parts : List (List ℕ)) → Decided (HaveTexts parts)
texts_or_not [] = inl (record { groups = []; numbers = All-nil HasPlanNumbers; texts = refl })
texts_or_not (part ∷ parts) =
    both_or_not (members_or_not part) (texts_or_not parts) (λ first others. record {
      groups = first.0 ∷ others.groups;
      numbers = All-cons HasPlanNumbers first.0 others.groups first.1.numbers others.numbers;
      texts = ap₂ (λ (text : List ℕ) texts. text ∷ texts) (sym first.1.text_is) others.texts;
    })
    (λ have. (first_and_others part parts have.groups have.numbers have.texts).0)
    (λ have. (first_and_others part parts have.groups have.numbers have.texts).1)

groups_or_not : (text : List ℕ) → Decided ((groups : List Members) × IsGroupsText text groups)
groups_or_not text =
    elim (texts_or_not (slice_split (λ b. b == 44) text)) [
      | inl have ↦ (let joined = joined-from_parts 44 members_text text have.groups have.texts in inl (
        have.groups,
        record {
          some = joined.0;
          thresholds = λ k d below. (have.numbers k d below).0;
          counts = λ k d below. (have.numbers k d below).1;
          text_is = joined.1;
        },
      ))
      | inr none ↦ inr (λ found. let (groups, is) = found in let numbers = numbers_of text groups is in none (record {
        groups = groups;
        numbers = numbers;
        texts = sym (ap (slice_split (λ b. b == 44)) is.text_is ∙ split-joined 44 members_text HasPlanNumbers commaless groups is.some numbers);
      }))
    ]

-- ---- the form of a plan

with_slash_or_not : (text front back : List ℕ) → IsCut text 47 front back → Decided (PlanForm text)
with_slash_or_not text front back cut =
    both_or_not (number_text_or_not front) (groups_or_not back) (λ threshold found. record {
      group_threshold = threshold.0;
      groups = found.0;
      form = record {
        some = found.1.some;
        threshold_number = threshold.2.number;
        thresholds = found.1.thresholds;
        counts = found.1.counts;
        written = inl (cut.text_is ∙ ap₂ (λ xs ys. xs ++ 47 ∷ ys) threshold.2.text_is found.1.text_is);
      };
    })
    (λ plan. (
      plan.group_threshold,
      plan.form.threshold_number.short,
      record { number = plan.form.threshold_number; text_is = (with_slash text plan front back cut).0 },
    ))
    (λ plan. (plan.groups, (with_slash text plan front back cut).1))

without_slash_or_not : (text : List ℕ) → ((front back : List ℕ) → IsCut text 47 front back → ⊥) → Decided (PlanForm text)
without_slash_or_not text none =
    elim (groups_or_not text) [
      | inr other ↦ inr (λ plan. other (plan.groups, (without_slash text plan none).2))
      | inl found ↦ elim (cases_eq (length found.0) 1) [
        | inr more ↦ inr (λ plan. let (one, alone, is) = without_slash text plan none in
            more (ap length (groups_once text found.0 plan.groups found.1 is) ∙ alone))
        | inl alone ↦ inl (record {
          group_threshold = 1;
          groups = found.0;
          form = record {
            some = found.1.some;
            threshold_number = record { positive = omega arith; short = omega arith };
            thresholds = found.1.thresholds;
            counts = found.1.counts;
            written = inr (refl, alone, found.1.text_is);
          };
        })
      ]
    ]

form_or_not : (text : List ℕ) → Decided (PlanForm text)
form_or_not text = by_slash (position (λ b. b == 47) text) refl
  where
    by_slash : (at : Option ℕ) → position (λ b. b == 47) text ≡ at → Decided (PlanForm text)
    by_slash (Some at) found = let cut = cut_at 47 text at found in with_slash_or_not text _ _ (record { first = cut.0; text_is = cut.1 })
    by_slash None missing = without_slash_or_not text (λ front back cut.
        let found = sym missing ∙ ap (position (λ b. b == 47)) cut.text_is ∙ position-cut 47 front back cut.first in cc)

-- ---- readings

pub reading_exists : (text : List ℕ) → (reading : Result (ℕ × List Members) PlanError) × IsPlanReading text reading
reading_exists text =
    elim (form_or_not text) [
      | inl plan ↦ let numbers : ℕ × List Members = (plan.group_threshold, plan.groups) in
          (judged numbers, reading_judged text plan.group_threshold plan.groups plan.form (judged numbers) refl)
      | inr none ↦ (Err BadPlan, none)
    ]
