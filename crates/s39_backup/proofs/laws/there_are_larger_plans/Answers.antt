use Rattle.std.proofs.Common.{◌≡◌, ◌≤◌, ◌<◌, ℕ, List, [], ◌∷◌, ◌++◌, codes, refl, inl, inr, arith, Ok}
use Rattle.std.proofs.lemmas.List.Elements.{All-nil, All-cons}
use Rattle.std.specs.Fmt.{decimal, digits}
use Rattle.s39_backup.specs.declared.plan.Members.{Members}
use Rattle.s39_backup.specs.Plan.{IsPlanNumber, groups_text, HasPlanForm, judged, IsPlanReading}
use Rattle.s39_backup.proofs.PlanReadings.{reading_judged}
use Rattle.s39_backup.proofs.laws.there_are_larger_plans.Goals as goal

abbrev group : ℕ → ℕ → Members
group threshold count = record { threshold = threshold; count = count }

-- one group of which two members are needed
abbrev two_of : ℕ → List Members
two_of count = group 2 count ∷ []

-- three groups, the first of which has this many members
abbrev three_with : ℕ → List Members
three_with count = group 2 count ∷ group 1 1 ∷ group 3 5 ∷ []

abbrev Threshold : Members → Type 0
Threshold members = IsPlanNumber members.threshold

abbrev Count : Members → Type 0
Count members = IsPlanNumber members.count

module _ (count : ℕ) (is : IsPlanNumber count) where
  form_of_one : (text : List ℕ) → text ≡ groups_text (two_of count) → HasPlanForm text 1 (two_of count)
  form_of_one text written = record {
    some = λ none. absurd (cc);
    threshold_number = record { positive = omega arith; short = omega arith };
    thresholds = All-cons Threshold (group 2 count) [] (record { positive = omega arith; short = omega arith }) (All-nil Threshold);
    counts = All-cons Count (group 2 count) [] is (All-nil Count);
    written = inr (refl, refl, written);
  }

  form_of_three : (text : List ℕ) → text ≡ decimal 2 ++ (codes "/" ++ groups_text (three_with count)) → HasPlanForm text 2 (three_with count)
  form_of_three text written = record {
    some = λ none. absurd (cc);
    threshold_number = record { positive = omega arith; short = omega arith };
    thresholds = All-cons Threshold (group 2 count) (group 1 1 ∷ group 3 5 ∷ []) (record { positive = omega arith; short = omega arith })
        (All-cons Threshold (group 1 1) (group 3 5 ∷ []) (record { positive = omega arith; short = omega arith })
        (All-cons Threshold (group 3 5) [] (record { positive = omega arith; short = omega arith }) (All-nil Threshold)));
    counts = All-cons Count (group 2 count) (group 1 1 ∷ group 3 5 ∷ []) is
        (All-cons Count (group 1 1) (group 3 5 ∷ []) (record { positive = omega arith; short = omega arith })
        (All-cons Count (group 3 5) [] (record { positive = omega arith; short = omega arith }) (All-nil Count)));
    written = inl written;
  }

number : (n : ℕ) → 1 ≤ n → n < 100 → IsPlanNumber n
number n positive short = record { positive = positive; short = short }

read_of_one : (text : List ℕ) (count : ℕ) → HasPlanForm text 1 (two_of count) → judged (1, two_of count) ≡ Ok (1, two_of count)
    → IsPlanReading text (Ok (1, two_of count))
read_of_one text count form is = reading_judged text 1 (two_of count) form (Ok (1, two_of count)) is

read_of_three : (text : List ℕ) (count : ℕ) → HasPlanForm text 2 (three_with count) → judged (2, three_with count) ≡ Ok (2, three_with count)
    → IsPlanReading text (Ok (2, three_with count))
read_of_three text count form is = reading_judged text 2 (three_with count) form (Ok (2, three_with count)) is

pub returns-clause-of_one_group : goal.returns-clause-of_one_group
unfolding digits
returns-clause-of_one_group c = (
  (1, two_of 3),
  (1, two_of 4),
  read_of_one (codes "2of3") 3 (form_of_one 3 (number 3 (omega arith) (omega arith)) (codes "2of3") refl) refl,
  read_of_one (codes "2of4") 4 (form_of_one 4 (number 4 (omega arith) (omega arith)) (codes "2of4") refl) refl,
  refl,
  ((refl, omega arith), tt),
)

pub returns-clause-of_several_groups : goal.returns-clause-of_several_groups
unfolding digits
returns-clause-of_several_groups c = (
  (2, three_with 3),
  (2, three_with 16),
  read_of_three (codes "2/2of3,1of1,3of5") 3 (form_of_three 3 (number 3 (omega arith) (omega arith)) (codes "2/2of3,1of1,3of5") refl) refl,
  read_of_three (codes "2/2of16,1of1,3of5") 16 (form_of_three 16 (number 16 (omega arith) (omega arith)) (codes "2/2of16,1of1,3of5") refl) refl,
  refl,
  ((refl, omega arith), ((refl, omega arith), ((refl, omega arith), tt))),
)
