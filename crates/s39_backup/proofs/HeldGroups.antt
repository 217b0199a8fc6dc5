-- The groups that names hold, and their members among names.
use Rattle.std.proofs.Common.{◌≡◌, ℕ, ◌+◌, ◌<◌, ◌≤◌, ◌==◌, List, [], ◌∷◌, ◌++◌, length, get_or, take, map, filter, All, AllPairs, Contains, Option}
use Rattle.std.proofs.Common.{Some, None, true, false, cond, ◌&&◌, nat_lt, refl, sym, ap, subst, ◌∙◌, arith}
use Rattle.std.specs.Prelude.{IsSomeAnd}
use Rattle.std.specs.List.{enumerate_from, slice_get}
use Rattle.std.specs.declared.cmp.Ordering.TheVariants.{Less}
use Rattle.std.proofs.lemmas.List.{take_more, map-append, length-take-le, append-nil}
use Rattle.std.proofs.lemmas.List.Elements.{filter-append, All-nil, All-map, All-filter, Contains-get_or}
use Rattle.std.proofs.lemmas.List.Sums.{length-filter, count_by_more_yes, sum_by-take-le}
use Rattle.std.proofs.lemmas.Bool.{eq-eqb}
use Rattle.s39_lists.proofs.Pushes.{enumerate_from-push}
use Rattle.std.proofs.lemmas.List.FromFn.{length-enumerate_from, get_or-enumerate_from}
use Rattle.std.proofs.lemmas.List.Kept.{AllPairs-filter}
use Rattle.std.proofs.lemmas.Option.{slice_get-get_or}
use Rattle.std.proofs.lemmas.Bool.Decides.{nat_tests}
use Rattle.s39_set.specs.Names.{Name, Names, name_cmp, IsAscending, names_in_group}
use Rattle.s39_lists.proofs.Pairs.{AllPairs-map}
use Rattle.s39_lists.proofs.Images.{Contains-map}
use Rattle.s39_set.proofs.MembersOf.{names_in_group-group}
use Rattle.s39_lists.proofs.Sublists.{AllPairs-sublist, filter_kept, filter-none, Contains-filter}
use Rattle.s39_backup.specs.declared.plan.Members.{Members}
use Rattle.s39_backup.specs.Plan.{IsNameOfPlan}
use Rattle.s39_backup.specs.TwoShort.{is_held, held_groups, IsTwoShort}

-- one group more
held_more : (names : Names) (groups : List Members) (i : ℕ) (d : Members) → i < length groups
    → held_groups names (take (i + 1) groups) ≡ held_groups names (take i groups)
    ++ map (λ g. g.0) (filter (is_held names) ((i, get_or groups i d) ∷ []))
held_more names groups i d within =
    let first = take i groups in
    let members = get_or groups i d in
    let place : 0 + length first ≡ i = omega (arith, length-take-le i groups (omega arith)) in
    ap (held_groups names) (take_more groups i d within)
    ∙ ap (λ gs. map (λ g. g.0) (filter (is_held names) gs)) (enumerate_from-push 0 first members
    ∙ ap (λ (p : ℕ). enumerate_from 0 first ++ (p, members) ∷ []) place)
    ∙ ap (map (λ g. g.0)) (filter-append (is_held names) (enumerate_from 0 first) ((i, members) ∷ []))
    ∙ map-append (λ g. g.0) (filter (is_held names) (enumerate_from 0 first)) (filter (is_held names) ((i, members) ∷ []))

pub held-with : (names : Names) (groups : List Members) (i : ℕ) (d : Members) → i < length groups → is_held names (i, get_or groups i d) ≡ true
    → held_groups names (take (i + 1) groups) ≡ held_groups names (take i groups) ++ i ∷ []
held-with names groups i d within is = rw is at (held_more names groups i d within)

pub held-without : (names : Names) (groups : List Members) (i : ℕ) (d : Members) → i < length groups → is_held names (i, get_or groups i d) ≡ false
    → held_groups names (take (i + 1) groups) ≡ held_groups names (take i groups)
held-without names groups i d within is = rw is at (held_more names groups i d within) ∙ append-nil (held_groups names (take i groups))

-- the members of a group stand in order
pub members-ascending : (names : Names) (group : ℕ) → IsAscending names → AllPairs (λ a b. a < b) (map (λ name. name.1) (names_in_group group names))
members-ascending names group ascending =
    AllPairs-map (λ a b. a < b) (λ name. name.1) (names_in_group group names)
    (λ i j d before within.
    later (get_or (names_in_group group names) i d) (get_or (names_in_group group names) j d)
    (names_in_group-group group names i d (omega arith) ∙ sym (names_in_group-group group names j d within))
    (AllPairs-sublist (λ a b. name_cmp a b ≡ Less) (filter_kept (λ name. name.0 == group) names) ascending i j d before within))
  where
    later : (a b : Name) → a.0 ≡ b.0 → name_cmp a b ≡ Less → a.1 < b.1
    later a b same less = grind (arith, nat_tests)

-- those of the names before one of the group's are fewer
pub few_before : (names : Names) (group i : ℕ) → i < length names → (get_or names i (0, 0)).0 ≡ group
    → length (names_in_group group (take i names)) < length (names_in_group group names)
few_before names group i within here =
    let count : length (names_in_group group (take (i + 1) names)) ≡ length (names_in_group group (take i names)) + 1 =
    length-filter (λ name. name.0 == group) (take (i + 1) names)
    ∙ count_by_more_yes (λ name. name.0 == group) names i (0, 0) within (eq-eqb (get_or names i (0, 0)).0 group here)
    ∙ ap (λ n. n + 1) (sym (length-filter (λ name. name.0 == group) (take i names))) in
    omega (
      arith,
      length-filter (λ name. name.0 == group) names,
      length-filter (λ name. name.0 == group) (take (i + 1) names),
      sum_by-take-le (λ name. cond (name.0 == group) 1 0) names (i + 1),
    )

-- where a group isn't held
pub not_less : (a b : ℕ) → (nat_lt 0 b && nat_lt a b) ≡ false → b ≤ a
not_less a b fails = grind (arith, nat_tests)

-- the places of groups stand in order
places-ascending : (groups : List Members) → AllPairs (λ a b. a.0 < b.0) (enumerate_from 0 groups)
places-ascending groups i j d before within =
    let number = length-enumerate_from 0 groups in
    rw (get_or-enumerate_from 0 groups i d (omega arith), get_or-enumerate_from 0 groups j d (omega arith)) (omega arith)

-- and so do the indices of the groups that are held
pub held-ascending : (names : Names) (groups : List Members) → AllPairs (λ a b. a < b) (held_groups names groups)
held-ascending names groups =
    AllPairs-map (λ a b. a < b) (λ group. group.0) (filter (is_held names) (enumerate_from 0 groups))
    (AllPairs-filter (λ a b. a.0 < b.0) (is_held names) (enumerate_from 0 groups) (places-ascending groups))

places-below : (groups : List Members) → All (λ group. group.0 < length groups) (enumerate_from 0 groups)
places-below groups k d within =
    let number = length-enumerate_from 0 groups in
    rw (get_or-enumerate_from 0 groups k d (omega arith)) (omega arith)

pub held-below : (names : Names) (groups : List Members) → All (λ i. i < length groups) (held_groups names groups)
held-below names groups =
    All-map (λ i. i < length groups) (λ group. group.0) (filter (is_held names) (enumerate_from 0 groups))
    (All-filter (is_held names) (λ group. group.0 < length groups) (enumerate_from 0 groups) (places-below groups))

-- a group that is held is among them
pub held-among : (names : Names) (groups : List Members) (i : ℕ) (d : Members) → i < length groups
    → is_held names (0 + i, get_or groups i d) ≡ true → Contains (held_groups names groups) (0 + i)
held-among names groups i d within is =
    let number = length-enumerate_from 0 groups in
    Contains-map (λ group. group.0) (filter (is_held names) (enumerate_from 0 groups)) (0 + i, get_or groups i d)
    (Contains-filter (is_held names) (enumerate_from 0 groups) (0 + i, get_or groups i d)
    (subst (Contains (enumerate_from 0 groups)) (get_or-enumerate_from 0 groups i (0, d) within)
    (Contains-get_or (enumerate_from 0 groups) i (0, d) (omega arith))) is)

-- a name of a plan is one of a member of its group
pub member-below : (groups : List Members) (name : Name) (i : ℕ) (d : Members) → IsNameOfPlan groups name → name.0 ≡ i → i < length groups
    → name.1 < (get_or groups i d).count
member-below groups name i d of_plan here within =
    subst (λ group. IsSomeAnd group (λ members. name.1 < members.count)) (ap (slice_get groups) here ∙ slice_get-get_or groups i d within) of_plan

-- the members of its group
pub record HasMembers (groups : List Members) (name : Name) : Type 0 where
  pub members : Members
  pub at : slice_get groups name.0 ≡ Some members
  pub below : name.1 < members.count

members_at : (groups : List Members) (name : Name) (group : Option Members) → slice_get groups name.0 ≡ group
    → IsSomeAnd group (λ members. name.1 < members.count) → HasMembers groups name
members_at groups name (Some members) is below = record { members = members; at = is; below = below }
members_at groups name None is below = absurd below

pub has_members : (groups : List Members) (name : Name) → IsNameOfPlan groups name → HasMembers groups name
has_members groups name of_plan = members_at groups name (slice_get groups name.0) refl of_plan

-- no names are two short of every plan
pub no_names_hold : (groups : List Members) → held_groups [] groups ≡ []
no_names_hold groups =
    ap (map (λ group. group.0)) (filter-none (is_held []) (enumerate_from 0 groups) (λ k d within. refl))

pub no_names_short : (group_threshold : ℕ) (groups : List Members) → IsTwoShort group_threshold groups []
no_names_short group_threshold groups = record {
  of_plan = All-nil (IsNameOfPlan groups);
  few = let none = ap length (no_names_hold groups) in omega (arith, none);
}
