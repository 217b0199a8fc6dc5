-- All names that shares can have.
use Rattle.std.proofs.Common.{◌≡◌, ℕ, ◌+◌, ◌*◌, ◌/◌, ◌%◌, ◌<◌, ◌≤◌, length, get_or, map, All, Contains, Less, refl, ap₂, subst, inl, inr, arith}
use Rattle.std.specs.List.{range_with_len}
use Rattle.std.proofs.lemmas.Bool.{cases_lt}
use Rattle.std.proofs.lemmas.List.Elements.{All-map}
use Rattle.s39_lists.proofs.Images.{Contains-map}
use Rattle.s39_lists.proofs.Pairs.{AllPairs-map}
use Rattle.s39_lists.proofs.Ranges.{Contains-range, range-ascending, range-below}
use Rattle.s39_lists.proofs.Sublists.{IsSublist, length-sublist}
use Rattle.s39_set.specs.Names.{Name, Names, name_cmp, IsAscending, AreNames, most_groups, most_members, most_names}
use Rattle.s39_set.proofs.Ascending.{name_cmp_groups, member-less, names-sublist}

-- the name in this place of all
abbrev name_at : ℕ → Name
name_at place = (place / most_members, place % most_members)

-- the first so many of them
abbrev pub names_below : ℕ → Names
names_below n = map name_at (range_with_len 0 n)

abbrev pub all_names : Names
all_names = names_below most_names

later : (a b : ℕ) → a < b → name_cmp (name_at a) (name_at b) ≡ Less
later a b less = elim (cases_lt (a / most_members) (b / most_members)) [
  | inl earlier ↦ name_cmp_groups (name_at a) (name_at b) earlier
  | inr not_earlier ↦
      (let same : a / most_members ≡ b / most_members = omega arith in
      let lower : a % most_members < b % most_members = omega arith in
      subst (λ (g : ℕ). name_cmp (name_at a) (g, b % most_members) ≡ Less) same
      (member-less (a / most_members) (a % most_members) (b % most_members) lower))
]

pub below-ascending : (n : ℕ) → IsAscending (names_below n)
below-ascending n =
    AllPairs-map (λ a b. name_cmp a b ≡ Less) name_at (range_with_len 0 n)
    (λ i j d before within. later (get_or (range_with_len 0 n) i d) (get_or (range_with_len 0 n) j d) (range-ascending n i j d before within))

below-groups : (n : ℕ) → n ≤ most_names → All (λ name. name.0 < most_groups) (names_below n)
below-groups n few =
    All-map (λ name. name.0 < most_groups) name_at (range_with_len 0 n) (λ k d within. let low = range-below n k d within in omega arith)

below-members : (n : ℕ) → All (λ name. name.1 < most_members) (names_below n)
below-members n = All-map (λ name. name.1 < most_members) name_at (range_with_len 0 n) (λ k d within. omega arith)

pub all_are_names : AreNames all_names
all_are_names = record { ascending = below-ascending most_names; groups = below-groups most_names (omega arith); members = below-members most_names }

-- each name that a share may have is one of them
pub among : (n : ℕ) (name : Name) → name.1 < most_members → most_members * name.0 + name.1 < n → Contains (names_below n) name
among n name low within =
    let place = most_members * name.0 + name.1 in
    let group : place / most_members ≡ name.0 = omega arith in
    let member : place % most_members ≡ name.1 = omega arith in
    subst (Contains (names_below n)) (ap₂ (λ (x y : ℕ). (x, y)) group member) (Contains-map name_at (range_with_len 0 n) place (Contains-range n place within))

-- they are a part of all
pub part_of_all : (names : Names) → AreNames names → IsSublist names all_names
part_of_all names are =
    names-sublist all_names names (below-ascending most_names) are.ascending
    (λ k d within. let group = are.groups k d within in let member = are.members k d within in among most_names (get_or names k d) member (omega arith))

-- so there are no more than all
pub names_few : (names : Names) → AreNames names → length names ≤ most_names
names_few names are =
    let few = length-sublist (part_of_all names are) in let number : length all_names ≡ most_names = refl in omega (arith, few, number)
