-- Names in ascending order.
use Rattle.std.proofs.Common.{◌≡◌, ℕ, ◌<◌, ◌≤◌, length, arith}
use Rattle.std.specs.Cmp.{IsTotalOrder}
use Rattle.std.specs.List.{All, Contains}
use Rattle.std.specs.declared.cmp.Ordering.TheVariants.{Less}
use Rattle.std.proofs.lemmas.Bool.Decides.{nat_tests}
use Rattle.std.proofs.lemmas.Cmp.{then_total, on_total, nat_cmp_total}
use Rattle.s39_set.specs.Names.{Name, Names, name_cmp, IsAscending}
use Rattle.s39_lists.proofs.Sublists.{IsSublist, sublist_from_contains, same_from_part, same_from_elements}

-- names are in a total order
pub name_cmp_total : IsTotalOrder name_cmp
name_cmp_total = then_total (on_total (λ name. name.0) nat_cmp_total) (on_total (λ name. name.1) nat_cmp_total)

-- one name comes before another
abbrev pub Precedes : Name → Name → Type 0
Precedes a b = name_cmp a b ≡ Less

-- no two names come before each other
pub name_cmp_one_way : (a b : Name) → name_cmp a b ≡ Less → name_cmp b a ≡ Less → ⊥
name_cmp_one_way a b before after = let back = name_cmp_total.antisymm a b in cc

-- a name of an earlier group comes first
pub name_cmp_groups : (a b : Name) → a.0 < b.0 → name_cmp a b ≡ Less
name_cmp_groups a b h = grind (arith, nat_tests)

-- ascending names that are all among other ascending names stand there in the same order
pub names-sublist : (xs ys : Names) → IsAscending xs → IsAscending ys → All (Contains xs) ys → IsSublist ys xs
names-sublist = sublist_from_contains (λ a b. name_cmp a b ≡ Less) name_cmp_one_way

-- ascending names are known by which names they are
pub same_names : (xs ys : Names) → IsAscending xs → IsAscending ys → All (Contains xs) ys → All (Contains ys) xs → xs ≡ ys
same_names = same_from_elements (λ a b. name_cmp a b ≡ Less) name_cmp_one_way

-- no fewer of them than there are, are all of them
pub same_names_from_length : (xs ys : Names) → IsAscending xs → IsAscending ys → All (Contains xs) ys → length xs ≤ length ys → xs ≡ ys
same_names_from_length = same_from_part (λ a b. name_cmp a b ≡ Less) name_cmp_one_way

-- the order of names goes on
pub less_than : (x y z : Name) → name_cmp x y ≡ Less → name_cmp y z ≡ Less → name_cmp x z ≡ Less
less_than = name_cmp_total.trans

less_groups : (a b c d : ℕ) → name_cmp (a, b) (c, d) ≡ Less → a ≤ c
less_groups a b c d h = grind (arith, nat_tests)

-- of two names in order the groups are in order
pub groups-in_order : (x y : Name) → name_cmp x y ≡ Less → x.0 ≤ y.0
groups-in_order x y h = less_groups x.0 x.1 y.0 y.1 h

-- of two names of a group the one with the lower member comes first
pub member-less : (g a b : ℕ) → a < b → name_cmp (g, a) (g, b) ≡ Less
member-less g a b h = grind (arith, nat_tests)
