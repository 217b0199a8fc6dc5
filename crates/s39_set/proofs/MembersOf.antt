-- The names of a group.
use Rattle.std.proofs.Common.{◌≡◌, ◌≢◌, ℕ, ◌+◌, ◌<◌, ◌==◌, ◌++◌, length, get_or, All, Contains, refl, ap, ◌∙◌, arith, length-append}
use Rattle.std.proofs.lemmas.Bool.{eqb-true, eq-eqb, ne_eqb}
use Rattle.std.proofs.lemmas.List.Elements.{filter-append, filter_passes}
use Rattle.std.proofs.lemmas.List.Kept.{AllPairs-filter}
use Rattle.s39_set.specs.Names.{Name, Names, IsAscending, names_in_group}
use Rattle.s39_lists.proofs.Sublists.{one_of, of_filter, filter-none, Contains-filter}
use Rattle.s39_set.proofs.Ascending.{Precedes}

-- each has its number
pub names_in_group-group : (g : ℕ) (names : Names) → All (λ name. name.0 ≡ g) (names_in_group g names)
names_in_group-group g names k d below = eqb-true (get_or (names_in_group g names) k d).0 g (filter_passes (λ name. name.0 == g) names k d below)

-- how many there are
abbrev pub count : Names → ℕ → ℕ
count names group = length (names_in_group group names)

pub of_group : (g : ℕ) (names : Names) (n : Name) → Contains (names_in_group g names) n → Contains names n × (n.0 ≡ g)
of_group g names n among = let both = of_filter (λ m. m.0 == g) names n among in (both.0, eqb-true n.0 g both.1)

pub in_group : (g : ℕ) (names : Names) (n : Name) → Contains names n → n.0 ≡ g → Contains (names_in_group g names) n
in_group g names n among same = Contains-filter (λ m. m.0 == g) names n among (eq-eqb n.0 g same)

pub group-ascending : (g : ℕ) (names : Names) → IsAscending names → IsAscending (names_in_group g names)
group-ascending g names ascending = AllPairs-filter Precedes (λ m. m.0 == g) names ascending

pub one_counted : (g : ℕ) (names : Names) → 0 < count names g → (n : Name) × Contains names n × (n.0 ≡ g)
one_counted g names some =
    let (n, among) = one_of (names_in_group g names) (omega arith) in
    let (inside, same) = of_group g names n among in
    (n, inside, same)

pub counted : (names : Names) (n : Name) → Contains names n → 0 < count names n.0
counted names n among = let (k, below, here) = in_group n.0 names n among refl in omega arith

pub none_counted : (g : ℕ) (names : Names) → All (λ n. n.0 ≢ g) names → count names g ≡ 0
none_counted g names apart = ap length (filter-none (λ n. n.0 == g) names (λ k d below. ne_eqb (get_or names k d).0 g (apart k d below)))

pub count-append : (xs ys : Names) (g : ℕ) → count (xs ++ ys) g ≡ count xs g + count ys g
count-append xs ys g = ap length (filter-append (λ n. n.0 == g) xs ys) ∙ length-append (names_in_group g xs) (names_in_group g ys)
