-- The order of lists of names.
use Rattle.std.proofs.Common.{◌≡◌, ◌≢◌, ℕ, [], ◌∷◌, ◌++◌, Ordering, Less, Equal, Greater, ◌⊎◌, inl, inr, refl, sym, ap₂, subst, arith}
use Rattle.std.specs.Cmp.{IsTotalOrder}
use Rattle.std.specs.Ordering.{ordering_then, ordering_reverse, nat_cmp}
use Rattle.std.proofs.lemmas.Bool.Decides.{nat_tests}
use Rattle.std.proofs.lemmas.Cmp.{lists_total, tied_itself}
use Rattle.s39_set.specs.Names.{Name, Names, name_cmp, names_cmp}
use Rattle.s39_set.proofs.Ascending.{name_cmp_total}

-- ---- equal comparisons

then-equal : (o p : Ordering) → ordering_then o p ≡ Equal → (o ≡ Equal) × (p ≡ Equal)
then-equal Less p e = absurd (let bad : Less ≡ Equal = e in cc)
then-equal Equal p e = (refl, e)
then-equal Greater p e = absurd (let bad : Greater ≡ Equal = e in cc)

nat_cmp-equal : (m n : ℕ) → nat_cmp m n ≡ Equal → m ≡ n
nat_cmp-equal m n e = grind (arith, nat_tests)

-- names that compare as equal are the same
pub name_cmp-equal : (a b : Name) → name_cmp a b ≡ Equal → a ≡ b
name_cmp-equal a b e =
    let parts = then-equal (nat_cmp a.0 b.0) (nat_cmp a.1 b.1) e in
    ap₂ (λ (g m : ℕ). (g, m)) (nat_cmp-equal a.0 b.0 parts.0) (nat_cmp-equal a.1 b.1 parts.1)

-- and so are lists of names
pub names_cmp-equal : (xs ys : Names) → names_cmp xs ys ≡ Equal → xs ≡ ys
names_cmp-equal [] [] e = refl
names_cmp-equal [] (y ∷ ys) e = absurd (let bad : Less ≡ Equal = e in cc)
names_cmp-equal (x ∷ xs) [] e = absurd (let bad : Greater ≡ Equal = e in cc)
names_cmp-equal (x ∷ xs) (y ∷ ys) e =
    let parts = then-equal (name_cmp x y) (names_cmp xs ys) e in
    ap₂ (λ (z : Name) (zs : Names). z ∷ zs) (name_cmp-equal x y parts.0) (names_cmp-equal xs ys parts.1)

-- ---- the order of lists of names

-- lists of names are in a total order
pub names_order : IsTotalOrder names_cmp
names_order = lists_total name_cmp_total

-- no two lists come before each other
pub names_one_way : (xs ys : Names) → names_cmp xs ys ≡ Less → names_cmp ys xs ≡ Less → ⊥
names_one_way xs ys before after = let back = names_order.antisymm xs ys in cc

-- no list comes before itself
pub names_not_before_itself : (xs ys : Names) → xs ≡ ys → names_cmp xs ys ≡ Less → ⊥
names_not_before_itself xs ys same before = let tied = tied_itself names_order xs in let less : names_cmp xs xs ≡ Less =
    subst (λ zs. names_cmp xs zs ≡ Less) (sym same) before in cc

-- a list that doesn't come after another is it or comes before it
pub same_or_before : (xs ys : Names) → names_cmp xs ys ≢ Greater → (xs ≡ ys) ⊎ (names_cmp xs ys ≡ Less)
same_or_before xs ys h = by (names_cmp xs ys) refl
  where
    by : (o : Ordering) → names_cmp xs ys ≡ o → (xs ≡ ys) ⊎ (names_cmp xs ys ≡ Less)
    by Less e = inr e
    by Equal e = inl (names_cmp-equal xs ys e)
    by Greater e = absurd (h e)

pub before-not_greater : (xs ys : Names) → names_cmp xs ys ≡ Less → names_cmp xs ys ≢ Greater
before-not_greater xs ys e f = cc

pub same-not_greater : (xs ys : Names) → xs ≡ ys → names_cmp xs ys ≢ Greater
same-not_greater xs ys same f = let tied : names_cmp xs ys ≡ Equal = subst (λ zs. names_cmp xs zs ≡ Equal) same (tied_itself names_order xs) in cc

both_not_greater : (o p : Ordering) → p ≡ ordering_reverse o → o ≢ Greater → p ≢ Greater → o ≡ Equal
both_not_greater Less p e h k = absurd (k e)
both_not_greater Equal p e h k = refl
both_not_greater Greater p e h k = absurd (h refl)

-- lists neither of which comes after the other are the same
pub same_from_both : (xs ys : Names) → names_cmp xs ys ≢ Greater → names_cmp ys xs ≢ Greater → xs ≡ ys
same_from_both xs ys h k = names_cmp-equal xs ys (both_not_greater (names_cmp xs ys) (names_cmp ys xs) (names_order.antisymm ys xs) h k)

-- ---- where two lists first differ

-- lists that begin alike compare as their rests
pub cmp-append : (front xs ys : Names) → names_cmp (front ++ xs) (front ++ ys) ≡ names_cmp xs ys
cmp-append [] xs ys = refl
cmp-append (f ∷ front) xs ys = rw (tied_itself name_cmp_total f) (cmp-append front xs ys)

pub first-less : (x y : Name) (xs ys : Names) → name_cmp x y ≡ Less → names_cmp (x ∷ xs) (y ∷ ys) ≡ Less
first-less x y xs ys less = rw less refl

-- the first list is the beginning of the second, or has an earlier name where they first differ
pub data IsBefore : Names → Names → Type 0 where
  ends : (front : Names) (y : Name) (ys : Names) → IsBefore front (front ++ y ∷ ys)
  differs : (front : Names) (x : Name) (xs : Names) (y : Name) (ys : Names) → name_cmp x y ≡ Less
      → IsBefore (front ++ x ∷ xs) (front ++ y ∷ ys)

one_longer : (z : Name) {xs ys : Names} → IsBefore xs ys → IsBefore (z ∷ xs) (z ∷ ys)
one_longer z (ends front y ys) = ends (z ∷ front) y ys
one_longer z (differs front x xs y ys less) = differs (z ∷ front) x xs y ys less

pub before : (xs ys : Names) → names_cmp xs ys ≡ Less → IsBefore xs ys
before [] [] h = absurd (let bad : Equal ≡ Less = h in cc)
before [] (y ∷ ys) h = ends [] y ys
before (x ∷ xs) [] h = absurd (let bad : Greater ≡ Less = h in cc)
before (x ∷ xs) (y ∷ ys) h = by (name_cmp x y) refl h (λ k. before xs ys k)
  where
    by : (o : Ordering) → name_cmp x y ≡ o → ordering_then o (names_cmp xs ys) ≡ Less → (names_cmp xs ys ≡ Less → IsBefore xs ys)
        → IsBefore (x ∷ xs) (y ∷ ys)
    by Less e k rest = differs [] x xs y ys e
    by Equal e k rest = subst (λ z. IsBefore (x ∷ xs) (z ∷ ys)) (name_cmp-equal x y e) (one_longer x (rest k))
    by Greater e k rest = absurd (let bad : Greater ≡ Less = k in cc)
