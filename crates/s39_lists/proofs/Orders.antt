-- Parts of a list that holds facts of its elements, and of each two of them.
use Rattle.std.proofs.Common.{ℕ, List, [], ◌∷◌, ◌++◌, take, drop, All, AllPairs, Contains, sym, subst, ⊎_elim}
use Rattle.std.proofs.lemmas.List.{take-append-drop}
use Rattle.std.proofs.lemmas.List.Elements.{All-contains, Contains-append_left, Contains-append_right, Contains-append_cases}
use Rattle.s39_lists.proofs.Pairs.{AllPairs-head, AllPairs-tail}
use Rattle.s39_lists.proofs.Sublists.{IsSublist, keeps, nil-sublist, each, AllPairs-sublist, Contains-cases, Contains-nil}

-- what holds of each element holds of each in the front
pub All-append_left : {X : Type 0} (P : X → Type 0) (xs ys : List X) → All P (xs ++ ys) → All P xs
All-append_left P xs ys h = each P xs (λ x among. All-contains P (xs ++ ys) x h (Contains-append_left xs ys x among))

-- and of each in the back
pub All-append_right : {X : Type 0} (P : X → Type 0) (xs ys : List X) → All P (xs ++ ys) → All P ys
All-append_right P xs ys h = each P ys (λ y among. All-contains P (xs ++ ys) y h (Contains-append_right xs ys y among))

front-sublist : {X : Type 0} (xs ys : List X) → IsSublist xs (xs ++ ys)
front-sublist [] ys = nil-sublist ys
front-sublist (x ∷ xs) ys = keeps (front-sublist xs ys)

-- what holds of each two elements holds of each two in the front
pub AllPairs-append_left : {X : Type 0} (R : X → X → Type 0) (xs ys : List X) → AllPairs R (xs ++ ys) → AllPairs R xs
AllPairs-append_left R xs ys h = AllPairs-sublist R (front-sublist xs ys) h

-- of each two in the back
pub AllPairs-append_right : {X : Type 0} (R : X → X → Type 0) (xs ys : List X) → AllPairs R (xs ++ ys) → AllPairs R ys
AllPairs-append_right R [] ys h = h
AllPairs-append_right R (x ∷ xs) ys h = AllPairs-append_right R xs ys (AllPairs-tail R x (xs ++ ys) h)

-- and of one in the front and one in the back
pub across : {X : Type 0} (R : X → X → Type 0) (xs ys : List X) → AllPairs R (xs ++ ys) → (x y : X) → Contains xs x → Contains ys y → R x y
across R [] ys h x y first second = absurd (Contains-nil x first)
across R (z ∷ zs) ys h x y first second =
    ⊎_elim
    (λ same. subst (λ w. R w y) same (All-contains (R z) (zs ++ ys) y (AllPairs-head R z (zs ++ ys) h) (Contains-append_right zs ys y second)))
    (λ rest. across R zs ys (AllPairs-tail R z (zs ++ ys) h) x y rest second)
    (Contains-cases z zs x first)

-- the first elements come before one that isn't among them
pub taken_before : {X : Type 0} (R : X → X → Type 0) (n : ℕ) (xs : List X) → AllPairs R xs → (y : X) → Contains xs y → (Contains (take n xs) y → ⊥)
    → All (λ x. R x y) (take n xs)
taken_before R n xs h y among apart =
    let whole = take-append-drop n xs in
    each (λ x. R x y) (take n xs)
    (λ x first.
    ⊎_elim
    (λ front. absurd (apart front))
    (λ back. across R (take n xs) (drop n xs) (subst (AllPairs R) (sym whole) h) x y first back)
    (Contains-append_cases (take n xs) (drop n xs) y (subst (λ l. Contains l y) (sym whole) among)))
