-- What a function or a test gives of the elements of a list.
use Rattle.std.proofs.Common.{◌≡◌, Bool, zero, suc, ◌<◌, List, [], ◌∷◌, length, map, filter, cond, All, Contains, refl, ap, ◌∙◌, arith}
use Rattle.std.proofs.lemmas.List.{length-map, get_or-map}
use Rattle.std.proofs.lemmas.List.Elements.{All-head, All-tail}

-- what a function of an element gives is among what it gives of all
pub Contains-map : {X Y : Type 0} (f : X → Y) (xs : List X) (x : X) → Contains xs x → Contains (map f xs) (f x)
Contains-map f xs x (k, below, here) =
    let short : k < length (map f xs) = omega (arith, length-map xs f) in
    (k, short, get_or-map f xs k x (f x) below ∙ ap f here)

-- what is among what it gives of all is what it gives of one
pub one_of_map : {X Y : Type 0} (f : X → Y) (xs : List X) (y : Y) → Contains (map f xs) y → (x : X) × Contains xs x × (f x ≡ y)
one_of_map f [] y (k, below, here) = absurd (omega arith)
one_of_map f (x ∷ xs) y (zero, below, here) = (x, (0, omega arith, refl), here)
one_of_map f (x ∷ xs) y (suc k, below, here) =
    let (z, (j, short, at), same) = one_of_map f xs y (k, omega arith, here) in
    (z, (suc j, omega arith, at), same)

-- tests that agree at each element choose the same ones
pub filter_alike : {X : Type 0} (p q : X → Bool) (xs : List X) → All (λ x. p x ≡ q x) xs → filter p xs ≡ filter q xs
filter_alike p q [] same = refl
filter_alike p q (x ∷ xs) same =
    let here : p x ≡ q x = All-head (λ y. p y ≡ q y) x xs same in
    let rest : filter p xs ≡ filter q xs = filter_alike p q xs (All-tail (λ y. p y ≡ q y) x xs same) in
    ap (λ b. cond b (x ∷ filter p xs) (filter p xs)) here ∙ ap (λ ys. cond (q x) (x ∷ ys) ys) rest
