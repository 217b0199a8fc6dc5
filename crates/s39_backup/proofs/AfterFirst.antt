-- The elements after the first, as a call on `&xs[1..]` has them.
use Rattle.std.proofs.Common.{◌≡◌, ℕ, ◌+◌, ◌-◌, ◌<◌, List, [], ◌∷◌, length, get_or, take, drop, sum_by, All, refl, sym, ap, ◌∙◌, arith}
use Rattle.std.proofs.lemmas.List.{take_all, drop_more, length-drop}
use Rattle.std.proofs.lemmas.Grind.{get_or_after_one}
use Rattle.std.proofs.lemmas.List.Sums.{sum_by-drop_more}
use Rattle.std.proofs.lemmas.List.Elements.{All-take, All-drop}

-- nothing adds up to nothing
pub sum_by-empty : {X : Type 0} (f : X → ℕ) (xs : List X) → length xs ≡ 0 → sum_by f xs ≡ 0
sum_by-empty f [] none = refl
sum_by-empty f (x ∷ xs) none = absurd (omega arith)

-- the elements after the first
abbrev pub after_first : {X : Type 0} → List X → List X
after_first xs = take (length xs - 1) (drop 1 xs)

pub after_first-drop : {X : Type 0} (xs : List X) → after_first xs ≡ drop 1 xs
after_first-drop xs = take_all (length xs - 1) (drop 1 xs) (omega (arith, length-drop 1 xs))

pub sum_by-first_and_rest : {X : Type 0} (f : X → ℕ) (xs : List X) (d : X) → 0 < length xs
    → sum_by f xs ≡ f (get_or xs 0 d) + sum_by f (after_first xs)
sum_by-first_and_rest f xs d some =
    sum_by-drop_more f xs 0 d some ∙ ap (λ ys. f (get_or xs 0 d) + sum_by f ys) (sym (after_first-drop xs))

pub All-after_first : {X : Type 0} (P : X → Type 0) (xs : List X) → All P xs → All P (after_first xs)
All-after_first P xs all = All-take P (length xs - 1) (drop 1 xs) (All-drop P 1 xs all)

pub length-after_first : {X : Type 0} (xs : List X) → length (after_first xs) ≡ length xs - 1
length-after_first xs = ap length (after_first-drop xs) ∙ length-drop 1 xs

pub get_or-after_first : {X : Type 0} (xs : List X) (k : ℕ) (d : X) → get_or (after_first xs) k d ≡ get_or xs (k + 1) d
get_or-after_first xs k d =
    let next : 1 + k ≡ k + 1 = omega arith in
    ap (λ ys. get_or ys k d) (after_first-drop xs) ∙ get_or_after_one xs k d ∙ ap (λ (m : ℕ). get_or xs m d) next

-- a list is its first element and the rest
pub first_and_rest : {X : Type 0} (xs : List X) (d : X) → 0 < length xs → get_or xs 0 d ∷ after_first xs ≡ xs
first_and_rest xs d some = ap (λ ys. get_or xs 0 d ∷ ys) (after_first-drop xs) ∙ sym (drop_more xs 0 d some)
