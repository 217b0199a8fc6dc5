-- What is true of all elements of a list, and of each two of them.
use Rattle.std.proofs.Common.{◌≡◌, ℕ, suc, List, [], ◌∷◌, length, map, All, AllPairs, refl, sym, inl, inr, arith}
use Rattle.std.proofs.lemmas.Bool.{cases_lt}
use Rattle.std.proofs.lemmas.List.{get_or-map, length-map}
use Rattle.std.proofs.lemmas.List.Elements.{All-map}
use Rattle.std.proofs.lemmas.List.Kept.{AllPairs-cons}

-- the empty list has no two elements
pub AllPairs-nil : {X : Type 0} (R : X → X → Type 0) → AllPairs R []
AllPairs-nil R i j d before below = absurd (omega arith)

-- the first element and each later one
pub AllPairs-head : {X : Type 0} (R : X → X → Type 0) (x : X) (xs : List X) → AllPairs R (x ∷ xs) → All (R x) xs
AllPairs-head R x xs h k d below = h 0 (suc k) d (omega arith) (omega arith)

-- each two of the rest
pub AllPairs-tail : {X : Type 0} (R : X → X → Type 0) (x : X) (xs : List X) → AllPairs R (x ∷ xs) → AllPairs R xs
AllPairs-tail R x xs h i j d before below = h (suc i) (suc j) d (omega arith) (omega arith)

-- what is true of the images is true of the elements
pub All-from_map : {X Y : Type 0} (P : Y → Type 0) (f : X → Y) (xs : List X) → All P (map f xs) → All (λ x. P (f x)) xs
All-from_map P f xs h k d within =
    let count : length (map f xs) ≡ length xs = length-map xs f in
    rw (get_or-map f xs k d (f d) within) at (h k (f d) (omega arith))

pub AllPairs-from_map : {X Y : Type 0} (R : Y → Y → Type 0) (f : X → Y) (xs : List X) → AllPairs R (map f xs) → AllPairs (λ a b. R (f a) (f b)) xs
AllPairs-from_map R f xs h i j d before within =
    let count : length (map f xs) ≡ length xs = length-map xs f in
    rw (get_or-map f xs i d (f d) (omega arith), get_or-map f xs j d (f d) within) at (h i j (f d) before (omega arith))

-- what is true of the images of each two elements is true of each two of the images
pub AllPairs-map : {X Y : Type 0} (R : Y → Y → Type 0) (f : X → Y) (xs : List X) → AllPairs (λ a b. R (f a) (f b)) xs → AllPairs R (map f xs)
AllPairs-map R f [] h = AllPairs-nil R
AllPairs-map R f (x ∷ xs) h =
    AllPairs-cons R (f x) (map f xs)
    (All-map (R (f x)) f xs (AllPairs-head (λ a b. R (f a) (f b)) x xs h))
    (AllPairs-map R f xs (AllPairs-tail (λ a b. R (f a) (f b)) x xs h))

-- what is the same at each two elements is the same at all
pub All-from_same : {X : Type 0} (f : X → ℕ) (xs : List X) → AllPairs (λ a b. f a ≡ f b) xs → (n : ℕ) × All (λ x. f x ≡ n) xs
All-from_same f [] same = (0, λ k d within. absurd (omega arith))
All-from_same f (x ∷ xs) same = (
  f x,
  λ k d within. elim (cases_lt 0 k) [
    | inl later ↦ sym (same 0 k d later within)
    | inr first ↦
        let at : k ≡ 0 = omega arith in
        rw at refl
  ],
)
