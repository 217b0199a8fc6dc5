-- A loop over parts of a list, which has yielded some of them.
use Rattle.std.proofs.Common.{◌≡◌, ℕ, ◌<◌, List, length, map, take, get_or, Option, Some, None}
use Rattle.std.specs.Iterator.{Yields}
use denote.Ref.{Bor}
use Rattle.std.proofs.lemmas.Iterator.{YieldsList}
use Rattle.std.proofs.lemmas.Iterator.Consumers.{YieldsList-so_far, YieldsList-turn, YieldsList-end}
use Rattle.std.proofs.lemmas.List.{length-map}

pub turn : {S : Type 0} {steps : S → Option (Bor (List ℕ)) → S → Type 0} (s t u : S) (xs : List (Bor (List ℕ))) (r : Option (Bor (List ℕ)))
    (x : Bor (List ℕ)) → Yields steps s xs t → r ≡ Some x → steps t r u → (all : List (List ℕ)) → YieldsList steps (λ w. w.now) s all
    → (map (λ w. w.now) xs ≡ take (length (map (λ w. w.now) xs)) all) × (length (map (λ w. w.now) xs) < length all) ×
    (x.now ≡ get_or all (length (map (λ w. w.now) xs)) x.now)
turn s t u xs r x yields is step all road =
    let now : (length xs < length all) × (x.now ≡ get_or all (length xs) x.now) = YieldsList-turn road xs t yields r u x is step in
    let same : length (map (λ w. w.now) xs) ≡ length xs = length-map xs (λ w. w.now) in
    rw same (YieldsList-so_far road xs t yields, now.0, now.1)

pub ended : {S : Type 0} {steps : S → Option (Bor (List ℕ)) → S → Type 0} (s t u : S) (xs : List (Bor (List ℕ))) (r : Option (Bor (List ℕ)))
    → Yields steps s xs t → r ≡ None → steps t r u → (all : List (List ℕ)) → YieldsList steps (λ w. w.now) s all → map (λ w. w.now) xs ≡ all
ended s t u xs r yields is step all road = (YieldsList-end road xs t yields r u is step).0
