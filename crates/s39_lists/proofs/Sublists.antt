-- Some of the elements of a list, in its order.
use Rattle.std.proofs.Common.{◌≡◌, ℕ, zero, suc, ◌<◌, ◌≤◌, Bool, true, false, cond, List, [], ◌∷◌, ◌++◌, length, get_or}
use Rattle.std.proofs.Common.{take, refl, sym, ap, subst, ◌∙◌, ◌⊎◌, inl, inr, ⊎_elim, arith}
use Rattle.std.specs.List.{All, AllPairs, Contains, filter}
use Rattle.std.proofs.lemmas.Bool.{cases_Bool, cases_lt, cond-true, cond-false, false≢true}
use Rattle.std.proofs.lemmas.List.Elements.{All-nil, All-cons, All-append, All-head, All-tail, All-contains, Contains-get_or, filter_passes}
use Rattle.std.proofs.lemmas.List.Kept.{AllPairs-cons}
use Rattle.s39_lists.proofs.Pairs.{AllPairs-nil, AllPairs-head, AllPairs-tail}

-- ---- membership

-- the first element is one of the list's
pub Contains-head : {X : Type 0} (x : X) (xs : List X) → Contains (x ∷ xs) x
Contains-head x xs = (zero, (omega arith), refl)

-- an element of the rest is one of the list's
pub Contains-cons : {X : Type 0} (x : X) (xs : List X) (y : X) → Contains xs y → Contains (x ∷ xs) y
Contains-cons x xs y (k, below, here) = (suc k, (omega arith), here)

-- an element is the first one or one of the rest
pub Contains-cases : {X : Type 0} (x : X) (xs : List X) (y : X) → Contains (x ∷ xs) y → (x ≡ y) ⊎ Contains xs y
Contains-cases x xs y (zero, below, here) = inl here
Contains-cases x xs y (suc k, below, here) = inr (k, (omega arith), here)

-- nothing is an element of the empty list
pub Contains-nil : {X : Type 0} (y : X) → Contains [] y → ⊥
Contains-nil y (k, below, here) = absurd (omega arith)

-- a fact of each element, by membership
pub each : {X : Type 0} (P : X → Type 0) (xs : List X) → ((x : X) → Contains xs x → P x) → All P xs
each P xs h k d below = h (get_or xs k d) (Contains-get_or xs k d below)

-- a list with some elements has one
pub one_of : {X : Type 0} (xs : List X) → 1 ≤ length xs → (x : X) × Contains xs x
one_of [] some = absurd (omega arith)
one_of (x ∷ xs) some = (x, Contains-head x xs)

-- an element that passes the test is among those that pass it
pub Contains-filter : {X : Type 0} (p : X → Bool) (xs : List X) (y : X) → Contains xs y → p y ≡ true → Contains (filter p xs) y
Contains-filter p [] y h pass = absurd (Contains-nil y h)
Contains-filter p (x ∷ xs) y h pass =
    ⊎_elim
    (λ same. subst (λ ys. Contains ys y) (sym (cond-true (p x) (x ∷ filter p xs) (filter p xs) (ap p same ∙ pass)))
    (subst (λ z. Contains (x ∷ filter p xs) z) same (Contains-head x (filter p xs))))
    (λ later. let found = Contains-filter p xs y later pass in
    ⊎_elim
    (λ yes. subst (λ ys. Contains ys y) (sym (cond-true (p x) (x ∷ filter p xs) (filter p xs) yes)) (Contains-cons x (filter p xs) y found))
    (λ no. subst (λ ys. Contains ys y) (sym (cond-false (p x) (x ∷ filter p xs) (filter p xs) no)) found)
    (cases_Bool (p x)))
    (Contains-cases x xs y h)

-- ---- parts of a list

-- the first list has some of the elements of the second, in its order
pub data IsSublist {X : Type 0} : List X → List X → Type 0 where
  none : IsSublist [] []
  keeps : {x : X} {ys xs : List X} → IsSublist ys xs → IsSublist (x ∷ ys) (x ∷ xs)
  leaves : {x : X} {ys xs : List X} → IsSublist ys xs → IsSublist ys (x ∷ xs)

-- it has at most as many elements
pub length-sublist : {X : Type 0} {ys xs : List X} → IsSublist ys xs → length ys ≤ length xs
length-sublist none = omega arith
length-sublist (keeps s) = let rest = length-sublist s in omega arith
length-sublist (leaves s) = let rest = length-sublist s in omega arith

-- a part as long as the list is the list
pub same_from_length : {X : Type 0} {ys xs : List X} → IsSublist ys xs → length xs ≤ length ys → ys ≡ xs
same_from_length none long = refl
same_from_length (keeps {x} s) long = ap (λ zs. x ∷ zs) (same_from_length s (omega arith))
same_from_length (leaves s) long = let rest = length-sublist s in absurd (omega arith)

-- its elements are elements of the list
pub Contains-sublist : {X : Type 0} {ys xs : List X} → IsSublist ys xs → All (Contains xs) ys
Contains-sublist none = All-nil (Contains [])
Contains-sublist (keeps {x} {ys} {xs} s) =
    All-cons (Contains (x ∷ xs)) x ys (Contains-head x xs)
    (λ k d below. Contains-cons x xs (get_or ys k d) (Contains-sublist s k d below))
Contains-sublist (leaves {x} {ys} {xs} s) = λ k d below. Contains-cons x xs (get_or ys k d) (Contains-sublist s k d below)

-- by membership
pub in_whole : {X : Type 0} {ys xs : List X} → IsSublist ys xs → (x : X) → Contains ys x → Contains xs x
in_whole {X} {ys} {xs} s x among = All-contains (Contains xs) ys x (Contains-sublist s) among

-- a part without an element of the list has fewer
pub length_less : {X : Type 0} {ys xs : List X} → IsSublist ys xs → (x : X) → Contains xs x → (Contains ys x → ⊥) → length ys < length xs
length_less {X} {ys} {xs} s x among apart =
    elim (cases_lt (length ys) (length xs)) [
      | inl less ↦ less
      | inr few ↦ absurd (apart (subst (λ l. Contains l x) (sym (same_from_length s few)) among))
    ]

-- what holds of each element of a list holds of each of the part
pub All-sublist : {X : Type 0} (P : X → Type 0) (ys xs : List X) → IsSublist ys xs → All P xs → All P ys
All-sublist P ys xs s h k d below = All-contains P xs (get_or ys k d) h (Contains-sublist s k d below)

-- what holds of each two elements of a list holds of each two of the part
pub AllPairs-sublist : {X : Type 0} (R : X → X → Type 0) {ys xs : List X} → IsSublist ys xs → AllPairs R xs → AllPairs R ys
AllPairs-sublist R none h = AllPairs-nil R
AllPairs-sublist R (keeps {x} {ys} {xs} s) h =
    AllPairs-cons R x ys (All-sublist (R x) ys xs s (AllPairs-head R x xs h)) (AllPairs-sublist R s (AllPairs-tail R x xs h))
AllPairs-sublist R (leaves {x} {ys} {xs} s) h = AllPairs-sublist R s (AllPairs-tail R x xs h)

-- what holds of each two elements of each list, and of an element of the one with an element of the other, holds of
-- each two elements of the joined list
pub AllPairs-append : {X : Type 0} (R : X → X → Type 0) (xs ys : List X) → AllPairs R xs → AllPairs R ys → ((x : X) → Contains xs x → All (R x) ys)
    → AllPairs R (xs ++ ys)
AllPairs-append R [] ys first second across = second
AllPairs-append R (x ∷ xs) ys first second across =
    AllPairs-cons R x (xs ++ ys)
    (All-append (R x) xs ys (AllPairs-head R x xs first) (across x (Contains-head x xs)))
    (AllPairs-append R xs ys (AllPairs-tail R x xs first) second (λ y among. across y (Contains-cons x xs y among)))

-- no elements are a part of any list
pub nil-sublist : {X : Type 0} (xs : List X) → IsSublist [] xs
nil-sublist [] = none
nil-sublist (x ∷ xs) = leaves (nil-sublist xs)

-- the first elements are a part of the list
pub take-sublist : {X : Type 0} (n : ℕ) (xs : List X) → IsSublist (take n xs) xs
take-sublist zero xs = nil-sublist xs
take-sublist (suc n) [] = none
take-sublist (suc n) (x ∷ xs) = keeps (take-sublist n xs)

cond-sublist : {X : Type 0} (x : X) {ys xs : List X} (b c : Bool) → (b ≡ true → c ≡ true) → IsSublist ys xs
    → IsSublist (cond b (x ∷ ys) ys) (cond c (x ∷ xs) xs)
cond-sublist x true true implies s = keeps s
cond-sublist x true false implies s = absurd (false≢true (implies refl))
cond-sublist x false true implies s = leaves s
cond-sublist x false false implies s = s

-- if one test implies another, the elements that pass the one are some of those that pass the other
pub filter_weaker : {X : Type 0} (p q : X → Bool) → ((x : X) → p x ≡ true → q x ≡ true) → (xs : List X) → IsSublist (filter p xs) (filter q xs)
filter_weaker p q weaker [] = none
filter_weaker p q weaker (x ∷ xs) = cond-sublist x (p x) (q x) (weaker x) (filter_weaker p q weaker xs)

cond-leaves : {X : Type 0} (x : X) {ys xs : List X} (c : Bool) → IsSublist ys xs → IsSublist ys (cond c (x ∷ xs) xs)
cond-leaves x true s = leaves s
cond-leaves x false s = s

-- what passes a test of a part is a part of what passes it
pub filter-sublist : {X : Type 0} (p : X → Bool) {ys xs : List X} → IsSublist ys xs → IsSublist (filter p ys) (filter p xs)
filter-sublist p none = none
filter-sublist p (keeps {x} {ys} {xs} s) = cond-sublist x (p x) (p x) (λ yes. yes) (filter-sublist p s)
filter-sublist p (leaves {x} {ys} {xs} s) = cond-leaves x (p x) (filter-sublist p s)

cond-kept : {X : Type 0} (x : X) {ys xs : List X} (b : Bool) → IsSublist ys xs → IsSublist (cond b (x ∷ ys) ys) (x ∷ xs)
cond-kept x true s = keeps s
cond-kept x false s = leaves s

-- what passes a test is a part of the list
pub filter_kept : {X : Type 0} (p : X → Bool) (xs : List X) → IsSublist (filter p xs) xs
filter_kept p [] = none
filter_kept p (x ∷ xs) = cond-kept x (p x) (filter_kept p xs)

pub Contains-from_filter : {X : Type 0} (p : X → Bool) (xs : List X) → All (Contains xs) (filter p xs)
Contains-from_filter p xs = Contains-sublist (filter_kept p xs)

-- an element that is left is one of the list's, and passes
pub of_filter : {X : Type 0} (p : X → Bool) (xs : List X) (x : X) → Contains (filter p xs) x → Contains xs x × (p x ≡ true)
of_filter p xs x among = (in_whole (filter_kept p xs) x among, All-contains (λ y. p y ≡ true) (filter p xs) x (filter_passes p xs) among)

-- if each element passes, all of the list is left
pub filter-all : {X : Type 0} (p : X → Bool) (xs : List X) → All (λ x. p x ≡ true) xs → filter p xs ≡ xs
filter-all p [] passes = refl
filter-all p (x ∷ xs) passes =
    cond-true (p x) (x ∷ filter p xs) (filter p xs) (All-head (λ y. p y ≡ true) x xs passes)
    ∙ ap (λ ys. x ∷ ys) (filter-all p xs (All-tail (λ y. p y ≡ true) x xs passes))

-- if no element passes, nothing is left
pub filter-none : {X : Type 0} (p : X → Bool) (xs : List X) → All (λ x. p x ≡ false) xs → filter p xs ≡ []
filter-none p [] fails = refl
filter-none p (x ∷ xs) fails =
    cond-false (p x) (x ∷ filter p xs) (filter p xs) (All-head (λ y. p y ≡ false) x xs fails)
    ∙ filter-none p xs (All-tail (λ y. p y ≡ false) x xs fails)

-- ---- lists in an order that no two elements have both ways

module _ {X : Type 0} (R : X → X → Type 0) (one_way : (x y : X) → R x y → R y x → ⊥) where
  -- of two lists in that order, one with no elements but the other's is a part of it
  pub sublist_from_contains : (xs ys : List X) → AllPairs R xs → AllPairs R ys → All (Contains xs) ys → IsSublist ys xs
  sublist_from_contains [] [] hx hy inside = none
  sublist_from_contains [] (y ∷ ys) hx hy inside = absurd (Contains-nil y (All-head (Contains []) y ys inside))
  sublist_from_contains (x ∷ xs) [] hx hy inside = nil-sublist (x ∷ xs)
  sublist_from_contains (x ∷ xs) (y ∷ ys) hx hy inside =
      let after_y : All (R y) ys = AllPairs-head R y ys hy in
      let later : All (Contains (x ∷ xs)) ys = All-tail (Contains (x ∷ xs)) y ys inside in
      ⊎_elim
      (λ same.
      let apart : (z : X) → R y z → x ≡ z → ⊥ =
      λ z r e. let twice : R y y = subst (R y) (sym e ∙ same) r in one_way y y twice twice in
      let rest : All (Contains xs) ys =
      λ k d below. ⊎_elim (λ e. absurd (apart (get_or ys k d) (after_y k d below) e)) (λ c. c) (Contains-cases x xs (get_or ys k d) (later k d below)) in
      subst (λ z. IsSublist (z ∷ ys) (x ∷ xs)) same
      (keeps (sublist_from_contains xs ys (AllPairs-tail R x xs hx) (AllPairs-tail R y ys hy) rest)))
      (λ among.
      let before_y : R x y = All-contains (R x) xs y (AllPairs-head R x xs hx) among in
      let rest : All (Contains xs) ys =
      λ k d below.
      ⊎_elim
      (λ e. absurd (one_way x y before_y (subst (R y) (sym e) (after_y k d below))))
      (λ c. c)
      (Contains-cases x xs (get_or ys k d) (later k d below)) in
      leaves (sublist_from_contains xs (y ∷ ys) (AllPairs-tail R x xs hx) hy (All-cons (Contains xs) y ys among rest)))
      (Contains-cases x xs y (All-head (Contains (x ∷ xs)) y ys inside))

  -- with no fewer elements it is that list
  pub same_from_part : (xs ys : List X) → AllPairs R xs → AllPairs R ys → All (Contains xs) ys → length xs ≤ length ys → xs ≡ ys
  same_from_part xs ys hx hy inside long = sym (same_from_length (sublist_from_contains xs ys hx hy inside) long)

  -- two such lists with the same elements are the same
  pub same_from_elements : (xs ys : List X) → AllPairs R xs → AllPairs R ys → All (Contains xs) ys → All (Contains ys) xs → xs ≡ ys
  same_from_elements xs ys hx hy inside outside =
      same_from_part xs ys hx hy inside (length-sublist (sublist_from_contains ys xs hy hx outside))
