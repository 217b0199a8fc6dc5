-- The first element that is refused, and those before it.
use Rattle.std.proofs.Common.{◌≡◌, List, [], ◌∷◌, ◌++◌, All, refl, ap, ◌∙◌, subst, Result, Ok, Err}
use Rattle.std.specs.List.{AllZip}
use Rattle.std.proofs.lemmas.List.Elements.{All-nil, All-cons, All-head, All-tail}
use Rattle.s39_lists.specs.Each.{before_others, each}

module _ {X : Type 0} (P : X → Type 0) where
  -- an element, and all elements before it
  pub all_at : (before : List X) (x : X) (after : List X) → All P (before ++ x ∷ after) → P x
  all_at [] x after all = All-head P x after all
  all_at (b ∷ bs) x after all = all_at bs x after (All-tail P b (bs ++ x ∷ after) all)

  -- there is one first that isn't so
  pub first_once : (before before' after after' : List X) (x y : X) → before ++ x ∷ after ≡ before' ++ y ∷ after' → All P before → (P x → ⊥) → All P before'
      → (P y → ⊥) → x ≡ y
  first_once [] [] after after' x y same all other all' other' = cc
  first_once [] (b ∷ bs) after after' x y same all other all' other' =
      let here : b ≡ x = cc in absurd (other (subst P here (All-head P b bs all')))
  first_once (b ∷ bs) [] after after' x y same all other all' other' =
      let here : b ≡ y = cc in absurd (other' (subst P here (All-head P b bs all)))
  first_once (a ∷ more) (b ∷ bs) after after' x y same all other all' other' =
      first_once more bs after after' x y (cc) (All-tail P a more all) other (All-tail P b bs all') other'

-- a step for each element
module _ {A B E : Type 0} (f : A → Result B E) where
  record Parts (x : A) (xs : List A) (ys : List B) : Type 0 where
    y : B
    rest : List B
    first_is : f x ≡ Ok y
    rest_is : each f xs ≡ Ok rest
    ys_are : y ∷ rest ≡ ys

  parts : (x : A) (xs : List A) (ys : List B) → each f (x ∷ xs) ≡ Ok ys → Parts x xs ys
  parts x xs ys all = by (f x) (each f xs) refl refl all
    where
      by : (first : Result B E) (others : Result (List B) E) → f x ≡ first → each f xs ≡ others → before_others first others ≡ Ok ys → Parts x xs ys
      by (Err e) others here rest is = absurd (cc)
      by (Ok y) (Err e) here rest is = absurd (cc)
      by (Ok y) (Ok others) here rest is = record { y = y; rest = others; first_is = here; rest_is = rest; ys_are = cc }

  -- what holds of each element and its value
  pub each-zip : (Q : A → Type 0) (R : A → B → Type 0) → ((x : A) (y : B) → Q x → f x ≡ Ok y → R x y) → (xs : List A) (ys : List B) → All Q xs
      → each f xs ≡ Ok ys → AllZip R xs ys
  each-zip Q R so [] ys of all = let none : [] ≡ ys = cc in subst (AllZip R []) none tt
  each-zip Q R so (x ∷ xs) ys of all =
      let p = parts x xs ys all in
      subst (AllZip R (x ∷ xs)) p.ys_are (so x p.y (All-head Q x xs of) p.first_is, each-zip Q R so xs p.rest (All-tail Q x xs of) p.rest_is)

  -- what holds of each element that has a value
  pub each-all : (P : A → Type 0) → ((x : A) (y : B) → f x ≡ Ok y → P x) → (xs : List A) (ys : List B) → each f xs ≡ Ok ys → All P xs
  each-all P so [] ys all = All-nil P
  each-all P so (x ∷ xs) ys all = let p = parts x xs ys all in All-cons P x xs (so x p.y p.first_is) (each-all P so xs p.rest p.rest_is)

  -- the first that is refused
  pub record IsStopped (xs : List A) (e : E) : Type 0 where
    pub before : List A
    pub item : A
    pub after : List A
    pub values : List B
    pub parts_are : xs ≡ before ++ item ∷ after
    pub earlier : each f before ≡ Ok values
    pub refused : f item ≡ Err e

  pub each-first : (xs : List A) (e : E) → each f xs ≡ Err e → IsStopped xs e
  each-first [] e stops = absurd (cc)
  each-first (x ∷ xs) e stops = by (f x) (each f xs) refl stops (λ later. each-first xs e later)
    where
      by : (first : Result B E) (others : Result (List B) E) → f x ≡ first → before_others first others ≡ Err e → (others ≡ Err e → IsStopped xs e)
          → IsStopped (x ∷ xs) e
      by (Err d) others here is later = let same : d ≡ e = cc in record {
        before = [];
        item = x;
        after = xs;
        values = [];
        parts_are = refl;
        earlier = refl;
        refused = here ∙ ap Err same;
      }
      by (Ok y) (Ok others) here is later = absurd (cc)
      by (Ok y) (Err d) here is later =
          let s = later is in record {
            before = x ∷ s.before;
            item = s.item;
            after = s.after;
            values = y ∷ s.values;
            parts_are = ap (λ l. x ∷ l) s.parts_are;
            earlier = rw (here, s.earlier) refl;
            refused = s.refused;
          }
