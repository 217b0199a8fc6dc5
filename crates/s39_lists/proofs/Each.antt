-- What a step gives of each element in turn, up to the first that is refused.
use Rattle.std.proofs.Common.{◌≡◌, ℕ, suc, ◌+◌, ◌<◌, List, [], ◌∷◌, ◌++◌, length, take, drop, map, get_or, All, Contains, Option, Some, None, Result, Ok, Err}
use Rattle.std.proofs.Common.{refl, sym, ap, ap₂, subst, ◌∙◌, arith}
use Rattle.std.specs.Option.{ok_or}
use Rattle.std.proofs.Math.Seq.{split_at}
use Rattle.std.proofs.lemmas.List.{take_more, length-take-le}
use Rattle.std.proofs.lemmas.List.Elements.{All-nil, All-cons, All-head, All-tail}
use Rattle.s39_lists.specs.Each.{and_then, before_others, each}
use Rattle.s39_lists.proofs.Sublists.{Contains-head, Contains-cons}

-- ---- one step after another

-- the steps of a value
pub record ThenGives {A B E : Type 0} (f : A → Result B E) (first : Result A E) (b : B) : Type 0 where
  pub a : A
  pub first_is : first ≡ Ok a
  pub then_is : f a ≡ Ok b

pub then_gives : {A B E : Type 0} (f : A → Result B E) (first : Result A E) (b : B) → and_then f first ≡ Ok b → ThenGives f first b
then_gives f (Ok a) b is = record { a = a; first_is = refl; then_is = is }
then_gives f (Err e) b is = absurd (cc)

-- a value that there is
pub from_ok_or : {A E : Type 0} (o : Option A) (e : E) (a : A) → ok_or o e ≡ Ok a → o ≡ Some a
from_ok_or None e a is = absurd (cc)
from_ok_or (Some b) e a is = let same : b ≡ a = cc in ap Some same

-- ---- each element

record Parts {B E : Type 0} (first : Result B E) (rest : Result (List B) E) (ys : List B) : Type 0 where
  b : B
  bs : List B
  first_is : first ≡ Ok b
  rest_is : rest ≡ Ok bs
  ys_are : ys ≡ b ∷ bs

parts : {B E : Type 0} (first : Result B E) (rest : Result (List B) E) (ys : List B) → before_others first rest ≡ Ok ys → Parts first rest ys
parts (Err e) rest ys is = absurd (cc)
parts (Ok b) (Err e) ys is = absurd (cc)
parts (Ok b) (Ok bs) ys is = record { b = b; bs = bs; first_is = refl; rest_is = refl; ys_are = (let s : b ∷ bs ≡ ys = cc in sym s) }

module _ {A B E : Type 0} (f : A → Result B E) where
  pub each-length : (xs : List A) (ys : List B) → each f xs ≡ Ok ys → length ys ≡ length xs
  each-length [] ys all = let none : [] ≡ ys = cc in sym (ap length none)
  each-length (x ∷ xs) ys all = let p = parts (f x) (each f xs) ys all in ap length p.ys_are ∙ ap suc (each-length xs p.bs p.rest_is)

  -- one element more
  pub each-push : (xs : List A) (x : A) (ys : List B) (y : B) → each f xs ≡ Ok ys → f x ≡ Ok y → each f (xs ++ x ∷ []) ≡ Ok (ys ++ y ∷ [])
  each-push [] x ys y all here = let none : [] ≡ ys = cc in rw (here, sym none) refl
  each-push (z ∷ zs) x ys y all here =
      let p = parts (f z) (each f zs) ys all in
      rw (p.first_is, each-push zs x p.bs y p.rest_is here) (ap (λ l. Ok (l ++ y ∷ [])) (sym p.ys_are))

  -- the first that is refused
  pub each-stop : (xs : List A) (x : A) (rest : List A) (ys : List B) (e : E) → each f xs ≡ Ok ys → f x ≡ Err e → each f (xs ++ x ∷ rest) ≡ Err e
  each-stop [] x rest ys e all here = rw here refl
  each-stop (z ∷ zs) x rest ys e all here =
      let p = parts (f z) (each f zs) ys all in
      rw (p.first_is, each-stop zs x rest p.bs e p.rest_is here) refl

  -- the same by places
  pub each-more : (xs : List A) (k : ℕ) (d : A) (ys : List B) (y : B) → k < length xs → each f (take k xs) ≡ Ok ys → f (get_or xs k d) ≡ Ok y
      → each f (take (k + 1) xs) ≡ Ok (ys ++ y ∷ [])
  each-more xs k d ys y below all here = ap (each f) (take_more xs k d below) ∙ each-push (take k xs) (get_or xs k d) ys y all here

  pub each-stops : (xs : List A) (k : ℕ) (d : A) (ys : List B) (e : E) → k < length xs → each f (take k xs) ≡ Ok ys → f (get_or xs k d) ≡ Err e
      → each f xs ≡ Err e
  each-stops xs k d ys e below all here =
      ap (each f) (split_at xs k d below) ∙ each-stop (take k xs) (get_or xs k d) (drop (suc k) xs) ys e all here

  pub each-few : (xs : List A) (k : ℕ) (ys : List B) → k < length xs → each f (take k xs) ≡ Ok ys → length ys ≡ k
  each-few xs k ys below all = each-length (take k xs) ys all ∙ length-take-le k xs (omega arith)

  -- if none is refused
  pub each-map : (g : A → B) (xs : List A) → All (λ x. f x ≡ Ok (g x)) xs → each f xs ≡ Ok (map g xs)
  each-map g [] all = refl
  each-map g (x ∷ xs) all =
      rw (All-head (λ z. f z ≡ Ok (g z)) x xs all, each-map g xs (All-tail (λ z. f z ≡ Ok (g z)) x xs all)) refl

  -- what holds of all that the step gives
  pub each-values : (Q : A → Type 0) (P : B → Type 0) → ((x : A) (y : B) → Q x → f x ≡ Ok y → P y) → (xs : List A) (ys : List B)
      → All Q xs → each f xs ≡ Ok ys → All P ys
  each-values Q P step [] ys of all = let none : [] ≡ ys = cc in subst (All P) none (All-nil P)
  each-values Q P step (x ∷ xs) ys of all =
      let p = parts (f x) (each f xs) ys all in
      subst (All P) (sym p.ys_are)
      (All-cons P p.b p.bs (step x p.b (All-head Q x xs of) p.first_is) (each-values Q P step xs p.bs (All-tail Q x xs of) p.rest_is))

  -- what stays as it is
  pub each-images : {C : Type 0} (h : B → C) (k : A → C) → ((x : A) (y : B) → f x ≡ Ok y → h y ≡ k x) → (xs : List A) (ys : List B)
      → each f xs ≡ Ok ys → map h ys ≡ map k xs
  each-images h k step [] ys all = let none : [] ≡ ys = cc in ap (map h) (sym none)
  each-images h k step (x ∷ xs) ys all =
      let p = parts (f x) (each f xs) ys all in
      ap (map h) p.ys_are ∙ ap₂ (λ c cs. c ∷ cs) (step x p.b p.first_is) (each-images h k step xs p.bs p.rest_is)

  -- the one that is refused is among them
  pub each-refuses : (xs : List A) (e : E) → each f xs ≡ Err e → (x : A) × Contains xs x × (f x ≡ Err e)
  each-refuses [] e refused = absurd (cc)
  each-refuses (x ∷ xs) e refused = by (f x) (each f xs) refl refused (λ later. each-refuses xs e later)
    where
      by : (first : Result B E) (rest : Result (List B) E) → f x ≡ first → before_others first rest ≡ Err e
          → (rest ≡ Err e → (z : A) × Contains xs z × (f z ≡ Err e)) → (z : A) × Contains (x ∷ xs) z × (f z ≡ Err e)
      by (Err d) rest here is later = let same : d ≡ e = cc in (x, Contains-head x xs, here ∙ ap Err same)
      by (Ok b) (Ok bs) here is later = absurd (cc)
      by (Ok b) (Err d) here is later =
          let (z, among, z_is) = later is in
          (z, Contains-cons x xs z among, z_is)
