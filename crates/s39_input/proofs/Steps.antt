-- Steps of which each has one result, or some result, have so one after the other.
use Rattle.std.proofs.Common.{◌≡◌, ap, sym, ◌∙◌, subst, refl, Result, Ok, Err}
use Rattle.s39_input.specs.Steps.{Then, gives, refuses}

-- at most one, and at least one
abbrev pub AtMostOne : {X : Type 0} → (X → Type 0) → Type 0
AtMostOne {X} Is = (x y : X) → Is x → Is y → x ≡ y

abbrev pub AtLeastOne : {X : Type 0} → (X → Type 0) → Type 0
AtLeastOne {X} Is = (x : X) × Is x

module _ {A E X : Type 0} (First : Result A E → Type 0) (refused : E → X) (Next : A → X → Type 0) where
  pub then_once : AtMostOne First → ((a : A) → First (Ok a) → AtMostOne (Next a)) → AtMostOne (Then First refused Next)
  then_once first next x y (gives a p n) (gives b q m) =
      let same = first (Ok a) (Ok b) p q in let here : b ≡ a = cc in next a p x y n (subst (λ c. Next c y) here m)
  then_once first next x y (gives a p n) (refuses e q is) = let other = first (Ok a) (Err e) p q in cc
  then_once first next x y (refuses e p is) (gives a q n) = let other = first (Err e) (Ok a) p q in cc
  then_once first next x y (refuses e p is) (refuses d q also) =
      let same = first (Err e) (Err d) p q in let cause : e ≡ d = cc in is ∙ ap refused cause ∙ sym also

  pub then_some : AtLeastOne First → ((a : A) → First (Ok a) → AtLeastOne (Next a)) → AtLeastOne (Then First refused Next)
  then_some (Ok a, p) next = let (x, n) = next a p in (x, gives a p n)
  then_some (Err e, p) next = (refused e, refuses e p refl)

  -- what the first step gives, the next goes on with
  pub then_next : AtMostOne First → (a : A) → First (Ok a) → (x : X) → Then First refused Next x → Next a x
  then_next first a p x (gives b q n) = let same = first (Ok a) (Ok b) p q in let here : b ≡ a = cc in subst (λ c. Next c x) here n
  then_next first a p x (refuses e q is) = let other = first (Ok a) (Err e) p q in absurd (cc)
