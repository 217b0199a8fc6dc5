-- What a search of a list finds.
use Rattle.std.proofs.Common.{◌≡◌, suc, Bool, true, false, List, [], ◌∷◌, ◌++◌, find, All, Contains, Option, Some, None}
use Rattle.std.proofs.Common.{inl, inr, refl, sym, ap, ◌∙◌, arith, cond}
use Rattle.std.specs.Prelude.{IfSome}
use Rattle.std.proofs.lemmas.Bool.{cond-true, cond-false, cases_Bool}
use Rattle.std.proofs.lemmas.List.Elements.{All-nil, All-cons, All-head, All-tail}

pub IfSome-map : {X : Type 0} (P Q : X → Type 0) (o : Option X) → ((x : X) → P x → Q x) → IfSome o P → IfSome o Q
IfSome-map P Q None f h = h
IfSome-map P Q (Some x) f h = f x h

-- equal optional values hold equal values
pub some_same : {X : Type 0} (x y : X) → Some x ≡ Some y → x ≡ y
some_same x y e = cc

module _ {X : Type 0} (test : X → Bool) where
  -- none passes
  pub find-none : (xs : List X) → All (λ x. test x ≡ false) xs → find test xs ≡ None
  find-none [] h = refl
  find-none (x ∷ xs) h =
      cond-false (test x) (Some x) (find test xs) (All-head (λ y. test y ≡ false) x xs h)
      ∙ find-none xs (All-tail (λ y. test y ≡ false) x xs h)

  pub none-passes : (xs : List X) → find test xs ≡ None → All (λ x. test x ≡ false) xs
  none-passes [] h = All-nil (λ x. test x ≡ false)
  none-passes (x ∷ xs) h =
      elim (cases_Bool (test x)) [
        | inl passes ↦ absurd (let found : Some x ≡ None = sym (cond-true (test x) (Some x) (find test xs) passes) ∙ h in cc)
        | inr fails ↦ All-cons (λ y. test y ≡ false) x xs fails (none-passes xs (sym (cond-false (test x) (Some x) (find test xs) fails) ∙ h))
      ]

  -- what is found passes, and is in the list
  pub find-passes : (xs : List X) (x : X) → find test xs ≡ Some x → test x ≡ true
  find-passes [] x h = absurd (let e : None ≡ Some x = h in cc)
  find-passes (y ∷ ys) x h =
      elim (cases_Bool (test y)) [
        | inl passes ↦ (let same : Some y ≡ Some x = sym (cond-true (test y) (Some y) (find test ys) passes) ∙ h in let e : y ≡ x = cc in rw (← e) passes)
        | inr fails ↦ find-passes ys x (sym (cond-false (test y) (Some y) (find test ys) fails) ∙ h)
      ]

  pub Contains-find : (xs : List X) (x : X) → find test xs ≡ Some x → Contains xs x
  Contains-find [] x h = absurd (let e : None ≡ Some x = h in cc)
  Contains-find (y ∷ ys) x h =
      elim (cases_Bool (test y)) [
        | inl passes ↦ (let same : Some y ≡ Some x = sym (cond-true (test y) (Some y) (find test ys) passes) ∙ h in let e : y ≡ x = cc in (0, omega arith, e))
        | inr fails ↦ (let rest = Contains-find ys x (sym (cond-false (test y) (Some y) (find test ys) fails) ∙ h) in (suc rest.0, omega arith, rest.2))
      ]

  -- one more that doesn't pass changes nothing
  pub find-insert_other : (before after : List X) (x : X) → test x ≡ false → find test (before ++ x ∷ after) ≡ find test (before ++ after)
  find-insert_other [] after x fails = cond-false (test x) (Some x) (find test after) fails
  find-insert_other (y ∷ before) after x fails = ap (λ o. cond (test y) (Some y) o) (find-insert_other before after x fails)
