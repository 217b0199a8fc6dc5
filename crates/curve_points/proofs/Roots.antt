-- The x of a point of the curve is lifted to the point or to its opposite, whichever has an even y, and no other x is lifted.
use Rattle.std.proofs.Common.{◌≡◌, ◌≢◌, ℕ, ◌+◌, ◌*◌, ◌-◌, ◌/◌, ◌%◌, ◌^◌, ◌<◌, ◌==◌, ltb, Bool, true, false, cond, Option, Some, None, [], ◌∷◌, refl, sym, ap, ap₂, ◌∙◌, arith, inl, inr, subst, lit<}
use Rattle.std.proofs.lemmas.Bool.{cases_eq, eq-eqb, eqb-true, lt-ltb, ltb-true}
use Rattle.std.proofs.lemmas.Nat.{mul-pow, pow-mod, pow-add}
use Rattle.std.proofs.Math.Nat.{mod-eq_of_lt}
use Rattle.curve_field.specs.Field.{prime, power, ◌⊕◌, ◌⊖◌, ◌⊗◌}
use Rattle.curve_field.proofs.Powers.{power-add, power-one}
use Rattle.curve_algebra.proofs.Polynomials.{combined, same_values}
use Rattle.curve_algebra.proofs.Polynomials.Expression.{var, num, plus, times, less}
use Rattle.curve_algebra.proofs.Quotients.{power-inverse, product-not_zero}
use Rattle.curve_points.specs.declared.point.Affine.{Affine}
use Rattle.curve_points.specs.OnCurve.{IsOnCurve}
use Rattle.curve_points.specs.Lifted.{curve_at, root, even, lift_x}
use Rattle.curve_points.proofs.Doubled.{below, eqb_not}
use Rattle.curve_points.proofs.Added.{apart-difference}

-- ---- the power is a square root of a square

power-below : (x n : ℕ) → power x n < prime
unfolding power
power-below x n = below (x ^ n)

power-square : (y k : ℕ) → power (y ⊗ y) k ≡ power y (k + k)
unfolding power
power-square y k =
    pow-mod (y * y) k prime ∙ ap (λ n. n % prime) (mul-pow y y k ∙ sym (pow-add y k k))

regrouped : (i y : ℕ) → i < prime → y < prime → i ⊗ y ≡ 1 → i ⊗ ((y ⊗ y) ⊗ y) ≡ y ⊗ y
regrouped i y k l h =
    combined (i ∷ y ∷ []) (times (var 0) (times (times (var 1) (var 1)) (var 1))) (times (var 1) (var 1))
    (less (num 0) (times (var 1) (var 1))) (times (var 0) (var 1)) (num 1) (k, (l, tt)) h refl

-- y^(p+1) is y^2
whole_power : (y : ℕ) → y < prime → y ≢ 0 → power y (prime + 1) ≡ y ⊗ y
whole_power y l n =
    let nz : y % prime ≢ 0 = λ z. n (sym (mod-eq_of_lt l) ∙ z) in
    let one = power-one y l in
    let i = power y (prime - 2) in
    let three : power y 3 ≡ (y ⊗ y) ⊗ y =
    sym (power-add y 2 1) ∙ ap₂ (λ m k. m ⊗ k) (sym (power-add y 1 1) ∙ ap₂ (λ m k. m ⊗ k) (sym one) (sym one)) (sym one) in
    sym (power-add y (prime - 2) 3) ∙ ap (λ m. i ⊗ m) three ∙ regrouped i y (power-below y (prime - 2)) l (power-inverse y nz)

abbrev quarter : ℕ
quarter = (prime + 1) / 4

-- the square of the root is a power of y
root-square : (y : ℕ) → root (y ⊗ y) ⊗ root (y ⊗ y) ≡ power y (prime + 1)
root-square y =
    ap₂ (λ m k. m ⊗ k) (power-square y quarter) (power-square y quarter) ∙ power-add y (quarter + quarter) (quarter + quarter)

root_of_zero : (c : ℕ) → c ≡ 0 → root c ⊗ root c ≡ c
unfolding power
root_of_zero c e = rw e refl

rooted : (y c : ℕ) → y < prime → y ⊗ y ≡ c → root c ⊗ root c ≡ c
rooted y c l e =
    elim (cases_eq y 0) [
      | inl z ↦ root_of_zero c (sym e ∙ ap (λ k. k ⊗ k) z)
      | inr n ↦ ap (λ k. root k ⊗ root k) (sym e) ∙ root-square y ∙ whole_power y l n ∙ e
    ]

-- ---- two roots of one square

is_even : (n : ℕ) → n % 2 ≡ 0 → even n ≡ n
is_even n e = ap (λ b. cond b n (prime - n)) (eq-eqb (n % 2) 0 e)

is_odd : (n : ℕ) → n % 2 ≢ 0 → even n ≡ prime - n
is_odd n e = ap (λ b. cond b n (prime - n)) (eqb_not (n % 2) 0 e)

opposite : (r y : ℕ) → y < prime → y ≢ 0 → r ≡ prime - y → even r ≡ even y
opposite r y l n e =
    elim (cases_eq (y % 2) 0) [
      | inl z ↦
          let odd : r % 2 ≢ 0 = λ w. absurd (omega arith) in
          let back : prime - r ≡ y = omega arith in
          is_odd r odd ∙ back ∙ sym (is_even y z)
      | inr o ↦
          let ev : r % 2 ≡ 0 = omega arith in
          is_even r ev ∙ e ∙ sym (is_odd y o)
    ]

same_even : (r y : ℕ) → r < prime → y < prime → r ⊗ r ≡ y ⊗ y → even r ≡ even y
same_even r y k l e =
    let zero_product : (r ⊖ y) ⊗ (r ⊕ y) ≡ 0 =
    combined (r ∷ y ∷ []) (times (less (var 0) (var 1)) (plus (var 0) (var 1))) (num 0)
    (num 1) (times (var 1) (var 1)) (times (var 0) (var 0)) (k, (l, tt)) (sym e) refl in
    elim (cases_eq (r ⊕ y) 0) [
      | inl z ↦ elim (cases_eq y 0) [
        | inl yz ↦
            let w : (r + y) % prime ≡ 0 = z in
            let rz : r ≡ y = omega arith in
            ap even rz
        | inr yn ↦
            let w : (r + y) % prime ≡ 0 = z in
            let rp : r ≡ prime - y = omega arith in
            opposite r y l yn rp
      ]
      | inr n ↦ elim (cases_eq (r ⊖ y) 0) [
        | inl d ↦ ap even (sym (apart-difference y r l k d))
        | inr m ↦ absurd (product-not_zero (r ⊖ y) (r ⊕ y) (below (r + (prime - y))) (below (r + y)) m n zero_product)
      ]
    ]

pub lifted : (a : Affine) → IsOnCurve a → lift_x a.x ≡ Some (record { x = a.x; y = even a.y })
unfolding lift_x
lifted a on =
    let c = curve_at a.x in
    let point : ℕ → Option Affine = λ y. Some (record { x = a.x; y = y }) in
    let e = rooted a.y c on.y_below on.equation in
    ap (λ b. cond b (cond (root c ⊗ root c == c) (point (even (root c))) None) None) (lt-ltb a.x prime on.x_below)
    ∙ ap (λ b. cond b (point (even (root c))) None) (eq-eqb (root c ⊗ root c) c e)
    ∙ ap point (same_even (root c) a.y (power-below c quarter) on.y_below (e ∙ sym on.equation))

-- ---- what is lifted is on the curve

opposite-square : (y : ℕ) → y < prime → (0 ⊖ y) ⊗ (0 ⊖ y) ≡ y ⊗ y
opposite-square y l =
    same_values prime (y ∷ []) (times (less (num 0) (var 0)) (less (num 0) (var 0))) (times (var 0) (var 0)) (lit< tt) (l, tt) refl

pub record IsEvenRoot (c y : ℕ) : Type 0 where
  pub below : y < prime
  pub square : y ⊗ y ≡ c
  pub even : y % 2 ≡ 0

even-root : (y c : ℕ) → y < prime → y ⊗ y ≡ c → IsEvenRoot c (even y)
even-root y c l e =
    elim (cases_eq (y % 2) 0) [
      | inl z ↦ rw (is_even y z) (record { below = l; square = e; even = z })
      | inr o ↦
          let same : prime - y ≡ 0 ⊖ y = omega arith in
          let at : even y ≡ 0 ⊖ y = is_odd y o ∙ same in
          let evenness : (0 ⊖ y) % 2 ≡ 0 = omega arith in
          rw at (record { below = below (0 + (prime - y)); square = opposite-square y l ∙ e; even = evenness })
    ]

pub record IsLifted (x : ℕ) (a : Affine) : Type 0 where
  pub on_curve : IsOnCurve a
  pub same_x : a.x ≡ x
  pub even : a.y % 2 ≡ 0

guarded : (b c : Bool) (p a : Affine) → cond b (cond c (Some p) None) None ≡ Some a → (b ≡ true) × (c ≡ true) × (p ≡ a)
guarded true true p a h = (refl, refl, cc)
guarded true false p a h = absurd (cc)
guarded false c p a h = absurd (cc)

point_is : (x y : ℕ) (a : Affine) → x < prime → IsEvenRoot (curve_at x) y → record { x = x; y = y } ≡ a → IsLifted x a
point_is x y a l is e =
    subst (IsLifted x) e
    (record { on_curve = record { x_below = l; y_below = is.below; equation = is.square }; same_x = refl; even = is.even })

pub only : (x : ℕ) (a : Affine) → lift_x x ≡ Some a → IsLifted x a
unfolding lift_x
only x a h =
    let c = curve_at x in
    let tests = guarded (ltb x prime) (root c ⊗ root c == c) _ a h in
    point_is x (even (root c)) a (ltb-true x prime tests.0)
    (even-root (root c) c (power-below c quarter) (eqb-true (root c ⊗ root c) c tests.1)) tests.2
