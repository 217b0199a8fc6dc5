-- The sum in Jacobian coordinates, and what the coordinates are at the end.
use Rattle.std.proofs.Common.{◌≡◌, ◌≢◌, ℕ, ◌+◌, ◌*◌, ◌-◌, ◌%◌, ◌^◌, ◌<◌, ◌==◌, [], ◌∷◌, Bool, true, false, refl, sym, ap, ap₂, ◌∙◌, arith, inl, inr, lit<}
use Rattle.std.proofs.lemmas.Bool.{cases_eq, eq-eqb, eqb-true}
use Rattle.std.proofs.Math.Nat.{mod-eq_of_lt}
use Rattle.curve_field.specs.Field.{prime, power, ◌⊖◌, ◌⊗◌}
use Rattle.curve_algebra.proofs.Polynomials.{Expression, AllBelow, combined, same_values}
use Rattle.curve_algebra.proofs.Polynomials.Expression.{var, num, plus, times, less}
use Rattle.curve_algebra.proofs.Quotients.{inverse-law, product-not_zero}
use Rattle.curve_points.specs.declared.point.Affine.{Affine}
use Rattle.curve_points.specs.declared.point.Point.{Point}
use Rattle.curve_points.specs.declared.point.Point.TheVariants.{Infinity, Finite}
use Rattle.curve_points.specs.Points.{sum_of, quotient, on_line}
use Rattle.curve_points.specs.Jacobian.{IsScaled, IsJacobian, added_h, added_r, added_x, added_y}
use Rattle.curve_points.proofs.Doubled.{quotient-law, below, eqb_not}

-- x, y, z of the point, x and y of the other, the slope
abbrev a : Expression
a = var 0

abbrev b : Expression
b = var 1

abbrev c : Expression
c = var 2

abbrev d : Expression
d = var 3

abbrev e : Expression
e = var 4

abbrev s : Expression
s = var 5

abbrev X : Expression
X = times a (times c c)

abbrev Y : Expression
Y = times b (times c (times c c))

abbrev H : Expression
H = less (times d (times c c)) X

abbrev R : Expression
R = less (times e (times (times c c) c)) Y

abbrev HH : Expression
HH = times H H

abbrev HHH : Expression
HHH = times HH H

abbrev V : Expression
V = times X HH

abbrev X3 : Expression
X3 = less (less (times R R) HHH) (plus V V)

abbrev Y3 : Expression
Y3 = less (times R (less V X3)) (times Y HHH)

abbrev Z3 : Expression
Z3 = times c H

abbrev x3 : Expression
x3 = less (less (times s s) a) d

abbrev y3 : Expression
y3 = less (times s (less a x3)) b

abbrev A : Expression
A = times s (less d a)

abbrev B : Expression
B = less e b

abbrev c3 : Expression
c3 = times c (times c c)

abbrev factor_x : Expression
factor_x = times (plus A B) (times c3 c3)

abbrev factor_y : Expression
factor_y = times (times c3 (times c3 c3))
    (less (times (times (less d a) (less d a)) (plus (plus a a) d)) (plus (plus (times A A) (times A B)) (times B B)))

difference-scaled : (x y z x2 : ℕ) → x < prime → z < prime → x2 < prime → added_h (x ⊗ (z ⊗ z)) z x2 ≡ (x2 ⊖ x) ⊗ (z ⊗ z)
difference-scaled x y z x2 p r t =
    same_values prime (x ∷ z ∷ x2 ∷ [])
    (less (times (var 2) (times (var 1) (var 1))) (times (var 0) (times (var 1) (var 1))))
    (times (less (var 2) (var 0)) (times (var 1) (var 1)))
    (lit< tt) (p, (r, (t, tt))) refl

rise-scaled : (y z y2 : ℕ) → y < prime → z < prime → y2 < prime → added_r (y ⊗ (z ⊗ (z ⊗ z))) z y2 ≡ (y2 ⊖ y) ⊗ (z ⊗ (z ⊗ z))
rise-scaled y z y2 p r t =
    same_values prime (y ∷ z ∷ y2 ∷ [])
    (less (times (var 2) (times (times (var 1) (var 1)) (var 1))) (times (var 0) (times (var 1) (times (var 1) (var 1)))))
    (times (less (var 2) (var 0)) (times (var 1) (times (var 1) (var 1))))
    (lit< tt) (p, (r, (t, tt))) refl

pub apart-difference : (x x2 : ℕ) → x < prime → x2 < prime → x2 ⊖ x ≡ 0 → x ≡ x2
apart-difference x x2 p q h =
    let z : (x2 + (prime - x)) % prime ≡ 0 = h in
    omega arith

no_difference : (x w : ℕ) → x < prime → (x ⊖ x) ⊗ w ≡ 0
no_difference x w p =
    let z : (x + (prime - x)) % prime ≡ 0 = omega arith in
    ap (λ y. y ⊗ w) z ∙ zero_times w
  where
    zero_times : (w : ℕ) → 0 ⊗ w ≡ 0
    zero_times w = omega arith

-- A scaled difference is 0 exactly where the numbers are equal.
pub equal_from : (x x2 w : ℕ) → x < prime → x2 < prime → w < prime → w ≢ 0 → (x2 ⊖ x) ⊗ w ≡ 0 → x ≡ x2
equal_from x x2 w p q r nz h =
    elim (cases_eq (x2 ⊖ x) 0) [
      | inl zero ↦ apart-difference x x2 p q zero
      | inr other ↦ absurd (product-not_zero (x2 ⊖ x) w (below (x2 + (prime - x))) r other nz h)
    ]

pub on_chord : (p o : Affine) → p.x ≢ o.x
    → sum_of (Finite p) (Finite o) ≡ on_line p.x p.y o.x (quotient (o.y ⊖ p.y) (o.x ⊖ p.x))
on_chord p o h = simp (eqb_not p.x o.x h)

identities : (x y z x2 y2 slope : ℕ) → x < prime → y < prime → z < prime → x2 < prime → y2 < prime → slope < prime
    → slope ⊗ (x2 ⊖ x) ≡ y2 ⊖ y
    → let X1 : ℕ = x ⊗ (z ⊗ z) in let Y1 : ℕ = y ⊗ (z ⊗ (z ⊗ z)) in
    let h : ℕ = added_h X1 z x2 in let r : ℕ = added_r Y1 z y2 in
    let x' : ℕ = ((slope ⊗ slope) ⊖ x) ⊖ x2 in let z' : ℕ = z ⊗ h in
    (added_x X1 h r ≡ x' ⊗ (z' ⊗ z')) × (added_y X1 Y1 h r ≡ ((slope ⊗ (x ⊖ x')) ⊖ y) ⊗ (z' ⊗ (z' ⊗ z')))
identities x y z x2 y2 slope p q r t u v h =
    let xs = x ∷ y ∷ z ∷ x2 ∷ y2 ∷ slope ∷ [] in
    let small : AllBelow prime xs = (p, (q, (r, (t, (u, (v, tt)))))) in (
      combined xs X3 (times x3 (times Z3 Z3)) factor_x A B small h refl,
      combined xs Y3 (times y3 (times Z3 (times Z3 Z3))) factor_y A B small h refl,
    )

added_finite : (p o : Affine) (Z : ℕ) → p.x < prime → p.y < prime → Z < prime → o.x < prime → o.y < prime → Z ≢ 0 → p.x ≢ o.x
    → let X1 : ℕ = p.x ⊗ (Z ⊗ Z) in let Y1 : ℕ = p.y ⊗ (Z ⊗ (Z ⊗ Z)) in
    let h : ℕ = added_h X1 Z o.x in let r : ℕ = added_r Y1 Z o.y in
    h ≢ 0
    → IsJacobian (added_x X1 h r) (added_y X1 Y1 h r) (Z ⊗ h) (on_line p.x p.y o.x (quotient (o.y ⊖ p.y) (o.x ⊖ p.x)))
added_finite p o Z lx ly lz ox oy nz apart h_nz =
    let dx = o.x ⊖ p.x in
    let dy = o.y ⊖ p.y in
    let slope = quotient dy dx in
    let ls : slope < prime = below (dy * power dx (prime - 2)) in
    let ldx : dx < prime = below (o.x + (prime - p.x)) in
    let nzd : dx % prime ≢ 0 = λ z. apart (apart-difference p.x o.x lx ox (sym (mod-eq_of_lt ldx) ∙ z)) in
    let law : slope ⊗ dx ≡ dy = quotient-law dy dx (below (o.y + (prime - p.y))) nzd in
    let both = identities p.x p.y Z o.x o.y slope lx ly lz ox oy ls law in
    let h = added_h (p.x ⊗ (Z ⊗ Z)) Z o.x in
    record {
      x_below = below (((slope ⊗ slope) ⊖ p.x) + (prime - o.x));
      y_below = below ((slope ⊗ (p.x ⊖ (((slope ⊗ slope) ⊖ p.x) ⊖ o.x))) + (prime - p.y));
      z_below = below (Z * h);
      z_not_zero = product-not_zero Z h lz (below ((o.x ⊗ (Z ⊗ Z)) + (prime - (p.x ⊗ (Z ⊗ Z))))) nz h_nz;
      x_is = both.0;
      y_is = both.1;
    }

pub added : (X1 Y1 Z : ℕ) (p : Point) (o : Affine) → o.x < prime → o.y < prime → Z ≢ 0 → added_h X1 Z o.x ≢ 0 → IsJacobian X1 Y1 Z p
    → IsJacobian (added_x X1 (added_h X1 Z o.x) (added_r Y1 Z o.y)) (added_y X1 Y1 (added_h X1 Z o.x) (added_r Y1 Z o.y))
    (Z ⊗ added_h X1 Z o.x) (sum_of p (Finite o))
added X1 Y1 Z Infinity o ox oy nz h_nz h = absurd (nz h)
added X1 Y1 Z (Finite p) o ox oy nz h_nz h =
    let h_nz' : added_h (p.x ⊗ (Z ⊗ Z)) Z o.x ≢ 0 = rw h.x_is at h_nz in
    let apart : p.x ≢ o.x = λ e. h_nz'
    (difference-scaled p.x p.y Z o.x h.x_below h.z_below ox
    ∙ ap (λ x. (x ⊖ p.x) ⊗ (Z ⊗ Z)) (sym e) ∙ no_difference p.x (Z ⊗ Z) h.x_below) in
    rw (on_chord p o apart, h.x_is, h.y_is) (added_finite p o Z h.x_below h.y_below h.z_below ox oy nz apart h_nz')

-- at one x
same_x : (p o : Affine) (X1 Y1 Z : ℕ) → o.x < prime → added_h X1 Z o.x ≡ 0 → IsScaled X1 Y1 Z p.x p.y → p.x ≡ o.x
same_x p o X1 Y1 Z ox e h =
    equal_from p.x o.x (Z ⊗ Z) h.x_below ox (below (Z * Z))
    (product-not_zero Z Z h.z_below h.z_below h.z_not_zero h.z_not_zero)
    (sym (difference-scaled p.x p.y Z o.x h.x_below h.z_below ox) ∙ ap (λ w. added_h w Z o.x) (sym h.x_is) ∙ e)

cube-not_zero : (Z : ℕ) → Z < prime → Z ≢ 0 → Z ⊗ (Z ⊗ Z) ≢ 0
cube-not_zero Z l n = product-not_zero Z (Z ⊗ Z) l (below (Z * Z)) n (product-not_zero Z Z l l n n)

pub added_same : (X1 Y1 Z : ℕ) (p : Point) (o : Affine) → o.x < prime → o.y < prime → Z ≢ 0 → added_h X1 Z o.x ≡ 0 → added_r Y1 Z o.y ≡ 0
    → IsJacobian X1 Y1 Z p → sum_of p (Finite o) ≡ sum_of p p
added_same X1 Y1 Z Infinity o ox oy nz e f h = absurd (nz h)
added_same X1 Y1 Z (Finite p) o ox oy nz e f h =
    let same_y = equal_from p.y o.y (Z ⊗ (Z ⊗ Z)) h.y_below oy (below (Z * (Z ⊗ Z))) (cube-not_zero Z h.z_below nz)
    (sym (rise-scaled p.y Z o.y h.y_below h.z_below oy) ∙ ap (λ w. added_r w Z o.y) (sym h.y_is) ∙ f) in
    ap₂ (λ x y. sum_of (Finite p) (Finite (record { x = x; y = y }))) (sym (same_x p o X1 Y1 Z ox e h)) (sym same_y)

-- the two are one point
pub added_equal : (X1 Y1 Z : ℕ) (p : Point) (o : Affine) → o.x < prime → o.y < prime → Z ≢ 0 → added_h X1 Z o.x ≡ 0 → added_r Y1 Z o.y ≡ 0
    → IsJacobian X1 Y1 Z p → p ≡ Finite o
added_equal X1 Y1 Z Infinity o ox oy nz e f h = absurd (nz h)
added_equal X1 Y1 Z (Finite p) o ox oy nz e f h =
    let same_y = equal_from p.y o.y (Z ⊗ (Z ⊗ Z)) h.y_below oy (below (Z * (Z ⊗ Z))) (cube-not_zero Z h.z_below nz)
    (sym (rise-scaled p.y Z o.y h.y_below h.z_below oy) ∙ ap (λ w. added_r w Z o.y) (sym h.y_is) ∙ f) in
    ap₂ (λ x y. Finite (record { x = x; y = y })) (same_x p o X1 Y1 Z ox e h) same_y

pub added_opposite : (X1 Y1 Z : ℕ) (p : Point) (o : Affine) → o.x < prime → o.y < prime → Z ≢ 0 → added_h X1 Z o.x ≡ 0 → added_r Y1 Z o.y ≢ 0
    → IsJacobian X1 Y1 Z p → sum_of p (Finite o) ≡ Infinity
added_opposite X1 Y1 Z Infinity o ox oy nz e f h = absurd (nz h)
added_opposite X1 Y1 Z (Finite p) o ox oy nz e f h =
    let other : p.y ≢ o.y = λ g. f
    (ap (λ w. added_r w Z o.y) h.y_is
    ∙ rise-scaled p.y Z o.y h.y_below h.z_below oy
    ∙ ap (λ y. (y ⊖ p.y) ⊗ (Z ⊗ (Z ⊗ Z))) (sym g) ∙ no_difference p.y (Z ⊗ (Z ⊗ Z)) h.y_below) in
    simp (eq-eqb p.x o.x (same_x p o X1 Y1 Z ox e h), eqb_not p.y o.y other)

-- ---- at the end

power-below : (x n : ℕ) → power x n < prime
unfolding power
power-below x n = below (x ^ n)

unscaled : (x y z w : ℕ) → x < prime → y < prime → z < prime → w < prime → w ⊗ z ≡ 1
    → ((x ⊗ (z ⊗ z)) ⊗ (w ⊗ w) ≡ x) × ((y ⊗ (z ⊗ (z ⊗ z))) ⊗ ((w ⊗ w) ⊗ w) ≡ y)
unscaled x y z w p q r t h =
    let xs = x ∷ y ∷ z ∷ w ∷ [] in
    let small : AllBelow prime xs = (p, (q, (r, (t, tt)))) in
    let P = times (var 3) (var 2) in (
      combined xs (times X (times (var 3) (var 3))) (var 0)
          (less (num 0) (times (var 0) (plus P (num 1)))) P (num 1) small h refl,
      combined xs (times Y (times (times (var 3) (var 3)) (var 3))) (var 1)
          (less (num 0) (times (var 1) (plus (plus (times P P) P) (num 1)))) P (num 1) small h refl,
    )

pub finished : (X1 Y1 Z : ℕ) (p : Point) → Z ≢ 0 → IsJacobian X1 Y1 Z p
    → let w : ℕ = power Z (prime - 2) in
    Finite (record { x = X1 ⊗ (w ⊗ w); y = Y1 ⊗ ((w ⊗ w) ⊗ w) }) ≡ p
finished X1 Y1 Z Infinity nz h = absurd (nz h)
finished X1 Y1 Z (Finite p) nz h =
    let w = power Z (prime - 2) in
    let both = unscaled p.x p.y Z w h.x_below h.y_below h.z_below (power-below Z (prime - 2)) (inverse-law Z h.z_below nz) in
    ap₂ (λ x y. Finite (record { x = x; y = y }))
    (ap (λ v. v ⊗ (w ⊗ w)) h.x_is ∙ both.0)
    (ap (λ v. v ⊗ ((w ⊗ w) ⊗ w)) h.y_is ∙ both.1)

-- ---- tests

pub yes : (x y : ℕ) (t : Bool) → y ≡ 0 → t ≡ (x == y) → t ≡ true → x ≡ 0
yes x y t z h e = eqb-true x y (sym h ∙ e) ∙ z

pub no : (x y : ℕ) (t : Bool) → y ≡ 0 → t ≡ (x == y) → t ≡ false → x ≢ 0
no x y t z h e f = differ (sym e ∙ h ∙ eq-eqb x y (f ∙ sym z))
  where
    differ : false ≡ true → ⊥
    differ g = cc
