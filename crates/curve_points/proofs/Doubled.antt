-- Doubling in Jacobian coordinates gives the double.
use Rattle.std.proofs.Common.{◌≡◌, ◌≢◌, ℕ, ◌+◌, ◌*◌, ◌-◌, ◌%◌, ◌<◌, [], ◌∷◌, false, eqb, refl, sym, ap, ◌∙◌, arith, inl, inr}
use Rattle.std.proofs.lemmas.Bool.{cases_eq, eq-eqb}
use Rattle.std.proofs.lemmas.Bool.Decides.{eqb_tells}
use Rattle.std.proofs.lemmas.Nat.{mul-mod_first}
use Rattle.std.proofs.Math.Nat.{mod-eq_of_lt}
use Rattle.curve_field.specs.Field.{prime, power, ◌⊕◌, ◌⊖◌, ◌⊗◌}
use Rattle.curve_algebra.proofs.Polynomials.{Expression, combined, times_both, reordered}
use Rattle.curve_algebra.proofs.Polynomials.Expression.{var, num, plus, times, less}
use Rattle.curve_algebra.proofs.Quotients.{power-inverse, product-not_zero}
use Rattle.curve_points.specs.declared.point.Affine.{Affine}
use Rattle.curve_points.specs.declared.point.Point.{Point}
use Rattle.curve_points.specs.declared.point.Point.TheVariants.{Infinity, Finite}
use Rattle.curve_points.specs.Points.{sum_of, quotient, on_line}
use Rattle.curve_points.specs.Jacobian.{IsJacobian, doubled_x, doubled_y, doubled_z}

quotient_from : (n a b w : ℕ) → 1 < n → a < n → (w * b) % n ≡ 1 → ((a * w) % n * b) % n ≡ a
quotient_from n a b w h l e =
    mul-mod_first (a * w) b n
    ∙ reordered n (regrouped a w b)
    ∙ times_both n a a (w * b) 1 refl (e ∙ sym (mod-eq_of_lt h))
    ∙ reordered n (omega arith) ∙ mod-eq_of_lt l
  where
    regrouped : (a w b : ℕ) → a * w * b ≡ a * (w * b)
    regrouped a w b = omega arith

-- The quotient times the divisor is the dividend.
pub quotient-law : (a b : ℕ) → a < prime → b % prime ≢ 0 → quotient a b ⊗ b ≡ a
quotient-law a b l h = quotient_from prime a b (power b (prime - 2)) (omega arith) l (power-inverse b h)

pub below : (a : ℕ) → a % prime < prime
below a = omega arith

pub double-not_zero : (a : ℕ) → a < prime → a ≢ 0 → a ⊕ a ≢ 0
double-not_zero a l h e =
    let ne : a ≡ 0 → ⊥ = h in
    let z : (a + a) % prime ≡ 0 = e in
    omega arith

-- ---- the identities

abbrev x : Expression
x = var 0

abbrev y : Expression
y = var 1

abbrev z : Expression
z = var 2

abbrev slope : Expression
slope = var 3

abbrev X : Expression
X = times x (times z z)

abbrev Y : Expression
Y = times y (times z (times z z))

abbrev two : Expression → Expression
two a = plus a a

abbrev M : Expression
M = plus (two (times X X)) (times X X)

abbrev S : Expression
S = two (two (times X (times Y Y)))

abbrev X' : Expression
X' = less (times M M) (two S)

abbrev Y' : Expression
Y' = less (times M (less S X')) (two (two (two (times (times Y Y) (times Y Y)))))

abbrev Z' : Expression
Z' = two (times Y z)

abbrev x' : Expression
x' = less (less (times slope slope) x) x

abbrev y' : Expression
y' = less (times slope (less x x')) y

abbrev A : Expression
A = times slope (plus y y)

abbrev B : Expression
B = times (num 3) (times x x)

abbrev z4 : Expression
z4 = times (times z z) (times z z)

abbrev z8 : Expression
z8 = times z4 z4

identity_x : (a b c s : ℕ) → a < prime → b < prime → c < prime → s < prime → s ⊗ (b ⊕ b) ≡ 3 ⊗ (a ⊗ a)
    → let x3 : ℕ = ((s ⊗ s) ⊖ a) ⊖ a in let Z3 : ℕ = doubled_z (b ⊗ (c ⊗ (c ⊗ c))) c in
    doubled_x (a ⊗ (c ⊗ c)) (b ⊗ (c ⊗ (c ⊗ c))) ≡ x3 ⊗ (Z3 ⊗ Z3)
identity_x a b c s p q r t h =
    combined (a ∷ b ∷ c ∷ s ∷ []) X' (times x' (times Z' Z')) (times (plus A B) z8) A B (p, (q, (r, (t, tt)))) h refl

identity_y : (a b c s : ℕ) → a < prime → b < prime → c < prime → s < prime → s ⊗ (b ⊕ b) ≡ 3 ⊗ (a ⊗ a)
    → let x3 : ℕ = ((s ⊗ s) ⊖ a) ⊖ a in let Z3 : ℕ = doubled_z (b ⊗ (c ⊗ (c ⊗ c))) c in
    doubled_y (a ⊗ (c ⊗ c)) (b ⊗ (c ⊗ (c ⊗ c))) ≡ ((s ⊗ (a ⊖ x3)) ⊖ b) ⊗ (Z3 ⊗ (Z3 ⊗ Z3))
identity_y a b c s p q r t h =
    combined (a ∷ b ∷ c ∷ s ∷ []) Y' (times y' (times Z' (times Z' Z')))
    (times (times z8 z4) (less (times (num 12) (times x (times y y))) (plus (plus (times A A) (times A B)) (times B B))))
    A B (p, (q, (r, (t, tt)))) h refl

-- ---- the sum of a point and itself

pub eqb_not : (a b : ℕ) → a ≢ b → eqb a b ≡ false
eqb_not a b n = elim (eqb_tells a b) [ inl t ↦ absurd (n t.1) | inr t ↦ t.0 ]

pub on_itself : (a : Affine) → a.y ≢ 0
    → sum_of (Finite a) (Finite a) ≡ on_line a.x a.y a.x (quotient (3 ⊗ (a.x ⊗ a.x)) (a.y ⊕ a.y))
on_itself a h = simp (eq-eqb a.x a.x refl, eq-eqb a.y a.y refl, eqb_not a.y 0 h)

pub itself_infinite : (a : Affine) → a.y ≡ 0 → sum_of (Finite a) (Finite a) ≡ Infinity
itself_infinite a h = simp (eq-eqb a.x a.x refl, eq-eqb a.y a.y refl, eq-eqb a.y 0 h)

zero_product : (Y : ℕ) → (Y ⊗ 0) ⊕ (Y ⊗ 0) ≡ 0
zero_product Y = omega arith

product_zero : (Y Z : ℕ) → Y ≡ 0 → (Y ⊗ Z) ⊕ (Y ⊗ Z) ≡ 0
product_zero Y Z h = rw h (omega arith)

-- Y isn't 0 if y isn't
scaled-not_zero : (y Z : ℕ) → y < prime → Z < prime → y ≢ 0 → Z ≢ 0 → y ⊗ (Z ⊗ (Z ⊗ Z)) ≢ 0
scaled-not_zero y Z l k h i =
    product-not_zero y (Z ⊗ (Z ⊗ Z)) l (below (Z * (Z ⊗ Z))) h
    (product-not_zero Z (Z ⊗ Z) k (below (Z * Z)) i (product-not_zero Z Z k k i i))

doubled_finite : (x y Z : ℕ) → x < prime → y < prime → Z < prime → y ≢ 0 → Z ≢ 0
    → let X : ℕ = x ⊗ (Z ⊗ Z) in let Y : ℕ = y ⊗ (Z ⊗ (Z ⊗ Z)) in
    IsJacobian (doubled_x X Y) (doubled_y X Y) (doubled_z Y Z)
    (on_line x y x (quotient (3 ⊗ (x ⊗ x)) (y ⊕ y)))
doubled_finite a b c p q r h k =
    let s = quotient (3 ⊗ (a ⊗ a)) (b ⊕ b) in
    let t : s < prime = below ((3 ⊗ (a ⊗ a)) * power (b ⊕ b) (prime - 2)) in
    let nz : (b ⊕ b) % prime ≢ 0 = λ z. double-not_zero b q h (sym (mod-eq_of_lt (below (b + b))) ∙ z) in
    let law : s ⊗ (b ⊕ b) ≡ 3 ⊗ (a ⊗ a) = quotient-law (3 ⊗ (a ⊗ a)) (b ⊕ b) (below (3 * (a ⊗ a))) nz in
    let Y3 = b ⊗ (c ⊗ (c ⊗ c)) in
    let y_nz = scaled-not_zero b c q r h k in
    record {
      x_below = below ((((s ⊗ s) ⊖ a)) + (prime - a));
      y_below = below ((s ⊗ (a ⊖ (((s ⊗ s) ⊖ a) ⊖ a))) + (prime - b));
      z_below = below ((Y3 ⊗ c) + (Y3 ⊗ c));
      z_not_zero = double-not_zero (Y3 ⊗ c) (below (Y3 * c)) (product-not_zero Y3 c (below (b * (c ⊗ (c ⊗ c)))) r y_nz k);
      x_is = identity_x a b c s p q r t law;
      y_is = identity_y a b c s p q r t law;
    }

pub doubled : (X Y Z : ℕ) (p : Point) → IsJacobian X Y Z p
    → IsJacobian (doubled_x X Y) (doubled_y X Y) (doubled_z Y Z) (sum_of p p)
doubled X Y Z Infinity h = rw h (zero_product Y)
doubled X Y Z (Finite a) h =
    elim (cases_eq a.y 0) [
      | inl none ↦
          let y_zero : Y ≡ 0 = h.y_is ∙ ap (λ y. y ⊗ (Z ⊗ (Z ⊗ Z))) none ∙ zero_times (Z ⊗ (Z ⊗ Z)) in
          rw (itself_infinite a none) (product_zero Y Z y_zero)
      | inr some ↦
          rw (on_itself a some, h.x_is, h.y_is) (doubled_finite a.x a.y Z h.x_below h.y_below h.z_below some h.z_not_zero)
    ]
  where
    zero_times : (w : ℕ) → 0 ⊗ w ≡ 0
    zero_times w = omega arith
