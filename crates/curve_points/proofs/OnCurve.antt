-- Sums of points of the curve are points of the curve.
use Rattle.std.proofs.Common.{◌≡◌, ◌≢◌, ℕ, zero, suc, ◌+◌, ◌*◌, ◌-◌, ◌/◌, ◌%◌, ◌<◌, ◌==◌, true, false, cond, [], ◌∷◌, refl, sym, ap₂, ◌∙◌, inl, inr, subst, lit<}
use Rattle.std.proofs.lemmas.Bool.{cases_eq, eq-eqb}
use Rattle.std.proofs.Math.Nat.{mod-eq_of_lt}
use Rattle.curve_field.specs.Field.{prime, power, ◌⊕◌, ◌⊖◌, ◌⊗◌}
use Rattle.curve_algebra.proofs.Polynomials.{Expression, AllBelow, combined}
use Rattle.curve_algebra.proofs.Polynomials.Expression.{var, num, plus, times, less}
use Rattle.curve_points.specs.declared.point.Affine.{Affine}
use Rattle.curve_points.specs.declared.point.Point.{Point}
use Rattle.curve_points.specs.declared.point.Point.TheVariants.{Infinity, Finite}
use Rattle.curve_points.specs.Points.{sum_of, quotient, on_line, generator_x, generator_y}
use Rattle.curve_points.specs.Multiples.{multiple, next_multiple, public_point}
use Rattle.curve_points.specs.OnCurve.{IsOnCurve, IsCurvePoint}
use Rattle.curve_points.proofs.Doubled.{quotient-law, below, double-not_zero, eqb_not, on_itself, itself_infinite}
use Rattle.curve_points.proofs.Added.{equal_from, on_chord, apart-difference}

abbrev a : Expression
a = var 0

abbrev b : Expression
b = var 1

abbrev right : Expression → Expression
right z = plus (times z (times z z)) (num 7)

-- ---- a chord: d and e are the second point, s is the slope

abbrev d : Expression
d = var 2

abbrev e : Expression
e = var 3

abbrev s : Expression
s = var 4

abbrev x3 : Expression
x3 = less (less (times s s) a) d

abbrev y3 : Expression
y3 = less (times s (less a x3)) b

abbrev run : Expression
run = less d a

abbrev l0 : Expression
l0 = times (less (right x3) (times y3 y3)) run

abbrev l1 : Expression
l1 = less l0 (times (less d x3) (less (right a) (times b b)))

abbrev l2 : Expression
l2 = less l1 (times (less x3 a) (less (right d) (times e e)))

chord : (p q r t m : ℕ) → p < prime → q < prime → r < prime → t < prime → m < prime → p ≢ r
    → q ⊗ q ≡ (p ⊗ (p ⊗ p)) ⊕ 7 → t ⊗ t ≡ (r ⊗ (r ⊗ r)) ⊕ 7 → m ⊗ (r ⊖ p) ≡ t ⊖ q
    → let x : ℕ = ((m ⊗ m) ⊖ p) ⊖ r in let y : ℕ = (m ⊗ (p ⊖ x)) ⊖ q in
    y ⊗ y ≡ (x ⊗ (x ⊗ x)) ⊕ 7
chord p q r t m hp hq hr ht hm apart on1 on2 law =
    let vs = p ∷ q ∷ r ∷ t ∷ m ∷ [] in
    let small : AllBelow prime vs = (hp, (hq, (hr, (ht, (hm, tt))))) in
    let x = ((m ⊗ m) ⊖ p) ⊖ r in
    let y = m ⊗ (p ⊖ x) ⊖ q in
    let zero_product = combined vs l0 l1 (less d x3) (times b b) (right a) small on1 refl
    ∙ combined vs l1 l2 (less x3 a) (times e e) (right d) small on2 refl
    ∙ combined vs l2 (num 0) (times (less x3 a) (plus (plus e b) (times s run))) (times s run) (less e b) small law refl in
    let ldx : (r ⊖ p) < prime = below (r + (prime - p)) in
    equal_from (y ⊗ y) ((x ⊗ (x ⊗ x)) ⊕ 7) (r ⊖ p) (below (y * y)) (below ((x ⊗ (x ⊗ x)) + 7)) ldx
    (λ z. apart (apart-difference p r hp hr z)) zero_product

-- ---- a tangent: u is the slope

abbrev u : Expression
u = var 2

abbrev x4 : Expression
x4 = less (less (times u u) a) a

abbrev y4 : Expression
y4 = less (times u (less a x4)) b

tangent : (p q m : ℕ) → p < prime → q < prime → m < prime → q ⊗ q ≡ (p ⊗ (p ⊗ p)) ⊕ 7 → m ⊗ (q ⊕ q) ≡ 3 ⊗ (p ⊗ p)
    → let x : ℕ = ((m ⊗ m) ⊖ p) ⊖ p in let y : ℕ = (m ⊗ (p ⊖ x)) ⊖ q in
    y ⊗ y ≡ (x ⊗ (x ⊗ x)) ⊕ 7
tangent p q m hp hq hm on law =
    let vs = p ∷ q ∷ m ∷ [] in
    let small : AllBelow prime vs = (hp, (hq, (hm, tt))) in
    let l = less (right x4) (less (right a) (times b b)) in
    sym (combined vs (right x4) l (num 1) (times b b) (right a) small on refl
    ∙ combined vs l (times y4 y4) (less x4 a) (times u (plus b b)) (times (num 3) (times a a)) small law refl)

-- ---- sums

made : (x y other slope : ℕ) → let z : ℕ = ((slope ⊗ slope) ⊖ x) ⊖ other in let w : ℕ = (slope ⊗ (x ⊖ z)) ⊖ y in
    w ⊗ w ≡ (z ⊗ (z ⊗ z)) ⊕ 7 → IsCurvePoint (on_line x y other slope)
made x y other slope h =
    let z = ((slope ⊗ slope) ⊖ x) ⊖ other in
    record {
      x_below = below (((slope ⊗ slope) ⊖ x) + (prime - other));
      y_below = below ((slope ⊗ (x ⊖ z)) + (prime - y));
      equation = h;
    }

doubled_on : (p : Affine) → IsOnCurve p → IsCurvePoint (sum_of (Finite p) (Finite p))
doubled_on p on =
    elim (cases_eq p.y 0) [
      | inl none ↦ rw (itself_infinite p none) tt
      | inr some ↦
          let slope = quotient (3 ⊗ (p.x ⊗ p.x)) (p.y ⊕ p.y) in
          let nz : (p.y ⊕ p.y) % prime ≢ 0 = λ z. double-not_zero p.y on.y_below some (sym (mod-eq_of_lt (below (p.y + p.y))) ∙ z) in
          let law = quotient-law (3 ⊗ (p.x ⊗ p.x)) (p.y ⊕ p.y) (below (3 * (p.x ⊗ p.x))) nz in
          let small : slope < prime = below ((3 ⊗ (p.x ⊗ p.x)) * power (p.y ⊕ p.y) (prime - 2)) in
          rw (on_itself p some) (made p.x p.y p.x slope (tangent p.x p.y slope on.x_below on.y_below small on.equation law))
    ]

apart_on : (p q : Affine) → IsOnCurve p → IsOnCurve q → p.x ≢ q.x → IsCurvePoint (sum_of (Finite p) (Finite q))
apart_on p q on1 on2 apart =
    let dx = q.x ⊖ p.x in
    let dy = q.y ⊖ p.y in
    let slope = quotient dy dx in
    let small : slope < prime = below (dy * power dx (prime - 2)) in
    let ldx : dx < prime = below (q.x + (prime - p.x)) in
    let nzd : dx % prime ≢ 0 = λ z. apart (apart-difference p.x q.x on1.x_below on2.x_below (sym (mod-eq_of_lt ldx) ∙ z)) in
    let law : slope ⊗ dx ≡ dy = quotient-law dy dx (below (q.y + (prime - p.y))) nzd in
    rw (on_chord p q apart)
    (made p.x p.y q.x slope
    (chord p.x p.y q.x q.y slope on1.x_below on1.y_below on2.x_below on2.y_below small apart on1.equation on2.equation law))

opposite_infinite : (p q : Affine) → p.x ≡ q.x → p.y ≢ q.y → sum_of (Finite p) (Finite q) ≡ Infinity
opposite_infinite p q h i = simp (eq-eqb p.x q.x h, eqb_not p.y q.y i)

pub sum_on : (p q : Point) → IsCurvePoint p → IsCurvePoint q → IsCurvePoint (sum_of p q)
sum_on Infinity q h k = k
sum_on (Finite p) Infinity h k = h
sum_on (Finite p) (Finite q) h k =
    elim (cases_eq p.x q.x) [
      | inl ex ↦ elim (cases_eq p.y q.y) [
        | inl ey ↦ subst (λ r. IsCurvePoint (sum_of (Finite p) r)) (ap₂ (λ x y. Finite (record { x = x; y = y })) ex ey) (doubled_on p h)
        | inr ny ↦ rw (opposite_infinite p q ex ny) tt
      ]
      | inr nx ↦ apart_on p q h k nx
    ]

next_on : (p total : Point) (bit : ℕ) → IsCurvePoint p → IsCurvePoint total → IsCurvePoint (next_multiple p total bit)
next_on p total bit h k =
    let twice = sum_on total total k k in
    elim (bit == 1) as (λ c. IsCurvePoint (cond c (sum_of (sum_of total total) p) (sum_of total total))) [
      | true ↦ sum_on (sum_of total total) p twice h
      | false ↦ twice
    ]

pub multiple_on : (n k : ℕ) (p : Point) → IsCurvePoint p → IsCurvePoint (multiple n k p)
unfolding multiple
multiple_on zero k p h = tt
multiple_on (suc n) k p h = next_on p (multiple n (k / 2) p) (k % 2) h (multiple_on n (k / 2) p h)

pub generator_on : IsCurvePoint (Finite (record { x = generator_x; y = generator_y }))
generator_on = record { x_below = lit< tt; y_below = lit< tt; equation = refl }

pub public_on : (key : ℕ) → IsCurvePoint (public_point key)
public_on key = multiple_on 256 key _ generator_on
