-- The sum in Jacobian coordinates, selected among what its cases give.
use Rattle.std.proofs.Common.{◌≡◌, ◌≢◌, ℕ, zero, suc, ◌*◌, ◌%◌, ◌<◌, ◌≤◌, ◌⊎◌, refl, sym, ◌∙◌, arith, inl, inr, subst}
use Rattle.curve_field.specs.Field.{prime}
use Rattle.curve_points.specs.declared.point.Affine.{Affine}
use Rattle.curve_points.specs.declared.point.Point.{Point}
use Rattle.curve_points.specs.declared.point.Point.TheVariants.{Infinity, Finite}
use Rattle.curve_points.specs.declared.jacobian.Jacobian.{Jacobian}
use Rattle.curve_points.specs.Points.{sum_of}
use Rattle.curve_points.specs.Jacobian.{IsJacobian, added_h, added_r, added_x, added_y}
use Rattle.curve_points.proofs.Added.{added, added_equal, added_opposite}

abbrev pub Represents : Jacobian → Point → Type 0
Represents j p = IsJacobian j.x j.y j.z p

pub zero_or_one : (flag : ℕ) → flag ≤ 1 → (flag ≡ 1) ⊎ (flag ≡ 0)
zero_or_one zero h = inr refl
zero_or_one (suc zero) h = inl refl
zero_or_one (suc (suc n)) h = absurd (omega arith)

pub infinite_sum : (X Y Z : ℕ) (p : Point) (o : Affine) → Z ≡ 0 → IsJacobian X Y Z p → sum_of p (Finite o) ≡ Finite o
infinite_sum X Y Z Infinity o z h = refl
infinite_sum X Y Z (Finite a) o z h = absurd (h.z_not_zero z)

pub record IsFlag (flag n : ℕ) : Type 0 where
  pub below : flag ≤ 1
  pub one : flag ≡ 1 → n ≡ 0
  pub zero : flag ≡ 0 → n ≢ 0

pub record IsChosen (flag : ℕ) (a b r : Jacobian) : Type 0 where
  pub one : flag ≡ 1 → r ≡ a
  pub zero : flag ≡ 0 → r ≡ b

pub chosen : (flag : ℕ) (a b r : Jacobian) (p : Point) → flag ≤ 1 → IsChosen flag a b r
    → (flag ≡ 1 → Represents a p) → (flag ≡ 0 → Represents b p) → Represents r p
chosen flag a b r p l h at_one at_zero =
    elim (zero_or_one flag l) [
      | inl e ↦ subst (λ j. Represents j p) (sym (h.one e)) (at_one e)
      | inr e ↦ subst (λ j. Represents j p) (sym (h.zero e)) (at_zero e)
    ]

no_height : (Z h : ℕ) → h ≡ 0 → (Z * h) % prime ≡ 0
no_height Z h e = rw e (omega arith)

pub selected : (total once twice chord same finite all : Jacobian) (p : Point) (o : Affine) (h r same_x same_y infinite : ℕ)
    → o.x < prime → o.y < prime
    → h ≡ added_h total.x total.z o.x → r ≡ added_r total.y total.z o.y
    → chord.x ≡ added_x total.x h r → chord.y ≡ added_y total.x total.y h r → chord.z ≡ (total.z * h) % prime
    → IsFlag same_x h → IsFlag same_y r → IsFlag infinite total.z
    → IsChosen same_y twice chord same → IsChosen same_x same chord finite → IsChosen infinite once finite all
    → Represents once (Finite o) → Represents twice (sum_of (Finite o) (Finite o))
    → Represents total p → Represents all (sum_of p (Finite o))
selected total once twice chord same finite all p o h r same_x same_y infinite ox oy eh er cx cy cz fx fy fz s1 s2 s3 j1 j2 j =
    let X = total.x in let Y = total.y in let Z = total.z in
    chosen infinite once finite all (sum_of p (Finite o)) fz.below s3
    (λ e. rw (infinite_sum X Y Z p o (fz.one e) j) j1)
    (λ e. let z = fz.zero e in
    chosen same_x same chord finite (sum_of p (Finite o)) fx.below s2
    (λ ex. let hz = sym eh ∙ fx.one ex in
    chosen same_y twice chord same (sum_of p (Finite o)) fy.below s1
    (λ ey. rw (added_equal X Y Z p o ox oy z hz (sym er ∙ fy.one ey) j) j2)
    (λ ey. let rn = fy.zero ey in let rn' : added_r Y Z o.y ≢ 0 = rw er at rn in
    rw (added_opposite X Y Z p o ox oy z hz rn' j) (cz ∙ no_height Z h (fx.one ex))))
    (λ ex. let hn = fx.zero ex in let hn' : added_h X Z o.x ≢ 0 = rw eh at hn in
    rw (cx, cy, cz, eh, er) (added X Y Z p o ox oy z hn' j)))
