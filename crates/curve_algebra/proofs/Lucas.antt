-- Lucas's test: if the powers of g have no period below N = n - 1, each nonzero residue modulo n is one of them.
use Rattle.std.proofs.Common.{◌≡◌, ℕ, zero, suc, ◌+◌, ◌*◌, ◌/◌, ◌%◌, ◌^◌, ◌<◌, ◌≤◌, List, [], ◌∷◌, Bool, true, false, eqb, inl, inr}
use Rattle.std.proofs.Common.{refl, sym, ap, ◌∙◌, arith}
use Rattle.std.proofs.lemmas.Bool.{cases_eq, eqb-true, eq-eqb}
use Rattle.std.proofs.lemmas.Nat.{pow-add, mul-mod, mul-mod_first}
use Rattle.std.proofs.Math.Nat.{mod-lt, mod-eq_of_lt, pow-suc, pow-zero, mul-mod_right, mul-div_cancel_left, div-add-mod}
use Rattle.curve_algebra.specs.Fields.{HasInverses}
use Rattle.curve_algebra.proofs.Polynomials.{times_both, reordered}

false≢ : (b : Bool) → b ≡ false → b ≡ true → ⊥
false≢ true e f = cc
false≢ false e f = cc

-- ---- powers by squares, which compute

abbrev pub fast : ℕ → ℕ → ℕ → ℕ → ℕ
fast zero m g e = 1 % m
fast (suc k) m g e =
    let half : ℕ = fast k m g (e / 2) in
    let square : ℕ = (half * half) % m in
    elim (eqb (e % 2) 0) [ true ↦ square | false ↦ (square * g) % m ]

squared : (m x h : ℕ) → h ≡ x % m → (h * h) % m ≡ (x * x) % m
squared m x h e = rw e (sym (mul-mod x x m))

even_half : (e : ℕ) → e % 2 ≡ 0 → e / 2 + e / 2 ≡ e
even_half e h = omega arith

odd_half : (e : ℕ) → (e % 2 ≡ 0 → ⊥) → suc (e / 2 + e / 2) ≡ e
odd_half e h = omega arith

pub fast-value : (k m g e : ℕ) → e < 2 ^ k → fast k m g e ≡ g ^ e % m
fast-value zero m g e h = let z : e ≡ 0 = omega arith in rw z (ap (λ x. x % m) (sym (pow-zero g)))
fast-value (suc k) m g e h = cases (eqb (e % 2) 0) refl (fast-value k m g (e / 2) (omega arith))
  where
    cases : (t : Bool) → eqb (e % 2) 0 ≡ t → fast k m g (e / 2) ≡ g ^ (e / 2) % m
        → (elim t [
          | true ↦ (fast k m g (e / 2) * fast k m g (e / 2)) % m
          | false ↦ ((fast k m g (e / 2) * fast k m g (e / 2)) % m * g) % m
        ]) ≡ g ^ e % m
    cases true q r =
        squared m (g ^ (e / 2)) (fast k m g (e / 2)) r
        ∙ reordered m (sym (pow-add g (e / 2) (e / 2)) ∙ ap (λ i. g ^ i) (even_half e (eqb-true (e % 2) 0 q)))
    cases false q r =
        let odd : e % 2 ≡ 0 → ⊥ = λ z. false≢ (eqb (e % 2) 0) q (eq-eqb (e % 2) 0 z) in
        ap (λ y. (y * g) % m) (squared m (g ^ (e / 2)) (fast k m g (e / 2)) r)
        ∙ mul-mod_first (g ^ (e / 2) * g ^ (e / 2)) g m
        ∙ reordered m (ap (λ y. y * g) (sym (pow-add g (e / 2) (e / 2)))
        ∙ sym (pow-suc g (e / 2 + e / 2))
        ∙ ap (λ i. g ^ i) (odd_half e odd))

-- ---- what a certificate states

abbrev pub product : List ℕ → ℕ
product [] = 1
product (q ∷ qs) = q * product qs

pub record Factor (n g N q : ℕ) : Type 0 where
  pub inverses : HasInverses q
  pub above : 1 < q
  pub divides : q * (N / q) ≡ N
  pub witness : eqb (fast 256 n g (N / q)) 1 ≡ false

abbrev pub Checked : ℕ → ℕ → ℕ → List ℕ → Type 0
Checked n g N [] = Unit
Checked n g N (q ∷ qs) = Factor n g N q × Checked n g N qs

record Found (n g N m : ℕ) : Type 0 where
  pub q : ℕ
  pub k : ℕ
  pub factor : Factor n g N q
  pub splits : m ≡ q * k

same_quotient : (q a b : ℕ) → 1 < q → q * a ≡ q * b → a ≡ b
same_quotient q a b h e =
    let above : 0 < q = omega arith in
    sym (mul-div_cancel_left a above) ∙ ap (λ x. x / q) e ∙ mul-div_cancel_left b above

not-one : (m r : ℕ) → 1 < m → 1 ≡ m * r → ⊥
not-one m zero h e = omega arith
not-one m (suc r) h e = omega arith

pub exact : (q m : ℕ) → m % q ≡ 0 → m ≡ q * (m / q)
exact q m h = sym (div-add-mod m q) ∙ ap (λ r. q * (m / q) + r) h ∙ omega arith

-- If m has an inverse modulo q, and q divides m * r, then q divides r.
other_factor : (q m u r p : ℕ) → (m * u) % q ≡ 1 → q * p ≡ m * r → r % q ≡ 0
other_factor q m u r p h e =
    reordered q (omega arith)
    ∙ ap (λ x. (x * r) % q) (sym h)
    ∙ mul-mod_first (m * u) r q
    ∙ reordered q (regrouped m u r ∙ ap (λ x. x * u) (sym e) ∙ grouped q p u)
    ∙ mul-mod_right q (p * u)
  where
    regrouped : (m u r : ℕ) → m * u * r ≡ m * r * u
    regrouped m u r = omega arith

    grouped : (q p u : ℕ) → q * p * u ≡ q * (p * u)
    grouped q p u = omega arith

moved_factor : (q m r p : ℕ) → q * p ≡ m * r → r ≡ q * (r / q) → q * p ≡ q * (m * (r / q))
moved_factor q m r p e f = e ∙ ap (λ x. m * x) f ∙ regrouped m q (r / q)
  where
    regrouped : (m q s : ℕ) → m * (q * s) ≡ q * (m * s)
    regrouped m q s = omega arith

find : (n g N m r : ℕ) (qs : List ℕ) → Checked n g N qs → product qs ≡ m * r → 1 < m → Found n g N m
find n g N m r [] c e h = absurd (not-one m r h e)
find n g N m r (q ∷ qs) c e h =
    elim (cases_eq (m % q) 0) [
      | inl z ↦ record { q = q; k = m / q; factor = c.0; splits = exact q m z }
      | inr nz ↦
          let u = c.0.inverses m nz in
          let z = other_factor q m u.0 r (product qs) u.1 e in
          find n g N m (r / q) qs c.1 (same_quotient q (product qs) (m * (r / q)) c.0.above (moved_factor q m r (product qs) e (exact q r z))) h
    ]

-- ---- exponents at which the power is 1

one_is_one : (n : ℕ) → 1 < n → 1 % n ≡ 1
one_is_one n h = mod-eq_of_lt h

pub power_of_one : (n g d k : ℕ) → 1 < n → g ^ d % n ≡ 1 → g ^ (d * k) % n ≡ 1
power_of_one n g d zero h e =
    let z : d * 0 ≡ 0 = omega arith in
    rw z (ap (λ x. x % n) (pow-zero g) ∙ one_is_one n h)
power_of_one n g d (suc k) h e =
    let s : d * suc k ≡ d * k + d = omega arith in
    rw s (reordered n (pow-add g (d * k) d)
    ∙ times_both n (g ^ (d * k)) 1 (g ^ d) 1 (power_of_one n g d k h e ∙ sym (one_is_one n h)) (e ∙ sym (one_is_one n h))
    ∙ one_is_one n h)

-- what is left when a power that is 1 is taken out
pub without_one : (n g a b : ℕ) → 1 < n → g ^ a % n ≡ 1 → g ^ (a + b) % n ≡ g ^ b % n
without_one n g a b h e =
    reordered n (pow-add g a b)
    ∙ times_both n (g ^ a) 1 (g ^ b) (g ^ b) (e ∙ sym (one_is_one n h)) refl
    ∙ reordered n (omega arith)

remainder_of_one : (n g d N : ℕ) → 1 < n → g ^ d % n ≡ 1 → g ^ N % n ≡ 1 → g ^ (N % d) % n ≡ 1
remainder_of_one n g d N h e f =
    sym (without_one n g (d * (N / d)) (N % d) h (power_of_one n g d (N / d) h e))
    ∙ ap (λ i. g ^ i % n) (div-add-mod N d) ∙ f

big_quotient : (N d m : ℕ) → N ≡ d * m → d < N → 1 < m
big_quotient N d zero e h = absurd (omega arith)
big_quotient N d (suc zero) e h = absurd (omega arith)
big_quotient N d (suc (suc m)) e h = omega arith

contradicted : (n g N q : ℕ) → N < 2 ^ 256 → Factor n g N q → g ^ (N / q) % n ≡ 1 → ⊥
contradicted n g N q small f e =
    let less : N / q ≤ N = omega arith in
    let v = fast-value 256 n g (N / q) (omega arith) in
    false≢ (eqb (fast 256 n g (N / q)) 1) f.witness (eq-eqb (fast 256 n g (N / q)) 1 (v ∙ e))

pub no_period : (bound n g N : ℕ) (qs : List ℕ) → 1 < n → N < 2 ^ 256 → product qs ≡ N → Checked n g N qs → g ^ N % n ≡ 1
    → (d : ℕ) → d < bound → 0 < d → d < N → g ^ d % n ≡ 1 → ⊥
no_period zero n g N qs h small p c f d a b l e = omega arith
no_period (suc bound) n g N qs h small p c f d a b l e =
    let below : N % d < d = mod-lt N b in
    elim (cases_eq (N % d) 0) [
      | inl z ↦
          let whole = exact d N z in
          let found = find n g N (N / d) d qs c (p ∙ whole ∙ turned d (N / d)) (big_quotient N d (N / d) whole l) in
          let same = same_quotient found.q (N / found.q) (d * found.k) found.factor.above
          (found.factor.divides ∙ whole ∙ ap (λ x. d * x) found.splits ∙ regrouped d found.q found.k) in
          contradicted n g N found.q small found.factor
          (ap (λ i. g ^ i % n) same ∙ power_of_one n g d found.k h e)
      | inr nz ↦
          no_period bound n g N qs h small p c f (N % d) (omega arith) (omega arith) (omega arith) (remainder_of_one n g d N h e f)
    ]
  where
    turned : (d m : ℕ) → d * m ≡ m * d
    turned d m = omega arith

    regrouped : (d q k : ℕ) → d * (q * k) ≡ q * (d * k)
    regrouped d q k = omega arith
