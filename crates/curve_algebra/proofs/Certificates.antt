-- The rows of the table are certificates: one computation checks all of them.
use Rattle.std.proofs.Common.{◌≡◌, ℕ, suc, ◌*◌, ◌-◌, ◌/◌, ◌%◌, ◌^◌, List, [], ◌∷◌, Bool, true, false, eqb, ltb, refl, arith}
use Rattle.std.proofs.Math.Bool.{not, ◌&&◌, ◌||◌}
use Rattle.std.proofs.lemmas.Bool.{eqb-true, ltb-true, not-true, and_parts}
use Rattle.curve_field.specs.Field.{prime}
use Rattle.curve_field.specs.Order.{order}
use Rattle.curve_algebra.specs.Fields.{HasInverses}
use Rattle.curve_algebra.proofs.Lucas.{fast, product, Checked}
use Rattle.curve_algebra.proofs.Fermat.{Certificate, inverses}
use Rattle.curve_algebra.proofs.Table.{Row, rows}

-- ---- the computation

-- whether the number is 2 or in the rows
abbrev is_listed : ℕ → List Row → Bool
is_listed q [] = eqb q 2
is_listed q (r ∷ rs) = eqb q r.prime || is_listed q rs

abbrev is_factor : ℕ → ℕ → ℕ → ℕ → Bool
is_factor n g N q = ltb 1 q && (eqb (q * (N / q)) N && not (eqb (fast 256 n g (N / q)) 1))

abbrev are_factors : List Row → ℕ → ℕ → ℕ → List ℕ → Bool
are_factors rs n g N [] = true
are_factors rs n g N (q ∷ qs) = (is_listed q rs && is_factor n g N q) && are_factors rs n g N qs

abbrev is_certificate : List Row → ℕ → ℕ → ℕ → List ℕ → Bool
is_certificate rs n g N qs =
    (ltb 1 n && (ltb N (2 ^ 256) && eqb n (suc N)))
    && (eqb (product qs) N && (eqb (fast 256 n g N) 1 && are_factors rs n g N qs))

abbrev are_certificates : List Row → Bool
are_certificates [] = true
are_certificates (r ∷ rs) = is_certificate rs r.prime r.root (r.prime - 1) r.factors && are_certificates rs

-- ---- what it shows

abbrev pub Certified : List Row → Type 0
Certified [] = Unit
Certified (r ∷ rs) = Certificate r.prime r.root (r.prime - 1) r.factors × Certified rs

inverses_of_2 : HasInverses 2
inverses_of_2 b h = let ne : b % 2 ≡ 0 → ⊥ = h in (1, omega arith)

listed : (q : ℕ) (rs : List Row) → Certified rs → is_listed q rs ≡ true → HasInverses q
listed q [] c h = rw (eqb-true q 2 h) inverses_of_2
listed q (r ∷ rs) c h = cases (eqb q r.prime) refl (listed q rs c.1) h
  where
    cases : (t : Bool) → eqb q r.prime ≡ t → (is_listed q rs ≡ true → HasInverses q) → (t || is_listed q rs) ≡ true → HasInverses q
    cases true e later k = rw (eqb-true q r.prime e) (inverses r.prime r.root (r.prime - 1) r.factors c.0)
    cases false e later k = later k

factors : (rs : List Row) (n g N : ℕ) (qs : List ℕ) → Certified rs → are_factors rs n g N qs ≡ true → Checked n g N qs
factors rs n g N [] c h = tt
factors rs n g N (q ∷ qs) c h =
    let here = and_parts (is_listed q rs && is_factor n g N q) (are_factors rs n g N qs) h in
    let both = and_parts (is_listed q rs) (is_factor n g N q) here.0 in
    let one = and_parts (ltb 1 q) (eqb (q * (N / q)) N && not (eqb (fast 256 n g (N / q)) 1)) both.1 in
    let two = and_parts (eqb (q * (N / q)) N) (not (eqb (fast 256 n g (N / q)) 1)) one.1 in (
      record {
        inverses = listed q rs c both.0;
        above = ltb-true 1 q one.0;
        divides = eqb-true (q * (N / q)) N two.0;
        witness = not-true (eqb (fast 256 n g (N / q)) 1) two.1;
      },
      factors rs n g N qs c here.1,
    )

certificate : (rs : List Row) (n g N : ℕ) (qs : List ℕ) → Certified rs → is_certificate rs n g N qs ≡ true → Certificate n g N qs
certificate rs n g N qs c h =
    let halves = and_parts (ltb 1 n && (ltb N (2 ^ 256) && eqb n (suc N)))
    (eqb (product qs) N && (eqb (fast 256 n g N) 1 && are_factors rs n g N qs)) h in
    let low = and_parts (ltb 1 n) (ltb N (2 ^ 256) && eqb n (suc N)) halves.0 in
    let mid = and_parts (ltb N (2 ^ 256)) (eqb n (suc N)) low.1 in
    let high = and_parts (eqb (product qs) N) (eqb (fast 256 n g N) 1 && are_factors rs n g N qs) halves.1 in
    let last = and_parts (eqb (fast 256 n g N) 1) (are_factors rs n g N qs) high.1 in
    record {
      above = ltb-true 1 n low.0;
      small = ltb-true N (2 ^ 256) mid.0;
      next = eqb-true n (suc N) mid.1;
      whole = eqb-true (product qs) N high.0;
      one = last.0;
      checked = factors rs n g N qs c last.1;
    }

certified : (rs : List Row) → are_certificates rs ≡ true → Certified rs
certified [] h = tt
certified (r ∷ rs) h =
    let parts = and_parts (is_certificate rs r.prime r.root (r.prime - 1) r.factors) (are_certificates rs) h in
    let rest = certified rs parts.1 in (
      certificate rs r.prime r.root (r.prime - 1) r.factors rest parts.0,
      rest,
    )

all_certified : Certified rows
unfolding rows
all_certified = certified rows refl

-- the first two rows
pub prime_certified : (g : ℕ) × (qs : List ℕ) × Certificate prime g (prime - 1) qs
unfolding rows
prime_certified = (_, _, all_certified.0)

pub order_certified : (g : ℕ) × (qs : List ℕ) × Certificate order g (order - 1) qs
unfolding rows
order_certified = (_, _, all_certified.1.0)
