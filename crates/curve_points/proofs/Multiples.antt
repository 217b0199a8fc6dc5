-- Multiples: what a step of a loop along the bits adds, and the number of bits.
use Rattle.std.proofs.Common.{◌≡◌, ◌+◌, ◌*◌, ◌^◌, ◌/◌, ◌%◌, ◌<◌, ℕ, zero, suc, arith, refl, sym, ◌∙◌, ap, add-one}
use Rattle.std.proofs.Math.Nat.{pow-suc, pow-zero}
use Rattle.curve_points.specs.declared.point.Point.{Point}
use Rattle.curve_points.specs.declared.point.Point.TheVariants.{Infinity}
use Rattle.curve_points.specs.Multiples.{multiple, next_multiple}

-- One place further.
shifted_twice : (k n : ℕ) → k * 2 ^ (n + 1) ≡ 2 * (k * 2 ^ n)
shifted_twice k n = rw (add-one n, pow-suc 2 n) (omega arith)

pub rest_more : (k n r s bit : ℕ) → r ≡ (k * 2 ^ n) % 2 ^ 256 → s + 2 ^ 256 * bit ≡ r + r → s < 2 ^ 256
    → s ≡ (k * 2 ^ (n + 1)) % 2 ^ 256
rest_more k n r s bit h e f = omega (arith, shifted_twice k n)

half_more : (k n r s bit : ℕ) → r ≡ (k * 2 ^ n) % 2 ^ 256 → s + 2 ^ 256 * bit ≡ r + r → s < 2 ^ 256
    → k * 2 ^ (n + 1) / 2 ^ 256 / 2 ≡ k * 2 ^ n / 2 ^ 256
half_more k n r s bit h e f = omega (arith, shifted_twice k n)

bit_more : (k n r s bit : ℕ) → r ≡ (k * 2 ^ n) % 2 ^ 256 → s + 2 ^ 256 * bit ≡ r + r → s < 2 ^ 256
    → k * 2 ^ (n + 1) / 2 ^ 256 % 2 ≡ bit
bit_more k n r s bit h e f = omega (arith, shifted_twice k n)

pub multiple_more : (k n r s bit : ℕ) (p total : Point) → r ≡ (k * 2 ^ n) % 2 ^ 256 → s + 2 ^ 256 * bit ≡ r + r → s < 2 ^ 256
    → total ≡ multiple n (k * 2 ^ n / 2 ^ 256) p
    → next_multiple p total bit ≡ multiple (n + 1) (k * 2 ^ (n + 1) / 2 ^ 256) p
unfolding multiple
multiple_more k n r s bit p total h e f t =
    let half = half_more k n r s bit h e f in
    let low = bit_more k n r s bit h e f in
    rw t (sym (ap (λ m. multiple m (k * 2 ^ (n + 1) / 2 ^ 256) p) (add-one n)
    ∙ ap (λ q. next_multiple p (multiple n q p) (k * 2 ^ (n + 1) / 2 ^ 256 % 2)) half
    ∙ ap (λ b. next_multiple p (multiple n (k * 2 ^ n / 2 ^ 256) p) b) low))

pub whole : (k n : ℕ) (p total : Point) → n ≡ 256 → total ≡ multiple n (k * 2 ^ n / 2 ^ 256) p
    → total ≡ multiple 256 k p
whole k n p total e t =
    let all : k * 2 ^ 256 / 2 ^ 256 ≡ k = omega arith in
    let t' = rw e at t in
    t' ∙ ap (λ q. multiple 256 q p) all

-- ---- the number of bits

none : (n : ℕ) (p : Point) → multiple n 0 p ≡ Infinity
unfolding multiple
none zero p = refl
none (suc n) p = rw (none n p) refl

half_below : (k n : ℕ) → k < 2 ^ suc n → k / 2 < 2 ^ n
half_below k n h = omega (arith, pow-suc 2 n)

zero_below : (k : ℕ) → k < 2 ^ 0 → k ≡ 0
zero_below k h = omega (arith, pow-zero 2)

pub any_bits : (n m k : ℕ) (p : Point) → k < 2 ^ n → k < 2 ^ m → multiple n k p ≡ multiple m k p
unfolding multiple
any_bits zero m k p h l = rw (zero_below k h) (sym (none m p))
any_bits (suc n) zero k p h l = rw (zero_below k l) (none (suc n) p)
any_bits (suc n) (suc m) k p h l =
    ap (λ q. next_multiple p q (k % 2)) (any_bits n m (k / 2) p (half_below k n h) (half_below k m l))
