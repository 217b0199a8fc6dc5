-- Prime numbers, and the inverses that there are modulo a prime.
use Rattle.std.specs.Prelude.{◌≡◌, ◌≢◌, ℕ, ◌*◌, ◌%◌, ◌<◌, ◌⊎◌}

-- a number above 1 that is only the product of itself and 1
pub record IsPrime (n : ℕ) : Type 0 where
  pub above : 1 < n
  pub only_product : (a b : ℕ) → a * b ≡ n → (a ≡ 1) ⊎ (b ≡ 1)

-- each number that isn't 0 modulo n has an inverse modulo n; no public contract cites this
abbrev pub HasInverses : ℕ → Type 0
HasInverses n = (b : ℕ) → b % n ≢ 0 → (u : ℕ) × ((b * u) % n ≡ 1)
