-- What rests on the certificates: the two primes, the inverse of each element but 0, and that no product of two of these is 0.
use Rattle.std.proofs.Common.{◌≡◌, ◌≢◌, ℕ, zero, suc, ◌*◌, ◌-◌, ◌/◌, ◌%◌, ◌^◌, ◌<◌, List, refl, sym, ap, ◌∙◌, arith, inl, inr}
use Rattle.std.proofs.lemmas.Bool.{cases_eq}
use Rattle.std.proofs.lemmas.Nat.{mul-mod_first}
use Rattle.std.proofs.Math.Nat.{pow-suc, mod-mod, zero-mod, mul-mod_right, mod-eq_of_lt}
use Rattle.curve_field.specs.Field.{prime, power, ◌⊗◌}
use Rattle.curve_field.specs.Order.{order}
use Rattle.curve_algebra.specs.Fields.{IsPrime, HasInverses}
use Rattle.curve_algebra.proofs.Polynomials.{times_both, reordered}
use Rattle.curve_algebra.proofs.Lucas.{exact}
use Rattle.curve_algebra.proofs.Fermat.{Certificate, inverses, fermat}
use Rattle.curve_algebra.proofs.Certificates.{prime_certified, order_certified}

-- over any n, so that no tactic meets the numeral
one_of : (n x : ℕ) → x % n ≡ 1 → 1 % n ≡ x % n
one_of n x e = ap (λ y. y % n) (sym e) ∙ mod-mod x n

cancelled : (n a b u : ℕ) → (u * b) % n ≡ 1 → (a * b) % n ≡ 0 → a % n ≡ 0
cancelled n a b u e h =
    reordered n (omega arith)
    ∙ times_both n a a 1 (u * b) refl (one_of n (u * b) e)
    ∙ reordered n (regrouped a u b)
    ∙ times_both n (a * b) 0 u u (h ∙ sym (zero-mod n)) refl
    ∙ reordered n (omega arith) ∙ zero-mod n
  where
    regrouped : (a u b : ℕ) → a * (u * b) ≡ a * b * u
    regrouped a u b = omega arith

-- ---- primes

left_is_one : (n k b : ℕ) → 1 < n → n * k * b ≡ n → b ≡ 1
left_is_one n zero b h e = absurd (omega arith)
left_is_one n (suc k) zero h e = absurd (omega arith)
left_is_one n (suc k) (suc zero) h e = refl
left_is_one n (suc k) (suc (suc b)) h e = absurd (omega arith)

other_is_one : (n a b : ℕ) → 1 < n → a * b ≡ n → a % n ≡ 0 → b ≡ 1
other_is_one n a b h e z = left_is_one n (a / n) b h (ap (λ x. x * b) (sym (exact n a z)) ∙ e)

turned : (a b : ℕ) → a * b ≡ b * a
turned a b = omega arith

multiple_of : (n a b : ℕ) → a * b ≡ n → (a * b) % n ≡ 0
multiple_of n a b e = reordered n (e ∙ sym (one_times n)) ∙ mul-mod_right n 1
  where
    one_times : (n : ℕ) → n * 1 ≡ n
    one_times n = omega arith

pub is_prime : (n : ℕ) → 1 < n → HasInverses n → IsPrime n
is_prime n h inverse = record {
  above = h;
  only_product = λ a b e.
      elim (cases_eq (a % n) 0) [
        | inl z ↦ inr (other_is_one n a b h e z)
        | inr nz ↦
            let u = inverse a nz in
            let e' = turned b a ∙ e in
            inl (other_is_one n b a h e' (cancelled n b a u.0 (reordered n (turned u.0 a) ∙ u.1) (multiple_of n b a e')))
      ];
}

prime_from : (n g N : ℕ) (qs : List ℕ) → Certificate n g N qs → IsPrime n
prime_from n g N qs is = is_prime n is.above (inverses n g N qs is)

pub prime_prime : IsPrime prime
prime_prime = prime_from prime _ _ _ prime_certified.2

pub order_prime : IsPrime order
order_prime = prime_from order _ _ _ order_certified.2

-- ---- inverses

inverse_from : (n g N e : ℕ) (qs : List ℕ) → Certificate n g N qs → N ≡ suc e → (b : ℕ) → b % n ≢ 0 → (b ^ e % n * b) % n ≡ 1
inverse_from n g N e qs is h b nz =
    mul-mod_first (b ^ e) b n
    ∙ reordered n (sym (pow-suc b e) ∙ ap (λ k. b ^ k) (sym h))
    ∙ fermat n g N qs is b nz

pub power-inverse : (b : ℕ) → b % prime ≢ 0 → power b (prime - 2) ⊗ b ≡ 1
unfolding power
power-inverse b h = inverse_from prime _ _ _ _ prime_certified.2 refl b h

pub not_zero-mod : (b : ℕ) → b < prime → b ≢ 0 → b % prime ≢ 0
not_zero-mod b l h z = h (sym (mod-eq_of_lt l) ∙ z)

pub inverse-law : (b : ℕ) → b < prime → b ≢ 0 → power b (prime - 2) ⊗ b ≡ 1
inverse-law b l h = power-inverse b (not_zero-mod b l h)

pub product-not_zero : (a b : ℕ) → a < prime → b < prime → a ≢ 0 → b ≢ 0 → a ⊗ b ≢ 0
product-not_zero a b k l h i e =
    not_zero-mod a k h (cancelled prime a b (power b (prime - 2)) (inverse-law b l i) e)
