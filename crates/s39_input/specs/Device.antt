-- A reader or a writer whose failed calls are counted.
use Rattle.std.specs.Prelude.{ℕ, Result, Ok, Err, refl}
use Rattle.std.specs.Coded.{Coded, code_by, coded×, coded_ℕ}

-- the device, the number of its calls that failed, and the number of its reads, which stays at 2^64 - 1
pub record Counted (D : Type 0) : Type 0 where
  pub device : D
  pub failures : ℕ
  pub reads : ℕ

module _ {D : Type 0} where
  -- a code for what is counted, from one for the device
  abbrev pub counted_code : Coded D → Coded (Counted D)
  counted_code device =
      code_by (D × (ℕ × ℕ)) (coded× device (coded× coded_ℕ coded_ℕ)) (λ c. (c.device, (c.failures, c.reads)))
      (λ p. record { device = p.0; failures = p.1.0; reads = p.1.1 }) (λ _. refl)

-- 1 if the call failed, else 0
abbrev pub failure_of : {T E : Type 0} → Result T E → ℕ
failure_of (Ok _) = 0
failure_of (Err _) = 1
