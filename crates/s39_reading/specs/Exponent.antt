-- The iteration exponent of a set of shares.
use Rattle.std.specs.Prelude.{◌≡◌, ℕ, List, [], ◌∷◌, Result, Ok, Err}
use Rattle.s39_words.specs.declared.ShareFields.{ShareFields}
use Rattle.s39_input.specs.declared.fault.Refusal.TheVariants.{Lack}
use Rattle.s39_input.specs.declared.fault.Fault.{Fault}
use Rattle.s39_input.specs.Fault.{fault_of}
use Rattle.s39_input.specs.Steps.{Then}
use Rattle.s39_reading.specs.Recover.{IsLeastOrLack}

-- the exponent of a set's first share, which all its shares have; 0 if there is none
abbrev pub exponent_of : List ShareFields → ℕ
exponent_of [] = 0
exponent_of (share ∷ shares) = share.exponent

-- the exponent of a set, or the fault that it has no quorum
abbrev pub IsExponent : List ShareFields → Result ℕ Fault → Type 0
IsExponent set = Then (IsLeastOrLack set) (λ lack. Err (fault_of (Lack lack))) (λ _ result. result ≡ Ok (exponent_of set))
