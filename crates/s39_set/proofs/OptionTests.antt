-- What tests of optional numbers say.
use Rattle.std.proofs.Common.{◌≡◌, ℕ, true, Option, Some, None, nat_eq, refl, ap, ◌∙◌}
use Rattle.std.specs.Option.{option_eq}
use Rattle.std.proofs.lemmas.Bool.{false≢true, eqb-true, eq-eqb}

-- an optional number that passes is this one
pub same_from_option_eq : (o : Option ℕ) (n : ℕ) → option_eq nat_eq o (Some n) ≡ true → o ≡ Some n
same_from_option_eq None n h = absurd (false≢true h)
same_from_option_eq (Some m) n h = ap Some (eqb-true m n h)

-- and this one passes
pub option_eq-same : (o : Option ℕ) (n : ℕ) → o ≡ Some n → option_eq nat_eq o (Some n) ≡ true
option_eq-same o n e = ap (λ p. option_eq nat_eq p (Some n)) e ∙ eq-eqb n n refl
