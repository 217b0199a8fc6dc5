-- What lines say up to the first that is refused.
use Rattle.std.proofs.Common.{◌≡◌, ℕ, suc, Bool, List, [], ◌∷◌, map, refl, ap, ap₂, Result, Ok, Err}
use Rattle.s39_input.specs.declared.fault.LineRefusal.{LineRefusal}
use Rattle.s39_input.specs.EachLine.{said_until}

module _ {H : Type 0} where
  -- if none is refused, all is said
  pub all-said : (ended : Bool) (n : ℕ) (results : List (Result H LineRefusal)) → (said_until ended n results).1 ≡ Ok tt
      → results ≡ map Ok (said_until ended n results).0
  all-said ended n [] ends = refl
  all-said ended n (Ok said ∷ others) ends = ap (λ rs. Ok said ∷ rs) (all-said ended (suc n) others ends)
  all-said ended n (Err cause ∷ others) ends = absurd (cc)

  -- what lines say is known by what each says
  pub said-same : (say other : List ℕ → Result H LineRefusal) → ((line : List ℕ) → say line ≡ other line) → (lines : List (List ℕ))
      → map say lines ≡ map other lines
  said-same say other same [] = refl
  said-same say other same (line ∷ lines) = ap₂ (λ (r : Result H LineRefusal) rs. r ∷ rs) (same line) (said-same say other same lines)
