-- A flag that says whether a fact holds of all numbers so far.
use Rattle.std.proofs.Common.{◌≡◌, ℕ, ◌+◌, ◌<◌, ◌↔◌, Bool, false, IsTrue, sym, ◌∙◌, arith, below_more}
use Rattle.std.proofs.lemmas.Bool.{false≢true}

module _ (P : ℕ → Type 0) (i : ℕ) where
  -- it is false from a number on of which the fact doesn't hold
  pub flag_fallen : (flag : Bool) → flag ≡ false → ¬ P i → (IsTrue flag ↔ ((k : ℕ) → k < i + 1 → P k))
  flag_fallen flag fell fails = (λ h. absurd (false≢true (sym fell ∙ h)), λ all. absurd (fails (all i (omega arith))))

  -- and stays what it was at one of which it does
  pub flag_stayed : (old new : Bool) → new ≡ old → P i → (IsTrue old ↔ ((k : ℕ) → k < i → P k)) → (IsTrue new ↔ ((k : ℕ) → k < i + 1 → P k))
  flag_stayed old new same here were = (
    λ h. below_more P i (were.0 (sym same ∙ h)) here,
    λ all. same ∙ were.1 (λ k less. all k (omega arith)),
  )
