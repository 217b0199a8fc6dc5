-- A run leads where its lines lead, one after the other.
use Rattle.std.proofs.Common.{◌≡◌, ℕ, suc, Bool, true, false, List, [], ◌∷◌, inl, inr, refl, ap, ◌∙◌, Result}
use Rattle.s39_lists.specs.Each.{and_then}
use Rattle.s39_input.specs.declared.fault.Stop.{Stop}
use Rattle.s39_input.specs.Lines.{at_line, at_end, led}
use Rattle.s39_input.specs.Midway.{RunsOn}
use Rattle.s39_input.specs.Collecting.{ended_in}

module _ {S C : Type 0} (step : S → List ℕ → Result S C) where
  led_to_end : (ended : Bool) (s : S) → at_end {S = S} {C = C} ended s ≡ ended_in s (at_end ended tt)
  led_to_end true s = refl
  led_to_end false s = refl

  -- where each line is taken that leads on, and the others are refused
  pub runs_led : (ended : Bool) (n : ℕ) (lines : List (List ℕ)) (old new : S) (answer : Result (Unit {0}) (Stop C))
      → RunsOn (λ s line taken t. step s line ≡ ended_in t taken) ended n lines old new answer → led step ended n old lines ≡ ended_in new answer
  runs_led ended n [] old new answer (same, is) = ap (at_end ended) same ∙ led_to_end ended new ∙ ap (ended_in new) is
  runs_led ended n (line ∷ lines) old new answer (inl (next, leads, later)) =
      ap (λ r. and_then (λ t. led step ended (suc n) t lines) (at_line n r)) leads ∙ runs_led ended (suc n) lines next new answer later
  runs_led ended n (line ∷ lines) old new answer (inr (cause, refused, is)) =
      ap (λ r. and_then (λ t. led step ended (suc n) t lines) (at_line n r)) refused ∙ ap (ended_in new) is
