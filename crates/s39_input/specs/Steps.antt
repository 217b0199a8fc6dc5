-- One step after another.
use Rattle.std.specs.Prelude.{◌≡◌, ℕ, List, [], Result, Ok, Err}
use Rattle.s39_input.specs.declared.fault.Fault.{Fault}

-- The first step gives something, and the next one goes on with it. Or the first is refused, and this is what follows.
pub data Then {A E X : Type 0} (First : Result A E → Type 0) (refused : E → X) (Next : A → X → Type 0) (result : X) : Type 0 where
  gives : (a : A) → First (Ok a) → Next a result → Then First refused Next result
  refuses : (e : E) → First (Err e) → result ≡ refused e → Then First refused Next result

-- what is written and answered for a fault: nothing is written
abbrev pub nothing_for : {T : Type 0} → Fault → List ℕ × Result T Fault
nothing_for fault = ([], Err fault)
