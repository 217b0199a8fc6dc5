-- Within a run; no public contract cites this.
use Rattle.std.specs.Prelude.{◌≡◌, ℕ, List, Result, Ok, Err}
use Rattle.s39_words.specs.declared.ShareFields.{ShareFields}
use Rattle.s39_input.specs.declared.fault.LineRefusal.{LineRefusal}
use Rattle.s39_input.specs.declared.judging.Mates.{Mates}
use Rattle.s39_input.specs.Accepted.{with_line}
use Rattle.s39_input.specs.Judging.{with_mate}

-- where something leads that ends so in this state
abbrev pub ended_in : {S C : Type 0} → S → Result (Unit {0}) C → Result S C
ended_in s (Ok _) = Ok s
ended_in s (Err cause) = Err cause

-- a line is taken if it leads to the new set, and refused if it leads nowhere
abbrev pub CollectsLine : List ShareFields → List ℕ → Result (Unit {0}) LineRefusal → List ShareFields → Type 0
CollectsLine old line answer new = with_line old line ≡ ended_in new answer

-- the same of the shares with one identifier, which stays
abbrev pub CollectsMate : Mates → List ℕ → Result (Unit {0}) LineRefusal → Mates → Type 0
CollectsMate old line answer new = (with_mate old.id old.set line ≡ ended_in new.set answer) × (new.id ≡ old.id)
