-- The output of a command that answers each line of its input by itself.
use Rattle.std.specs.Prelude.{◌≡◌, ℕ, suc, Bool, List, [], ◌∷◌, map, Option, Result, Ok, Err}
use Rattle.std.specs.List.{flat_map}
use Rattle.s39_input.specs.declared.each_line.NoAnswer.{NoAnswer}
use Rattle.s39_input.specs.declared.each_line.NoAnswer.TheVariants.{Line, WriteFailed}
use Rattle.s39_input.specs.declared.fault.LineRefusal.{LineRefusal}
use Rattle.s39_input.specs.declared.fault.Stop.{Stop}
use Rattle.s39_input.specs.declared.fault.Stop.TheVariants.{AtLine, ReadFailed}
use Rattle.s39_input.specs.declared.fault.DeviceFailure.TheVariants.{Write}
use Rattle.s39_input.specs.declared.fault.Refusal.TheVariants.{Device}
use Rattle.s39_input.specs.declared.fault.Fault.{Fault}
use Rattle.s39_input.specs.Device.{Counted}
use Rattle.s39_input.specs.Output.{WritesWhole, WritesPart}
use Rattle.s39_input.specs.Input.{Input, lines_of}
use Rattle.s39_input.specs.Fault.{fault_of, fault_of_stop, answer_of}
use Rattle.s39_input.specs.Lines.{at_line, at_end}

-- What lines say, each by itself, up to the first that is refused, and how this ends. They come after n others of an input,
-- which ended or failed behind them.
abbrev pub said_until : {H : Type 0} → Bool → ℕ → List (Result H LineRefusal) → List H × Result (Unit {0}) (Stop LineRefusal)
said_until ended n [] = ([], at_end ended tt)
said_until ended n (Ok said ∷ others) = let rest = said_until ended (suc n) others in (said ∷ rest.0, rest.1)
said_until ended n (Err cause ∷ others) = ([], at_line n (Err cause))

-- The text of what each line says, and the answer: it is made of what all lines say, or it is the fault.
abbrev pub output_of_each : {H T : Type 0} → (H → List ℕ) → (List H → T) → (List ℕ → Result H LineRefusal) → Input → List ℕ × Result T Fault
output_of_each text_of answer_to say input =
    let all = said_until input.ended 0 (map say (lines_of input)) in (flat_map text_of all.0, answer_of (answer_to all.0) all.1)

-- Within a run; no public contract cites this.
module _ {W S H : Type 0} (contents : W → Option (List ℕ)) (Says : List ℕ → Result H LineRefusal → Type 0) (text_of : H → List ℕ) (output : S → Counted W)
    (Follows : S → List H → S → Type 0) where
  -- What is written for a line, or why nothing is. One state of the run follows another, given what the lines between them say.
  abbrev pub AnswersLine : S → List ℕ → Result (Unit {0}) NoAnswer → S → Type 0
  AnswersLine old line (Ok _) new =
      (said : H) × Says line (Ok said) × WritesWhole contents (output old) (text_of said) (output new) × Follows old (said ∷ []) new
  AnswersLine old line (Err (Line refusal)) new = Says line (Err refusal) × (old ≡ new)
  AnswersLine old line (Err WriteFailed) new =
      (said : H) × Says line (Ok said) × WritesPart contents (output old) (text_of said) (output new) × Follows old [] new

-- the fault of a line that isn't answered
abbrev pub fault_of_line : ℕ → NoAnswer → Fault
fault_of_line number (Line refusal) = fault_of_stop (AtLine (record { number = number; refusal = refusal }))
fault_of_line number WriteFailed = fault_of (Device Write)

-- the fault of a run that stopped for this cause
abbrev pub fault_of_no_answer : Stop NoAnswer → Fault
fault_of_no_answer (AtLine refused) = fault_of_line refused.number refused.refusal
fault_of_no_answer ReadFailed = fault_of_stop ReadFailed

-- the answer of a run that stopped so: this if all lines are answered
abbrev pub answered : {T : Type 0} → T → Result (Unit {0}) (Stop NoAnswer) → Result T Fault
answered done (Ok _) = Ok done
answered done (Err stop) = Err (fault_of_no_answer stop)
