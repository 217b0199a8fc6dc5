use Rattle.std.proofs.Common.{◌≡◌, ◌∙◌, ◌&&◌, ◌+◌, List, ◌++◌, [], true, Option, Result, ℕ, refl, sym, ap, subst}
use Rattle.std.specs.List.{list_all}
use Rattle.std.proofs.Math.Bool.{and_assoc, and-true}
use Rattle.std.proofs.lemmas.List.Folds.{list_all-append}
use Rattle.s39_repair.specs.declared.repair_error.RepairError.{RepairError}
use Rattle.s39_input.specs.declared.each_line.NoAnswer.{NoAnswer}
use Rattle.s39_input.specs.declared.fault.LineRefusal.{LineRefusal}
use Rattle.s39_input.specs.declared.fault.LineRefusal.TheVariants.{Marks}
use Rattle.s39_input.specs.declared.fault.Stop.{Stop}
use Rattle.s39_input.specs.declared.repair.Repairing.{Repairing}
use Rattle.s39_input.specs.Device.{Counted}
use Rattle.s39_input.specs.EachLine.{AnswersLine, answered}
use Rattle.s39_input.specs.Fault.{stop_failures}
use Rattle.s39_input.specs.Lines.{said}
use Rattle.s39_input.specs.Midway.{RunsOver}
use Rattle.s39_input.specs.Repair.{IsRepairOutput, MarksSay, RepairsTo, fits_one, mnemonics_text, repair_output}
use Rattle.s39_input.specs.Runs.{OfInput, Runs}
use Rattle.s39_input.proofs.Runs.Answered.{run_answered, run_follows}
use Rattle.s39_input.proofs.Runs.Repaired.{repairs_once, repairs_some, says_fitting}
use Rattle.s39_input.proofs.Runs.Writing.{Runs-map}
use Rattle.s39_input.proofs.repair.repair_lines.Goals as goal

abbrev Said : Type 0
Said = List (Option (List (List ℕ)))

abbrev Follows : {W : Type 0} → Repairing W → Said → Repairing W → Type 0
Follows old said new = (new.output.ghost_name ≡ old.output.ghost_name) × (new.one_each ≡ (old.one_each && list_all fits_one said))

stays : {W : Type 0} (s : Repairing W) → Follows s [] s
stays s = (refl, sym (and-true s.one_each))

joins : {W : Type 0} (s t u : Repairing W) (said more : Said) → Follows s said t → Follows t more u → Follows s (said ++ more) u
joins s t u said more p q = (
  q.0 ∙ p.0,
  q.1 ∙ ap (λ b. b && list_all fits_one more) p.1 ∙ and_assoc s.one_each (list_all fits_one said) (list_all fits_one more)
      ∙ sym (ap (λ b. s.one_each && b) (list_all-append fits_one said more)),
)

-- what the run writes and answers, and what its last state follows
module _ {R W : Type 0} (remaining : R → Option (List ℕ)) (contents : W → Option (List ℕ))
    (some : (line : List ℕ) → (r : Result (List (List ℕ)) RepairError) × RepairsTo line r)
    (once : (line : List ℕ) (r s : Result (List (List ℕ)) RepairError) → RepairsTo line r → RepairsTo line s → r ≡ s)
    (old new : Repairing W) (start : old.one_each ≡ true) (stop : Result (Unit {0}) (Stop NoAnswer)) {reader read_to : Counted R}
    (runs : OfInput remaining reader read_to (λ input. RunsOver (AnswersLine contents (MarksSay RepairsTo) mnemonics_text (λ s. s.output.now) Follows)
    input old new stop)) where
  abbrev fitting : List ℕ → Result (List (List ℕ)) RepairError
  fitting line = (some line).0

  abbrev say : List ℕ → Result (Option (List (List ℕ))) LineRefusal
  say line = said Marks line (fitting line)

  is_said : (line : List ℕ) (result : Result (Option (List (List ℕ))) LineRefusal) → MarksSay RepairsTo line result → say line ≡ result
  is_said line = says_fitting line (fitting line) (some line).1 (once line)

  is_answer : (said : Said) (next : Repairing W) → Follows old said next → next.one_each ≡ list_all fits_one said
  is_answer said next follows = follows.1 ∙ ap (λ b. b && list_all fits_one said) start

  repair_runs : read_to.failures ≡ reader.failures + stop_failures stop
      → Runs remaining contents IsRepairOutput reader read_to old.output.now new.output.now (answered new.one_each stop)
  unfolding repair_output
  repair_runs failures =
      Runs-map (run_answered contents (MarksSay RepairsTo) mnemonics_text (λ s. s.output.now) Follows stays joins say is_said (list_all fits_one)
      (λ s. s.one_each) old is_answer new stop runs failures) (λ input text full is. (fitting, (λ line. (some line).1), is))

  repair_follows : new.output.ghost_name ≡ old.output.ghost_name
  repair_follows =
      (run_follows contents (MarksSay RepairsTo) mnemonics_text (λ s. s.output.now) Follows stays joins say is_said (list_all fits_one)
      (λ s. s.one_each) old is_answer new stop runs).1.0

pub returns-clause-same_output : goal.returns-clause-same_output
returns-clause-same_output g c =
    repair_follows g.R.Read.remaining g.W.Write.contents (repairs_some c.some_answer.ensures c.every_share_has_a_printed_form.ensures)
    (repairs_once c.one_answer.ensures c.one_printed_form.ensures) c.args.repairing.now c.take_lines-stopped.new.taker c.requires.start
    c.take_lines-stopped.result c.take_lines-stopped.ensures.runs

pub returns-clause-runs : goal.returns-clause-runs
returns-clause-runs g c =
    subst (Runs g.R.Read.remaining g.W.Write.contents IsRepairOutput c.args.input.now c.take_lines-stopped.new.input c.args.repairing.now.output.now
    c.take_lines-stopped.new.taker.output.now)
    (sym c.answered.ensures)
    (repair_runs g.R.Read.remaining g.W.Write.contents (repairs_some c.some_answer.ensures c.every_share_has_a_printed_form.ensures)
    (repairs_once c.one_answer.ensures c.one_printed_form.ensures) c.args.repairing.now c.take_lines-stopped.new.taker c.requires.start
    c.take_lines-stopped.result c.take_lines-stopped.ensures.runs c.take_lines-stopped.ensures.failures)
