-- The output of `repair`.
use Rattle.std.specs.Prelude.{◌≡◌, ◌≢◌, ◌⊎◌, ◌<◌, ◌≤◌, ℕ, List, [], ◌∷◌, Option, Some, None, Bool, true, false, not, nat_lt, length, Result, Ok, Err}
use Rattle.std.specs.List.{AllZip, flat_map, list_all}
use Rattle.std.specs.Option.{option_to_list}
use Rattle.s39_words.specs.declared.ShareFields.{ShareFields}
use Rattle.s39_words.specs.Printing.{IsPrinted}
use Rattle.s39_repair.specs.declared.repaired.Repaired.{Repaired}
use Rattle.s39_repair.specs.declared.repair_error.RepairError.{RepairError}
use Rattle.s39_repair.specs.Answer.{Repairs}
use Rattle.s39_repair.specs.Marks.{Fits}
use Rattle.s39_input.specs.declared.fault.LineRefusal.{LineRefusal}
use Rattle.s39_input.specs.declared.fault.LineRefusal.TheVariants.{Marks, TooLong}
use Rattle.s39_input.specs.declared.fault.Fault.{Fault}
use Rattle.s39_input.specs.Input.{Input, ended_line, is_skipped, longest_line}
use Rattle.s39_input.specs.EachLine.{output_of_each}
use Rattle.s39_input.specs.Lines.{said}

-- the shares whose mnemonics fit, in the order of their words
abbrev pub shares_of : Repaired → List ShareFields
shares_of repaired = repaired.first ∷ option_to_list repaired.second

-- the printed forms of the mnemonics that fit a line of marks, in order; or the first cause for which there is none
abbrev pub RepairsTo : List ℕ → Result (List (List ℕ)) RepairError → Type 0
RepairsTo line (Ok mnemonics) = (repaired : Repaired) × Repairs line (Ok repaired) × AllZip IsPrinted mnemonics (shares_of repaired)
RepairsTo line (Err error) = Repairs line (Err error)

-- the text that is written for the mnemonics that fit a line: a line for each
abbrev pub mnemonics_text : Option (List (List ℕ)) → List ℕ
mnemonics_text None = []
mnemonics_text (Some mnemonics) = flat_map ended_line mnemonics

-- not more than one mnemonic fits a line
abbrev pub fits_one : Option (List (List ℕ)) → Bool
fits_one None = true
fits_one (Some mnemonics) = not (nat_lt 1 (length mnemonics))

-- what `repair` writes for the input, and whether one mnemonic fitted each line, if this gives the printed forms of the
-- mnemonics that fit a line
unfoldable pub repair_output : (List ℕ → Result (List (List ℕ)) RepairError) → Input → List ℕ × Result Bool Fault
repair_output fitting = output_of_each mnemonics_text (list_all fits_one) (λ line. said Marks line (fitting line))

-- `repair` writes this text for the input, and gives this answer
abbrev pub IsRepairOutput : Input → List ℕ → Result Bool Fault → Type 0
IsRepairOutput input text answer =
    (fitting : List ℕ → Result (List (List ℕ)) RepairError) × ((line : List ℕ) → RepairsTo line (fitting line))
    × (repair_output fitting input ≡ (text, answer))

-- What a line of marks says by itself, if `Answers` says what fits it. Within a run; no public contract cites this.
abbrev pub MarksSay : {A : Type 0} → (List ℕ → Result A RepairError → Type 0) → List ℕ → Result (Option A) LineRefusal → Type 0
MarksSay Answers line (Ok None) = (length line ≤ longest_line) × (is_skipped line ≡ true)
MarksSay Answers line (Ok (Some found)) = (length line ≤ longest_line) × (is_skipped line ≡ false) × Answers line (Ok found)
MarksSay Answers line (Err refusal) =
    ((longest_line < length line) × (refusal ≡ TooLong))
    ⊎ ((length line ≤ longest_line) × (is_skipped line ≡ false) × ((error : RepairError) × Answers line (Err error) × (refusal ≡ Marks error)))

-- two different mnemonics fit a line that isn't skipped
pub record TwoFit (line : List ℕ) : Type 0 where
  pub not_skipped : is_skipped line ≡ false
  pub mnemonic : List ℕ
  pub other : List ℕ
  pub share : ShareFields
  pub found : ShareFields
  pub fits : Fits line mnemonic share
  pub also_fits : Fits line other found
  pub different : mnemonic ≢ other
