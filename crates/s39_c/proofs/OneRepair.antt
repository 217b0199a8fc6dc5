-- What `shamir_repair` gives of one line is one answer and one memory, and which slices are too short for it.
use Rattle.std.proofs.Common.{◌≡◌, ℕ, ◌*◌, ◌+◌, ◌<◌, ◌≤◌, List, [], ◌∷◌, length, length-append, refl, ap, subst, inl, inr, arith}
use Rattle.std.proofs.Common.{Option, Some, None}
use Rattle.std.specs.List.{flat_map, AllZip}
use Rattle.std.specs.Option.{option_to_list}
use Rattle.s39_words.specs.declared.share.ShareFields.{ShareFields}
use Rattle.s39_words.specs.Layout.{longest_text}
use Rattle.s39_words.specs.Printing.{IsPrinted}
use Rattle.s39_repair.specs.declared.repaired.Repaired.{Repaired}
use Rattle.s39_repair.specs.declared.repair_error.RepairError.{RepairError}
use Rattle.s39_repair.specs.declared.repair_error.RepairError.TheVariants.{UnknownWord}
use Rattle.s39_repair.specs.Answer.{Repairs, cause_of as repair_cause_of}
use Rattle.s39_input.proofs.Steps.{AtMostOne}
use Rattle.s39_input.specs.Input.{ended_line}
use Rattle.s39_input.specs.Repair.{shares_of}
use Rattle.s39_input.proofs.Runs.PrintedLines.{text_once}
use Rattle.s39_c.specs.Answers.{GivesAs, created, repair_refused, too_short}
use Rattle.s39_c.specs.Repairing.{longest_repaired, GivesLines, GivesRepaired}
use Rattle.s39_c.proofs.InSteps.{Once, gives_as_once, step_once}
use Rattle.s39_c.proofs.Rooms.{no_other, no_refusal}

module _ (one_answer : (line : List ℕ) → AtMostOne (Repairs line))
    (one_printed_form : (share : ShareFields) (text other : List ℕ) → IsPrinted text share → IsPrinted other share → text ≡ other) where
  lines_once : (repaired : Repaired) (old : List ℕ) → Once (GivesLines repaired old)
  lines_once repaired old new other answer another (text, are, gives) (text', are', gives') =
      let shares = shares_of repaired in
      let same = text_once one_printed_form shares text' text are' are in
      gives_as_once (created (length text) (length shares)) text old new other answer another gives
      (subst (λ t. GivesAs (created (length t) (length shares)) t old other another) same gives')

  pub repair_once : (line old : List ℕ) → Once (GivesRepaired line old)
  repair_once line old = step_once (Repairs line) repair_refused _ old (one_answer line) (λ repaired _. lines_once repaired old)

-- ---- how many bytes they are

above-repair : (error : RepairError) → 2 ≤ (repair_cause_of error).code
above-repair (UnknownWord position) = omega arith
above-repair _ = omega arith

two_at_most : (repaired : Repaired) (second : Option ShareFields) → repaired.second ≡ second → length (shares_of repaired) ≤ 2
two_at_most repaired None is = omega (arith, ap (λ (s : Option ShareFields). length (option_to_list s)) is)
two_at_most repaired (Some share) is = omega (arith, ap (λ (s : Option ShareFields). length (option_to_list s)) is)

module _ (short : (share : ShareFields) (text : List ℕ) → IsPrinted text share → length text ≤ longest_text) where
  lines_short : (lines : List (List ℕ)) (shares : List ShareFields) → AllZip IsPrinted lines shares
      → length (flat_map ended_line lines) ≤ length shares * (longest_text + 1)
  lines_short [] shares all = omega arith
  lines_short (l ∷ ls) [] all = absurd all
  lines_short (l ∷ ls) (s ∷ ss) all =
      omega (
        arith,
        short s l all.0,
        lines_short ls ss all.1,
        length-append (ended_line l) (flat_map ended_line ls),
        length-append l (10 ∷ []),
      )

  pub repair_fits : (line old new : List ℕ) (needed : ℕ) → GivesRepaired line old new (too_short needed) → length old < longest_repaired
  repair_fits line old new needed (inr (repaired, is, (text, printed, inl (fits, same, says)))) =
      let code : 0 ≡ 1 = no_other needed _ says in absurd (omega (arith, code))
  repair_fits line old new needed (inr (repaired, is, (text, printed, inr (less, same, says)))) =
      omega (
        arith,
        less,
        ap length printed.text_is,
        lines_short printed.lines (shares_of repaired) printed.printed,
        two_at_most repaired repaired.second refl,
      )
  repair_fits line old new needed (inl (error, is, same, says)) = absurd (no_refusal needed (repair_cause_of error) 0 (above-repair error) says)
