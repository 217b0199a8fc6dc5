-- What is written for lines of marks: one thing, and something. When two mnemonics fit.
use Rattle.std.proofs.Common.{◌≡◌, ◌⊎◌, ℕ, Bool, cond, length, map, ◌&&◌, suc, true, false, List, [], ◌∷◌, All, Contains, refl, sym, ap, ◌∙◌, subst, inl, inr, arith, Option, Some, None, Result, Ok, Err}
use Rattle.std.specs.Prelude.{is_some, not, nat_lt, MatchOption}
use Rattle.std.specs.List.{AllZip, list_all, flat_map}
use Rattle.std.specs.Option.{option_to_list}
use Rattle.std.proofs.lemmas.Bool.{cases_Bool, lt-ltb, ltb-false}
use Rattle.std.proofs.lemmas.Bool.Decides.{nat_tests}
use Rattle.std.proofs.lemmas.List.Elements.{All-nil, All-cons, All-head, All-tail, All-contains}
use Rattle.std.proofs.lemmas.List.Sums.{AllPass-from_list_all}
use Rattle.s39_words.specs.declared.ShareFields.{ShareFields}
use Rattle.s39_words.specs.Printing.{IsPrinted}
use Rattle.s39_words.specs.Share.{IsShare}
use Rattle.s39_repair.specs.declared.repaired.Repaired.{Repaired}
use Rattle.s39_repair.specs.declared.repair_error.RepairError.{RepairError}
use Rattle.s39_repair.specs.Answer.{AreAll, ComesBefore, Repairs}
use Rattle.s39_repair.specs.Marks.{Fits}
use Rattle.s39_repair.proofs.OneAnswer.{not_before_itself}
use Rattle.s39_input.specs.declared.fault.LineRefusal.{LineRefusal}
use Rattle.s39_input.specs.declared.fault.LineRefusal.TheVariants.{Marks, TooLong}
use Rattle.s39_input.specs.declared.fault.Fault.{Fault}
use Rattle.s39_input.specs.declared.fault.Stop.{Stop}
use Rattle.s39_input.specs.Create.{ArePrintedLines}
use Rattle.s39_input.specs.EachLine.{said_until}
use Rattle.s39_input.specs.Fault.{answer_of}
use Rattle.s39_input.specs.Input.{Input, is_skipped, lines_of, longest_line}
use Rattle.s39_input.specs.Lines.{held, said}
use Rattle.s39_input.specs.Repair.{shares_of, RepairsTo, fits_one, mnemonics_text, repair_output, IsRepairOutput, MarksSay, TwoFit}
use Rattle.s39_input.proofs.Runs.PrintedLines.{printed_all, lines_once}
use Rattle.s39_input.proofs.Runs.EachOutput.{all-said, said-same}
use Rattle.s39_input.proofs.Sets.Checked.{same_writing}
use Rattle.s39_input.proofs.Taking.SaidByLines.{said_skipped, said_held}

-- what is known of the mnemonics that fit besides the first
abbrev Others : List ℕ → List ℕ → Option ShareFields → Type 0
Others line mnemonic second = MatchOption second ((other : List ℕ) (share : ShareFields) → Fits line other share → other ≡ mnemonic)
    (λ found. (last : List ℕ) × Fits line last found × ComesBefore mnemonic last
    × ((other : List ℕ) (share : ShareFields) → Fits line other share → (other ≡ mnemonic) ⊎ (other ≡ last)))

-- ---- one thing, and something

module _ (one_answer : (line : List ℕ) (a b : Result Repaired RepairError) → Repairs line a → Repairs line b → a ≡ b)
    (one_printed_form : (share : ShareFields) (text other : List ℕ) → IsPrinted text share → IsPrinted other share → text ≡ other) where
  pub repairs_once : (line : List ℕ) (r s : Result (List (List ℕ)) RepairError) → RepairsTo line r → RepairsTo line s → r ≡ s
  repairs_once line (Ok ms) (Ok ns) (a, p, printed) (b, q, printed') =
      let both = one_answer line (Ok a) (Ok b) p q in
      let same : a ≡ b = cc in
      ap Ok (lines_once one_printed_form (shares_of b) ms ns (subst (λ (x : Repaired). AllZip IsPrinted ms (shares_of x)) same printed) printed')
  repairs_once line (Ok ms) (Err e) (a, p, printed) q = let both = one_answer line (Ok a) (Err e) p q in absurd (cc)
  repairs_once line (Err e) (Ok ns) p (b, q, printed) = let both = one_answer line (Err e) (Ok b) p q in absurd (cc)
  repairs_once line (Err e) (Err f) p q = let both = one_answer line (Err e) (Err f) p q in cc

are_shares : (line : List ℕ) (repaired : Repaired) → AreAll (Fits line) repaired → All IsShare (shares_of repaired)
are_shares line repaired all = All-cons IsShare repaired.first (option_to_list repaired.second) all.first.spells.is_share (by repaired.second all.others) where
  by : (second : Option ShareFields) → Others line all.mnemonic second → All IsShare (option_to_list second)
  by None only = All-nil IsShare
  by (Some found) (last, fits, _, _) = All-cons IsShare found [] fits.spells.is_share (All-nil IsShare)

pub repairs_some : ((line : List ℕ) → (answer : Result Repaired RepairError) × Repairs line answer)
    → ((share : ShareFields) → IsShare share → (text : List ℕ) × IsPrinted text share) → (line : List ℕ)
    → (r : Result (List (List ℕ)) RepairError) × RepairsTo line r
repairs_some some every line = let answer = some line in by answer.0 answer.1 where
  by : (answer : Result Repaired RepairError) → Repairs line answer → (r : Result (List (List ℕ)) RepairError) × RepairsTo line r
  by (Ok repaired) p =
      let (text, printed) = printed_all every (shares_of repaired) (are_shares line repaired p.2) in (Ok printed.lines, (repaired, p, printed.printed))
  by (Err error) p = (Err error, p)

-- what a line says whose mnemonics are printed
pub said_of : (line : List ℕ) (found : Option Repaired) (repaired : Repaired) (text : List ℕ) → MarksSay Repairs line (Ok found) → found ≡ Some repaired
    → (p : ArePrintedLines (shares_of repaired) text) → MarksSay RepairsTo line (Ok (Some p.lines))
said_of line None repaired text says is p = absurd (cc)
said_of line (Some other) repaired text (short, unskipped, says) is p =
    let same : other ≡ repaired = cc in
    (short, unskipped, (repaired, subst (λ (x : Repaired). Repairs line (Ok x)) same says, p.printed))

-- what fits a line is what it says
module _ (line : List ℕ) (answer : Result (List (List ℕ)) RepairError) (fits : RepairsTo line answer) where
  pub says_fitting : ((r s : Result (List (List ℕ)) RepairError) → RepairsTo line r → RepairsTo line s → r ≡ s)
      → (result : Result (Option (List (List ℕ))) LineRefusal) → MarksSay RepairsTo line result → said Marks line answer ≡ result
  says_fitting once (Ok None) (short, skipped) = said_skipped Marks line answer short skipped
  says_fitting once (Ok (Some found)) (short, other, found_fits) =
      said_held Marks line answer short other ∙ ap (held Marks) (once answer (Ok found) fits found_fits)
  says_fitting once (Err refusal) (inl (long, is)) =
      ap (λ b. cond b (Err TooLong) (cond (is_skipped line) (Ok None) (held Marks answer))) (lt-ltb longest_line (length line) long) ∙ ap Err (sym is)
  says_fitting once (Err refusal) (inr (short, other, (error, refused, is))) =
      said_held Marks line answer short other ∙ ap (held Marks) (once answer (Err error) fits refused) ∙ ap Err (sym is)

  fitting_said : (found : Option (List (List ℕ))) → said Marks line answer ≡ Ok found → MarksSay RepairsTo line (Ok found)
  fitting_said found is = by (nat_lt longest_line (length line)) (is_skipped line) answer refl refl fits found is where
    by : (long skipped : Bool) (r : Result (List (List ℕ)) RepairError) → nat_lt longest_line (length line) ≡ long → is_skipped line ≡ skipped
        → RepairsTo line r → (found : Option (List (List ℕ))) → cond long (Err TooLong) (cond skipped (Ok None) (held Marks r)) ≡ Ok found
        → MarksSay RepairsTo line (Ok found)
    by true skipped r long other so found is = absurd (cc)
    by false true r short skipped_is so None is = (ltb-false _ _ short, skipped_is)
    by false true r short skipped_is so (Some found) is = absurd (cc)
    by false false (Err error) short other so found is = absurd (cc)
    by false false (Ok found) short other so None is = absurd (cc)
    by false false (Ok found) short other so (Some another) is =
        let same : found ≡ another = cc in (ltb-false _ _ short, other, subst (λ (ms : List (List ℕ)). RepairsTo line (Ok ms)) same so)

-- ---- how many fit

-- there is one line if there is one share
pub one_line : (first : ShareFields) (second : Option ShareFields) (mnemonics : List (List ℕ))
    → AllZip IsPrinted mnemonics (first ∷ option_to_list second) → fits_one (Some mnemonics) ≡ not (is_some second)
one_line first second [] printed = absurd printed
one_line first None (m ∷ []) printed = refl
one_line first (Some found) (m ∷ []) printed = absurd printed.1
one_line first None (m ∷ n ∷ ms) printed = absurd printed.1
one_line first (Some found) (m ∷ n ∷ ms) printed = grind (arith, nat_tests)

abbrev IsSaid : List ℕ → Option (List (List ℕ)) → Type 0
IsSaid line said = MarksSay RepairsTo line (Ok said)

-- whether two mnemonics fit a line, by what is known of those that fit
module _ (line mnemonic : List ℕ) (first : ShareFields) where
  only_one : (second : Option ShareFields) → Others line mnemonic second → not (is_some second) ≡ true → TwoFit line → ⊥
  only_one None others one t = t.different (others t.mnemonic t.share t.fits ∙ sym (others t.other t.found t.also_fits))
  only_one (Some found) others one t = cc

  two : (second : Option ShareFields) → Others line mnemonic second → not (is_some second) ≡ false → Fits line mnemonic first
      → is_skipped line ≡ false → TwoFit line
  two None others fails fits other = absurd (cc)
  two (Some found) (last, also_fits, before, _) fails fits other = record {
    not_skipped = other;
    mnemonic = mnemonic;
    other = last;
    share = first;
    found = found;
    fits = fits;
    also_fits = also_fits;
    different = λ same. not_before_itself last (subst (λ words. ComesBefore words last) same before);
  }

one_fits : (line : List ℕ) (said : Option (List (List ℕ))) → IsSaid line said → fits_one said ≡ true → TwoFit line → ⊥
one_fits line None says one t = let yes = says.1 in let no = t.not_skipped in cc
one_fits line (Some mnemonics) (short, other, (repaired, says, printed)) one t =
    only_one line says.2.mnemonic repaired.first repaired.second says.2.others
    (sym (one_line repaired.first repaired.second mnemonics printed) ∙ one) t

two_fit : (line : List ℕ) (said : Option (List (List ℕ))) → IsSaid line said → fits_one said ≡ false → TwoFit line
two_fit line None says fails = absurd (cc)
two_fit line (Some mnemonics) (short, other, (repaired, says, printed)) fails =
    two line says.2.mnemonic repaired.first repaired.second says.2.others
    (sym (one_line repaired.first repaired.second mnemonics printed) ∙ fails) says.2.first other

none_fit_two : (lines : List (List ℕ)) (said : List (Option (List (List ℕ)))) → AllZip IsSaid lines said → All (λ one. fits_one one ≡ true) said
    → All (λ line. TwoFit line → ⊥) lines
none_fit_two [] said says one = All-nil (λ line. TwoFit line → ⊥)
none_fit_two (line ∷ lines) [] says one = absurd says
none_fit_two (line ∷ lines) (h ∷ hs) says one =
    All-cons (λ line. TwoFit line → ⊥) line lines (one_fits line h says.0 (All-head (λ one. fits_one one ≡ true) h hs one))
    (none_fit_two lines hs says.1 (All-tail (λ one. fits_one one ≡ true) h hs one))

some_fit_two : (lines : List (List ℕ)) (said : List (Option (List (List ℕ)))) → AllZip IsSaid lines said → list_all fits_one said ≡ false
    → (line : List ℕ) × Contains lines line × TwoFit line
some_fit_two [] [] says fails = absurd (cc)
some_fit_two [] (h ∷ hs) says fails = absurd says
some_fit_two (line ∷ lines) [] says fails = absurd says
some_fit_two (line ∷ lines) (h ∷ hs) says fails =
    elim (cases_Bool (fits_one h)) [
      | inl one ↦
          let rest = some_fit_two lines hs says.1 (sym (ap (λ b. b && list_all fits_one hs) one) ∙ fails) in
          (rest.0, (suc rest.1.0, omega (arith, rest.1.1), rest.1.2), rest.2)
      | inr other ↦ (line, (0, omega arith, refl), two_fit line h says.0 other)
    ]

-- ---- the answer of a run

module _ (fitting : List ℕ → Result (List (List ℕ)) RepairError) (fits : (line : List ℕ) → RepairsTo line (fitting line)) where
  all_say : (lines : List (List ℕ)) (said_of_all : List (Option (List (List ℕ)))) → map (λ line. said Marks line (fitting line)) lines ≡ map Ok said_of_all
      → AllZip IsSaid lines said_of_all
  all_say [] [] is = tt
  all_say [] (h ∷ hs) is = absurd (cc)
  all_say (line ∷ lines) [] is = absurd (cc)
  all_say (line ∷ lines) (h ∷ hs) is =
      let here : said Marks line (fitting line) ≡ Ok h = cc in
      let later : map (λ l. said Marks l (fitting l)) lines ≡ map Ok hs = cc in
      (fitting_said line (fitting line) (fits line) h here, all_say lines hs later)

  -- where no line is refused, the answer is made of what each says
  answer_parts : (input : Input) (text : List ℕ) (one_each : Bool) → repair_output fitting input ≡ (text, Ok one_each)
      → (found : List (Option (List (List ℕ)))) × AllZip IsSaid (lines_of input) found × (list_all fits_one found ≡ one_each)
  unfolding repair_output
  answer_parts input text one_each is = by all.1 refl (ap (λ (w : List ℕ × Result Bool Fault). w.1) is) where
    results : List (Result (Option (List (List ℕ))) LineRefusal)
    results = map (λ line. said Marks line (fitting line)) (lines_of input)

    all : List (Option (List (List ℕ))) × Result (Unit {0}) (Stop LineRefusal)
    all = said_until input.ended 0 results

    by : (stop : Result (Unit {0}) (Stop LineRefusal)) → all.1 ≡ stop → answer_of (list_all fits_one all.0) stop ≡ Ok one_each
        → (found : List (Option (List (List ℕ)))) × AllZip IsSaid (lines_of input) found × (list_all fits_one found ≡ one_each)
    by (Err stop) stops is = absurd (cc)
    by (Ok _) ends is = (all.0, all_say (lines_of input) all.0 (all-said input.ended 0 results ends), cc)

pub told : (input : Input) (text line : List ℕ) (one_each : Bool) → IsRepairOutput input text (Ok one_each) → Contains (lines_of input) line → TwoFit line
    → one_each ≡ false
told input text line one_each (fitting, fits, is) among two =
    let (found, says, same) = answer_parts fitting fits input text one_each is in
    elim (cases_Bool (list_all fits_one found)) [
      | inl all ↦
          let none = none_fit_two (lines_of input) found says (AllPass-from_list_all fits_one found all) in
          absurd (All-contains (λ l. TwoFit l → ⊥) (lines_of input) line none among two)
      | inr other ↦ sym same ∙ other
    ]

pub only_told : (input : Input) (text : List ℕ) → IsRepairOutput input text (Ok false) → (line : List ℕ) × Contains (lines_of input) line × TwoFit line
only_told input text (fitting, fits, is) =
    let (found, says, same) = answer_parts fitting fits input text false is in some_fit_two (lines_of input) found says same

-- ---- one output, and some

pub one_output : ((line : List ℕ) (r s : Result (List (List ℕ)) RepairError) → RepairsTo line r → RepairsTo line s → r ≡ s)
    → (input : Input) (text other : List ℕ) (answer another : Result Bool Fault) → IsRepairOutput input text answer → IsRepairOutput input other another
    → (text ≡ other) × (answer ≡ another)
unfolding repair_output
one_output once input text other answer another (fitting, fits, p) (others, others_fit, q) =
    let same = said-same (λ line. said Marks line (fitting line)) (λ line. said Marks line (others line))
    (λ line. ap (said Marks line) (once line (fitting line) (others line) (fits line) (others_fit line))) (lines_of input) in
    same_writing text other answer another (sym p
    ∙ ap (λ rs. let all = said_until input.ended 0 rs in (flat_map mnemonics_text all.0, answer_of (list_all fits_one all.0) all.1)) same ∙ q)

pub some_output : ((line : List ℕ) → (r : Result (List (List ℕ)) RepairError) × RepairsTo line r) → (input : Input)
    → (text : List ℕ) × (answer : Result Bool Fault) × IsRepairOutput input text answer
some_output every input =
    let chosen : List ℕ → Result (List (List ℕ)) RepairError = λ line. (every line).0 in
    ((repair_output chosen input).0, (repair_output chosen input).1, (chosen, (λ line. (every line).1), refl))
