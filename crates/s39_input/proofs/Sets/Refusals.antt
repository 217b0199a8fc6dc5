-- The lines before a refusal are accepted.
use Rattle.std.proofs.Common.{◌≡◌, ℕ, suc, ◌+◌, Bool, true, false, List, [], ◌∷◌, ◌++◌, length, All, inl, inr, refl, sym, ap, ◌∙◌, arith}
use Rattle.std.proofs.Common.{Option, Some, None, Result, Ok, Err}
use Rattle.std.proofs.lemmas.List.Elements.{All-nil, All-cons}
use Rattle.s39_lists.proofs.Each.{then_gives}
use Rattle.s39_lists.specs.Each.{and_then}
use Rattle.s39_words.specs.declared.ShareFields.{ShareFields}
use Rattle.s39_set.specs.declared.set_error.SetError.{SetError}
use Rattle.s39_set.specs.ShareSet.{refusal_of}
use Rattle.s39_input.specs.declared.fault.LineRefusal.{LineRefusal}
use Rattle.s39_input.specs.declared.fault.RefusedLine.{RefusedLine}
use Rattle.s39_input.specs.declared.fault.Stop.TheVariants.{AtLine, ReadFailed}
use Rattle.s39_input.specs.Fault.{line_number}
use Rattle.s39_input.specs.Input.{Input, lines_of}
use Rattle.s39_input.specs.Lines.{IsReadable, Holds, share_in, at_line, led}
use Rattle.s39_input.specs.Accepted.{IsReadAs, read_as, with_held, with_line, joined}
use Rattle.s39_input.specs.Refused.{AreAccepted, IsRefusedAmong, IsFirstRefused}
use Rattle.s39_input.proofs.Sets.Collected.{collected, line_taken, no_shares, set_of}

-- ---- where lines lead

module _ {S C : Type 0} (step : S → List ℕ → Result S C) where
  record Stops (n : ℕ) (s : S) (lines : List (List ℕ)) (refused : RefusedLine C) : Type 0 where
    before : List (List ℕ)
    line : List ℕ
    after : List (List ℕ)
    reached : S
    parts : lines ≡ before ++ line ∷ after
    leads : led step true n s before ≡ Ok reached
    refuses : step reached line ≡ Err refused.refusal
    number_is : refused.number ≡ line_number (n + length before)

  stops : (ended : Bool) (n : ℕ) (s : S) (lines : List (List ℕ)) (refused : RefusedLine C) → led step ended n s lines ≡ Err (AtLine refused)
      → Stops n s lines refused
  stops true n s [] refused is = absurd (cc)
  stops false n s [] refused is = absurd (cc)
  stops ended n s (line ∷ lines) refused is = by (λ next. stops ended (suc n) next lines refused) (step s line) refl is where
    by : ((next : S) → led step ended (suc n) next lines ≡ Err (AtLine refused) → Stops (suc n) next lines refused) → (taken : Result S C)
        → step s line ≡ taken → and_then (λ t. led step ended (suc n) t lines) (at_line n taken) ≡ Err (AtLine refused) → Stops n s (line ∷ lines) refused
    by others (Err cause) refuses is =
        let same : ◌≡◌ {A = RefusedLine C} (record { number = line_number n; refusal = cause }) refused = cc in
        let count : n ≡ n + length {A = List ℕ} [] = omega arith in record {
          before = [];
          line = line;
          after = lines;
          reached = s;
          parts = refl;
          leads = refl;
          refuses = refuses ∙ ap (λ (r : RefusedLine C). Err r.refusal) same;
          number_is = sym (ap (λ (r : RefusedLine C). r.number) same) ∙ ap line_number count;
        }
    by others (Ok next) taken is =
        let rest = others next is in
        let count : suc n + length rest.before ≡ n + length (line ∷ rest.before) = omega arith in record {
          before = line ∷ rest.before;
          line = rest.line;
          after = rest.after;
          reached = rest.reached;
          parts = ap (λ ls. line ∷ ls) rest.parts;
          leads = ap (λ r. and_then (λ t. led step true (suc n) t rest.before) (at_line n r)) taken ∙ rest.leads;
          refuses = rest.refuses;
          number_is = rest.number_is ∙ ap line_number count;
        }

  -- before a failed read, all lines are taken
  record Fails (ended : Bool) (n : ℕ) (s : S) (lines : List (List ℕ)) : Type 0 where
    failed : ended ≡ false
    reached : S
    leads : led step true n s lines ≡ Ok reached

  fails : (ended : Bool) (n : ℕ) (s : S) (lines : List (List ℕ)) → led step ended n s lines ≡ Err ReadFailed → Fails ended n s lines
  fails true n s [] is = absurd (cc)
  fails false n s [] is = record { failed = refl; reached = s; leads = refl }
  fails ended n s (line ∷ lines) is = by (λ next. fails ended (suc n) next lines) (step s line) refl is where
    by : ((next : S) → led step ended (suc n) next lines ≡ Err ReadFailed → Fails ended (suc n) next lines) → (taken : Result S C)
        → step s line ≡ taken → and_then (λ t. led step ended (suc n) t lines) (at_line n taken) ≡ Err ReadFailed → Fails ended n s (line ∷ lines)
    by others (Err cause) refuses is = absurd (cc)
    by others (Ok next) taken is =
        let rest = others next is in record {
          failed = rest.failed;
          reached = rest.reached;
          leads = ap (λ r. and_then (λ t. led step true (suc n) t lines) (at_line n r)) taken ∙ rest.leads;
        }

-- ---- the lines of an input

readable_line : (set : List ShareFields) (line : List ℕ) (more : List ShareFields) → with_line set line ≡ Ok more → IsReadable line
readable_line set line more taken = let held = then_gives (with_held set) (share_in line) more taken in (held.a, held.first_is)

readable_lines : (ended : Bool) (n : ℕ) (set : List ShareFields) (lines : List (List ℕ)) (more : List ShareFields)
    → led with_line ended n set lines ≡ Ok more → All IsReadable lines
readable_lines ended n set [] more leads = All-nil IsReadable
readable_lines ended n set (line ∷ lines) more leads =
    let first = then_gives (λ t. led with_line ended (suc n) t lines) (at_line n (with_line set line)) more leads in
    All-cons IsReadable line lines (readable_line set line first.a (line_taken n (with_line set line) first.a first.first_is))
    (readable_lines ended (suc n) first.a lines more first.then_is)

are_accepted : (lines : List (List ℕ)) (set : List ShareFields) → led with_line true 0 [] lines ≡ Ok set → AreAccepted lines set
are_accepted lines set leads =
    let (ended, c) = collected true 0 [] lines set no_shares leads in
    record { readable = readable_lines true 0 [] lines set leads; is_share_set = c.is_set; is_set = set_of lines set c }

refused_among : (set : List ShareFields) (line : List ℕ) (refusal : LineRefusal) → with_line set line ≡ Err refusal → IsRefusedAmong set line refusal
refused_among set line refusal refused = by (share_in line) refl refused where
  share_refused : (share : ShareFields) → Holds line (Some share) → (cause : Option SetError) → refusal_of set share ≡ cause
      → joined set share cause ≡ Err refusal → IsRefusedAmong set line refusal
  share_refused share holds None none refused = absurd (cc)
  share_refused share holds (Some error) some refused = inr (share, error, holds, some, cc)

  by : (said : Result (Option ShareFields) LineRefusal) → share_in line ≡ said → and_then (with_held set) said ≡ Err refusal
      → IsRefusedAmong set line refusal
  by (Err own) says refused = let same : own ≡ refusal = cc in inl (says ∙ ap (λ r. Err r) same)
  by (Ok None) says refused = absurd (cc)
  by (Ok (Some share)) says refused = share_refused share says (refusal_of set share) refl refused

-- an accepted input has no line that is refused by itself
pub readable : (input : Input) (set : List ShareFields) → IsReadAs input (Ok set) → All IsReadable (lines_of input)
unfolding read_as
readable input set read = readable_lines input.ended 0 [] (lines_of input) set read

-- a refused input has a first line that is refused
pub first_refused : (input : Input) (refused : RefusedLine LineRefusal) → IsReadAs input (Err (AtLine refused)) → IsFirstRefused (lines_of input) refused
unfolding read_as
first_refused input refused read =
    let at = stops with_line input.ended 0 [] (lines_of input) refused read in
    let count : 0 + length at.before ≡ length at.before = omega arith in record {
      before = at.before;
      line = at.line;
      after = at.after;
      set = at.reached;
      parts = at.parts;
      accepted = are_accepted at.before at.reached at.leads;
      refuses = refused_among at.reached at.line refused.refusal at.refuses;
      number_is = at.number_is ∙ ap line_number count;
    }

-- the lines before a failed read are accepted
pub before_failure : (input : Input) → IsReadAs input (Err ReadFailed)
    → (input.ended ≡ false) × ((set : List ShareFields) × AreAccepted (lines_of input) set)
unfolding read_as
before_failure input read =
    let at = fails with_line input.ended 0 [] (lines_of input) read in
    (at.failed, (at.reached, are_accepted (lines_of input) at.reached at.leads))
