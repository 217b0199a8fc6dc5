-- A run that answers each of its lines by itself.
use Rattle.std.proofs.Common.{◌≡◌, ℕ, suc, ◌+◌, Bool, true, false, List, [], ◌∷◌, ◌++◌, map, inl, inr, refl, sym, ap, ◌∙◌, subst, subst₂, append_assoc, append-nil, arith}
use Rattle.std.proofs.Common.{Option, Result, Ok, Err}
use Rattle.std.specs.List.{flat_map}
use Rattle.s39_input.specs.declared.each_line.NoAnswer.{NoAnswer}
use Rattle.s39_input.specs.declared.each_line.NoAnswer.TheVariants.{Line, WriteFailed}
use Rattle.s39_input.specs.declared.fault.LineRefusal.{LineRefusal}
use Rattle.s39_input.specs.declared.fault.Stop.{Stop}
use Rattle.s39_input.specs.declared.fault.Stop.TheVariants.{AtLine, ReadFailed}
use Rattle.s39_input.specs.declared.fault.Fault.{Fault}
use Rattle.s39_input.specs.Device.{Counted}
use Rattle.s39_input.specs.Input.{lines_of}
use Rattle.s39_input.specs.Fault.{answer_of, read_failures, write_failures, stop_failures}
use Rattle.s39_input.specs.Lines.{at_line, at_end}
use Rattle.s39_input.specs.Midway.{RunsOn, RunsOver}
use Rattle.s39_input.specs.Runs.{OfInput, Writes, Runs}
use Rattle.s39_input.specs.EachLine.{said_until, output_of_each, AnswersLine, answered}
use Rattle.s39_input.proofs.Runs.Devices.{OfInput-map, some_input}
use Rattle.s39_input.proofs.Runs.Writing.{nothing_written, longer_part, writes_whole, writes_more, writes_part}

-- a failed read is answered as such
answers_read_failures : {T : Type 0} (done : T) (answer : Result (Unit {0}) (Stop NoAnswer)) → read_failures (answered done answer) ≡ stop_failures answer
answers_read_failures done (Ok _) = refl
answers_read_failures done (Err ReadFailed) = refl
answers_read_failures {T} done (Err (AtLine refused)) = by refused.number refused.refusal where
  by : (number : ℕ) (refusal : NoAnswer) → read_failures (answered done (Err (AtLine (record { number = number; refusal = refusal })))) ≡ 0
  by number (Line refusal) = refl
  by number WriteFailed = refl

module _ {W S H : Type 0} (contents : W → Option (List ℕ)) (Says : List ℕ → Result H LineRefusal → Type 0) (text_of : H → List ℕ) (output : S → Counted W)
    (Follows : S → List H → S → Type 0) (stays : (s : S) → Follows s [] s)
    (joins : (s t u : S) (said more : List H) → Follows s said t → Follows t more u → Follows s (said ++ more) u) where
  abbrev Takes : S → List ℕ → Result (Unit {0}) NoAnswer → S → Type 0
  Takes = AnswersLine contents Says text_of output Follows

  -- Each line says one thing. The run begins in this state, and the answer to what lines say is known of a state that follows.
  module _ {T : Type 0} (say : List ℕ → Result H LineRefusal) (is_said : (line : List ℕ) (result : Result H LineRefusal) → Says line result → say line ≡ result)
      (answer_to : List H → T) (done : S → T) (first : S)
      (is_answer : (said : List H) (new : S) → Follows first said new → done new ≡ answer_to said) where
    -- what is written and answered behind lines that say these
    abbrev output_behind : List H → List H × Result (Unit {0}) (Stop LineRefusal) → List ℕ × Result T Fault
    output_behind said all = (flat_map text_of all.0, answer_of (answer_to (said ++ all.0)) all.1)

    abbrev IsOutput : List H → List H × Result (Unit {0}) (Stop LineRefusal) → List ℕ → Result T Fault → Type 0
    IsOutput said all text answer = output_behind said all ≡ (text, answer)

    -- what the rest of a run writes, how many writes fail, and what its last state follows
    record Outcome (said : List H) (all : List H × Result (Unit {0}) (Stop LineRefusal)) (old new : S)
        (answer : Result (Unit {0}) (Stop NoAnswer)) : Type 0 where
      writes : Writes contents (IsOutput said all) (output old) (output new) (answered (done new) answer)
      failures : (output new).failures ≡ (output old).failures + write_failures (answered (done new) answer)
      follows : (more : List H) × Follows first more new

    -- nothing more is written
    stays_so : (said : List H) (s : S) (stop : Result (Unit {0}) (Stop LineRefusal)) (answer : Result (Unit {0}) (Stop NoAnswer)) → Follows first said s
        → answer_of (answer_to (said ++ [])) stop ≡ answered (done s) answer → write_failures (answered (done s) answer) ≡ 0
        → Outcome said ([], stop) s s answer
    stays_so said s stop answer follows is none = record {
      writes = writes_whole contents (IsOutput said ([], stop)) (output s) (output s) [] (answered (done s) answer) (nothing_written contents (output s))
          (ap (λ (a : Result T Fault). ([], a)) is);
      failures = omega (arith, none);
      follows = (said, follows);
    }

    done_so : (said : List H) (s : S) → Follows first said s → answer_to (said ++ []) ≡ done s
    done_so said s follows = ap answer_to (append-nil said) ∙ sym (is_answer said s follows)

    runs : (ended : Bool) (n : ℕ) (lines : List (List ℕ)) (said : List H) (old new : S) (answer : Result (Unit {0}) (Stop NoAnswer))
        → Follows first said old → RunsOn Takes ended n lines old new answer → Outcome said (said_until ended n (map say lines)) old new answer
    runs ended n [] said old new answer follows (same, is) =
        subst₂ (λ (s : S) (a : Result (Unit {0}) (Stop NoAnswer)). Outcome said ([], at_end ended tt) old s a) same is (by ended)
      where
        by : (ended : Bool) → Outcome said ([], at_end ended tt) old old (at_end ended tt)
        by true = stays_so said old (Ok tt) (Ok tt) follows (ap Ok (done_so said old follows)) refl
        by false = stays_so said old (Err ReadFailed) (Err ReadFailed) follows refl refl
    runs ended n (line ∷ lines) said old new answer follows (inl (next, (one, says, written, further), later)) =
        subst (λ (r : Result H LineRefusal). Outcome said (said_until ended n (r ∷ map say lines)) old new answer) (sym (is_said line (Ok one) says))
        (goes_on (runs ended (suc n) lines (said ++ one ∷ []) next new answer (joins first old next said (one ∷ []) follows further) later))
      where
        rest : List H × Result (Unit {0}) (Stop LineRefusal)
        rest = said_until ended (suc n) (map say lines)

        goes_on : Outcome (said ++ one ∷ []) rest next new answer → Outcome said (one ∷ rest.0, rest.1) old new answer
        goes_on o = record {
          writes = writes_more contents (IsOutput (said ++ one ∷ []) rest) (IsOutput said (one ∷ rest.0, rest.1)) (output old) (output next) (output new)
              (text_of one) (answered (done new) answer) written o.writes
              (λ text full is. ap (λ (l : List H). (text_of one ++ flat_map text_of rest.0, answer_of (answer_to l) rest.1))
              (sym (append_assoc said (one ∷ []) rest.0)) ∙ ap (λ (w : List ℕ × Result T Fault). (text_of one ++ w.0, w.1)) is);
          failures = let same = written.no_failure in let more = o.failures in omega arith;
          follows = o.follows;
        }
    runs ended n (line ∷ lines) said old new answer follows (inr (Line refusal, (says, same), is)) =
        subst (λ (r : Result H LineRefusal). Outcome said (said_until ended n (r ∷ map say lines)) old new answer) (sym (is_said line (Err refusal) says))
        (subst₂ (λ (s : S) (a : Result (Unit {0}) (Stop NoAnswer)). Outcome said ([], at_line n (Err refusal)) old s a) same is
        (stays_so said old (at_line n (Err refusal)) (at_line n (Err (Line refusal))) follows refl refl))
    runs ended n (line ∷ lines) said old new answer follows (inr (WriteFailed, (one, says, part, further), is)) =
        let rest = said_until ended (suc n) (map say lines) in
        subst (λ (r : Result H LineRefusal). Outcome said (said_until ended n (r ∷ map say lines)) old new answer) (sym (is_said line (Ok one) says))
        (subst (λ (a : Result (Unit {0}) (Stop NoAnswer)). Outcome said (one ∷ rest.0, rest.1) old new a) is (record {
          writes = writes_part contents (IsOutput said (one ∷ rest.0, rest.1)) (output old) (output new) (text_of one ++ flat_map text_of rest.0)
              (answer_of (answer_to (said ++ one ∷ rest.0)) rest.1)
              (longer_part contents (output old) (output new) (text_of one) (flat_map text_of rest.0) part)
              refl;
          failures = part.failure;
          follows = (said ++ [], joins first old new said [] follows further);
        }))

    -- a run over the lines of an input writes the output, or a beginning of it
    pub run_answered : {R : Type 0} {remaining : R → Option (List ℕ)} {reader read_to : Counted R} (new : S) (stop : Result (Unit {0}) (Stop NoAnswer))
        → OfInput remaining reader read_to (λ input. RunsOver Takes input first new stop) → read_to.failures ≡ reader.failures + stop_failures stop
        → Runs remaining contents (λ input text answer. output_of_each text_of answer_to say input ≡ (text, answer)) reader read_to
        (output first) (output new) (answered (done new) stop)
    run_answered {R} {remaining} {reader} {read_to} new stop over_input failures = record {
      output = OfInput-map over_input (λ input over. (runs input.ended 0 (lines_of input) [] first new stop (stays first) over).writes);
      read_failures_are = failures ∙ ap (λ n. reader.failures + n) (sym (answers_read_failures (done new) stop));
      write_failures_are = let (input, over) = some_input remaining reader read_to _ over_input in
          (runs input.ended 0 (lines_of input) [] first new stop (stays first) over).failures;
    }

    -- its last state follows the first
    pub run_follows : {R : Type 0} {remaining : R → Option (List ℕ)} {reader read_to : Counted R} (new : S) (stop : Result (Unit {0}) (Stop NoAnswer))
        → OfInput remaining reader read_to (λ input. RunsOver Takes input first new stop) → (said : List H) × Follows first said new
    run_follows {R} {remaining} {reader} {read_to} new stop over_input = let (input, over) = some_input remaining reader read_to _ over_input in
        (runs input.ended 0 (lines_of input) [] first new stop (stays first) over).follows
