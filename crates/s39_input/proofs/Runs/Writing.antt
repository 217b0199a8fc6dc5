-- What a run writes.
use Rattle.std.proofs.Common.{◌≡◌, ℕ, ◌+◌, List, [], ◌++◌, refl, sym, ap, ◌∙◌, append_assoc, append-nil, arith, Option, Result, Err}
use Rattle.std.proofs.KnownBytes.{Appends-nil, Appends-trans}
use Rattle.s39_input.specs.declared.fault.Fault.{Fault}
use Rattle.s39_input.specs.Device.{Counted}
use Rattle.s39_input.specs.Output.{WritesWhole, WritesPart}
use Rattle.s39_input.specs.declared.fault.Refusal.TheVariants.{Device}
use Rattle.s39_input.specs.declared.fault.DeviceFailure.TheVariants.{Write}
use Rattle.s39_input.specs.Fault.{fault_of, read_failures, write_failures}
use Rattle.s39_input.specs.Input.{Input}
use Rattle.s39_input.specs.Runs.{OfInput, Writes, Runs}
use Rattle.s39_input.proofs.Runs.Devices.{OfInput-map}

module _ {W : Type 0} (contents : W → Option (List ℕ)) where
  pub nothing_written : (output : Counted W) → WritesWhole contents output [] output
  nothing_written output = record { appends = Appends-nil (contents output.device); no_failure = refl }

  pub both_written : (old mid new : Counted W) (text more : List ℕ) → WritesWhole contents old text mid → WritesWhole contents mid more new
      → WritesWhole contents old (text ++ more) new
  both_written old mid new text more first then = record {
    appends = Appends-trans (contents old.device) (contents mid.device) (contents new.device) text more first.appends then.appends;
    no_failure = then.no_failure ∙ first.no_failure;
  }

  -- a text is written, and of the next one a part, and then a write failed
  pub part_after : (old mid new : Counted W) (text more rest : List ℕ) → WritesWhole contents old text mid → WritesPart contents mid more new
      → WritesPart contents old (text ++ (more ++ rest)) new
  part_after old mid new text more rest first part = record {
    written = text ++ part.written;
    unwritten = part.unwritten ++ rest;
    parts = ap (λ l. text ++ (l ++ rest)) part.parts ∙ simp append_assoc;
    appends = Appends-trans (contents old.device) (contents mid.device) (contents new.device) text part.written first.appends part.appends;
    failure = let none = first.no_failure in let one = part.failure in omega arith;
  }

  -- a part of a text is a part of a longer one
  pub longer_part : (old new : Counted W) (text more : List ℕ) → WritesPart contents old text new → WritesPart contents old (text ++ more) new
  longer_part old new text more part = record {
    written = part.written;
    unwritten = part.unwritten ++ more;
    parts = ap (λ l. l ++ more) part.parts ∙ append_assoc part.written part.unwritten more;
    appends = part.appends;
    failure = part.failure;
  }

  -- a text is written before an output
  pub writes_more : {T : Type 0} (IsRest IsOutput : List ℕ → Result T Fault → Type 0) (old mid new : Counted W) (text : List ℕ) (answer : Result T Fault)
      → WritesWhole contents old text mid → Writes contents IsRest mid new answer
      → ((rest : List ℕ) (full : Result T Fault) → IsRest rest full → IsOutput (text ++ rest) full) → Writes contents IsOutput old new answer
  writes_more IsRest IsOutput old mid new text answer first w is = record {
    text = text ++ w.text;
    full_answer = w.full_answer;
    output = is w.text w.full_answer w.output;
    written = text ++ w.written;
    unwritten = w.unwritten;
    parts = ap (λ l. text ++ l) w.parts ∙ sym (append_assoc text w.written w.unwritten);
    appends = Appends-trans (contents old.device) (contents mid.device) (contents new.device) text w.written first.appends w.appends;
    whole = λ same. w.whole (same ∙ sym first.no_failure);
    cut_short = λ other. w.cut_short (λ same. other (same ∙ first.no_failure));
  }

  module _ {T : Type 0} (IsOutput : List ℕ → Result T Fault → Type 0) where
    -- the whole output is written
    pub writes_whole : (old new : Counted W) (text : List ℕ) (answer : Result T Fault) → WritesWhole contents old text new → IsOutput text answer
        → Writes contents IsOutput old new answer
    writes_whole old new text answer written output = record {
      text = text;
      full_answer = answer;
      output = output;
      written = text;
      unwritten = [];
      parts = sym (append-nil text);
      appends = written.appends;
      whole = λ _. (refl, refl);
      cut_short = λ other. absurd (other written.no_failure);
    }

    -- a part of the output is written, and then a write failed
    pub writes_part : (old new : Counted W) (text : List ℕ) (full_answer : Result T Fault) → WritesPart contents old text new → IsOutput text full_answer
        → Writes contents IsOutput old new (Err (fault_of (Device Write)))
    writes_part old new text full_answer part output = record {
      text = text;
      full_answer = full_answer;
      output = output;
      written = part.written;
      unwritten = part.unwritten;
      parts = part.parts;
      appends = part.appends;
      whole = λ same. (let more = part.failure in absurd (omega arith));
      cut_short = λ _. refl;
    }

-- Of a run that writes one text at its end.
module _ {R W T : Type 0} {remaining : R → Option (List ℕ)} {contents : W → Option (List ℕ)} {IsOutput : Input → List ℕ → Result T Fault → Type 0}
    {reader read_to : Counted R} {writer written_to : Counted W} {text : List ℕ} where
  pub run_whole : {answer : Result T Fault} → WritesWhole contents writer text written_to
      → OfInput remaining reader read_to (λ input. IsOutput input text answer)
      → read_to.failures ≡ reader.failures + read_failures answer → write_failures answer ≡ 0
      → Runs remaining contents IsOutput reader read_to writer written_to answer
  run_whole {answer} written output reads writes = record {
    output = OfInput-map output (λ input is. writes_whole contents (IsOutput input) writer written_to text answer written is);
    read_failures_are = reads;
    write_failures_are = let same = written.no_failure in omega arith;
  }

  pub run_part : (answer : Result T Fault) → WritesPart contents writer text written_to
      → OfInput remaining reader read_to (λ input. IsOutput input text answer)
      → read_to.failures ≡ reader.failures → Runs remaining contents IsOutput reader read_to writer written_to (Err (fault_of (Device Write)))
  run_part answer part output reads = record {
    output = OfInput-map output (λ input is. writes_part contents (IsOutput input) writer written_to text answer part is);
    read_failures_are = omega arith;
    write_failures_are = part.failure;
  }

-- what follows from what is written and answered
pub Runs-map : {R W T : Type 0} {remaining : R → Option (List ℕ)} {contents : W → Option (List ℕ)}
    {IsOutput Follows : Input → List ℕ → Result T Fault → Type 0} {reader read_to : Counted R} {writer written_to : Counted W} {answer : Result T Fault}
    → Runs remaining contents IsOutput reader read_to writer written_to answer
    → ((input : Input) (text : List ℕ) (full : Result T Fault) → IsOutput input text full → Follows input text full)
    → Runs remaining contents Follows reader read_to writer written_to answer
Runs-map runs then = record {
  output = OfInput-map runs.output (λ input w. record {
    text = w.text;
    full_answer = w.full_answer;
    output = then input w.text w.full_answer w.output;
    written = w.written;
    unwritten = w.unwritten;
    parts = w.parts;
    appends = w.appends;
    whole = w.whole;
    cut_short = w.cut_short;
  });
  read_failures_are = runs.read_failures_are;
  write_failures_are = runs.write_failures_are;
}
