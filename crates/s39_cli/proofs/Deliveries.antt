-- What a run leaves in the writer, once that is flushed.
use Rattle.std.proofs.Common.{◌≡◌, ◌≢◌, ◌⊎◌, ◌++◌, ◌∙◌, ℕ, suc, zero, Bool, List, [], Option, Some, None, IfSome, Result, Ok, Err, ap, arith, inl, inr, refl}
use Rattle.std.proofs.Common.{subst, sym, append-nil, false, true}
use Rattle.std.specs.Io.KnownBytes.{Appends}
use Rattle.s39_input.specs.declared.fault.DeviceFailure.TheVariants.{Write}
use Rattle.s39_input.specs.declared.fault.Refusal.{Refusal}
use Rattle.s39_input.specs.declared.fault.Refusal.TheVariants.{Device}
use Rattle.s39_input.specs.declared.fault.Fault.{Fault}
use Rattle.s39_input.specs.Device.{Counted}
use Rattle.s39_input.specs.Fault.{fault_of, read_failures, read_failures_in, write_failures, write_failures_in}
use Rattle.s39_input.specs.Input.{Input, whole}
use Rattle.s39_input.specs.Runs.{OfInput, Runs, Writes}
use Rattle.s39_input.proofs.Runs.Devices.{of_known, of_cut_off}
use Rattle.s39_cli.specs.declared.patient.Patient.{Patient}
use Rattle.s39_cli.specs.Outcome.{status_of, status_of_refusal}
use Rattle.s39_cli.specs.Ending.{AreAllOf, Delivers, HasStatus, HoldsBeginning, IsFlushed, IsFrom}
use Rattle.s39_cli.proofs.GoingOut.{begun, gone_and_kept}

-- an answer with another status than 3 is of no failed device
no_failures : (a : Result Bool Fault) → status_of a ≢ 3 → (read_failures a ≡ 0) × (write_failures a ≡ 0)
no_failures (Ok is_well) other = (refl, refl)
no_failures (Err fault) other = by_refusal fault.refusal other
  where
    by_refusal : (r : Refusal) → status_of_refusal r ≢ 3 → (read_failures_in r ≡ 0) × (write_failures_in r ≡ 0)
    by_refusal (Device failure) n = absurd (n refl)
    by_refusal _ n = (refl, refl)

none_or_some : (n : ℕ) → (n ≡ 0) ⊎ (n ≢ 0)
none_or_some zero = inl refl
none_or_some (suc n) = inr (λ none. omega arith)

-- what holds of all bytes that are told holds of some bytes, which are all that are told
of_told : (told : Option (List ℕ)) (P : List ℕ → Type 0) → IfSome told P → ((bytes : List ℕ) × P bytes) → (bytes : List ℕ) × AreAllOf told bytes × P bytes
of_told None P all some = (some.0, tt, some.1)
of_told (Some bytes) P all some = (bytes, refl, all)

-- where no read failed, it is so of all bytes
pub of_all : {R : Type 0} (remaining : R → Option (List ℕ)) (first reader : Counted R) (P : Input → Type 0) → OfInput remaining first reader P
    → reader.failures ≡ first.failures → (bytes : List ℕ) × AreAllOf (remaining first.device) bytes × P (whole bytes)
of_all remaining first reader P of same =
    of_told (remaining first.device) (λ bytes. P (whole bytes)) (of_known remaining first reader P of same) (elim of.so [
      | inl d ↦ (of.came ++ [], d.whatever_follows [] true)
      | inr (inl e) ↦ (of.came, e.of_whole)
      | inr (inr f) ↦ (let more = f.one_failure in absurd (omega arith))
    ])

module _ {R W : Type 0} (remaining : R → Option (List ℕ)) (contents : W → Option (List ℕ))
    (IsOutput : Input → List ℕ → Result Bool Fault → Type 0) (reader read_to : Counted R) (writer written_to : Counted (Patient W))
    (last : W) (answer given : Result Bool Fault)
    (runs : Runs remaining (λ (p : Patient W). contents p.output) IsOutput reader read_to writer written_to answer)
    (flushed : IsFlushed (contents written_to.device.output) (contents last) answer given) where
  beginning_of : (input : Input) → Writes (λ (p : Patient W). contents p.output) (IsOutput input) writer written_to answer
      → (text : List ℕ) × ((full : ℕ) × HasStatus IsOutput input text full)
      × HoldsBeginning (contents writer.device.output) (contents last) text
  beginning_of input w = (
    w.text,
    (status_of w.full_answer, (w.full_answer, w.output, refl)),
    subst (HoldsBeginning (contents writer.device.output) (contents last)) (sym w.parts)
        (begun (contents writer.device.output) (contents written_to.device.output) (contents last) w.written w.unwritten w.appends flushed.0),
  )

  all_of : given ≡ answer → status_of given ≢ 3
      → (bytes : List ℕ) × AreAllOf (remaining reader.device) bytes
      × ((text : List ℕ) × HasStatus IsOutput (whole bytes) text (status_of given) × Appends (contents writer.device.output) (contents last) text)
  all_of same other =
      let none = no_failures answer (λ three. other (ap status_of same ∙ three)) in
      let reads : read_to.failures ≡ reader.failures = omega (arith, runs.read_failures_are, none.0) in
      let writes : written_to.failures ≡ writer.failures = omega (arith, runs.write_failures_are, none.1) in
      let all = of_all remaining reader read_to
      (λ input. Writes (λ (p : Patient W). contents p.output) (IsOutput input) writer written_to answer) runs.output reads in
      let w = all.2 in
      let both = w.whole writes in
      let text_is : w.text ≡ w.written = w.parts ∙ ap (λ rest. w.written ++ rest) both.0 ∙ append-nil w.written in (
        all.0,
        all.1,
        (
          w.text,
          (w.full_answer, w.output, ap status_of (same ∙ both.1)),
          subst (Appends (contents writer.device.output) (contents last)) (sym text_is)
              (gone_and_kept (contents writer.device.output) (contents written_to.device.output) (contents last) w.written w.appends flushed.0),
        ),
      )

  -- a run whose writer is flushed delivers its output
  delivers : Delivers remaining contents (HasStatus IsOutput) reader.device writer.device.output (status_of given) read_to.device last
  delivers = record {
    read = (runs.output.came, runs.output.consumed);
    done = λ other. by_answer other flushed.1;
    failed = λ _. by_reads (none_or_some (read_failures answer));
  }
    where
      by_answer : status_of given ≢ 3 → (given ≡ answer) ⊎ (given ≡ Err (fault_of (Device Write)))
          → (bytes : List ℕ) × AreAllOf (remaining reader.device) bytes
          × ((text : List ℕ) × HasStatus IsOutput (whole bytes) text (status_of given) × Appends (contents writer.device.output) (contents last) text)
      by_answer other (inl same) = all_of same other
      by_answer other (inr failed) = absurd (other (ap status_of failed))

      by_reads : (read_failures answer ≡ 0) ⊎ (read_failures answer ≢ 0)
          → (input : Input) × IsFrom (remaining reader.device) (remaining read_to.device) input
          × ((text : List ℕ) × ((full : ℕ) × HasStatus IsOutput input text full) × HoldsBeginning (contents writer.device.output) (contents last) text)
      by_reads (inl none) =
          let same : read_to.failures ≡ reader.failures = omega (arith, runs.read_failures_are, none) in
          let all = of_all remaining reader read_to
          (λ input. Writes (λ (p : Patient W). contents p.output) (IsOutput input) writer written_to answer) runs.output same in
          (whole all.0, inl (refl, all.1), beginning_of (whole all.0) all.2)
      by_reads (inr some) =
          let cut = of_cut_off remaining reader read_to
          (λ input. Writes (λ (p : Patient W). contents p.output) (IsOutput input) writer written_to answer) runs.output
          (λ same. some (omega (arith, runs.read_failures_are, same))) in
          (record { bytes = cut.0; ended = false }, inr (refl, cut.1), beginning_of (record { bytes = cut.0; ended = false }) cut.2)

  -- the same of the devices behind what counts their calls
  pub delivers_behind : (input input' : R) (output : W) → reader.device ≡ input → input' ≡ read_to.device → writer.device.output ≡ output
      → Delivers remaining contents (HasStatus IsOutput) input output (status_of given) input' last
  delivers_behind input input' output is is' starts =
      subst (λ (r : R). Delivers remaining contents (HasStatus IsOutput) r output (status_of given) input' last) is
      (subst (λ (r : R). Delivers remaining contents (HasStatus IsOutput) reader.device output (status_of given) r last) (sym is')
      (subst (λ (w : W). Delivers remaining contents (HasStatus IsOutput) reader.device w (status_of given) read_to.device last) starts delivers))

-- what follows from what is written
pub Delivers-map : {R W : Type 0} (remaining : R → Option (List ℕ)) (contents : W → Option (List ℕ)) (IsOutput Follows : Input → List ℕ → ℕ → Type 0)
    (reader : R) (writer : W) (status : ℕ) (read_to : R) (written_to : W) → Delivers remaining contents IsOutput reader writer status read_to written_to
    → ((input : Input) (text : List ℕ) (full : ℕ) → IsOutput input text full → Follows input text full)
    → Delivers remaining contents Follows reader writer status read_to written_to
Delivers-map remaining contents IsOutput Follows reader writer status read_to written_to delivered then = record {
  read = delivered.read;
  done = λ other. (let w = delivered.done other in (w.0, w.1, (w.2.0, then (whole w.0) w.2.0 status w.2.1, w.2.2)));
  failed = λ three. (let w = delivered.failed three in (w.0, w.1, (w.2.0, (w.2.1.0, then w.0 w.2.0 w.2.1.0 w.2.1.1), w.2.2)));
}
