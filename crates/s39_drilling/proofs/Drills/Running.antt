-- A run from the set of its input on.
use Rattle.std.proofs.Common.{◌≡◌, ◌+◌, ℕ, List, Option, Some, None, IfSome, Ok, Err, ◌++◌, arith, refl}
use Rattle.s39_words.specs.declared.ShareFields.{ShareFields}
use Rattle.s39_set.specs.Names.{Names}
use Rattle.s39_set.specs.Quorums.{IsQuorum}
use Rattle.s39_kdf.specs.declared.secret_form.SecretForm.{SecretForm}
use Rattle.s39_input.specs.declared.fault.DeviceFailure.TheVariants.{Write}
use Rattle.s39_input.specs.declared.fault.Fault.{Fault}
use Rattle.s39_input.specs.declared.fault.Refusal.TheVariants.{Device}
use Rattle.s39_input.specs.declared.output.WriteFailed.{WriteFailed}
use Rattle.s39_input.specs.Accepted.{IsCheckedSet}
use Rattle.s39_input.specs.Device.{Counted}
use Rattle.s39_input.specs.Fault.{fault_of, read_failures, write_failures}
use Rattle.s39_input.specs.Runs.{OfInput, Runs}
use Rattle.s39_input.specs.Steps.{gives, refuses}
use Rattle.s39_input.proofs.Runs.Devices.{OfInput-map}
use Rattle.s39_input.proofs.Runs.Writing.{nothing_written, run_part, run_whole}
use Rattle.s39_drilling.specs.declared.drill.Done.{Done}
use Rattle.s39_drilling.specs.declared.drill.NoDrill.{NoDrill}
use Rattle.s39_drilling.specs.Drill.{IsDrill, IsDrillOutput, IsNoDrill, StartsAt, WritesDrill, fault_of_no_drill, last_line}
use Rattle.s39_drilling.proofs.Drills.Outputs.{no_drill_reads, no_drill_writes}

module _ {R W : Type 0} (remaining : R → Option (List ℕ)) (contents : W → Option (List ℕ)) (form : SecretForm) (passphrase : List ℕ)
    (after : Option Names) (limit : ℕ) (reader read_to : Counted R) where
  -- the input gives no set
  pub setless_run : (writer : Counted W) (fault : Fault) → OfInput remaining reader read_to (λ input. IsCheckedSet passphrase input (Err fault))
      → read_to.failures ≡ reader.failures + read_failures {T = Done} (Err fault) → write_failures {T = Done} (Err fault) ≡ 0
      → Runs remaining contents (IsDrillOutput form passphrase after limit) reader read_to writer writer (Err fault)
  setless_run writer fault checked reads writes =
      run_whole (nothing_written contents writer) (OfInput-map checked (λ input checked. refuses fault checked refl)) reads writes

  module _ (set : List ShareFields) (checked : OfInput remaining reader read_to (λ input. IsCheckedSet passphrase input (Ok set)))
      (reads : read_to.failures ≡ reader.failures) where
    -- its set isn't drilled
    pub no_drill_run : (writer : Counted W) (cause : NoDrill) → IsNoDrill set after cause
        → Runs remaining contents (IsDrillOutput form passphrase after limit) reader read_to writer writer (Err (fault_of_no_drill cause))
    no_drill_run writer cause refused =
        run_whole (nothing_written contents writer) (OfInput-map checked (λ input checked. gives set checked (refuses cause refused refl)))
        (let none = no_drill_reads cause in omega (arith, reads, none)) (no_drill_writes cause)

    -- a drill of the set is the output of the input
    output : (start : Option Names) → StartsAt set after start → (lines : List ℕ) (more : Option Names) (mismatches : ℕ)
        → IsDrill form set passphrase after limit lines more mismatches
        → OfInput remaining reader read_to
        (λ input. IsDrillOutput form passphrase after limit input (lines ++ last_line more) (Ok (record { mismatches = mismatches })))
    output start starts lines more mismatches drill =
        OfInput-map checked (λ input checked. gives set checked (gives tt (starts.no_lack, starts.cursor) (lines, more, mismatches, drill, refl)))

    -- its set is drilled
    pub drilled_run : (writer written_to : Counted W) (start : Option Names) (done : Done) → StartsAt set after start
        → WritesDrill {E = WriteFailed} contents writer form set passphrase after limit (Ok done) written_to
        → Runs remaining contents (IsDrillOutput form passphrase after limit) reader read_to writer written_to (Ok done)
    drilled_run writer written_to start done starts (lines, more, drill, written) =
        run_whole written (output start starts lines more done.mismatches drill) (omega (arith, reads)) refl

    -- a write fails
    pub failed_run : (writer written_to : Counted W) (start : Option Names) (failed : WriteFailed) → StartsAt set after start
        → WritesDrill contents writer form set passphrase after limit (Err failed) written_to
        → Runs remaining contents (IsDrillOutput form passphrase after limit) reader read_to writer written_to (Err (fault_of (Device Write)))
    failed_run writer written_to start failed starts (lines, more, mismatches, drill, part) =
        run_part (Ok (record { mismatches = mismatches })) part (output start starts lines more mismatches drill) reads

-- where a drill starts is a quorum
pub start_is_quorum : (set : List ShareFields) (after start : Option Names) → StartsAt set after start → IfSome start (IsQuorum set)
start_is_quorum set after None starts = tt
start_is_quorum set after (Some names) starts = starts.starts.quorum
