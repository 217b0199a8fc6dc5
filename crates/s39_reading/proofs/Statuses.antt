-- The status of an input is that of its set; and the reads that failed if a set isn't read.
use Rattle.std.proofs.Common.{◌≡◌, ℕ, List, refl, Result, Ok, Err}
use Rattle.s39_words.specs.declared.ShareFields.{ShareFields}
use Rattle.s39_input.specs.declared.fault.LineRefusal.{LineRefusal}
use Rattle.s39_input.specs.declared.fault.Stop.{Stop}
use Rattle.s39_input.specs.declared.fault.Stop.TheVariants.{AtLine, ReadFailed}
use Rattle.s39_input.specs.declared.slices.NoOutput.{NoOutput}
use Rattle.s39_input.specs.declared.slices.NoOutput.TheVariants.{Refused, TooShort}
use Rattle.s39_input.specs.Accepted.{IsReadAs}
use Rattle.s39_input.specs.Fault.{fault_of_stop, read_failures_in, stop_failures}
use Rattle.s39_input.specs.Input.{Input}
use Rattle.s39_input.specs.Steps.{gives}
use Rattle.s39_reading.specs.declared.status.WrittenStatus.{WrittenStatus}
use Rattle.s39_reading.specs.Slices.{PutsStatus}
use Rattle.s39_reading.specs.Status.{IsStatusOf, IsStatusOutput}

-- which failures the fault of a set that isn't read says
pub refused_reads : (stop : Stop LineRefusal) → read_failures_in (fault_of_stop stop).refusal ≡ stop_failures {T = List ShareFields} (Err stop)
refused_reads (AtLine refused) = refl
refused_reads ReadFailed = refl

-- what is put into a slice for the set that an input is read as is put there for the input
pub puts_of_set : (input : Input) (set : List ShareFields) → IsReadAs input (Ok set) → (old new : List ℕ) (result : Result WrittenStatus NoOutput)
    → PutsStatus (IsStatusOf set) old new result → PutsStatus (IsStatusOutput input) old new result
puts_of_set input set read old new (Ok told) (text, is, front, bytes) = (text, gives set read is, front, bytes)
puts_of_set input set read old new (Err (TooShort short)) (text, status, is, needed, long, same) = (text, status, gives set read is, needed, long, same)
puts_of_set input set read old new (Err (Refused fault)) (is, same) = (gives set read is, same)
