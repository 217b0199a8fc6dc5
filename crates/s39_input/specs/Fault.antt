-- Why a run stopped.
use Rattle.std.specs.Prelude.{ℕ, suc, ◌-◌, ◌^◌, min, Some, None, Result, Ok, Err}
use Rattle.s39_input.specs.declared.fault.LineRefusal.{LineRefusal}
use Rattle.s39_input.specs.declared.fault.LineRefusal.TheVariants.{Word, Marks, Set, TooLong}
use Rattle.s39_input.specs.declared.fault.Stop.{Stop}
use Rattle.s39_input.specs.declared.fault.Stop.TheVariants.{AtLine, ReadFailed}
use Rattle.s39_input.specs.declared.fault.DeviceFailure.{DeviceFailure}
use Rattle.s39_input.specs.declared.fault.DeviceFailure.TheVariants.{Read, Write}
use Rattle.s39_input.specs.declared.fault.Refusal.{Refusal}
use Rattle.s39_input.specs.declared.fault.Refusal.TheVariants.{Line, Passphrase, SecretLength, RandomLength, Lack, DigestMismatch, OtherSecret, NotAQuorum, Device}
use Rattle.s39_input.specs.declared.fault.Refusal.TheVariants.{NotInPlan, OtherPlan, Undetermined, NotExtendable, SameIdentifier}
use Rattle.s39_input.specs.declared.fault.Fault.{Fault}
use Rattle.s39_refusal.specs.declared.cause.Cause.{Cause}
use Rattle.s39_refusal.specs.Causes.{cause}
use Rattle.s39_kdf.specs.Causes.{passphrase_cause, length_cause}
use Rattle.s39_words.specs.Reading.{cause_of as word_cause_of}
use Rattle.s39_repair.specs.Answer.{cause_of as marks_cause_of}
use Rattle.s39_set.specs.ShareSet.{cause_of as set_cause_of}
use Rattle.s39_set.specs.Lack.{cause_of as lack_cause_of}
use Rattle.s39_set.specs.Causes.{no_quorum_cause}
use Rattle.s39_backup.specs.declared.reissue_error.ReissueError.{ReissueError}
use Rattle.s39_backup.specs.declared.reissue_error.ReissueError.TheVariants.{Undetermined as TooFewError, DigestMismatch as MismatchError}
use Rattle.s39_backup.specs.declared.resplit_error.ResplitError.{ResplitError}
use Rattle.s39_backup.specs.declared.resplit_error.ResplitError.TheVariants as unsplit
use Rattle.s39_backup.specs.declared.create_error.CreateError.TheVariants.{BadRandomLength}
use Rattle.s39_backup.specs.Created.{create_cause_of}
use Rattle.s39_backup.specs.RecoverError.{mismatch_cause_of}
use Rattle.s39_backup.specs.Reissue.{too_few_cause}

-- what the refusal of a line says
abbrev pub line_cause_of : LineRefusal → Cause
line_cause_of (Word error) = word_cause_of error
line_cause_of (Marks error) = marks_cause_of error
line_cause_of (Set error) = set_cause_of error
line_cause_of TooLong = cause 71 0 0

-- what a device's failure says
abbrev pub device_cause_of : DeviceFailure → Cause
device_cause_of Read = cause 72 0 0
device_cause_of Write = cause 73 0 0

-- what a refusal says
abbrev pub cause_of : Refusal → Cause
cause_of (Line refusal) = line_cause_of refusal
cause_of (Lack lack) = lack_cause_of lack
cause_of (Passphrase bad) = passphrase_cause bad.position
cause_of (SecretLength bad) = length_cause bad.bytes
cause_of (RandomLength needed) = create_cause_of (BadRandomLength needed)
cause_of (DigestMismatch mismatch) = mismatch_cause_of mismatch
cause_of OtherSecret = cause 52 0 0
cause_of NotAQuorum = no_quorum_cause
cause_of (NotInPlan group member) = cause 64 group member
cause_of OtherPlan = cause 65 0 0
cause_of (Undetermined few) = too_few_cause few
cause_of NotExtendable = cause 67 0 0
cause_of SameIdentifier = cause 68 0 0
cause_of (Device failure) = device_cause_of failure

-- the number of the line after n others, which stays at 2^64 - 1 once it is there
abbrev pub line_number : ℕ → ℕ
line_number n = min (suc n) (2 ^ 64 - 1)

-- a fault at no line
abbrev pub fault_of : Refusal → Fault
fault_of refusal = record { line = None; refusal = refusal }

-- the fault of an input if not all of its lines are taken
abbrev pub fault_of_stop : Stop LineRefusal → Fault
fault_of_stop (AtLine refused) = record { line = Some refused.number; refusal = Line refused.refusal }
fault_of_stop ReadFailed = fault_of (Device Read)

-- the fault of a share that isn't given
abbrev pub fault_of_reissue : ReissueError → Fault
fault_of_reissue (TooFewError few) = fault_of (Undetermined few)
fault_of_reissue (MismatchError mismatch) = fault_of (DigestMismatch mismatch)

-- the fault of an encrypted secret that isn't split anew
abbrev pub fault_of_resplit : ResplitError → Fault
fault_of_resplit (unsplit.Lack lack) = fault_of (Lack lack)
fault_of_resplit (unsplit.DigestMismatch mismatch) = fault_of (DigestMismatch mismatch)
fault_of_resplit unsplit.NotExtendable = fault_of NotExtendable
fault_of_resplit (unsplit.BadRandomLength needed) = fault_of (RandomLength needed)
fault_of_resplit unsplit.SameIdentifier = fault_of SameIdentifier

-- the answer of a run over the lines of an input: this if all are taken, and otherwise the fault
abbrev pub answer_of : {T : Type 0} → T → Result (Unit {0}) (Stop LineRefusal) → Result T Fault
answer_of done (Ok _) = Ok done
answer_of done (Err stop) = Err (fault_of_stop stop)

-- 1 for a failed read, else 0
abbrev pub read_failures_in : Refusal → ℕ
read_failures_in (Device Read) = 1
read_failures_in _ = 0

-- 1 for a failed write, else 0
abbrev pub write_failures_in : Refusal → ℕ
write_failures_in (Device Write) = 1
write_failures_in _ = 0

-- how many reads failed in a run with this answer
abbrev pub read_failures : {T : Type 0} → Result T Fault → ℕ
read_failures (Ok _) = 0
read_failures (Err fault) = read_failures_in fault.refusal

-- how many writes failed in a run with this answer
abbrev pub write_failures : {T : Type 0} → Result T Fault → ℕ
write_failures (Ok _) = 0
write_failures (Err fault) = write_failures_in fault.refusal

-- how many reads failed if taking the lines of an input stopped so
abbrev pub stop_failures : {T C : Type 0} → Result T (Stop C) → ℕ
stop_failures (Err ReadFailed) = 1
stop_failures _ = 0
