-- No refusal has the number 16.
use Rattle.std.proofs.Common.{◌≢◌, arith}
use Rattle.s39_words.specs.declared.word_error.WordError.{WordError}
use Rattle.s39_words.specs.declared.word_error.WordError.TheVariants as word
use Rattle.s39_words.specs.Reading.{cause_of as word_cause_of}
use Rattle.s39_repair.specs.declared.repair_error.RepairError.{RepairError}
use Rattle.s39_repair.specs.declared.repair_error.RepairError.TheVariants as marks
use Rattle.s39_repair.specs.Answer.{cause_of as marks_cause_of}
use Rattle.s39_set.specs.declared.set_error.SetError.{SetError}
use Rattle.s39_set.specs.declared.set_error.SetError.TheVariants as set
use Rattle.s39_set.specs.ShareSet.{cause_of as set_cause_of}
use Rattle.s39_set.specs.declared.set_lack.SetLack.{SetLack}
use Rattle.s39_set.specs.declared.set_lack.SetLack.TheVariants as lack
use Rattle.s39_set.specs.Lack.{cause_of as lack_cause_of}
use Rattle.s39_backup.specs.declared.combination.Mismatch.{Mismatch}
use Rattle.s39_backup.specs.declared.combination.Mismatch.TheVariants as mismatch
use Rattle.s39_backup.specs.RecoverError.{mismatch_cause_of}
use Rattle.s39_backup.specs.declared.plan_error.PlanError.{PlanError}
use Rattle.s39_backup.specs.declared.plan_error.PlanError.TheVariants as plan
use Rattle.s39_backup.specs.Plan.{plan_cause_of}
use Rattle.s39_input.specs.declared.fault.LineRefusal.{LineRefusal}
use Rattle.s39_input.specs.declared.fault.LineRefusal.TheVariants as line
use Rattle.s39_input.specs.declared.fault.DeviceFailure.{DeviceFailure}
use Rattle.s39_input.specs.declared.fault.DeviceFailure.TheVariants as device
use Rattle.s39_input.specs.declared.fault.Refusal.{Refusal}
use Rattle.s39_input.specs.declared.fault.Refusal.TheVariants as refusal
use Rattle.s39_input.specs.Fault.{cause_of, device_cause_of, line_cause_of}

word_free : (error : WordError) → (word_cause_of error).code ≢ 16
word_free (word.UnknownWord position) same = omega (arith, same)
word_free (word.WordCount words) same = omega (arith, same)
word_free word.BadChecksum same = omega (arith, same)
word_free word.BadPadding same = omega (arith, same)
word_free word.GroupThreshold same = omega (arith, same)

marks_free : (error : RepairError) → (marks_cause_of error).code ≢ 16
marks_free (marks.UnknownWord position) same = omega (arith, same)
marks_free (marks.WordCount words) same = omega (arith, same)
marks_free (marks.UnreadableWords places) same = omega (arith, same)
marks_free marks.NoMnemonic same = omega (arith, same)
marks_free (marks.WrongWord position) same = omega (arith, same)
marks_free marks.BadChecksum same = omega (arith, same)
marks_free marks.BadPadding same = omega (arith, same)
marks_free marks.GroupThreshold same = omega (arith, same)

set_free : (error : SetError) → (set_cause_of error).code ≢ 16
set_free set.OtherIdentifier same = omega (arith, same)
set_free set.OtherExtendable same = omega (arith, same)
set_free set.OtherExponent same = omega (arith, same)
set_free set.OtherGroupThreshold same = omega (arith, same)
set_free set.OtherGroupCount same = omega (arith, same)
set_free set.OtherLength same = omega (arith, same)
set_free (set.OtherMemberThreshold group) same = omega (arith, same)
set_free (set.ConflictingShare group member) same = omega (arith, same)

line_free : (error : LineRefusal) → (line_cause_of error).code ≢ 16
line_free (line.Word error) same = word_free error same
line_free (line.Marks error) same = marks_free error same
line_free (line.Set error) same = set_free error same
line_free line.TooLong same = omega (arith, same)

lack_free : (error : SetLack) → (lack_cause_of error).code ≢ 16
lack_free lack.NoShares same = omega (arith, same)
lack_free (lack.Incomplete complete required) same = omega (arith, same)

mismatch_free : (error : Mismatch) → (mismatch_cause_of error).code ≢ 16
mismatch_free (mismatch.InGroup group) same = omega (arith, same)
mismatch_free mismatch.OfGroups same = omega (arith, same)

device_free : (error : DeviceFailure) → (device_cause_of error).code ≢ 16
device_free device.Read same = omega (arith, same)
device_free device.Write same = omega (arith, same)

pub refusal_free : (error : Refusal) → (cause_of error).code ≢ 16
refusal_free (refusal.Line error) same = line_free error same
refusal_free (refusal.Lack error) same = lack_free error same
refusal_free (refusal.Passphrase bad) same = omega (arith, same)
refusal_free (refusal.SecretLength bad) same = omega (arith, same)
refusal_free (refusal.RandomLength needed) same = omega (arith, same)
refusal_free (refusal.DigestMismatch error) same = mismatch_free error same
refusal_free refusal.OtherSecret same = omega (arith, same)
refusal_free refusal.NotAQuorum same = omega (arith, same)
refusal_free (refusal.NotInPlan group member) same = omega (arith, same)
refusal_free refusal.OtherPlan same = omega (arith, same)
refusal_free (refusal.Undetermined few) same = omega (arith, same)
refusal_free refusal.NotExtendable same = omega (arith, same)
refusal_free refusal.SameIdentifier same = omega (arith, same)
refusal_free (refusal.Device error) same = device_free error same

pub plan_free : (error : PlanError) → (plan_cause_of error).code ≢ 16
plan_free plan.BadPlan same = omega (arith, same)
plan_free plan.PlanGroups same = omega (arith, same)
plan_free (plan.PlanMembers group) same = omega (arith, same)
plan_free (plan.OneOfMany group) same = omega (arith, same)
