-- Why `drill` refuses a passphrase.
use Rattle.std.proofs.Common.{◌≡◌, ℕ, false, List, [], ◌++◌, refl, Option, Err}
use Rattle.s39_kdf.specs.declared.limits.BadPassphrase.{BadPassphrase}
use Rattle.s39_kdf.specs.Limits.{IsFirstUnprintable}
use Rattle.s39_set.specs.Names.{Names}
use Rattle.s39_kdf.specs.declared.secret_form.SecretForm.{SecretForm}
use Rattle.s39_input.specs.declared.fault.Refusal.TheVariants.{Passphrase}
use Rattle.s39_drilling.specs.declared.drill.NoDrill.{NoDrill}
use Rattle.s39_drilling.specs.declared.drill.NoDrill.TheVariants.{Lack, NotAQuorum}
use Rattle.s39_drilling.specs.declared.drill.Done.{Done}
use Rattle.s39_input.specs.Input.{Input}
use Rattle.s39_input.specs.Fault.{fault_of}
use Rattle.s39_input.specs.Steps.{gives, refuses}
use Rattle.s39_drilling.specs.Drill.{last_line, IsDrillOutput, fault_of_no_drill}
use Rattle.s39_input.proofs.Runs.Causes.{is_passphrase, not_of_passphrase, checked_cause, fault_is, not_done}

no_drill_elsewhere : (cause : NoDrill) → is_passphrase (fault_of_no_drill cause).refusal ≡ false
no_drill_elsewhere (Lack lack) = refl
no_drill_elsewhere NotAQuorum = refl

pub drill_cause : (form : SecretForm) (passphrase : List ℕ) (after : Option Names) (limit : ℕ) (input : Input) (text : List ℕ) (bad : BadPassphrase)
    → IsDrillOutput form passphrase after limit input text (Err (fault_of (Passphrase bad))) → IsFirstUnprintable passphrase bad.position
drill_cause form passphrase after limit input text bad (refuses fault checked is) =
    checked_cause passphrase input bad fault checked (fault_is {T = Done} text [] (fault_of (Passphrase bad)) fault is)
drill_cause form passphrase after limit input text bad (gives set checked (gives _ so (lines, more, m, drill, is))) =
    absurd (not_done {T = Done} text (lines ++ last_line more) (fault_of (Passphrase bad)) (record { mismatches = m }) is)
drill_cause form passphrase after limit input text bad (gives set checked (refuses cause so is)) =
    absurd (not_of_passphrase bad (fault_of_no_drill cause)
    (fault_is {T = Done} text [] (fault_of (Passphrase bad)) (fault_of_no_drill cause) is) (no_drill_elsewhere cause))
