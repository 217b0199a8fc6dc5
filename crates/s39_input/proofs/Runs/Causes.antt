-- Whose answer a run gives, and why a passphrase is refused.
use Rattle.std.proofs.Common.{◌≡◌, ℕ, Bool, true, false, List, ap, refl, sym, ◌∙◌, subst, arith, Option, Result, Ok, Err}
use Rattle.s39_kdf.specs.declared.limits.BadPassphrase.{BadPassphrase}
use Rattle.s39_kdf.specs.Limits.{IsFirstUnprintable}
use Rattle.s39_input.specs.declared.fault.Stop.{Stop}
use Rattle.s39_input.specs.declared.fault.Stop.TheVariants.{AtLine, ReadFailed}
use Rattle.s39_input.specs.declared.fault.LineRefusal.{LineRefusal}
use Rattle.s39_input.specs.declared.fault.Refusal.{Refusal}
use Rattle.s39_input.specs.declared.fault.Refusal.TheVariants.{Passphrase}
use Rattle.s39_input.specs.declared.fault.Fault.{Fault}
use Rattle.s39_input.specs.Device.{Counted}
use Rattle.s39_input.specs.Input.{Input}
use Rattle.s39_input.specs.Fault.{fault_of, fault_of_stop, write_failures}
use Rattle.s39_input.specs.Steps.{gives, refuses}
use Rattle.s39_input.specs.Accepted.{IsCheckedSet}
use Rattle.s39_input.specs.Runs.{Writes, Runs}
use Rattle.s39_input.proofs.Sets.Checked.{writing, same_writing}
use Rattle.s39_input.proofs.Runs.Devices.{some_input}

-- where no write failed, the answer is that of an output of some input
pub of_some : {R W T : Type 0} (remaining : R → Option (List ℕ)) (contents : W → Option (List ℕ)) (IsOutput : Input → List ℕ → Result T Fault → Type 0)
    (reader read_to : Counted R) (writer written_to : Counted W) (answer : Result T Fault) → write_failures answer ≡ 0
    → Runs remaining contents IsOutput reader read_to writer written_to answer → (input : Input) × (text : List ℕ) × IsOutput input text answer
of_some remaining contents IsOutput reader read_to writer written_to answer none runs =
    let (input, w) = some_input remaining reader read_to (λ input. Writes contents (IsOutput input) writer written_to answer) runs.output in
    let failures = runs.write_failures_are in
    let same : written_to.failures ≡ writer.failures = omega arith in
    (input, w.text, subst (λ a. IsOutput input w.text a) (sym (w.whole same).1) w.output)

abbrev pub is_passphrase : Refusal → Bool
is_passphrase (Passphrase bad) = true
is_passphrase _ = false

abbrev place_in : Refusal → ℕ
place_in (Passphrase bad) = bad.position
place_in _ = 0

stops_elsewhere : (stop : Stop LineRefusal) → is_passphrase (fault_of_stop stop).refusal ≡ false
stops_elsewhere (AtLine refused) = refl
stops_elsewhere ReadFailed = refl

-- a fault of the passphrase is none of another kind
pub not_of_passphrase : (bad : BadPassphrase) (fault : Fault) → fault_of (Passphrase bad) ≡ fault → is_passphrase fault.refusal ≡ false → ⊥
not_of_passphrase bad fault is other = let both : true ≡ false = ap (λ (f : Fault). is_passphrase f.refusal) is ∙ other in absurd (cc)

-- the place that is named is the one that the fault names
pub place_is : (passphrase : List ℕ) (bad other : BadPassphrase) → fault_of (Passphrase bad) ≡ fault_of (Passphrase other)
    → IsFirstUnprintable passphrase other.position → IsFirstUnprintable passphrase bad.position
place_is passphrase bad other is first = subst (IsFirstUnprintable passphrase) (sym (ap (λ (f : Fault). place_in f.refusal) is)) first

-- a passphrase is refused for its first byte that isn't printable
pub checked_cause : (passphrase : List ℕ) (input : Input) (bad : BadPassphrase) (fault : Fault) → IsCheckedSet passphrase input (Err fault)
    → fault_of (Passphrase bad) ≡ fault → IsFirstUnprintable passphrase bad.position
checked_cause passphrase input bad fault (refuses other first is) same =
    let faults : fault ≡ fault_of (Passphrase other) = cc in place_is passphrase bad other (same ∙ faults) first
checked_cause passphrase input bad fault (gives _ printable (refuses stop read is)) same =
    let faults : fault ≡ fault_of_stop stop = cc in absurd (not_of_passphrase bad (fault_of_stop stop) (same ∙ faults) (stops_elsewhere stop))
checked_cause passphrase input bad fault (gives _ printable (gives set read is)) same = absurd (cc)

-- what is answered is the fault
pub fault_is : {T : Type 0} (text other : List ℕ) (fault another : Fault) → writing {T = T} (Err fault) text ≡ writing (Err another) other → fault ≡ another
fault_is {T} text other fault another same = let answers = (same_writing {T = T} text other (Err fault) (Err another) same).1 in cc

-- a refusal isn't what is answered of all that was asked for
pub not_done : {T : Type 0} (text other : List ℕ) (fault : Fault) (done : T) → writing (Err fault) text ≡ writing (Ok done) other → ⊥
not_done {T} text other fault done same = let answers = (same_writing {T = T} text other (Err fault) (Ok done) same).1 in absurd (cc)
