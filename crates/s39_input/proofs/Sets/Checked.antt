-- A passphrase and an input give one checked set, or one fault; and so what follows from the set gives one output.
use Rattle.std.proofs.Common.{◌≡◌, ℕ, List, All, refl, sym, ap, ◌∙◌, subst, inl, inr, Result, Ok, Err}
use Rattle.std.specs.Result.{IfOk}
use Rattle.s39_kdf.specs.Limits.{IsPrintable}
use Rattle.s39_kdf.specs.Passphrases.{PassphrasesHaveOneFirstUnprintable, PrintablePassphrasesHaveNone, PassphrasesArePrintableOrNot}
use Rattle.s39_words.specs.declared.ShareFields.{ShareFields}
use Rattle.s39_set.specs.ShareSet.{IsShareSet}
use Rattle.s39_input.specs.declared.fault.LineRefusal.{LineRefusal}
use Rattle.s39_input.specs.declared.fault.Stop.{Stop}
use Rattle.s39_input.specs.declared.fault.Stop.TheVariants.{AtLine, ReadFailed}
use Rattle.s39_input.specs.declared.fault.Fault.{Fault}
use Rattle.s39_input.specs.Input.{Input}
use Rattle.s39_input.specs.Fault.{fault_of_stop, read_failures_in, write_failures_in, stop_failures}
use Rattle.s39_input.specs.Steps.{Then, gives, refuses, nothing_for}
use Rattle.s39_input.specs.Accepted.{IsReadAs, IsJudged, IsCheckedSet, CheckedSetLaws}
use Rattle.s39_input.proofs.Steps.{AtMostOne, AtLeastOne, then_once, then_some}
use Rattle.s39_input.proofs.Sets.OneSet.{InputsAreReadOnce, AcceptedAreShareSets}

-- which failures a fault says
pub stop_reads : (stop : Stop LineRefusal) → read_failures_in (fault_of_stop stop).refusal ≡ stop_failures {T = Unit {0}} (Err stop)
stop_reads (AtLine refused) = refl
stop_reads ReadFailed = refl

pub stop_writes : (stop : Stop LineRefusal) → write_failures_in (fault_of_stop stop).refusal ≡ 0
stop_writes (AtLine refused) = refl
stop_writes ReadFailed = refl

-- ---- a passphrase and an input

-- only of a printable passphrase a set is checked
pub printable_of_checked : (passphrase : List ℕ) (input : Input) (set : List ShareFields) → IsCheckedSet passphrase input (Ok set)
    → All IsPrintable passphrase
printable_of_checked passphrase input set (gives _ printable read) = printable
printable_of_checked passphrase input set (refuses bad first is) = absurd (cc)

module _ (one_unprintable : PassphrasesHaveOneFirstUnprintable) (none_unprintable : PrintablePassphrasesHaveNone)
    (printable_or_not : PassphrasesArePrintableOrNot) where
  pub judged_once : (passphrase : List ℕ) → AtMostOne (IsJudged passphrase)
  judged_once passphrase (Ok _) (Ok _) p q = refl
  judged_once passphrase (Ok _) (Err bad) p q = absurd (none_unprintable passphrase bad.position p q)
  judged_once passphrase (Err bad) (Ok _) p q = absurd (none_unprintable passphrase bad.position q p)
  judged_once passphrase (Err bad) (Err other) p q =
      ap (λ (n : ℕ). Err (record { position = n })) (one_unprintable passphrase bad.position other.position p q)

  pub some_judged : (passphrase : List ℕ) → AtLeastOne (IsJudged passphrase)
  some_judged passphrase =
      elim (printable_or_not passphrase) [
        | inl printable ↦ (Ok tt, printable)
        | inr (position, first) ↦ (Err (record { position = position }), first)
      ]

  set_of_checked : (passphrase : List ℕ) (input : Input) (set : List ShareFields) → IsCheckedSet passphrase input (Ok set) → IsReadAs input (Ok set)
  set_of_checked passphrase input set (gives _ printable (gives other read is)) =
      let same : other ≡ set = cc in subst (λ s. IsReadAs input (Ok s)) same read
  set_of_checked passphrase input set (gives _ printable (refuses stop read is)) = absurd (cc)
  set_of_checked passphrase input set (refuses bad first is) = absurd (cc)

  pub checked_sets : ((input : Input) → (answer : Result (List ShareFields) (Stop LineRefusal)) × IsReadAs input answer × IfOk answer IsShareSet)
      → InputsAreReadOnce → AcceptedAreShareSets → CheckedSetLaws
  checked_sets every_input_is_read one_set are_share_sets = record {
    once = λ passphrase input. then_once (IsJudged passphrase) _ _ (judged_once passphrase)
        (λ _ _. then_once (IsReadAs input) _ _ (one_set input) (λ set _ r s p q. p ∙ sym q));
    exists = λ passphrase input. then_some (IsJudged passphrase) _ _ (some_judged passphrase) (λ _ _.
        let (answer, read, is) = every_input_is_read input in then_some (IsReadAs input) _ _ (answer, read) (λ set _. (Ok set, refl)));
    is_set = λ passphrase input set checked. are_share_sets input set (set_of_checked passphrase input set checked);
  }

-- ---- what is written and answered

abbrev pub writing : {T : Type 0} → Result T Fault → List ℕ → List ℕ × Result T Fault
writing answer text = (text, answer)

module _ {T : Type 0} (text other : List ℕ) (answer another : Result T Fault) (same : writing answer text ≡ writing another other) where
  pub same_writing : (text ≡ other) × (answer ≡ another)
  same_writing = (ap (λ (w : List ℕ × Result T Fault). w.0) same, ap (λ (w : List ℕ × Result T Fault). w.1) same)

  -- what is so of the one is so of the other
  pub of_writing : (P : List ℕ → Result T Fault → Type 0) → P other another → P text answer
  of_writing P p = subst (λ (w : List ℕ × Result T Fault). P w.0 w.1) (sym same) p

module _ (laws : CheckedSetLaws) {T : Type 0} (Next : List ShareFields → List ℕ × Result T Fault → Type 0) (passphrase : List ℕ) (input : Input) where
  pub output_once : ((set : List ShareFields) → IsShareSet set → AtMostOne (Next set)) → (text other : List ℕ) (answer another : Result T Fault)
      → Then (IsCheckedSet passphrase input) nothing_for Next (text, answer)
      → Then (IsCheckedSet passphrase input) nothing_for Next (other, another) → (text ≡ other) × (answer ≡ another)
  output_once next text other answer another p q =
      same_writing text other answer another (then_once (IsCheckedSet passphrase input) nothing_for Next (laws.once passphrase input)
      (λ set checked. next set (laws.is_set passphrase input set checked)) (text, answer) (other, another) p q)

  pub output_some : ((set : List ShareFields) → IsShareSet set → AtLeastOne (Next set))
      → (text : List ℕ) × (answer : Result T Fault) × Then (IsCheckedSet passphrase input) nothing_for Next (text, answer)
  output_some next =
      let (written, is) = then_some (IsCheckedSet passphrase input) nothing_for Next (laws.exists passphrase input)
      (λ set checked. next set (laws.is_set passphrase input set checked)) in
      (written.0, written.1, is)
