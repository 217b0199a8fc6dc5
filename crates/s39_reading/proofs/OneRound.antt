-- A text has one result when a round is undone.
use Rattle.std.proofs.Common.{ℕ, List, refl, sym, ap, ◌∙◌, Result, Ok}
use Rattle.s39_kdf.specs.declared.params.Params.{Params}
use Rattle.s39_kdf.specs.Passphrases.{PassphrasesHaveOneFirstUnprintable, PrintablePassphrasesHaveNone, PassphrasesArePrintableOrNot}
use Rattle.s39_input.specs.declared.fault.Fault.{Fault}
use Rattle.s39_input.specs.Accepted.{IsJudged, IsMeasured}
use Rattle.s39_input.proofs.Steps.{AtMostOne, AtLeastOne, then_once, then_some}
use Rattle.s39_input.proofs.Measures.{measured_once, some_measure}
use Rattle.s39_input.proofs.Sets.Checked.{judged_once, some_judged}
use Rattle.s39_reading.specs.Encrypted.{IsRoundDecryption}
use Rattle.s39_kdf.proofs.Halves.{only_undone, undone_of}

abbrev text_of : List ℕ → Result (List ℕ) Fault
text_of text = Ok text

module _ (one_unprintable : PassphrasesHaveOneFirstUnprintable) (none_unprintable : PrintablePassphrasesHaveNone)
    (printable_or_not : PassphrasesArePrintableOrNot) (passphrase : List ℕ) where
  pub round_once : (round : ℕ) (text : Params × List ℕ) → AtMostOne (IsRoundDecryption round passphrase text)
  round_once round text =
      then_once (IsJudged passphrase) _ _ (judged_once one_unprintable none_unprintable printable_or_not passphrase) (λ _ _.
      then_once (IsMeasured text.1) _ _ (measured_once text.1) (λ _ _ x y p q.
      p.2 ∙ ap text_of (only_undone passphrase text.0 round text.1 q.0 p.0 q.1 p.1) ∙ sym q.2))

  pub some_round : (round : ℕ) (text : Params × List ℕ) → AtLeastOne (IsRoundDecryption round passphrase text)
  some_round round text =
      then_some (IsJudged passphrase) _ _ (some_judged one_unprintable none_unprintable printable_or_not passphrase) (λ _ _.
      then_some (IsMeasured text.1) _ _ (some_measure text.1) (λ _ long.
      let (undone, is) = undone_of passphrase text.0 round text.1 long.0 in
      (text_of undone, (undone, is, refl))))
