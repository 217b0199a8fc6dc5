-- Of calls that take the greatest exponent: what they give is one thing where what else they give is.
use Rattle.std.proofs.Common.{◌≡◌, ◌⊎◌, ℕ, ◌<◌, ◌≤◌, Bool, true, false, nat_lt, List, [], sym, ap, subst, refl, ◌∙◌, inl, inr, arith}
use Rattle.std.proofs.Common.{Option, Result, Ok, Err}
use Rattle.std.specs.Prelude.{if◌then◌else◌}
use Rattle.std.proofs.lemmas.Bool.{lt-ltb, le-ltb}
use Rattle.s39_kdf.specs.declared.noted.NotedFingerprint.{NotedFingerprint}
use Rattle.s39_kdf.specs.declared.secret_form.SecretForm.{SecretForm}
use Rattle.s39_kdf.specs.declared.secret_form.SecretForm.TheVariants.{Digits}
use Rattle.s39_words.specs.declared.ShareFields.{ShareFields}
use Rattle.s39_set.specs.Names.{Names}
use Rattle.s39_set.specs.ShareSet.{IsShareSet}
use Rattle.s39_set.specs.Lack.{IsLack}
use Rattle.s39_set.specs.declared.set_lack.SetLack.{SetLack}
use Rattle.s39_input.specs.declared.fault.Fault.{Fault}
use Rattle.s39_input.specs.declared.fault.Refusal.TheVariants.{Lack}
use Rattle.s39_input.specs.Fault.{fault_of}
use Rattle.s39_input.specs.Input.{whole}
use Rattle.s39_input.specs.Accepted.{IsCheckedSet, CheckedSetLaws}
use Rattle.s39_input.specs.Steps.{gives, refuses, nothing_for}
use Rattle.s39_input.proofs.Steps.{AtMostOne, then_once}
use Rattle.s39_drilling.specs.declared.drill.Done.{Done}
use Rattle.s39_drilling.specs.declared.drill.NoDrill.TheVariants.{Lack as NoDrillLack}
use Rattle.s39_drilling.specs.Drill.{IsDrillOutput}
use Rattle.s39_reading.specs.Exponent.{exponent_of, IsExponent}
use Rattle.s39_reading.specs.Recover.{IsRecoverOutput, WritesSecret}
use Rattle.s39_c.specs.declared.answer.ShamirAnswer.{ShamirAnswer}
use Rattle.s39_c.specs.Answers.{high_exponent, refused}
use Rattle.s39_c.specs.Drilling.{GivesListing, GivesDrill}
use Rattle.s39_c.specs.Exponents.{up_to, IsUpTo, GivesUpTo}
use Rattle.s39_c.specs.Recovering.{GivesSecret, GivesExpectedSecret}
use Rattle.s39_c.proofs.InSteps.{Once, step_once}

abbrev chosen : Bool → ℕ → List ShareFields → Result (List ShareFields) ShamirAnswer
chosen high exponent set = if high then Err (high_exponent exponent) else Ok set

module _ (most exponent : ℕ) (set : List ShareFields) where
  pub up_to_high : most < exponent → up_to most exponent set ≡ Err (high_exponent exponent)
  up_to_high above = ap (λ (high : Bool). chosen high exponent set) (lt-ltb most exponent above)

  pub up_to_low : exponent ≤ most → up_to most exponent set ≡ Ok set
  up_to_low within = ap (λ (high : Bool). chosen high exponent set) (le-ltb most exponent within)

chosen_set : (high : Bool) (exponent : ℕ) (set other : List ShareFields) → Ok other ≡ chosen high exponent set → set ≡ other
chosen_set true exponent set other is = absurd (cc)
chosen_set false exponent set other is = cc

chosen_refusal : (high : Bool) (exponent : ℕ) (set : List ShareFields) (refusal : ShamirAnswer) → Err refusal ≡ chosen high exponent set
    → refusal ≡ high_exponent exponent
chosen_refusal true exponent set refusal is = cc
chosen_refusal false exponent set refusal is = absurd (cc)

-- an exponent is refused for itself
pub refused_up_to : (most exponent : ℕ) (set : List ShareFields) (refusal : ShamirAnswer) → Err refusal ≡ up_to most exponent set
    → refusal ≡ high_exponent exponent
refused_up_to most exponent set refusal is = chosen_refusal (nat_lt most exponent) exponent set refusal is

module _ (most : ℕ) (passphrase lines : List ℕ) where
  -- the set is that of the lines
  pub checked_up_to : (set : List ShareFields) → IsUpTo most passphrase lines (Ok set) → IsCheckedSet passphrase (whole lines) (Ok set)
  checked_up_to set (refuses fault checked is) = absurd (cc)
  checked_up_to set (gives other checked (refuses fault lacks is)) = absurd (cc)
  checked_up_to set (gives other checked (gives exponent has is)) =
      subst (λ (s : List ShareFields). IsCheckedSet passphrase (whole lines) (Ok s)) (chosen_set (nat_lt most exponent) exponent other set is) checked

  -- what a recovery of it gives is that of the lines
  pub secret_of_checked : (expected : Option NotedFingerprint) (set : List ShareFields) → IsCheckedSet passphrase (whole lines) (Ok set)
      → (old new : List ℕ) (answer : ShamirAnswer)
      → GivesSecret (λ text written. WritesSecret Digits expected passphrase set (text, written)) old new answer
      → GivesSecret (IsRecoverOutput Digits expected passphrase (whole lines)) old new answer
  secret_of_checked expected set checked old new answer (inr (secret, (bytes, writes), given)) = inr (secret, (bytes, gives set checked writes), given)
  secret_of_checked expected set checked old new answer (inl (fault, writes, same, says)) = inl (fault, gives set checked writes, same, says)

  -- and one
  pub one_up_to : CheckedSetLaws → ((set : List ShareFields) → AtMostOne (IsExponent set)) → AtMostOne (IsUpTo most passphrase lines)
  one_up_to laws one_exponent =
      then_once (IsCheckedSet passphrase (whole lines)) _ _ (laws.once passphrase (whole lines))
      (λ set _. then_once (IsExponent set) _ _ (one_exponent set) (λ exponent _ r s p q. p ∙ sym q))

  pub up_to_once : (Given : List ℕ → ShamirAnswer → Type 0) → AtMostOne (IsUpTo most passphrase lines) → Once Given → (old : List ℕ)
      → Once (GivesUpTo most passphrase lines Given old)
  up_to_once Given once one old = step_once (IsUpTo most passphrase lines) (λ refusal. refusal) (λ _. Given) old once (λ _ _. one)

  -- If no exponent is above the maximum, only the passphrase, a line or a lack is refused.
  module _ (laws : CheckedSetLaws) (at_most_15 : (set : List ShareFields) → IsShareSet set → exponent_of set ≤ 15) (all : 15 ≤ most) where
    abbrev IsRefusedSet : Fault → Type 0
    IsRefusedSet fault =
        IsCheckedSet passphrase (whole lines) (Err fault)
        ⊎ ((set : List ShareFields) × (lack : SetLack) × IsCheckedSet passphrase (whole lines) (Ok set) × IsLack set lack
        × (fault ≡ fault_of (Lack lack)))

    refused_set : (refusal : ShamirAnswer) → IsUpTo most passphrase lines (Err refusal) → (fault : Fault) × IsRefusedSet fault × (refusal ≡ refused fault)
    refused_set refusal (refuses fault checked is) = let says : refusal ≡ refused fault = cc in (fault, inl checked, says)
    refused_set refusal (gives set checked (refuses fault (refuses lack lacks told) is)) =
        let says : refusal ≡ refused fault = cc in let of : fault ≡ fault_of (Lack lack) = cc in (fault, inr (set, lack, checked, lacks, of), says)
    refused_set refusal (gives set checked (refuses fault (gives names least says) is)) = absurd (cc)
    refused_set refusal (gives set checked (gives exponent (refuses lack lacks says) is)) = absurd (cc)
    refused_set refusal (gives set checked (gives exponent (gives names least says) is)) =
        let same : exponent ≡ exponent_of set = cc in
        let low = at_most_15 set (laws.is_set passphrase (whole lines) set checked) in
        let differ = is ∙ up_to_low most exponent set (omega (arith, same, low, all)) in absurd (cc)

    recover_refusal : (expected : Option NotedFingerprint) (fault : Fault) → IsRefusedSet fault
        → IsRecoverOutput Digits expected passphrase (whole lines) [] (Err fault)
    recover_refusal expected fault (inl checked) = refuses fault checked refl
    recover_refusal expected fault (inr (set, lack, checked, lacks, is)) = gives set checked (refuses fault (refuses lack lacks (ap Err is)) refl)

    pub every_secret : (digits old new : List ℕ) (answer : ShamirAnswer)
        → GivesExpectedSecret (λ noted. GivesUpTo most passphrase lines
        (GivesSecret (IsRecoverOutput Digits noted passphrase (whole lines)) old) old) digits old new answer
        → GivesExpectedSecret (λ noted. GivesSecret (IsRecoverOutput Digits noted passphrase (whole lines)) old) digits old new answer
    every_secret digits old new answer (inl none) = inl none
    every_secret digits old new answer (inr (noted, is, inr (set, up, given))) = inr (noted, is, given)
    every_secret digits old new answer (inr (noted, is, inl (refusal, up, same, at))) =
        let (fault, why, says) = refused_set refusal up in
        inr (noted, is, inl (fault, recover_refusal noted fault why, same, at ∙ says))

    abbrev nothing_listed : Fault → List ℕ × Result Done Fault
    nothing_listed fault = nothing_for fault

    drill_refusal : (form : SecretForm) (after : Option Names) (limit : ℕ) (fault : Fault) → IsRefusedSet fault
        → IsDrillOutput form passphrase after limit (whole lines) [] (Err fault)
    drill_refusal form after limit fault (inl checked) = refuses fault checked refl
    drill_refusal form after limit fault (inr (set, lack, checked, lacks, is)) =
        gives set checked (refuses (NoDrillLack lack) lacks (ap nothing_listed is))

    pub every_listing : (cursor : List ℕ) (limit number : ℕ) (digits old new : List ℕ) (answer : ShamirAnswer)
        → GivesDrill (λ form names. GivesUpTo most passphrase lines
        (GivesListing (λ n. IsDrillOutput form passphrase names n (whole lines)) limit old) old) cursor limit number digits old new answer
        → GivesDrill (λ form names. GivesListing (λ n. IsDrillOutput form passphrase names n (whole lines)) limit old)
        cursor limit number digits old new answer
    every_listing cursor limit number digits old new answer (inl none) = inl none
    every_listing cursor limit number digits old new answer (inr (form, is, inl none)) = inr (form, is, inl none)
    every_listing cursor limit number digits old new answer (inr (form, is, inr (after, names, inl none))) = inr (form, is, inr (after, names, inl none))
    every_listing cursor limit number digits old new answer (inr (form, is, inr (after, names, inr (kind, of, inr (set, up, given))))) =
        inr (form, is, inr (after, names, inr (kind, of, given)))
    every_listing cursor limit number digits old new answer (inr (form, is, inr (after, names, inr (kind, of, inl (refusal, up, same, at))))) =
        let (fault, why, says) = refused_set refusal up in
        inr (form, is, inr (after, names, inr (kind, of, inr (inr (fault, drill_refusal kind after limit fault why, same, at ∙ says)))))
