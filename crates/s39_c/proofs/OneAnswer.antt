-- What calls give of the same things, and of what was in memory, is one answer and one memory.
use Rattle.std.proofs.Common.{◌≡◌, ℕ, ◌<◌, ◌≤◌, ◌^◌, Bool, true, false, List, [], ◌∷◌, length, length-append, refl, sym, ap, subst, ◌∙◌, inl, inr}
use Rattle.std.proofs.Common.{arith}
use Rattle.std.proofs.Common.{Option, Some, None, Result, Ok, Err}
use Rattle.std.proofs.Math.Bridge.{le_prop}
use Rattle.hex.specs.Hex.{encode_lower}
use Rattle.s39_kdf.specs.Fingerprint.{fingerprint_of}
use Rattle.s39_kdf.specs.Limits.{exponent_bits}
use Rattle.std.specs.Fmt.{decimal}
use Rattle.s39_words.specs.Share.{flag_bit}
use Rattle.s39_set.specs.Names.{Names}
use Rattle.s39_set.specs.Written.{name_text, quorum_text, IsWrittenForm}
use Rattle.s39_backup.specs.declared.options.Options.{Options}
use Rattle.s39_backup.specs.declared.plan.Members.{Members}
use Rattle.s39_backup.specs.declared.plan_error.PlanError.{PlanError}
use Rattle.s39_backup.specs.Plan.{IsPlan, IsPlanReading}
use Rattle.s39_backup.specs.Created.{random_needed, Asked, asked_for}
use Rattle.s39_input.proofs.Steps.{AtMostOne}
use Rattle.s39_input.specs.declared.fault.Fault.{Fault}
use Rattle.s39_drilling.specs.declared.listing.Listing.{Listing}
use Rattle.s39_input.specs.declared.slices.NoOutput.{NoOutput}
use Rattle.s39_input.specs.declared.slices.NoOutput.TheVariants.{Refused, TooShort as SliceTooShort}
use Rattle.s39_kdf.specs.declared.secret_form.SecretForm.{SecretForm}
use Rattle.s39_input.specs.Input.{Input, lines_in, whole}
use Rattle.s39_input.specs.Create.{IsCreateOutput}
use Rattle.s39_creating.specs.Reissue.{IsReissueOutput}
use Rattle.s39_drilling.specs.Drill.{IsDrillOutput}
use Rattle.s39_drilling.specs.Slices.{Lists}
use Rattle.s39_c.specs.declared.answer.ShamirAnswer.{ShamirAnswer}
use Rattle.s39_c.specs.Answers.{done, created, number, out_of_range, cursor_refused, names_refused, fingerprint_refused, plan_refused, without_output, listed}
use Rattle.s39_c.specs.Creating.{Wanted, AreOptions, GivesBackup, GivesNumber}
use Rattle.s39_c.specs.Drilling.{IsCursor, IsInRange, GivesListing, GivesDrill}
use Rattle.s39_c.specs.Fingerprinting.{GivesFingerprint}
use Rattle.s39_c.specs.Reissuing.{AreListed, GivesReissued}
use Rattle.s39_c.specs.Resplitting.{GivesSplit}
use Rattle.s39_c.proofs.InSteps.{Once, OneOutput, gives_as_once, step_once, output_once}

-- a fingerprint is given in one way
pub fingerprint_once : (secret old : List ℕ) → Once (GivesFingerprint secret old)
fingerprint_once secret old new other answer another (inl (bad, is, says)) (inl (also, same, too)) = (is ∙ sym same, says ∙ sym too)
fingerprint_once secret old new other answer another (inl (bad, is, says)) (inr (right, gives)) = absurd (bad right)
fingerprint_once secret old new other answer another (inr (right, gives)) (inl (bad, is, says)) = absurd (bad right)
fingerprint_once secret old new other answer another (inr (right, gives)) (inr (also, given)) =
    let digits = encode_lower (fingerprint_of secret) in gives_as_once (done (length digits)) digits old new other answer another gives given

-- ---- a list of names

listed_once : ((text : List ℕ) (names others : Names) → IsWrittenForm text names → IsWrittenForm text others → names ≡ others) → (listed : List ℕ)
    → AtMostOne (AreListed listed)
listed_once once listed (Ok names) (Ok others) p q = ap Ok (once listed names others p q)
listed_once once listed (Ok names) (Err bad) p q = absurd (q names p)
listed_once once listed (Err bad) (Ok names) p q = absurd (p names q)
listed_once once listed (Err bad) (Err other) p q = refl

-- ---- options

-- the number of a flag is its flag's alone, and 0 or 1
pub flag_bit_once : (a b : Bool) → flag_bit a ≡ flag_bit b → a ≡ b
flag_bit_once true true same = refl
flag_bit_once true false same = absurd (omega (arith, same))
flag_bit_once false true same = absurd (omega (arith, same))
flag_bit_once false false same = refl

pub flag_bit_low : (flag : Bool) → flag_bit flag ≤ 1
flag_bit_low true = omega arith
flag_bit_low false = omega arith

in_range : (p : Options) (exponent extendable : ℕ) → AreOptions exponent extendable (Ok p) → (exponent < 2 ^ exponent_bits) × (extendable ≤ 1)
in_range p exponent extendable is =
    let within = p.exponent_in_range in let low = flag_bit_low p.extendable in (rw is.0 within, rw is.1 low)

abbrev of_fields : (exponent : ℕ) (extendable : Bool) → exponent < 2 ^ exponent_bits → Options
of_fields exponent extendable within = record { exponent = exponent; extendable = extendable; exponent_in_range = within }

-- options are known by their fields
same_options : (p q : Options) → p.exponent ≡ q.exponent → p.extendable ≡ q.extendable → p ≡ q
same_options p q exponent extendable =
    subst (λ (e : ℕ). (k : e < 2 ^ exponent_bits) → p ≡ of_fields e q.extendable k) exponent
    (λ k. subst (λ (f : Bool). p ≡ of_fields p.exponent f k) extendable
    (ap (λ (t : p.exponent < 2 ^ exponent_bits). of_fields p.exponent p.extendable t) (le_prop p.exponent_in_range k)))
    q.exponent_in_range

options_once : (exponent extendable : ℕ) → AtMostOne (AreOptions exponent extendable)
options_once exponent extendable (Ok p) (Ok q) is also =
    ap Ok (same_options p q (sym is.0 ∙ also.0) (flag_bit_once p.extendable q.extendable (sym is.1 ∙ also.1)))
options_once exponent extendable (Ok p) (Err bad) is none = absurd (none (in_range p exponent extendable is))
options_once exponent extendable (Err bad) (Ok p) none is = absurd (none (in_range p exponent extendable is))
options_once exponent extendable (Err bad) (Err other) none also = refl

-- ---- a plan

module _ (one_plan_reading : (text : List ℕ) → AtMostOne (IsPlanReading text)) where
  abbrev plan_of : ℕ × List Members → Result (ℕ × List Members) PlanError
  plan_of x = Ok x

  abbrev no_plan_for : PlanError → Result (ℕ × List Members) PlanError
  no_plan_for e = Err e

  same_plan : (x y : ℕ × List Members) → plan_of x ≡ plan_of y → x ≡ y
  same_plan x y same = cc

  same_cause : (x y : PlanError) → no_plan_for x ≡ no_plan_for y → x ≡ y
  same_cause x y same = cc

  no_plan : (x : ℕ × List Members) (y : PlanError) → Ok x ≡ Err y → ⊥
  no_plan x y same = absurd (cc)

  pub number_once : (plan : List ℕ) (n : ℕ) (answer another : ShamirAnswer) → GivesNumber plan n answer → GivesNumber plan n another → answer ≡ another
  number_once plan n answer another (inl (e, reads, says)) (inl (d, reads', says')) =
      says ∙ ap plan_refused (same_cause e d (one_plan_reading plan (Err e) (Err d) reads reads')) ∙ sym says'
  number_once plan n answer another (inl (e, reads, says)) (inr (t, gs, reads', number')) =
      absurd (no_plan (t, gs) e (one_plan_reading plan (Ok (t, gs)) (Err e) reads' reads))
  number_once plan n answer another (inr (t, gs, reads', number')) (inl (e, reads, says)) =
      absurd (no_plan (t, gs) e (one_plan_reading plan (Ok (t, gs)) (Err e) reads' reads))
  number_once plan n answer another (inr (t, gs, reads, inl (not, says))) (inr (u, hs, reads', inl (not', says'))) = says ∙ sym says'
  number_once plan n answer another (inr (t, gs, reads, inl (not, says))) (inr (u, hs, reads', inr (is, says'))) = absurd (not is)
  number_once plan n answer another (inr (t, gs, reads, inr (is, says))) (inr (u, hs, reads', inl (not, says'))) = absurd (not is)
  number_once plan n answer another (inr (t, gs, reads, inr (is, says))) (inr (u, hs, reads', inr (also, says'))) =
      let plans = same_plan (t, gs) (u, hs) (one_plan_reading plan (Ok (t, gs)) (Ok (u, hs)) reads reads') in
      says ∙ ap (λ (p : ℕ × List Members). number (random_needed p.0 p.1 n)) plans ∙ sym says'

  -- ---- a backup

  pub backup_once : ((asked : Asked) (input : Input) → OneOutput (IsCreateOutput asked input)) → (wanted : Wanted) (random old : List ℕ)
      → Once (GivesBackup wanted random old)
  backup_once one_create_output wanted random old =
      step_once (AreOptions wanted.exponent wanted.extendable) (λ _. out_of_range) _ old (options_once wanted.exponent wanted.extendable)
      (λ options _. step_once (IsPlanReading wanted.plan) plan_refused _ old (one_plan_reading wanted.plan)
      (λ plan _. let asked = asked_for wanted.secret wanted.passphrase plan.0 plan.1 options in
      output_once (λ text. created (length text) (lines_in text)) (IsCreateOutput asked (whole random)) old (one_create_output asked (whole random))))

  pub split_once : (IsOutput : ℕ → List Members → List ℕ → Result (Unit {0}) Fault → Type 0)
      → ((threshold : ℕ) (groups : List Members) → OneOutput (IsOutput threshold groups)) → (plan old : List ℕ) → Once (GivesSplit IsOutput plan old)
  split_once IsOutput one plan old =
      step_once (IsPlanReading plan) plan_refused _ old (one_plan_reading plan)
      (λ read _. output_once (λ text. created (length text) (lines_in text)) (IsOutput read.0 read.1) old (one read.0 read.1))

  pub reissue_once : ((text : List ℕ) (names others : Names) → IsWrittenForm text names → IsWrittenForm text others → names ≡ others)
      → ((threshold : ℕ) (groups : List Members) (names : Names) (input : Input) (text other : List ℕ) (answer another : Result (Unit {0}) Fault)
      → IsPlan threshold groups → IsReissueOutput threshold groups names input text answer → IsReissueOutput threshold groups names input other another
      → (text ≡ other) × (answer ≡ another))
      → (plan listed lines old : List ℕ)
      → Once (GivesReissued (λ threshold groups names. IsReissueOutput threshold groups names (whole lines)) plan listed old)
  reissue_once written_once one_reissue_output plan listed lines old =
      step_once (IsPlanReading plan) plan_refused _ old (one_plan_reading plan)
      (λ read is. step_once (AreListed listed) (λ _. names_refused) _ old (listed_once written_once listed)
      (λ names _. output_once (λ text. done (length text)) (IsReissueOutput read.0 read.1 names (whole lines)) old
      (λ text other answer another. one_reissue_output read.0 read.1 names (whole lines) text other answer another is.1)))

-- ---- a drill

-- the written form of names has a byte
no_empty_form : (names : Names) → IsWrittenForm [] names → ⊥
no_empty_form [] is = absurd (is.some refl)
no_empty_form (name ∷ []) is =
    let whole = ap length is.text_is in
    absurd (omega (arith, whole, length-append (decimal name.0) (46 ∷ decimal name.1)))
no_empty_form (name ∷ next ∷ names) is =
    let whole = ap length is.text_is in
    absurd (omega (
      arith,
      whole,
      length-append (name_text name) (43 ∷ quorum_text (next ∷ names)),
    ))

-- the answer for what is put into a slice, or isn't
abbrev answer_of : Result Listing NoOutput → ShamirAnswer
answer_of (Ok listing) = listed listing
answer_of (Err cause) = without_output cause

module _ (one_listing_in_a_slice : (form : SecretForm) (passphrase : List ℕ) (after : Option Names) (limit : ℕ) (input : Input) (old new other : List ℕ)
    (answer another : Result Listing NoOutput)
    → Lists (λ n. IsDrillOutput form passphrase after n input) limit old new answer
    → Lists (λ n. IsDrillOutput form passphrase after n input) limit old other another → (new ≡ other) × (answer ≡ another))
    (passphrase lines : List ℕ) where
  -- what is put into a slice, and the answer for it
  puts : (form : SecretForm) (after : Option Names) (limit : ℕ) (old new : List ℕ) (answer : ShamirAnswer)
      → GivesListing (λ n. IsDrillOutput form passphrase after n (whole lines)) limit old new answer
      → (result : Result Listing NoOutput) × Lists (λ n. IsDrillOutput form passphrase after n (whole lines)) limit old new result
      × (answer ≡ answer_of result)
  puts form after limit old new answer (inl (listing, fits, says)) = (Ok listing, fits, says)
  puts form after limit old new answer (inr (inl (short, is_short, is, says))) = (Err (SliceTooShort short), (is_short, is), says)
  puts form after limit old new answer (inr (inr (fault, output, is, says))) = (Err (Refused fault), (output, is), says)

  pub listing_once : (form : SecretForm) (after : Option Names) (limit : ℕ) (old new other : List ℕ) (answer another : ShamirAnswer)
      → GivesListing (λ n. IsDrillOutput form passphrase after n (whole lines)) limit old new answer
      → GivesListing (λ n. IsDrillOutput form passphrase after n (whole lines)) limit old other another → (new ≡ other) × (answer ≡ another)
  listing_once form after limit old new other answer another is also =
      let (result, lists, says) = puts form after limit old new answer is in
      let (result', lists', says') = puts form after limit old other another also in
      let same = one_listing_in_a_slice form passphrase after limit (whole lines) old new other result result' lists lists' in
      (same.0, says ∙ ap answer_of same.1 ∙ sym says')

-- What is given with a text, a cursor and a number is one thing where it is with each form and each list of names.
module _ (written_once : (text : List ℕ) (names others : Names) → IsWrittenForm text names → IsWrittenForm text others → names ≡ others) where
  -- a text writes one list of names, or none
  cursor_once : (cursor : List ℕ) → AtMostOne (IsCursor cursor)
  cursor_once cursor (Ok None) (Ok None) is also = refl
  cursor_once cursor (Ok None) (Ok (Some names)) is also = absurd (no_empty_form names (subst (λ (t : List ℕ). IsWrittenForm t names) is also))
  cursor_once cursor (Ok (Some names)) (Ok None) is also = absurd (no_empty_form names (subst (λ (t : List ℕ). IsWrittenForm t names) also is))
  cursor_once cursor (Ok (Some names)) (Ok (Some others)) is also = let same = written_once cursor names others is also in cc
  cursor_once cursor (Ok None) (Err bad) is none = absurd (none.0 is)
  cursor_once cursor (Ok (Some names)) (Err bad) is none = absurd (none.1 names is)
  cursor_once cursor (Err bad) (Ok None) none is = absurd (none.0 is)
  cursor_once cursor (Err bad) (Ok (Some names)) none is = absurd (none.1 names is)
  cursor_once cursor (Err bad) (Err other) none also = refl

  -- a limit and a number are refused, or they stand for one form
  in_range_once : (limit number : ℕ) (text : List ℕ) → AtMostOne (IsInRange limit number text)
  in_range_once limit number text (Ok form) (Ok other) p q = let same : Some form ≡ Some other = sym p.1 ∙ q.1 in cc
  in_range_once limit number text (Ok form) (Err _) (some, is) (inl zero) = absurd (omega (arith, zero, some))
  in_range_once limit number text (Ok form) (Err _) (some, is) (inr none) = let differ : None ≡ Some form = sym none ∙ is in absurd (cc)
  in_range_once limit number text (Err _) (Ok form) (inl zero) (some, is) = absurd (omega (arith, zero, some))
  in_range_once limit number text (Err _) (Ok form) (inr none) (some, is) = let differ : None ≡ Some form = sym none ∙ is in absurd (cc)
  in_range_once limit number text (Err _) (Err _) p q = refl

  pub drill_once : (Given : SecretForm → Option Names → List ℕ → ShamirAnswer → Type 0) (old : List ℕ)
      → ((form : SecretForm) (after : Option Names) → Once (Given form after)) → (cursor : List ℕ) (limit number : ℕ) (text : List ℕ)
      → Once (GivesDrill Given cursor limit number text old)
  drill_once Given old once cursor limit number text =
      step_once (IsInRange limit number text) (λ _. out_of_range) _ old (in_range_once limit number text)
      (λ form _. step_once (IsCursor cursor) (λ _. cursor_refused) _ old (cursor_once cursor)
      (λ after _. step_once (λ read. form ≡ read) (λ _. fingerprint_refused) _ old (λ x y is also. sym is ∙ also) (λ kind _. once kind after)))
