-- What is put into a slice of one output is one thing.
use Rattle.std.proofs.Common.{◌≡◌, ℕ, ◌<◌, ◌≤◌, List, [], ◌++◌, length, drop, sym, ap, ap₂, ◌∙◌, arith, Result, Ok, Err}
use Rattle.s39_input.specs.declared.fault.Fault.{Fault}
use Rattle.s39_input.specs.declared.slices.NoOutput.{NoOutput}
use Rattle.s39_input.specs.declared.slices.NoOutput.TheVariants.{Refused, TooShort as SliceTooShort}
use Rattle.s39_input.specs.declared.slices.WrittenLines.{WrittenLines}
use Rattle.s39_input.specs.Input.{lines_in}
use Rattle.s39_input.specs.Slices.{Puts}

module _ (IsOutput : List ℕ → Result (Unit {0}) Fault → Type 0)
    (once : (text other : List ℕ) (answer another : Result (Unit {0}) Fault) → IsOutput text answer → IsOutput other another
    → (text ≡ other) × (answer ≡ another)) where
  not_both : (old text other : List ℕ) → IsOutput text (Ok tt) → length text ≤ length old → IsOutput other (Ok tt) → length old < length other → ⊥
  not_both old text other writes fits writes' long =
      let same = once text other (Ok tt) (Ok tt) writes writes' in
      let size : length text ≡ length other = ap length same.0 in
      absurd (omega (arith, fits, long, size))

  not_refused : (text : List ℕ) (fault : Fault) → IsOutput text (Ok tt) → IsOutput [] (Err fault) → ⊥
  not_refused text fault writes refused =
      let same = once text [] (Ok tt) (Err fault) writes refused in
      let differ = same.1 in
      absurd (cc)

  pub puts_once : (old new other : List ℕ) (answer another : Result WrittenLines NoOutput) → Puts IsOutput old new answer → Puts IsOutput old other another
      → (new ≡ other) × (answer ≡ another)
  puts_once old new other (Ok w) (Ok v) (text, writes, front, w_is, w_lines) (text', writes', front', v_is, v_lines) =
      let same = once text text' (Ok tt) (Ok tt) writes writes' in
      let bytes : w.written ≡ v.written = w_is ∙ ap length same.0 ∙ sym v_is in
      let count : w.lines ≡ v.lines = w_lines ∙ ap lines_in same.0 ∙ sym v_lines in (
        front.bytes ∙ ap (λ t. t ++ drop (length t) old) same.0 ∙ sym front'.bytes,
        ap₂ (λ (n m : ℕ). Ok (record { written = n; lines = m })) bytes count,
      )
  puts_once old new other (Ok w) (Err (SliceTooShort short)) (text, writes, front, w_is, w_lines) (text', writes', needed, long, is) =
      absurd (not_both old text text' writes front.fits writes' long)
  puts_once old new other (Ok w) (Err (Refused fault)) (text, writes, front, w_is, w_lines) (refused, is) = absurd (not_refused text fault writes refused)
  puts_once old new other (Err (SliceTooShort short)) (Ok v) (text, writes, needed, long, is) (text', writes', front', v_is, v_lines) =
      absurd (not_both old text' text writes' front'.fits writes long)
  puts_once old new other (Err (SliceTooShort short)) (Err (SliceTooShort more)) (text, writes, needed, long, is) (text', writes', needed', long', is') =
      let same = once text text' (Ok tt) (Ok tt) writes writes' in
      let bytes : short.needed ≡ more.needed = needed ∙ ap length same.0 ∙ sym needed' in
      (is ∙ sym is', ap (λ n. Err (SliceTooShort (record { needed = n }))) bytes)
  puts_once old new other (Err (SliceTooShort short)) (Err (Refused fault)) (text, writes, needed, long, is) (refused, is') =
      absurd (not_refused text fault writes refused)
  puts_once old new other (Err (Refused fault)) (Ok v) (refused, is) (text, writes, front, v_is, v_lines) = absurd (not_refused text fault writes refused)
  puts_once old new other (Err (Refused fault)) (Err (SliceTooShort short)) (refused, is) (text, writes, needed, long, is') =
      absurd (not_refused text fault writes refused)
  puts_once old new other (Err (Refused fault)) (Err (Refused fault')) (refused, is) (refused', is') =
      let same = once [] [] (Err fault) (Err fault') refused refused' in
      let answers = same.1 in
      let faults : fault ≡ fault' = cc in
      (is ∙ sym is', ap (λ f. Err (Refused f)) faults)
