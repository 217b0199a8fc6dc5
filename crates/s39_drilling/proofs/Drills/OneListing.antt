-- An input has one listing in a slice.
use Rattle.std.proofs.Common.{◌≡◌, ℕ, ◌+◌, ◌<◌, ◌≤◌, List, [], ◌++◌, length, drop, sym, ap, ap₂, ◌∙◌, subst, inl, inr, arith}
use Rattle.std.proofs.Common.{Option, Result, Ok, Err}
use Rattle.std.proofs.lemmas.Bool.{cases_lt}
use Rattle.s39_set.specs.Names.{Names}
use Rattle.s39_kdf.specs.declared.secret_form.SecretForm.{SecretForm}
use Rattle.s39_drilling.specs.declared.drill.Done.{Done}
use Rattle.s39_input.specs.declared.fault.Fault.{Fault}
use Rattle.s39_drilling.specs.declared.listing.Listing.{Listing}
use Rattle.s39_input.specs.declared.slices.NoOutput.{NoOutput}
use Rattle.s39_input.specs.declared.slices.NoOutput.TheVariants.{Refused, TooShort as SliceTooShort}
use Rattle.s39_input.specs.Input.{Input, lines_in, bytes_before_last}
use Rattle.s39_drilling.specs.Drill.{IsDrillOutput}
use Rattle.s39_drilling.specs.Slices.{ListsWhatFits, Lists}
use Rattle.s39_drilling.proofs.Drills.Outputs.{refused_with}

abbrev put : Listing → Result Listing NoOutput
put listing = Ok listing

abbrev listing_of : ℕ × ℕ → ℕ × ℕ → Result Listing NoOutput
listing_of size quorums = Ok (record { written = size.0; last = size.1; listed = quorums.0; mismatches = quorums.1 })

-- listings are known by their numbers
same_listing : {listing another : Listing} → listing.written ≡ another.written → listing.listed ≡ another.listed → listing.last ≡ another.last
    → listing.mismatches ≡ another.mismatches → put listing ≡ put another
same_listing written listed last mismatches =
    ap₂ listing_of (ap₂ (λ (a b : ℕ). (a, b)) written last) (ap₂ (λ (a b : ℕ). (a, b)) listed mismatches)

abbrev mismatches_of : Result Done Fault → ℕ
mismatches_of (Ok done) = done.mismatches
mismatches_of (Err _) = 0

module _ {form : SecretForm} (one_drill_output : (passphrase : List ℕ) (after : Option Names) (limit : ℕ) (input : Input) (text other : List ℕ)
    (answer another : Result Done Fault) → IsDrillOutput form passphrase after limit input text answer
    → IsDrillOutput form passphrase after limit input other another → (text ≡ other) × (answer ≡ another))
    (passphrase : List ℕ) (after : Option Names) (limit : ℕ) (input : Input) (old : List ℕ) where
  abbrev Writes : ℕ → List ℕ → ℕ → Type 0
  Writes n text mismatches = IsDrillOutput form passphrase after n input text (Ok (record { mismatches = mismatches }))

  -- what is written with a limit fits into the slice, or doesn't
  abbrev Fits : ℕ → Type 0
  Fits n = (text : List ℕ) × (mismatches : ℕ) × Writes n text mismatches × (length text ≤ length old)

  abbrev IsTooLong : ℕ → Type 0
  IsTooLong n = (text : List ℕ) × (mismatches : ℕ) × Writes n text mismatches × (length old < length text)

  not_both : (n : ℕ) → Fits n → IsTooLong n → ⊥
  not_both n (text, m, writes, fits) (other, k, writes', long) =
      let same = one_drill_output passphrase after n input text other (Ok (record { mismatches = m })) (Ok (record { mismatches = k })) writes writes' in
      let size : length text ≡ length other = ap length same.0 in
      absurd (omega (arith, fits, long, size))

  not_refused : (n : ℕ) (text : List ℕ) (mismatches : ℕ) (fault : Fault) → Writes n text mismatches
      → IsDrillOutput form passphrase after limit input [] (Err fault) → ⊥
  not_refused n text mismatches fault writes refused =
      let same = one_drill_output passphrase after n input text [] (Ok (record { mismatches = mismatches })) (Err fault) writes
      (refused_with passphrase after limit n input [] fault refused) in
      let differ = same.1 in
      absurd (cc)

  abbrev Listed : List ℕ → Listing → Type 0
  Listed new listing = ListsWhatFits (λ n. IsDrillOutput form passphrase after n input) limit old new listing

  -- so many quorums fit
  fits : {new : List ℕ} {listing : Listing} (l : Listed new listing) (n : ℕ) → 1 ≤ n → n ≤ l.listed → Fits n
  fits {new} {listing} l n some few =
      elim (cases_lt n l.listed) [
        | inl below ↦ l.less_fits n some below
        | inr above ↦
            let here : l.listed ≡ n = omega (arith, few, above) in
            subst Fits here (l.text, listing.mismatches, l.output, l.in_front.fits)
      ]

  -- no listing has more than another
  not_more : {new other : List ℕ} {listing another : Listing} (l : Listed new listing) (k : Listed other another) → l.listed < k.listed → ⊥
  not_more l k less =
      let few = k.few in
      let (longer, m, writes, long) = l.more_is_too_long (omega (arith, less, few)) in
      not_both (l.listed + 1) (fits k (l.listed + 1) (omega arith) (omega (arith, less))) (longer, m, writes, long)

  same_listed : {new other : List ℕ} {listing another : Listing} (l : Listed new listing) (k : Listed other another) → l.listed ≡ k.listed
  same_listed l k =
      elim (cases_lt l.listed k.listed) [
        | inl less ↦ absurd (not_more l k less)
        | inr above ↦ elim (cases_lt k.listed l.listed) [
          | inl less ↦ absurd (not_more k l less)
          | inr below ↦ omega (arith, above, below)
        ]
      ]

  same_text : {new other : List ℕ} {listing another : Listing} (l : Listed new listing) (k : Listed other another)
      → (l.text ≡ k.text) × (listing.mismatches ≡ another.mismatches)
  same_text {new} {other} {listing} {another} l k =
      let output : Writes l.listed k.text another.mismatches = subst (λ n. Writes n k.text another.mismatches) (sym (same_listed l k)) k.output in
      let same = one_drill_output passphrase after l.listed input l.text k.text (Ok (record { mismatches = listing.mismatches }))
      (Ok (record { mismatches = another.mismatches })) l.output output in
      (same.0, ap mismatches_of same.1)

  pub listing_once : (new other : List ℕ) (answer another : Result Listing NoOutput)
      → Lists (λ n. IsDrillOutput form passphrase after n input) limit old new answer
      → Lists (λ n. IsDrillOutput form passphrase after n input) limit old other another → (new ≡ other) × (answer ≡ another)
  listing_once new other (Ok listing) (Ok another) l k =
      let (text, mismatches) = same_text l k in
      let bytes : new ≡ other = l.in_front.bytes ∙ ap (λ t. t ++ drop (length t) old) text ∙ sym k.in_front.bytes in
      let written : listing.written ≡ another.written = l.written ∙ ap length text ∙ sym k.written in
      let feeds = ap lines_in text in
      let count = l.lines in
      let other_count = k.lines in
      let listed : listing.listed ≡ another.listed = omega (arith, feeds, count, other_count) in
      let last : listing.last ≡ another.last = l.last ∙ ap bytes_before_last text ∙ sym k.last in
      (bytes, same_listing written listed last mismatches)
  listing_once new other (Ok listing) (Err (SliceTooShort short)) l ((text, m, writes, needed, long), same) =
      absurd (not_both 1 (fits l 1 (omega arith) l.some) (text, m, writes, long))
  listing_once new other (Ok listing) (Err (Refused fault)) l (refused, same) =
      absurd (not_refused l.listed l.text listing.mismatches fault l.output refused)
  listing_once new other (Err (SliceTooShort short)) (Ok listing) ((text, m, writes, needed, long), same) l =
      absurd (not_both 1 (fits l 1 (omega arith) l.some) (text, m, writes, long))
  listing_once new other (Err (SliceTooShort short)) (Err (SliceTooShort more)) ((text, m, writes, needed, long), same) (p, same') =
      let (text', m', writes', needed', long') = p in
      let one = one_drill_output passphrase after 1 input text text' (Ok (record { mismatches = m })) (Ok (record { mismatches = m' })) writes writes' in
      let bytes : short.needed ≡ more.needed = needed ∙ ap length one.0 ∙ sym needed' in
      (same ∙ sym same', ap (λ n. Err (SliceTooShort (record { needed = n }))) bytes)
  listing_once new other (Err (SliceTooShort short)) (Err (Refused fault)) ((text, m, writes, needed, long), same) (refused, same') =
      absurd (not_refused 1 text m fault writes refused)
  listing_once new other (Err (Refused fault)) (Ok listing) (refused, same) l =
      absurd (not_refused l.listed l.text listing.mismatches fault l.output refused)
  listing_once new other (Err (Refused fault)) (Err (SliceTooShort short)) (refused, same) ((text, m, writes, needed, long), same') =
      absurd (not_refused 1 text m fault writes refused)
  listing_once new other (Err (Refused fault)) (Err (Refused fault')) (refused, same) (refused', same') =
      let one = one_drill_output passphrase after limit input [] [] (Err fault) (Err fault') refused refused' in
      let faults : fault ≡ fault' = cc in
      (same ∙ sym same', ap (λ f. Err (Refused f)) faults)
