-- A run that creates a backup.
use Rattle.std.proofs.Common.{◌≡◌, ◌≢◌, ℕ, zero, suc, min, ◌+◌, ◌<◌, ◌≤◌, true, List, [], ◌∷◌, length, map, take, All, get_or, refl, sym, ap, ◌∙◌}
use Rattle.std.proofs.Common.{subst, inl, inr, arith, Option, Ok, Err}
use Rattle.std.specs.Io.KnownBytes.{Consumes}
use Rattle.std.specs.List.{AllZip, concat}
use Rattle.std.proofs.lemmas.Bool.{cases_lt}
use Rattle.std.proofs.lemmas.List.{length-take, length-map, take_all, get_or-map}
use Rattle.std.proofs.lemmas.List.Concat.{concat_is}
use Rattle.std.proofs.lemmas.List.Folds.{flat_map-map}
use Rattle.arrayvec.specs.ArrayVec.{ArrayVec}
use Rattle.s39_words.specs.declared.ShareFields.{ShareFields}
use Rattle.s39_words.specs.Share.{IsShare}
use Rattle.s39_words.specs.Printing.{IsPrinted}
use Rattle.s39_backup.specs.declared.create_error.CreateError.{CreateError}
use Rattle.s39_backup.specs.declared.create_error.CreateError.TheVariants.{Passphrase, SecretLength, BadRandomLength}
use Rattle.s39_input.specs.Device.{Counted}
use Rattle.s39_input.specs.Input.{Input, ended_line}
use Rattle.s39_input.specs.Fault.{read_failures_in, write_failures_in}
use Rattle.s39_input.specs.Emission.{AreLines}
use Rattle.s39_backup.specs.Created.{Asked, needed_by, IsCreation}
use Rattle.s39_input.specs.Create.{ArePrintedLines, fault_of_creation, Applies, IsCreateOutput}
use Rattle.s39_input.proofs.Runs.PrintedLines.{as_many, printed_all}

-- between two reads: these bytes came of the first reader's
pub record IsTaking {D : Type 0} (remaining : D → Option (List ℕ)) (first reader : Counted D) (came : List ℕ) (limit : ℕ) : Type 0 where
  pub consumed : Consumes (remaining first.device) (remaining reader.device) came
  pub no_failure : reader.failures ≡ first.failures
  pub more_reads : first.reads ≤ reader.reads
  pub asked : 0 < length came → first.reads < reader.reads
  pub few_reads : reader.reads ≤ first.reads + length came
  pub few : length came ≤ limit

-- ---- mnemonics, one a line

-- the printed form at a place is that of the share there
pub printed_at : (lines : List (List ℕ)) (shares : List ShareFields) → AllZip IsPrinted lines shares → (k : ℕ) (share : ShareFields) → k < length shares
    → share ≡ get_or shares k share → IsPrinted (get_or lines k []) share
printed_at lines [] printed k share below here = absurd (omega arith)
printed_at [] (s ∷ ss) printed k share below here = absurd printed
printed_at (l ∷ ls) (s ∷ ss) printed zero share below here = subst (IsPrinted l) (sym here) printed.0
printed_at (l ∷ ls) (s ∷ ss) printed (suc k) share below here = printed_at ls ss printed.1 k share (omega arith) here

-- these lines, and the text that they make
pub printed_texts : ((share : ShareFields) → IsShare share → (text : List ℕ) × IsPrinted text share) → (shares : List ShareFields) → All IsShare shares
    → (lines : List (List ℕ)) × AllZip IsPrinted lines shares × ArePrintedLines shares (concat (map ended_line lines))
printed_texts every shares each =
    let p = (printed_all every shares each).1 in (
      p.lines,
      p.printed,
      record { lines = p.lines; printed = p.printed; text_is = concat_is (map ended_line p.lines) ∙ flat_map-map (λ l. l) ended_line p.lines },
    )

pub lines_are : {gives : ℕ → ArrayVec ℕ → Type 0} (lines : List (List ℕ)) (shares : List ShareFields) → AllZip IsPrinted lines shares
    → ((index : ℕ) (line : ArrayVec ℕ) → index < length shares → gives index line → line.items ≡ ended_line (get_or lines index []))
    → AreLines gives (length shares) (map ended_line lines)
lines_are lines shares printed given =
    let long = as_many lines shares printed in
    record {
      many = length-map lines ended_line ∙ long;
      each = λ index line below gives.
          given index line below gives ∙ sym (get_or-map ended_line lines index [] [] (omega (arith, below, long)));
    }

-- ---- the random bytes of an input

-- which failures a refused creation says
pub creation_reads : (error : CreateError) → read_failures_in (fault_of_creation error).refusal ≡ 0
creation_reads (Passphrase bad) = refl
creation_reads (SecretLength bad) = refl
creation_reads (BadRandomLength needed) = refl

pub creation_writes : (error : CreateError) → write_failures_in (fault_of_creation error).refusal ≡ 0
creation_writes (Passphrase bad) = refl
creation_writes (SecretLength bad) = refl
creation_writes (BadRandomLength needed) = refl

module _ (asked : Asked) (input : Input) (limit : ℕ) (random : List ℕ) (limit_is : limit ≡ needed_by asked + 1) (random_is : random ≡ take limit input.bytes)
    (ended : length input.bytes < limit → input.ended ≡ true) where
  counted : length random ≡ min limit (length input.bytes)
  counted = ap length random_is ∙ length-take limit input.bytes

  -- the creation with the bytes that came is that with all bytes
  pub created_of_all : (shares : List ShareFields) (text : List ℕ) → IsCreation asked random (Ok shares) → ArePrintedLines shares text
      → IsCreateOutput asked input text (Ok tt)
  created_of_all shares text created printed =
      let many : length random ≡ needed_by asked = created.2 in
      let c = counted in
      let same : random ≡ input.bytes = random_is ∙ take_all limit input.bytes (omega arith) in
      (shares, ended (omega arith), subst (λ r. IsCreation asked r (Ok shares)) same created, printed)

  -- and so is its refusal
  pub refused_of_all : (error : CreateError) → IsCreation asked random (Err error) → IsCreateOutput asked input [] (Err (fault_of_creation error))
  refused_of_all (Passphrase bad) refused = (refl, inl (Passphrase bad, refused, tt, refl))
  refused_of_all (SecretLength bad) refused = (refl, inl (SecretLength bad, refused, tt, refl))
  refused_of_all (BadRandomLength needed) refused =
      let needed_is : needed ≡ needed_by asked = refused.2 in
      let other : length random ≢ needed = refused.3 in
      let c = counted in
      let applies : Applies input (BadRandomLength needed) =
      elim (cases_lt needed (length input.bytes)) [ inl more ↦ inr more | inr fewer ↦ inl (ended (omega arith)) ] in
      (refl, inl (BadRandomLength needed, (refused.0, refused.1, needed_is, λ same. other (omega arith)), applies, refl))
