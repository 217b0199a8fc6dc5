-- Texts that are put into slices.
use Rattle.std.specs.Prelude.{◌≡◌, ℕ, ◌+◌, ◌<◌, ◌≤◌, false, List, ◌++◌, length, drop, [], All, Option, Some, None, Result, Ok, Err}
use Rattle.std.specs.List.{flat_map}
use Rattle.s39_words.specs.declared.ShareFields.{ShareFields}
use Rattle.s39_set.specs.Names.{Names}
use Rattle.s39_backup.specs.declared.combination.Mismatch.{Mismatch}
use Rattle.s39_backup.specs.Outcome.{IsOutcome}
use Rattle.s39_set.specs.Quorums.{IsFirstQuorumAfter}
use Rattle.s39_drilling.specs.declared.drill.Done.{Done}
use Rattle.s39_input.specs.declared.fault.Fault.{Fault}
use Rattle.s39_drilling.specs.declared.listing.Listing.{Listing}
use Rattle.s39_input.specs.declared.slices.TooShort.{TooShort}
use Rattle.s39_input.specs.declared.slices.NoOutput.{NoOutput}
use Rattle.s39_input.specs.declared.slices.NoOutput.TheVariants.{Refused, TooShort as SliceTooShort}
use Rattle.s39_input.specs.Slices.{IsInFront}
use Rattle.s39_kdf.specs.declared.secret_form.SecretForm.{SecretForm}
use Rattle.s39_drilling.specs.Drill.{last_line, quorum_line, mismatch_in, IsDrill, IsNext}
use Rattle.s39_input.specs.Input.{is_line_feed, ended_line, lines_in, bytes_before_last}

-- What a drill writes stands at the front of a slice: with the limit, or with the first lower one at which the text for
-- one quorum more doesn't fit. The drill has these outputs with each limit. The text has a line for each listed quorum, and
-- the last line, which stands behind them.
pub record ListsWhatFits (IsOutput : ℕ → List ℕ → Result Done Fault → Type 0) (limit : ℕ) (old new : List ℕ) (listing : Listing) : Type 0 where
  pub listed : ℕ
  pub text : List ℕ
  pub some : 1 ≤ listed
  pub few : listed ≤ limit
  pub output : IsOutput listed text (Ok (record { mismatches = listing.mismatches }))
  pub in_front : IsInFront text old new
  pub written : listing.written ≡ length text
  pub lines : listing.listed + 1 ≡ lines_in text
  pub last : listing.last ≡ bytes_before_last text
  pub less_fits : (n : ℕ) → 1 ≤ n → n < listed → (shorter : List ℕ) × (mismatches : ℕ)
      × IsOutput n shorter (Ok (record { mismatches = mismatches })) × (length shorter ≤ length old)
  pub more_is_too_long : listed < limit → (longer : List ℕ) × (mismatches : ℕ)
      × IsOutput (listed + 1) longer (Ok (record { mismatches = mismatches })) × (length old < length longer)

-- What it writes with a limit of 1 doesn't fit into this many bytes. Its length is the number of bytes needed.
abbrev pub IsTooShort : (ℕ → List ℕ → Result Done Fault → Type 0) → ℕ → TooShort → Type 0
IsTooShort IsOutput room short =
    (text : List ℕ) × (mismatches : ℕ) × IsOutput 1 text (Ok (record { mismatches = mismatches }))
    × (short.needed ≡ length text) × (room < length text)

-- the listing in a slice; or that the slice is too short, or the refusal, and then nothing changes
abbrev pub Lists : (ℕ → List ℕ → Result Done Fault → Type 0) → ℕ → List ℕ → List ℕ → Result Listing NoOutput → Type 0
Lists IsOutput limit old new (Ok listing) = ListsWhatFits IsOutput limit old new listing
Lists IsOutput limit old new (Err (SliceTooShort short)) = IsTooShort IsOutput (length old) short × (new ≡ old)
Lists IsOutput limit old new (Err (Refused fault)) = IsOutput limit [] (Err fault) × (new ≡ old)

-- Within a drill in a slice; no public contract cites this.

-- a text of so many lines, with a line feed behind each and no other
pub record IsLines (text : List ℕ) (count : ℕ) : Type 0 where
  pub lines : List (List ℕ)
  pub each : All (All (λ byte. is_line_feed byte ≡ false)) lines
  pub text_is : text ≡ flat_map ended_line lines
  pub count_is : count ≡ length lines

-- the quorum after which more remain
abbrev pub more_after : Names → Option Names → Option Names
more_after names None = None
more_after names (Some next) = Some names

-- a quorum is tried: its line, the last line of a drill that ends with it, and what comes next
pub record IsTried (form : SecretForm) (set : List ShareFields) (passphrase : List ℕ) (names : Names) (line last : List ℕ)
    (next : Option Names) (mismatches : ℕ) : Type 0 where
  pub outcome : Result (List ℕ) Mismatch
  pub is_outcome : IsOutcome set names passphrase outcome
  pub line_is : line ≡ quorum_line form (names, outcome)
  pub mismatches_are : mismatches ≡ mismatch_in form outcome
  pub is_next : IsNext set (Some names) next
  pub last_is : last ≡ last_line (more_after names next)

-- a drill of a set with this limit fits into this many bytes
abbrev pub DrillFits : SecretForm → List ShareFields → List ℕ → Option Names → ℕ → ℕ → Type 0
DrillFits form set passphrase after n room =
    (lines : List ℕ) × (more : Option Names) × (mismatches : ℕ) × IsDrill form set passphrase after n lines more mismatches
    × (length (lines ++ last_line more) ≤ room)

-- A drill of a set in a slice: with the limit, or with the first lower one at which one quorum more doesn't fit.
pub record FillsSlice (form : SecretForm) (set : List ShareFields) (passphrase : List ℕ) (after : Option Names) (limit : ℕ) (old new : List ℕ)
    (listing : Listing) : Type 0 where
  pub listed : ℕ
  pub lines : List ℕ
  pub more : Option Names
  pub some : 1 ≤ listed
  pub few : listed ≤ limit
  pub drill : IsDrill form set passphrase after listed lines more listing.mismatches
  pub in_front : IsInFront (lines ++ last_line more) old new
  pub written : listing.written ≡ length (lines ++ last_line more)
  pub are_lines : IsLines lines listing.listed
  pub last : listing.last ≡ length lines
  pub less_fits : (n : ℕ) → 1 ≤ n → n < listed → DrillFits form set passphrase after n (length old)
  pub more_is_too_long : listed < limit → (longer : List ℕ) × (rest : Option Names) × (mismatches : ℕ)
      × IsDrill form set passphrase after (listed + 1) longer rest mismatches × (length old < length (longer ++ last_line rest))

-- the drill of a set in a slice, or that its first line doesn't fit, and then nothing changes
abbrev pub Fills : SecretForm → List ShareFields → List ℕ → Option Names → ℕ → List ℕ → List ℕ → Result Listing TooShort → Type 0
Fills form set passphrase after limit old new (Ok listing) = FillsSlice form set passphrase after limit old new listing
Fills form set passphrase after limit old new (Err short) =
    ((lines : List ℕ) × (more : Option Names) × (mismatches : ℕ) × IsDrill form set passphrase after 1 lines more mismatches
    × (short.needed ≡ length (lines ++ last_line more)) × (length old < length (lines ++ last_line more)))
    × (new ≡ old)

-- of a drill that starts at a quorum, this many lines stand at the front of a slice, up to the line of another quorum
pub record IsFilling (form : SecretForm) (set : List ShareFields) (passphrase : List ℕ) (start : Names) (listed : ℕ) (old new last : List ℕ)
    (written : ℕ) (next : Option Names) (mismatches : ℕ) : Type 0 where
  pub lines : List ℕ
  pub reached : Names
  pub bytes : new ≡ lines ++ drop (length lines) old
  pub written_is : written ≡ length lines
  pub are_lines : IsLines lines listed
  pub fits : written + length last ≤ length old
  pub is_next : IsNext set (Some reached) next
  pub last_is : last ≡ last_line (more_after reached next)
  pub less_fits : (after : Option Names) → IsFirstQuorumAfter set after start
      → (n : ℕ) → 1 ≤ n → n < listed → DrillFits form set passphrase after n (length old)
  pub goes_on : (after : Option Names) → IsFirstQuorumAfter set after start
      → (limit : ℕ) (rest : List ℕ) (more : Option Names) (m : ℕ) → IsDrill form set passphrase (Some reached) limit rest more m
      → IsDrill form set passphrase after (listed + limit) (lines ++ rest) more (mismatches + m)
