-- The output of `drill`.
use Rattle.std.specs.Prelude.{◌≡◌, ◌↔◌, ℕ, suc, List, [], ◌∷◌, ◌++◌, All, codes, map, filter, length, if◌then◌else◌, Bool, true}
use Rattle.std.specs.Prelude.{Option, Some, None, IfSome, Result, Ok, Err}
use Rattle.std.specs.Fmt.{decimal}
use Rattle.std.specs.List.{flat_map}
use Rattle.arrayvec.specs.ArrayVec.{ArrayVec}
use Rattle.s39_words.specs.declared.ShareFields.{ShareFields}
use Rattle.s39_set.specs.Names.{Names}
use Rattle.s39_set.specs.declared.set_lack.SetLack.{SetLack}
use Rattle.s39_set.specs.Quorums.{IsQuorum, IsFirstQuorumAfter, HasNoQuorumAfter}
use Rattle.s39_set.specs.Lack.{IsLack}
use Rattle.s39_set.specs.ShareSet.{IsShareSet}
use Rattle.s39_set.specs.Listing.{AreAllQuorumsAfter, IsListing, IsWalk}
use Rattle.s39_set.specs.Written.{quorum_text}
use Rattle.s39_backup.specs.declared.combination.Mismatch.{Mismatch}
use Rattle.s39_backup.specs.declared.combination.Mismatch.TheVariants.{InGroup, OfGroups}
use Rattle.s39_backup.specs.Outcome.{IsOutcome}
use Rattle.s39_input.specs.declared.fault.Refusal.TheVariants.{Lack as LackRefusal, NotAQuorum as CursorRefusal}
use Rattle.s39_input.specs.declared.fault.Fault.{Fault}
use Rattle.s39_drilling.specs.declared.drill.Done.{Done}
use Rattle.s39_drilling.specs.declared.drill.NoDrill.{NoDrill}
use Rattle.s39_drilling.specs.declared.drill.NoDrill.TheVariants.{Lack, NotAQuorum}
use Rattle.s39_kdf.specs.declared.secret_form.SecretForm.{SecretForm}
use Rattle.s39_input.specs.Device.{Counted}
use Rattle.s39_input.specs.Output.{WritesWhole, WritesPart}
use Rattle.s39_input.specs.Input.{Input, ended_line}
use Rattle.s39_input.specs.Fault.{fault_of}
use Rattle.s39_input.specs.Accepted.{IsReadAs, IsCheckedSet}
use Rattle.s39_input.specs.OfBackup.{HoldsMnemonicsOf}
use Rattle.s39_input.specs.SecretForm.{is_unexpected, secret_in}
use Rattle.s39_input.specs.Steps.{Then, nothing_for}

-- a quorum that is listed, and its outcome
abbrev pub Listed : Type 0
Listed = Names × Result (List ℕ) Mismatch

-- which digest doesn't match
abbrev pub mismatch_text : Mismatch → List ℕ
mismatch_text (InGroup group) = codes "digest mismatch in group " ++ decimal group
mismatch_text OfGroups = codes "digest mismatch of groups"

-- an outcome as it is written: the secret in this form, or whether it is the expected one, or which digest doesn't match
abbrev pub outcome_text : SecretForm → Result (List ℕ) Mismatch → List ℕ
outcome_text form (Ok secret) = secret_in form secret
outcome_text form (Err mismatch) = mismatch_text mismatch

-- the line of a quorum: the quorum, a space, its outcome, and a line feed
abbrev pub quorum_line : SecretForm → Listed → List ℕ
quorum_line form listed = ended_line (quorum_text listed.0 ++ 32 ∷ outcome_text form listed.1)

-- the last line: that no more quorums remain, or after which quorum more of them do
abbrev pub last_line : Option Names → List ℕ
last_line None = ended_line (codes "end")
last_line (Some names) = ended_line (codes "more after " ++ quorum_text names)

-- an outcome counts as a mismatch: a digest doesn't match, or the secret has another fingerprint than the expected one
abbrev pub is_mismatch : SecretForm → Result (List ℕ) Mismatch → Bool
is_mismatch form (Ok secret) = is_unexpected form secret
is_mismatch form (Err _) = true

-- how many of these outcomes count as mismatches
abbrev pub mismatches_in : SecretForm → List Listed → ℕ
mismatches_in form lines = length (filter (λ line. is_mismatch form line.1) lines)

-- the last of these quorums, or what was reached before if there are none
abbrev pub last_reached : Option Names → List Names → Option Names
last_reached reached [] = reached
last_reached reached (names ∷ others) = last_reached (Some names) others

-- no quorum comes after what was reached, or some do after this one, which was reached
abbrev pub GoesOn : List ShareFields → Option Names → Option Names → Type 0
GoesOn set reached None = HasNoQuorumAfter set reached
GoesOn set reached (Some names) = (reached ≡ Some names) × ¬ HasNoQuorumAfter set reached

-- The drill of a set: the lines of the quorums after a given one, or of all quorums, in order, at most as many as the
-- limit, each with its outcome; whether more quorums remain; and how many of the outcomes count as mismatches.
pub record IsDrill (form : SecretForm) (set : List ShareFields) (passphrase : List ℕ) (after : Option Names) (limit : ℕ)
    (text : List ℕ) (more : Option Names) (mismatches : ℕ) : Type 0 where
  pub lines : List Listed
  pub listing : IsListing set after limit (map (λ line. line.0) lines)
  pub outcomes : All (λ line. IsOutcome set line.0 passphrase line.1) lines
  pub text_is : text ≡ flat_map (quorum_line form) lines
  pub goes_on : GoesOn set (last_reached after (map (λ line. line.0) lines)) more
  pub mismatches_are : mismatches ≡ mismatches_in form lines

-- why a set isn't drilled: it has no quorum, or the given names aren't a quorum of it
abbrev pub IsNoDrill : List ShareFields → Option Names → NoDrill → Type 0
IsNoDrill set after (Lack lack) = IsLack set lack
IsNoDrill set after NotAQuorum =
    ((lack : SetLack) → ¬ IsLack set lack)
    × ((names : Names) × (after ≡ Some names) × ¬ IsQuorum set names)

-- the fault of a set that isn't drilled
abbrev pub fault_of_no_drill : NoDrill → Fault
fault_of_no_drill (Lack lack) = fault_of (LackRefusal lack)
fault_of_no_drill NotAQuorum = fault_of CursorRefusal

-- the set has a quorum, and the given names are one of its quorums; or why the set isn't drilled
abbrev pub IsDrillable : List ShareFields → Option Names → Result (Unit {0}) NoDrill → Type 0
IsDrillable set after (Ok _) = ((lack : SetLack) → ¬ IsLack set lack) × IfSome after (IsQuorum set)
IsDrillable set after (Err cause) = IsNoDrill set after cause

-- the lines of the drill of a set and the last line are written, and the answer is the number of its mismatches
abbrev pub WritesLines : SecretForm → List ShareFields → List ℕ → Option Names → ℕ → List ℕ × Result Done Fault → Type 0
WritesLines form set passphrase after limit written =
    (lines : List ℕ) × (more : Option Names) × (mismatches : ℕ) × IsDrill form set passphrase after limit lines more mismatches
    × (written ≡ (lines ++ last_line more, Ok (record { mismatches = mismatches })))

-- the set is drilled; or nothing is written, and the answer is why it isn't
abbrev pub WritesDrillOf : SecretForm → List ℕ → Option Names → ℕ → List ShareFields → List ℕ × Result Done Fault → Type 0
WritesDrillOf form passphrase after limit set =
    Then (IsDrillable set after) (λ cause. nothing_for (fault_of_no_drill cause)) (λ _. WritesLines form set passphrase after limit)

-- `drill` writes this text for the form of secrets, the passphrase, the quorum after which it starts, the limit and the
-- input, and gives this answer. It judges the passphrase first, then the lines of the input, and then the set of their
-- shares.
abbrev pub IsDrillOutput : SecretForm → List ℕ → Option Names → ℕ → Input → List ℕ → Result Done Fault → Type 0
IsDrillOutput form passphrase after limit input text answer =
    Then (IsCheckedSet passphrase input) nothing_for (WritesDrillOf form passphrase after limit) (text, answer)

-- The drill of a set whose quorums all give this secret: the quorums after a given one, or all of them, each once, in
-- order, at most as many as the limit, each with that secret; and then the last line.
pub record ListsSecret (form : SecretForm) (set : List ShareFields) (secret : List ℕ) (after : Option Names) (limit : ℕ) (text : List ℕ) : Type 0 where
  pub listed : List Names
  pub more : Option Names
  pub listing : IsListing set after limit listed
  pub goes_on : GoesOn set (last_reached after listed) more
  pub text_is : text ≡ flat_map (λ names. quorum_line form (names, Ok secret)) listed ++ last_line more

-- how many of the listed quorums count as mismatches, if all give this secret: each if another fingerprint is expected,
-- and else none
abbrev pub unexpected_in : SecretForm → List ℕ → List Names → ℕ
unexpected_in form secret listed = if is_unexpected form secret then length listed else 0

-- If the set has a quorum, and the given names are one, exactly the quorums are listed, each with that secret. The answer
-- is no mismatch, unless another fingerprint is expected. Otherwise nothing is written, and the answer is which of these
-- conditions fails.
abbrev pub ListsSecretOrCause : SecretForm → List ShareFields → List ℕ → Option Names → ℕ → List ℕ → Result Done Fault → Type 0
ListsSecretOrCause form set secret after limit text (Ok done) =
    ((lack : SetLack) → ¬ IsLack set lack) × IfSome after (IsQuorum set)
    × ((lists : ListsSecret form set secret after limit text) × (done.mismatches ≡ unexpected_in form secret lists.listed))
ListsSecretOrCause form set secret after limit text (Err fault) =
    (text ≡ []) × ((cause : NoDrill) × IsNoDrill set after cause × (fault ≡ fault_of_no_drill cause))

-- This holds for the set of the input's shares, if the input holds mnemonics of a backup that was created with this
-- passphrase.
abbrev pub DrillsCreated : SecretForm → List ℕ → Option Names → ℕ → Input → List ℕ → Result Done Fault → Type 0
DrillsCreated form passphrase after limit input text answer =
    (secret : List ℕ) → HoldsMnemonicsOf passphrase secret input
    → (set : List ShareFields) × IsReadAs input (Ok set) × ListsSecretOrCause form set secret after limit text answer

-- Within a run; no public contract cites what follows.

-- what is known of listings and of outcomes
pub record DrillLaws : Type 0 where
  pub first : (set : List ShareFields) (given : Option Names) (names : Names) (limit : ℕ) (others : List Names)
      → IsFirstQuorumAfter set given names → IsListing set (Some names) limit others → IsListing set given (suc limit) (names ∷ others)
  pub none : (set : List ShareFields) (given : Option Names) (limit : ℕ) → HasNoQuorumAfter set given → IsListing set given limit []
  pub exists : (set : List ShareFields) (given : Option Names) (limit : ℕ) → IsShareSet set
      → (listed : List Names) × IsListing set given limit listed
  pub once : (set : List ShareFields) (given : Option Names) (limit : ℕ) (listed others : List Names)
      → IsListing set given limit listed → IsListing set given limit others → listed ≡ others
  pub walks : (set : List ShareFields) (given : Option Names) (quorums : List Names)
      → (IsWalk set given quorums ↔ AreAllQuorumsAfter set given quorums)
  pub outcome : (set : List ShareFields) (names : Names) (passphrase : List ℕ) → IsShareSet set → IsQuorum set names
      → (outcome : Result (List ℕ) Mismatch) × IsOutcome set names passphrase outcome

-- the first quorum after what was reached, or none if no quorum comes after it
abbrev pub IsNext : List ShareFields → Option Names → Option Names → Type 0
IsNext set reached None = HasNoQuorumAfter set reached
IsNext set reached (Some names) = IsFirstQuorumAfter set reached names

-- an outcome in its bytes
abbrev pub in_bytes : Result (ArrayVec ℕ) Mismatch → Result (List ℕ) Mismatch
in_bytes (Ok secret) = Ok secret.items
in_bytes (Err mismatch) = Err mismatch

-- 1 if an outcome counts as a mismatch, else 0
abbrev pub mismatch_in : SecretForm → Result (List ℕ) Mismatch → ℕ
mismatch_in form (Ok secret) = if is_unexpected form secret then 1 else 0
mismatch_in form (Err mismatch) = 1

-- where a drill starts: at the first quorum after the given one, or at the first of all; nowhere if none remains
pub record StartsAt (set : List ShareFields) (after next : Option Names) : Type 0 where
  pub no_lack : (lack : SetLack) → ¬ IsLack set lack
  pub cursor : IfSome after (IsQuorum set)
  pub starts : IsNext set after next

-- the text of a drill is written, or a write fails
abbrev pub WritesDrill : {W E : Type 0} → (W → Option (List ℕ)) → Counted W → SecretForm → List ShareFields → List ℕ
    → Option Names → ℕ → Result Done E → Counted W → Type 0
WritesDrill contents old form set passphrase after limit (Ok done) new =
    (lines : List ℕ) × (more : Option Names) × IsDrill form set passphrase after limit lines more done.mismatches
    × WritesWhole contents old (lines ++ last_line more) new
WritesDrill contents old form set passphrase after limit (Err _) new =
    (lines : List ℕ) × (more : Option Names) × (mismatches : ℕ) × IsDrill form set passphrase after limit lines more mismatches
    × WritesPart contents old (lines ++ last_line more) new
