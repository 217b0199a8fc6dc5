-- What `resplit` writes is one thing, and something, and it is what a creation writes.
use Rattle.std.proofs.Common.{◌≡◌, ◌∙◌, ℕ, List, [], length, All, refl, sym, ap, subst, Result, Ok, Err}
use Rattle.std.specs.Prelude.{IfOk}
use Rattle.std.proofs.lemmas.List.Elements.{All-nil}
use Rattle.s39_kdf.specs.Bytes.{AreBytes}
use Rattle.s39_kdf.specs.Limits.{IsPrintable, IsSecretLength}
use Rattle.s39_kdf.specs.Cipher.{EncryptionKeepsLengthAndBytes}
use Rattle.s39_words.specs.declared.ShareFields.{ShareFields}
use Rattle.s39_words.specs.Printing.{IsPrinted}
use Rattle.s39_words.specs.Share.{IsShare}
use Rattle.s39_set.specs.Names.{Names}
use Rattle.s39_set.specs.ShareSet.{IsShareSet}
use Rattle.s39_set.specs.Quorums.{IsQuorum, IsLeastQuorum}
use Rattle.s39_backup.specs.declared.combination.Mismatch.{Mismatch}
use Rattle.s39_backup.specs.declared.options.Options.{Options}
use Rattle.s39_backup.specs.declared.plan.Members.{Members}
use Rattle.s39_backup.specs.declared.resplit_error.ResplitError.{ResplitError}
use Rattle.s39_backup.specs.declared.resplit_error.ResplitError.TheVariants as unsplit
use Rattle.s39_backup.specs.Created.{Asked, asked_for, IsCreation}
use Rattle.s39_backup.specs.GroupShares.{IsExactQuorum}
use Rattle.s39_backup.specs.Outcome.{IsOutcome, Recovers}
use Rattle.s39_backup.specs.Plan.{IsPlan}
use Rattle.s39_backup.specs.Resplit.{AreSplitAnew, IsResplit}
use Rattle.s39_backup.proofs.Levels.{encrypted_like}
use Rattle.s39_input.specs.declared.fault.LineRefusal.{LineRefusal}
use Rattle.s39_input.specs.declared.fault.Stop.{Stop}
use Rattle.s39_input.specs.declared.fault.Fault.{Fault}
use Rattle.s39_input.specs.Input.{Input, whole}
use Rattle.s39_input.specs.Fault.{fault_of_stop, fault_of_resplit, read_failures_in, write_failures_in}
use Rattle.s39_input.specs.Accepted.{IsReadAs}
use Rattle.s39_input.specs.Create.{ArePrintedLines, IsCreateOutput}
use Rattle.s39_input.specs.Steps.{Then, gives, refuses}
use Rattle.s39_input.proofs.Sets.OneSet.{InputsAreReadOnce, AcceptedAreShareSets}
use Rattle.s39_input.proofs.Steps.{AtLeastOne, AtMostOne, then_next, then_once, then_some}
use Rattle.s39_creating.specs.Reissue.{AreWritten}
use Rattle.s39_creating.specs.Resplit.{IsSplitOf, IsSplitFrom, IsResplitOutput}
use Rattle.s39_creating.proofs.Reissues.OneReissued.{some_written, written_once}

-- which failures of devices the fault of a split says: none
pub split_reads : (error : ResplitError) → read_failures_in (fault_of_resplit error).refusal ≡ 0
split_reads (unsplit.Lack lack) = refl
split_reads (unsplit.DigestMismatch mismatch) = refl
split_reads unsplit.NotExtendable = refl
split_reads (unsplit.BadRandomLength needed) = refl
split_reads unsplit.SameIdentifier = refl

pub split_writes : (error : ResplitError) → write_failures_in (fault_of_resplit error).refusal ≡ 0
split_writes (unsplit.Lack lack) = refl
split_writes (unsplit.DigestMismatch mismatch) = refl
split_writes unsplit.NotExtendable = refl
split_writes (unsplit.BadRandomLength needed) = refl
split_writes unsplit.SameIdentifier = refl

-- a set is split in one way
abbrev pub SetsAreSplitOnce : Type 0
SetsAreSplitOnce = (set : List ShareFields) (group_threshold : ℕ) (groups : List Members) (random : List ℕ)
    (result other : Result (List ShareFields) ResplitError) → IsShareSet set → IsResplit set group_threshold groups random result
    → IsResplit set group_threshold groups random other → result ≡ other

-- with a passphrase whose bytes are printable, a split is a creation from what the least quorum recovers
abbrev pub SplitsAreCreations : Type 0
SplitsAreCreations = (set : List ShareFields) (group_threshold : ℕ) (groups : List Members) (random : List ℕ) (shares : List ShareFields)
    (names : Names) (passphrase secret : List ℕ) → IsShareSet set → IsResplit set group_threshold groups random (Ok shares)
    → IsLeastQuorum set names → IsOutcome set names passphrase (Ok secret) → All IsPrintable passphrase
    → (options : Options) × All (λ share. (share.extendable ≡ options.extendable) × (share.exponent ≡ options.exponent)) set
    × IsCreation (asked_for secret passphrase group_threshold groups options) random (Ok shares)

-- every quorum has an outcome
abbrev pub QuorumsHaveOutcomes : Type 0
QuorumsHaveOutcomes = (set : List ShareFields) (names : Names) (passphrase : List ℕ) → IsShareSet set → IsQuorum set names
    → (outcome : Result (List ℕ) Mismatch) × IsOutcome set names passphrase outcome

module _ (group_threshold : ℕ) (groups : List Members) (random : List ℕ) (input : Input) where
  -- ---- one output

  split_once : InputsAreReadOnce → AcceptedAreShareSets → SetsAreSplitOnce → AtMostOne (IsSplitFrom group_threshold groups random input)
  split_once one_set are_sets once =
      then_once (IsReadAs input) (λ stop. Err (fault_of_stop stop)) (IsSplitOf group_threshold groups random) (one_set input)
      (λ set read. then_once (IsResplit set group_threshold groups random) (λ error. Err (fault_of_resplit error))
      (λ shares result. result ≡ Ok shares)
      (λ result other. once set group_threshold groups random result other (are_sets input set read))
      (λ shares is result other same also. same ∙ sym also))

  pub output_once : InputsAreReadOnce → AcceptedAreShareSets → SetsAreSplitOnce
      → ((share : ShareFields) (text other : List ℕ) → IsPrinted text share → IsPrinted other share → text ≡ other)
      → (text other : List ℕ) (answer another : Result (Unit {0}) Fault) → IsResplitOutput group_threshold groups random input text answer
      → IsResplitOutput group_threshold groups random input other another → (text ≡ other) × (answer ≡ another)
  output_once one_set are_sets once one_printed_form text other answer another (result, from, w) (result', from', w') =
      let results : result ≡ result' = split_once one_set are_sets once result result' from from' in
      written_once one_printed_form result' text other answer another (subst (λ r. AreWritten r text answer) results w) w'

  -- ---- what is split

  -- the set that is split
  pub split_parts : (shares : List ShareFields) → IsSplitFrom group_threshold groups random input (Ok shares)
      → (set : List ShareFields) × IsReadAs input (Ok set) × IsResplit set group_threshold groups random (Ok shares)
  split_parts shares (refuses stop read same) = absurd (let bad : Ok shares ≡ Err (fault_of_stop stop) = same in cc)
  split_parts shares (gives set read (refuses error is same)) = absurd (let bad : Ok shares ≡ Err (fault_of_resplit error) = same in cc)
  split_parts shares (gives set read (gives others is same)) =
      let here : others ≡ shares = let both : Ok shares ≡ Ok others = same in cc in
      (set, read, subst (λ (xs : List ShareFields). IsResplit set group_threshold groups random (Ok xs)) here is)

  -- what is written is the mnemonics of shares
  pub printed_parts : (text : List ℕ) → IsResplitOutput group_threshold groups random input text (Ok tt)
      → (shares : List ShareFields) × IsSplitFrom group_threshold groups random input (Ok shares) × ArePrintedLines shares text
  printed_parts text (Ok shares, from, (printed, same)) = (shares, from, printed)
  printed_parts text (Err fault, from, (empty, same)) = absurd (cc)

-- the least quorum recovers a secret with the empty passphrase
recovered : (set : List ShareFields) (group_threshold : ℕ) (groups : List Members) (random : List ℕ) (shares : List ShareFields)
    (split : AreSplitAnew set group_threshold groups random shares)
    → ((outcome : Result (List ℕ) Mismatch) × IsOutcome set split.names [] outcome) → (secret : List ℕ) × Recovers set split.names [] secret
recovered set group_threshold groups random shares split (Ok secret, is) = (secret, is)
recovered set group_threshold groups random shares split (Err mismatch, is) =
    absurd (let bad : Err mismatch ≡ Ok split.encrypted = sym is ∙ split.combined in cc)

-- the creation with the empty passphrase that a split is
pub record IsCreated (group_threshold : ℕ) (groups : List Members) (random : List ℕ) (shares : List ShareFields) : Type 0 where
  pub names : Names
  pub set : List ShareFields
  pub secret : List ℕ
  pub options : Options
  pub is_set : IsShareSet set
  pub quorum : IsQuorum set names
  pub recovers : Recovers set names [] secret
  pub creation : IsCreation (asked_for secret [] group_threshold groups options) random (Ok shares)

pub created : SplitsAreCreations → QuorumsHaveOutcomes → (set : List ShareFields) (group_threshold : ℕ) (groups : List Members) (random : List ℕ)
    (shares : List ShareFields) → IsShareSet set → IsResplit set group_threshold groups random (Ok shares)
    → IsCreated group_threshold groups random shares
created creations outcomes set group_threshold groups random shares is split =
    let (secret, recovers) = recovered set group_threshold groups random shares split (outcomes set split.names [] is split.least.quorum) in
    let (options, same, creation) = creations set group_threshold groups random shares split.names [] secret is split split.least recovers
    (All-nil IsPrintable) in
    record {
      names = split.names;
      set = set;
      secret = secret;
      options = options;
      is_set = is;
      quorum = split.least.quorum;
      recovers = recovers;
      creation = creation;
    }

-- ---- some output

module _ (creations : SplitsAreCreations) (outcomes : QuorumsHaveOutcomes) (keeps : EncryptionKeepsLengthAndBytes)
    (exact : (set : List ShareFields) (names : Names) → IsShareSet set → IsQuorum set names → IsExactQuorum set names)
    (are_shares : (asked : Asked) (random : List ℕ) (shares : List ShareFields) → IsPlan asked.group_threshold asked.groups
    → IsSecretLength (length asked.secret) → AreBytes asked.secret → AreBytes random → IsCreation asked random (Ok shares) → All IsShare shares) where
  split_shares : (set : List ShareFields) (group_threshold : ℕ) (groups : List Members) (random : List ℕ) (shares : List ShareFields)
      → IsShareSet set → IsPlan group_threshold groups → AreBytes random → IsResplit set group_threshold groups random (Ok shares) → All IsShare shares
  split_shares set group_threshold groups random shares is plan bytes split =
      let c = created creations outcomes set group_threshold groups random shares is split in
      let combined = encrypted_like c.set c.names (exact c.set c.names c.is_set c.quorum) c.recovers.encrypted c.recovers.combined in
      let secret_bytes = (keeps [] c.recovers.params c.secret c.recovers.encrypted c.recovers.secret_is).2 combined.1 in
      are_shares (asked_for c.secret [] group_threshold groups c.options) random shares plan c.creation.1 secret_bytes bytes c.creation

  pub some_output : (group_threshold : ℕ) (groups : List Members) (random : List ℕ) (input : Input)
      → ((share : ShareFields) → IsShare share → (text : List ℕ) × IsPrinted text share) → AcceptedAreShareSets
      → (read : Result (List ShareFields) (Stop LineRefusal)) × IsReadAs input read × IfOk read IsShareSet
      → ((set : List ShareFields) → IsShareSet set → (result : Result (List ShareFields) ResplitError) × IsResplit set group_threshold groups random result)
      → IsPlan group_threshold groups → AreBytes random
      → (text : List ℕ) × (answer : Result (Unit {0}) Fault) × IsResplitOutput group_threshold groups random input text answer
  some_output group_threshold groups random input printed_form are_sets (read, is, set) split_exists plan bytes =
      let (result, from) = some_split in
      let (text, answer, written) = some_written printed_form result (shares_of result from) in
      (text, answer, (result, from, written))
    where
      some_split : AtLeastOne (IsSplitFrom group_threshold groups random input)
      some_split =
          then_some (IsReadAs input) (λ stop. Err (fault_of_stop stop)) (IsSplitOf group_threshold groups random) (read, is)
          (λ set taken. then_some (IsResplit set group_threshold groups random) (λ error. Err (fault_of_resplit error))
          (λ shares result. result ≡ Ok shares)
          (split_exists set (are_sets input set taken)) (λ shares split. (Ok shares, refl)))

      shares_of : (result : Result (List ShareFields) Fault) → IsSplitFrom group_threshold groups random input result → IfOk result (All IsShare)
      shares_of (Ok shares) from =
          let (set, taken, split) = split_parts group_threshold groups random input shares from in
          split_shares set group_threshold groups random shares (are_sets input set taken) plan bytes split
      shares_of (Err fault) from = tt

-- ---- a creation

-- what the set that is read gives
pub split_of : InputsAreReadOnce → (group_threshold : ℕ) (groups : List Members) (random : List ℕ) (input : Input) (set : List ShareFields)
    (result : Result (List ShareFields) Fault) → IsReadAs input (Ok set) → IsSplitFrom group_threshold groups random input result
    → IsSplitOf group_threshold groups random set result
split_of one_set group_threshold groups random input set result read from =
    then_next (IsReadAs input) (λ stop. Err (fault_of_stop stop)) (IsSplitOf group_threshold groups random) (one_set input) set read result from

-- a text of `create`, with every printable passphrase
pub create_writes : SplitsAreCreations → InputsAreReadOnce → AcceptedAreShareSets → (group_threshold : ℕ) (groups : List Members) (random : List ℕ)
    (input : Input) (text : List ℕ) (set : List ShareFields) (names : Names) (passphrase secret : List ℕ)
    → IsResplitOutput group_threshold groups random input text (Ok tt) → IsReadAs input (Ok set) → IsLeastQuorum set names
    → All IsPrintable passphrase → IsOutcome set names passphrase (Ok secret)
    → (options : Options) × All (λ share. (share.extendable ≡ options.extendable) × (share.exponent ≡ options.exponent)) set
    × IsCreateOutput (asked_for secret passphrase group_threshold groups options) (whole random) text (Ok tt)
create_writes creations one_set are_sets group_threshold groups random input text set names passphrase secret output read least printable recovers =
    let (shares, from, printed) = printed_parts group_threshold groups random input text output in
    let (other, taken, split) = split_parts group_threshold groups random input shares from in
    let both : Ok other ≡ Ok set = one_set input (Ok other) (Ok set) taken read in
    let same : other ≡ set = cc in
    let (options, have, creation) = creations set group_threshold groups random shares names passphrase secret (are_sets input set read)
    (subst (λ (xs : List ShareFields). IsResplit xs group_threshold groups random (Ok shares)) same split) least recovers printable in
    (options, have, (shares, refl, creation, printed))

-- a text of `create` with the empty passphrase
pub some_creation : SplitsAreCreations → QuorumsHaveOutcomes → AcceptedAreShareSets → (group_threshold : ℕ) (groups : List Members) (random : List ℕ)
    (input : Input) (text : List ℕ) → IsResplitOutput group_threshold groups random input text (Ok tt)
    → (asked : Asked) × IsCreateOutput asked (whole random) text (Ok tt)
some_creation creations outcomes are_sets group_threshold groups random input text output =
    let (shares, from, printed) = printed_parts group_threshold groups random input text output in
    let (set, taken, split) = split_parts group_threshold groups random input shares from in
    let c = created creations outcomes set group_threshold groups random shares (are_sets input set taken) split in
    (asked_for c.secret [] group_threshold groups c.options, (shares, refl, c.creation, printed))
