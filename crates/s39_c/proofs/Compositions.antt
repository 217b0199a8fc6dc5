-- A split anew is a creation from the encrypted secret of the lines.
use Rattle.std.proofs.Common.{◌≡◌, ◌↔◌, ◌≤◌, ℕ, List, [], length, take, drop, sym, ap, subst, ◌∙◌, inl, inr, arith, Result, Ok, Err}
use Rattle.std.proofs.lemmas.List.{take-append-le, take_all}
use Rattle.s39_kdf.specs.declared.params.Params.{Params}
use Rattle.s39_kdf.specs.Limits.{IsSecretLength}
use Rattle.s39_words.specs.declared.ShareFields.{ShareFields}
use Rattle.s39_set.specs.Names.{Names}
use Rattle.s39_set.specs.Quorums.{IsLeastQuorum}
use Rattle.s39_set.specs.declared.set_lack.SetLack.{SetLack}
use Rattle.s39_set.specs.Lack.{IsLack}
use Rattle.s39_set.specs.SetFacts.{SetsHaveOneLack, SetsWithQuorumsHaveNone}
use Rattle.s39_backup.specs.declared.combination.Mismatch.{Mismatch}
use Rattle.s39_backup.specs.declared.plan.Members.{Members}
use Rattle.s39_backup.specs.declared.resplit_error.ResplitError.{ResplitError}
use Rattle.s39_backup.specs.declared.resplit_error.ResplitError.TheVariants as unsplit
use Rattle.s39_backup.specs.Combination.{combination_of}
use Rattle.s39_backup.specs.Outcome.{AreParams}
use Rattle.s39_backup.specs.Resplit.{judged_split, IsCreationFromEncrypted, IsResplit}
use Rattle.s39_input.specs.declared.fault.LineRefusal.{LineRefusal}
use Rattle.s39_input.specs.declared.fault.Refusal.TheVariants.{Lack, DigestMismatch}
use Rattle.s39_input.specs.declared.fault.Stop.{Stop}
use Rattle.s39_input.specs.declared.fault.Fault.{Fault}
use Rattle.s39_input.specs.Accepted.{IsReadAs}
use Rattle.s39_input.specs.Fault.{cause_of, fault_of, fault_of_stop, fault_of_resplit}
use Rattle.s39_input.specs.Input.{Input, whole}
use Rattle.s39_input.specs.Steps.{gives, refuses}
use Rattle.s39_creating.specs.Reissue.{AreWritten}
use Rattle.s39_creating.specs.Resplit.{AreFromEncrypted, IsOutputFromEncrypted, IsResplitOutput, IsSplitFrom, IsSplitOf}
use Rattle.s39_reading.specs.Encrypted.{IsEncryptedIn, IsEncryptedOf}
use Rattle.s39_c.specs.declared.answer.ShamirAnswer.{ShamirAnswer}
use Rattle.s39_c.specs.declared.encrypted.ShamirParameters.{ShamirParameters}
use Rattle.s39_c.specs.Answers.{done, refused}
use Rattle.s39_c.specs.Encrypted.{parameters_of, GivesEncrypted}
use Rattle.s39_c.specs.Resplitting.{GivesFromEncrypted, GivesSplit}
use Rattle.s39_c.proofs.OneDecryption.{parameters_once}
use Rattle.s39_c.proofs.Outputs.{split_weaker}
use Rattle.s39_c.proofs.Rooms.{above}

abbrev read_set : List ShareFields → Result (List ShareFields) (Stop LineRefusal)
read_set set = Ok set

abbrev found : Params × List ℕ → Result (Params × List ℕ) Fault
found encrypted = Ok encrypted

-- ---- a set

module _ (group_threshold : ℕ) (groups : List Members) (random : List ℕ) (set : List ShareFields)
    (once : (names others : Names) → IsLeastQuorum set names → IsLeastQuorum set others → names ≡ others)
    (no_lack : SetsWithQuorumsHaveNone) where
  -- a set gives what its encrypted secret gives
  module _ (split_is : (names : Names) (old : Params) (encrypted : List ℕ) (result : Result (List ShareFields) ResplitError) → IsLeastQuorum set names
      → AreParams set old → combination_of set names ≡ Ok encrypted
      → IsResplit set group_threshold groups random result ↔ IsCreationFromEncrypted old group_threshold groups random encrypted result)
      (encrypted : Params × List ℕ) (long : IsSecretLength (length encrypted.1)) where
    gives_same : IsEncryptedOf set (Ok encrypted) → (result : Result (List ShareFields) ResplitError)
        → IsResplit set group_threshold groups random result ↔ IsCreationFromEncrypted encrypted.0 group_threshold groups random encrypted.1 result
    gives_same (refuses lack lacks why) result = absurd (cc)
    gives_same (gives names least (refuses mismatch combines why)) result = absurd (cc)
    gives_same (gives names least (gives bytes combines (params, are, why))) result =
        let same : (params, bytes) ≡ encrypted = let both : found encrypted ≡ found (params, bytes) = why in cc in
        subst (λ (e : Params × List ℕ). IsResplit set group_threshold groups random result
        ↔ IsCreationFromEncrypted e.0 group_threshold groups random e.1 result) same (split_is names params bytes result least are combines)

    from_set : IsEncryptedOf set (Ok encrypted) → (result : Result (List ShareFields) Fault) → IsSplitOf group_threshold groups random set result
        → AreFromEncrypted group_threshold groups random encrypted result
    from_set of result (gives shares is same) = gives tt long (gives shares ((gives_same of (Ok shares)).0 is) same)
    from_set of result (refuses error is same) = gives tt long (refuses error ((gives_same of (Err error)).0 is) same)

    to_set : IsEncryptedOf set (Ok encrypted) → (result : Result (List ShareFields) Fault) → AreFromEncrypted group_threshold groups random encrypted result
        → IsSplitOf group_threshold groups random set result
    to_set of result (refuses bad (short, many) same) = absurd (short long)
    to_set of result (gives _ also (gives shares is same)) = gives shares ((gives_same of (Ok shares)).1 is) same
    to_set of result (gives _ also (refuses error is same)) = refuses error ((gives_same of (Err error)).1 is) same

  -- a set without an encrypted secret isn't split, for the same cause
  module _ (one_lack : SetsHaveOneLack) where
    lacking : (lack : SetLack) → IsLack set lack → (result : Result (List ShareFields) ResplitError) → IsResplit set group_threshold groups random result
        → result ≡ Err (unsplit.Lack lack)
    lacking lack lacks (Ok shares) split = absurd (no_lack set split.names lack split.least.quorum lacks)
    lacking lack lacks (Err error) (inl (other, also, same)) =
        ap (λ (e : ResplitError). Err e) (same ∙ ap (λ (l : SetLack). unsplit.Lack l) (one_lack set other lack also lacks))
    lacking lack lacks (Err error) (inr no_split) = absurd (no_lack set no_split.names lack no_split.least.quorum lacks)

    mismatched : (names : Names) (mismatch : Mismatch) → IsLeastQuorum set names → combination_of set names ≡ Err mismatch
        → (result : Result (List ShareFields) ResplitError) → IsResplit set group_threshold groups random result
        → result ≡ Err (unsplit.DigestMismatch mismatch)
    mismatched names mismatch least combines (Ok shares) split =
        absurd (let differ : Err mismatch ≡ Ok split.encrypted =
        sym combines ∙ ap (combination_of set) (once names split.names least split.least) ∙ split.combined in cc)
    mismatched names mismatch least combines (Err error) (inl (lack, lacks, same)) = absurd (no_lack set names lack least.quorum lacks)
    mismatched names mismatch least combines (Err error) (inr no_split) =
        let combination : combination_of set no_split.names ≡ Err mismatch =
        ap (combination_of set) (once no_split.names names no_split.least least) ∙ combines in
        let both : Err error ≡ Err (unsplit.DigestMismatch mismatch) =
        sym no_split.judged ∙ ap (judged_split no_split.old group_threshold groups random) combination in
        let cause : error ≡ unsplit.DigestMismatch mismatch = cc in
        ap (λ (e : ResplitError). Err e) cause

    -- the result of a split of which this is the cause
    of_cause : (error : ResplitError) → ((split : Result (List ShareFields) ResplitError) → IsResplit set group_threshold groups random split
        → split ≡ Err error) → (result : Result (List ShareFields) Fault) → IsSplitOf group_threshold groups random set result
        → result ≡ Err (fault_of_resplit error)
    of_cause error only result (gives shares is same) = absurd (let differ : Ok shares ≡ Err error = only (Ok shares) is in cc)
    of_cause error only result (refuses other is same) =
        let both : Err other ≡ Err error = only (Err other) is in
        let here : other ≡ error = cc in
        same ∙ ap (λ (e : ResplitError). Err (fault_of_resplit e)) here

    no_set_secret : (fault : Fault) → IsEncryptedOf set (Err fault) → (result : Result (List ShareFields) Fault)
        → IsSplitOf group_threshold groups random set result → result ≡ Err fault
    no_set_secret fault (refuses lack lacks why) result split =
        let same : fault ≡ fault_of (Lack lack) = cc in
        of_cause (unsplit.Lack lack) (lacking lack lacks) result split ∙ ap (λ (f : Fault). Err f) (sym same)
    no_set_secret fault (gives names least (refuses mismatch combines why)) result split =
        let same : fault ≡ fault_of (DigestMismatch mismatch) = cc in
        of_cause (unsplit.DigestMismatch mismatch) (mismatched names mismatch least combines) result split ∙ ap (λ (f : Fault). Err f) (sym same)
    no_set_secret fault (gives names least (gives bytes combines (params, are, why))) result split = absurd (cc)

-- ---- an input

module _ (once : (set : List ShareFields) (names others : Names) → IsLeastQuorum set names → IsLeastQuorum set others → names ≡ others)
    (no_lack : SetsWithQuorumsHaveNone) (group_threshold : ℕ) (groups : List Members) (random : List ℕ) (input : Input) where
  -- the set of the input's lines is one
  same_set : (set other : List ShareFields) → IsReadAs input (Ok set) → IsReadAs input (Ok other) → other ≡ set
  same_set set other read also = let both : read_set set ≡ read_set other = sym read ∙ also in cc

  module _ (split_is : (set : List ShareFields) (names : Names) (old : Params) (encrypted : List ℕ) (result : Result (List ShareFields) ResplitError)
      → IsLeastQuorum set names → AreParams set old → combination_of set names ≡ Ok encrypted
      → IsResplit set group_threshold groups random result ↔ IsCreationFromEncrypted old group_threshold groups random encrypted result)
      (long : (set : List ShareFields) → IsReadAs input (Ok set) → (encrypted : Params × List ℕ) → IsEncryptedOf set (Ok encrypted)
      → IsSecretLength (length encrypted.1)) (encrypted : Params × List ℕ) where
    from_input : IsEncryptedIn input (Ok encrypted) → (result : Result (List ShareFields) Fault) → IsSplitFrom group_threshold groups random input result
        → AreFromEncrypted group_threshold groups random encrypted result
    from_input (refuses stop read why) result split = absurd (cc)
    from_input (gives set read of) result (refuses stop also why) = absurd (let differ : read_set set ≡ Err stop = sym read ∙ also in cc)
    from_input (gives set read of) result (gives other also split) =
        from_set group_threshold groups random set (once set) no_lack (split_is set) encrypted (long set read encrypted of) of result
        (subst (λ (s : List ShareFields). IsSplitOf group_threshold groups random s result) (same_set set other read also) split)

    to_input : IsEncryptedIn input (Ok encrypted) → (result : Result (List ShareFields) Fault) → AreFromEncrypted group_threshold groups random encrypted result
        → IsSplitFrom group_threshold groups random input result
    to_input (refuses stop read why) result from = absurd (cc)
    to_input (gives set read of) result from =
        gives set read (to_set group_threshold groups random set (once set) no_lack (split_is set) encrypted (long set read encrypted of) of result from)

    pub same_output : (text : List ℕ) (answer : Result (Unit {0}) Fault) → IsEncryptedIn input (Ok encrypted)
        → IsResplitOutput group_threshold groups random input text answer ↔ IsOutputFromEncrypted group_threshold groups random encrypted text answer
    same_output text answer is = (
      λ output. (output.0, from_input is output.0 output.1, output.2),
      λ output. (output.0, to_input is output.0 output.1, output.2),
    )

  no_secret : SetsHaveOneLack → (fault : Fault) → IsEncryptedIn input (Err fault) → (result : Result (List ShareFields) Fault)
      → IsSplitFrom group_threshold groups random input result → result ≡ Err fault
  no_secret one_lack fault (refuses stop read why) result (refuses other also same) =
      let both : Err stop ≡ Err other = sym read ∙ also in
      let stops : other ≡ stop = cc in
      let faults : fault ≡ fault_of_stop stop = cc in
      same ∙ ap (λ (s : Stop LineRefusal). Err (fault_of_stop s)) stops ∙ ap (λ (f : Fault). Err f) (sym faults)
  no_secret one_lack fault (refuses stop read why) result (gives set also split) =
      absurd (let differ : read_set set ≡ Err stop = sym also ∙ read in cc)
  no_secret one_lack fault (gives set read none) result (refuses stop also same) =
      absurd (let differ : read_set set ≡ Err stop = sym read ∙ also in cc)
  no_secret one_lack fault (gives set read none) result (gives other also split) =
      no_set_secret group_threshold groups random set (once set) no_lack one_lack fault none result
      (subst (λ (s : List ShareFields). IsSplitOf group_threshold groups random s result) (same_set set other read also) split)

  pub no_output : SetsHaveOneLack → (fault : Fault) (text : List ℕ) (answer : Result (Unit {0}) Fault) → IsEncryptedIn input (Err fault)
      → IsResplitOutput group_threshold groups random input text answer → (text ≡ []) × (answer ≡ Err fault)
  no_output one_lack fault text answer is (result, from, written) =
      subst (λ (r : Result (List ShareFields) Fault). AreWritten r text answer) (no_secret one_lack fault is result from) written

-- ---- calls

-- the code of a refusal isn't 0
pub not_done : (n : ℕ) (fault : Fault) → done n ≡ refused fault → ⊥
not_done n fault same =
    let code : 0 ≡ (cause_of fault.refusal).code = ap (λ (a : ShamirAnswer). a.code) same in absurd (omega (arith, above fault.refusal, code))

-- what a call gives that writes an encrypted secret
module _ (lines : List ℕ) (before after : ShamirParameters) (buffer filled : List ℕ) (n : ℕ) where
  given_secret : GivesEncrypted lines before after buffer filled (done n)
      → (encrypted : Params × List ℕ) × IsEncryptedIn (whole lines) (Ok encrypted) × (after ≡ parameters_of encrypted.0) × (take n filled ≡ encrypted.1)
  given_secret (inl (fault, (is, fills), same, says)) = absurd (not_done n fault says)
  given_secret (inr (encrypted, (is, fills), inr (short, same, says))) =
      let code : 0 ≡ 1 = ap (λ (a : ShamirAnswer). a.code) says in absurd (omega (arith, code))
  given_secret (inr (encrypted, (is, fills), inl (fits, bytes, says))) =
      let count : n ≡ length encrypted.1 = ap (λ (a : ShamirAnswer). a.written) says in
      let low : n ≤ length encrypted.1 = omega (arith, count) in
      let high : length encrypted.1 ≤ n = omega (arith, count) in (
        encrypted,
        is,
        fills,
        ap (take n) bytes ∙ take-append-le n encrypted.1 (drop (length encrypted.1) buffer) low ∙ take_all n encrypted.1 high,
      )

  module _ (same_outputs : (threshold : ℕ) (groups : List Members) (random : List ℕ) (encrypted : Params × List ℕ) (text : List ℕ)
      (answer : Result (Unit {0}) Fault) → IsEncryptedIn (whole lines) (Ok encrypted)
      → IsResplitOutput threshold groups random (whole lines) text answer ↔ IsOutputFromEncrypted threshold groups random encrypted text answer)
      (plan random old new : List ℕ) (answer : ShamirAnswer) where
    abbrev SplitOf : Params → List ℕ → Type 0
    SplitOf params bytes = GivesSplit (λ threshold groups. IsOutputFromEncrypted threshold groups random (params, bytes)) plan old new answer

    abbrev Split : Type 0
    Split = GivesSplit (λ threshold groups. IsResplitOutput threshold groups random (whole lines)) plan old new answer

    of_secret : (encrypted : Params × List ℕ) → IsEncryptedIn (whole lines) (Ok encrypted) → Split ↔ SplitOf encrypted.0 encrypted.1
    of_secret encrypted is = (
      split_weaker (λ threshold groups. IsResplitOutput threshold groups random (whole lines))
          (λ threshold groups. IsOutputFromEncrypted threshold groups random (encrypted.0, encrypted.1))
          (λ threshold groups text result. (same_outputs threshold groups random encrypted text result is).0) plan old new answer,
      split_weaker (λ threshold groups. IsOutputFromEncrypted threshold groups random (encrypted.0, encrypted.1))
          (λ threshold groups. IsResplitOutput threshold groups random (whole lines))
          (λ threshold groups text result. (same_outputs threshold groups random encrypted text result is).1) plan old new answer,
    )

    -- parameters that are given are in range
    by_parameters : (params : Params) (bytes : List ℕ) → after ≡ parameters_of params
        → GivesFromEncrypted after bytes random plan old new answer → SplitOf params bytes
    by_parameters params bytes are (inl (bad, none, same, says)) =
        let differ = parameters_once after (Ok params) (Err bad) are none in absurd (cc)
    by_parameters params bytes are (inr (other, also, split)) =
        let both = parameters_once after (Ok other) (Ok params) also are in
        let same : other ≡ params = cc in
        subst (λ (p : Params). SplitOf p bytes) same split

    pub same_calls : GivesEncrypted lines before after buffer filled (done n) → Split ↔ GivesFromEncrypted after (take n filled) random plan old new answer
    same_calls given =
        let (encrypted, is, are, bytes) = given_secret given in (
          λ split. inr (encrypted.0, are, subst (λ (b : List ℕ). SplitOf encrypted.0 b) (sym bytes) ((of_secret encrypted is).0 split)),
          λ split. (of_secret encrypted is).1 (by_parameters encrypted.0 encrypted.1 are
              (subst (λ (b : List ℕ). GivesFromEncrypted after b random plan old new answer) bytes split)),
        )
