-- A drill of mnemonics of a created backup.
use Rattle.std.proofs.Common.{◌≡◌, ℕ, List, [], ◌∷◌, ◌++◌, map, All, refl, sym, ap, ap₂, ◌∙◌, subst, Option, Result, Ok, Err}
use Rattle.std.proofs.Common.{suc, ◌+◌, Bool, true, false, length, arith}
use Rattle.std.specs.Prelude.{if◌then◌else◌}
use Rattle.std.specs.List.{flat_map}
use Rattle.std.proofs.lemmas.List.Elements.{All-head, All-tail, All-take, All-contains_itself}
use Rattle.s39_words.specs.declared.ShareFields.{ShareFields}
use Rattle.s39_set.specs.Names.{Names}
use Rattle.s39_set.specs.ShareSet.{IsShareSet}
use Rattle.s39_set.specs.Quorums.{IsQuorum}
use Rattle.s39_set.specs.Listing.{IsListing}
use Rattle.s39_backup.specs.declared.combination.Mismatch.{Mismatch}
use Rattle.s39_backup.specs.Outcome.{IsOutcome}
use Rattle.s39_backup.specs.Created.{AreOfBackup}
use Rattle.s39_kdf.specs.declared.secret_form.SecretForm.{SecretForm}
use Rattle.s39_input.specs.declared.fault.Fault.{Fault}
use Rattle.s39_drilling.specs.declared.drill.Done.{Done}
use Rattle.s39_input.specs.Input.{Input}
use Rattle.s39_input.specs.Steps.{gives, refuses, nothing_for}
use Rattle.s39_input.specs.Accepted.{IsReadAs, IsCheckedSet, CheckedSetLaws}
use Rattle.s39_input.specs.OfBackup.{HoldsMnemonicsOf}
use Rattle.s39_drilling.specs.Drill.{Listed, quorum_line, last_line, mismatches_in, IsDrill, fault_of_no_drill, WritesDrillOf, IsDrillOutput}
use Rattle.s39_drilling.specs.Drill.{unexpected_in, ListsSecret, ListsSecretOrCause, DrillsCreated}
use Rattle.s39_input.specs.SecretForm.{is_unexpected}
use Rattle.s39_drilling.proofs.Drills.Counts.{mismatches-more}
use Rattle.s39_input.proofs.Steps.{then_next}
use Rattle.s39_input.proofs.Sets.Checked.{of_writing}

-- listed names are quorums
pub listed_quorums : (set : List ShareFields) (after : Option Names) (limit : ℕ) (listed : List Names) → IsListing set after limit listed
    → All (IsQuorum set) listed
listed_quorums set after limit listed l =
    subst (All (IsQuorum set)) (sym l.listed_are)
    (All-take (IsQuorum set) limit l.all (λ k d below. ((l.all_are.each _).0 (All-contains_itself l.all k d below)).0))

-- these quorums, each with the secret
abbrev pub with_secret : List ℕ → List Names → List Listed
with_secret secret listed = map (λ names. (names, Ok secret)) listed

secret_text : (form : SecretForm) (secret : List ℕ) (listed : List Names)
    → flat_map (quorum_line form) (with_secret secret listed) ≡ flat_map (λ names. quorum_line form (names, Ok secret)) listed
secret_text form secret [] = refl
secret_text form secret (names ∷ listed) = ap (λ t. quorum_line form (names, Ok secret) ++ t) (secret_text form secret listed)

all_or_none : (b : Bool) (n m : ℕ) → m ≡ (if b then n else 0) → (if b then 1 else 0) + m ≡ (if b then suc n else 0)
all_or_none true n m is = omega arith
all_or_none false n m is = omega arith

none_of_none : (b : Bool) → ◌≡◌ {A = ℕ} 0 (if b then 0 else 0)
none_of_none true = refl
none_of_none false = refl

secret_mismatches : (form : SecretForm) (secret : List ℕ) (listed : List Names)
    → mismatches_in form (with_secret secret listed) ≡ unexpected_in form secret listed
secret_mismatches form secret [] = none_of_none (is_unexpected form secret)
secret_mismatches form secret (names ∷ listed) =
    sym (mismatches-more form names (Ok secret) (with_secret secret listed))
    ∙ all_or_none (is_unexpected form secret) (length listed) _ (secret_mismatches form secret listed)

module _ (one_outcome : (set : List ShareFields) (names : Names) (passphrase : List ℕ) (outcome other : Result (List ℕ) Mismatch) → IsShareSet set
    → IsQuorum set names
    → IsOutcome set names passphrase outcome → IsOutcome set names passphrase other → outcome ≡ other)
    (every_quorum_recovers : (set : List ShareFields) (names : Names) (passphrase secret : List ℕ) → IsShareSet set → IsQuorum set names
    → AreOfBackup set passphrase secret → IsOutcome set names passphrase (Ok secret)) where
  module _ (set : List ShareFields) (passphrase secret : List ℕ) (is : IsShareSet set) (backup : AreOfBackup set passphrase secret) where
    lines_have_secret : (lines : List Listed) → All (IsQuorum set) (map (λ line. line.0) lines) → All (λ line. IsOutcome set line.0 passphrase line.1) lines
        → lines ≡ with_secret secret (map (λ line. line.0) lines)
    lines_have_secret [] quorums outcomes = refl
    lines_have_secret ((names, outcome) ∷ lines) quorums outcomes =
        let quorum = All-head (IsQuorum set) names (map (λ line. line.0) lines) quorums in
        let first = All-head (λ (line : Listed). IsOutcome set line.0 passphrase line.1) (names, outcome) lines outcomes in
        let same : outcome ≡ Ok secret =
        one_outcome set names passphrase outcome (Ok secret) is quorum first (every_quorum_recovers set names passphrase secret is quorum backup) in
        ap₂ (λ (o : Result (List ℕ) Mismatch) (ls : List Listed). (names, o) ∷ ls) same
        (lines_have_secret lines (All-tail (IsQuorum set) names (map (λ line. line.0) lines) quorums)
        (All-tail (λ (line : Listed). IsOutcome set line.0 passphrase line.1) (names, outcome) lines outcomes))

    -- a drill of shares of a created backup lists its secret
    lists_secret : {form : SecretForm} (after : Option Names) (limit : ℕ) (lines : List ℕ) (more : Option Names) (mismatches : ℕ)
        → IsDrill form set passphrase after limit lines more mismatches
        → (lists : ListsSecret form set secret after limit (lines ++ last_line more)) × (mismatches ≡ unexpected_in form secret lists.listed)
    lists_secret {form} after limit lines more mismatches d =
        let listed = map (λ line. line.0) d.lines in
        let same = lines_have_secret d.lines (listed_quorums set after limit listed d.listing) d.outcomes in (
          record {
            listed = listed;
            more = more;
            listing = d.listing;
            goes_on = d.goes_on;
            text_is = ap (λ t. t ++ last_line more) (d.text_is ∙ ap (flat_map (quorum_line form)) same ∙ secret_text form secret listed);
          },
          d.mismatches_are ∙ ap (mismatches_in form) same ∙ secret_mismatches form secret listed,
        )

    -- what is written of a drill of them
    complete : (form : SecretForm) (after : Option Names) (limit : ℕ) (text : List ℕ) (answer : Result Done Fault)
        → WritesDrillOf form passphrase after limit set (text, answer)
        → ListsSecretOrCause form set secret after limit text answer
    complete form after limit text answer (gives _ (no_lack, cursor) (lines, more, m, d, written)) =
        of_writing text (lines ++ last_line more) answer (Ok (record { mismatches = m })) written (ListsSecretOrCause form set secret after limit)
        (no_lack, cursor, lists_secret after limit lines more m d)
    complete form after limit text answer (refuses cause refused written) =
        of_writing text [] answer (Err (fault_of_no_drill cause)) written (ListsSecretOrCause form set secret after limit) (refl, (cause, refused, refl))

  -- what `drill` gives of mnemonics of a created backup
  pub drills_created : CheckedSetLaws → ((passphrase secret : List ℕ) (input : Input) → HoldsMnemonicsOf passphrase secret input
      → (set : List ShareFields) × IsReadAs input (Ok set) × AreOfBackup set passphrase secret)
      → (form : SecretForm) (passphrase : List ℕ) (after : Option Names) (limit : ℕ) (input : Input) (text : List ℕ) (answer : Result Done Fault)
      → IsDrillOutput form passphrase after limit input text answer → DrillsCreated form passphrase after limit input text answer
  drills_created laws are_a_set form passphrase after limit input text answer output secret mnemonics =
      let (set, read, backup) = are_a_set passphrase secret input mnemonics in
      let checked : IsCheckedSet passphrase input (Ok set) = gives tt mnemonics.created.0 (gives set read refl) in
      let drills = then_next (IsCheckedSet passphrase input) nothing_for (WritesDrillOf form passphrase after limit) (laws.once passphrase input) set checked
      (text, answer) output in
      (set, read, complete set passphrase secret (laws.is_set passphrase input set checked) backup form after limit text answer drills)
