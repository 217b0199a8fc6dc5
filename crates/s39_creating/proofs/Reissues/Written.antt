-- What `reissue` writes of what `create` wrote.
use Rattle.std.proofs.Common.{◌≡◌, ◌⊎◌, ◌∙◌, ◌≤◌, ℕ, List, ◌∷◌, length, refl, All, Contains, Some, None, Result, Ok}
use Rattle.std.proofs.lemmas.List.Elements.{All-weaker}
use Rattle.s39_words.specs.declared.ShareFields.{ShareFields}
use Rattle.s39_words.specs.Layout.{longest_text}
use Rattle.s39_words.specs.Printing.{IsPrinted}
use Rattle.s39_words.specs.WordList.{IsLetter}
use Rattle.s39_set.specs.Names.{Names}
use Rattle.s39_backup.specs.declared.plan.Members.{Members}
use Rattle.s39_backup.specs.Plan.{IsPlan}
use Rattle.s39_backup.specs.Created.{Asked, IsCreatedFrom, IsCreation}
use Rattle.s39_backup.specs.LargerPlan.{ArePartOf, HaveMoreMembers}
use Rattle.s39_backup.specs.Plan.{IsNameOfPlan}
use Rattle.s39_backup.proofs.LargerPlans.{needed_alike}
use Rattle.s39_input.specs.declared.fault.Fault.{Fault}
use Rattle.s39_input.specs.Input.{Input, whole, lines_of}
use Rattle.s39_input.specs.Lines.{Holds}
use Rattle.s39_input.specs.Accepted.{IsReadAs}
use Rattle.s39_input.specs.Create.{ArePrintedLines}
use Rattle.s39_input.specs.OfBackup.{HoldsNothingOrOneOf}
use Rattle.s39_creating.specs.Reissue.{IsReissueOutput, ReissuesCreated, WritesThoseOrCause}
use Rattle.s39_input.proofs.Sets.WrittenLines.{some_of_text_hold}

-- a line that holds a mnemonic of one of these shares holds one of those, where all of these are among those
pub among_holds : (shares others : List ShareFields) → ((share : ShareFields) → Contains shares share → Contains others share) → (line : List ℕ)
    → HoldsNothingOrOneOf shares line → HoldsNothingOrOneOf others line
among_holds shares others so line (None, holds, none) = (None, holds, tt)
among_holds shares others so line (Some share, holds, among) = (Some share, holds, so share among)

abbrev AreSome : List ℕ → List ℕ → Type 0
AreSome text bytes = All (λ line. Holds line None ⊎ Contains (lines_of (whole text)) line) (lines_of (whole bytes))

-- a printed form begins with a letter, has letters and spaces alone, and is no longer than a line may be
module _ (first : (share : ShareFields) (text : List ℕ) → IsPrinted text share
    → (letter : ℕ) × (rest : List ℕ) × (text ≡ letter ∷ rest) × IsLetter letter)
    (letters : (share : ShareFields) (text : List ℕ) → IsPrinted text share → All (λ byte. IsLetter byte ⊎ (byte ≡ 32)) text)
    (short : (share : ShareFields) (text : List ℕ) → IsPrinted text share → length text ≤ longest_text)
    (created_reissue : (group_threshold : ℕ) (groups : List Members) (names : Names) (input : Input) (text : List ℕ) (answer : Result (Unit {0}) Fault)
    → IsReissueOutput group_threshold groups names input text answer → ReissuesCreated group_threshold groups names input text answer) where
  module _ (asked : Asked) (random text bytes : List ℕ) (each : AreSome text bytes) (names : Names) (output : List ℕ) (answer : Result (Unit {0}) Fault)
      (shares : List ShareFields) (creates : IsCreation asked random (Ok shares)) (printed : ArePrintedLines shares text) where
    -- of a backup whose lines hold those of this one
    of_lines : (groups : List Members) (others : List ShareFields) → IsPlan asked.group_threshold groups
        → IsCreation (record asked { groups = groups }) random (Ok others) → All (HoldsNothingOrOneOf others) (lines_of (whole bytes))
        → All (IsNameOfPlan groups) names → IsReissueOutput asked.group_threshold groups names (whole bytes) output answer
        → (set : List ShareFields) × IsReadAs (whole bytes) (Ok set)
        × WritesThoseOrCause set asked.group_threshold groups others names output answer
    of_lines groups others plan created lines named reissued =
        created_reissue asked.group_threshold groups names (whole bytes) output answer reissued asked.passphrase asked.secret (record {
          group_threshold = asked.group_threshold;
          groups = groups;
          options = asked.options;
          random = random;
          shares = others;
          is_plan = plan;
          created = created;
          ended = refl;
          lines = lines;
        }) refl refl named

    -- with the plan of the creation
    pub written_reissue : IsPlan asked.group_threshold asked.groups → All (IsNameOfPlan asked.groups) names
        → IsReissueOutput asked.group_threshold asked.groups names (whole bytes) output answer
        → (set : List ShareFields) × IsReadAs (whole bytes) (Ok set)
        × WritesThoseOrCause set asked.group_threshold asked.groups shares names output answer
    written_reissue plan named reissued =
        of_lines asked.groups shares plan creates (some_of_text_hold first letters short shares text bytes printed each) named reissued

    -- with a larger one
    pub written_reissue_larger : (larger : List Members) (others : List ShareFields) → IsPlan asked.group_threshold larger
        → HaveMoreMembers asked.groups larger → IsCreatedFrom (record asked { groups = larger }) random others → ArePartOf asked.groups shares others
        → All (IsNameOfPlan larger) names → IsReissueOutput asked.group_threshold larger names (whole bytes) output answer
        → IsCreation (record asked { groups = larger }) random (Ok others)
        × ((set : List ShareFields) × IsReadAs (whole bytes) (Ok set)
        × WritesThoseOrCause set asked.group_threshold larger others names output answer)
    written_reissue_larger larger others plan more also part named reissued =
        let created : IsCreation (record asked { groups = larger }) random (Ok others) =
        (creates.0, creates.1, creates.2 ∙ needed_alike asked.group_threshold asked.groups larger (length asked.secret) more, also) in
        let lines =
        All-weaker (HoldsNothingOrOneOf shares) (HoldsNothingOrOneOf others) (among_holds shares others (λ share among. ((part share).0 among).0))
        (lines_of (whole bytes))
        (some_of_text_hold first letters short shares text bytes printed each) in
        (created, of_lines larger others plan created lines named reissued)
