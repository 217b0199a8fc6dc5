-- Lines that `create` wrote and lines that `reissue` then gave are mnemonics of one backup.
use Rattle.std.proofs.Common.{◌≡◌, ◌⊎◌, ◌≤◌, ℕ, List, [], ◌∷◌, length, refl, inl, inr, All, Contains, None, Ok}
use Rattle.std.specs.List.{AllZip}
use Rattle.std.proofs.lemmas.List.Elements.{All-nil, All-cons, All-weaker, All-contains}
use Rattle.s39_words.specs.declared.ShareFields.{ShareFields}
use Rattle.s39_words.specs.Layout.{longest_text}
use Rattle.s39_words.specs.Printing.{IsPrinted}
use Rattle.s39_words.specs.WordList.{IsLetter}
use Rattle.s39_set.specs.Names.{Names}
use Rattle.s39_set.specs.ShareSet.{name_of}
use Rattle.s39_backup.specs.declared.plan.Members.{Members}
use Rattle.s39_backup.specs.Plan.{IsPlan}
use Rattle.s39_backup.specs.Created.{Asked, IsCreation}
use Rattle.s39_backup.specs.LargerPlan.{ArePartOf}
use Rattle.s39_input.specs.Input.{whole, lines_of}
use Rattle.s39_input.specs.Lines.{Holds}
use Rattle.s39_input.specs.Create.{ArePrintedLines}
use Rattle.s39_input.specs.OfBackup.{HoldsNothingOrOneOf, HoldsMnemonicsOf}
use Rattle.s39_creating.specs.Reissue.{WritesThoseOf}
use Rattle.s39_input.proofs.Sets.WrittenLines.{text_holds}
use Rattle.s39_creating.proofs.Reissues.Written.{among_holds}

-- shares of the backup with these names are of the backup
all_theirs : (backup : List ShareFields) (names : Names) (shares : List ShareFields)
    → AllZip (λ name share. Contains backup share × (name_of share ≡ name)) names shares → All (Contains backup) shares
all_theirs backup [] [] theirs = All-nil (Contains backup)
all_theirs backup [] (share ∷ shares) theirs = absurd theirs
all_theirs backup (name ∷ names) [] theirs = absurd theirs
all_theirs backup (name ∷ names) (share ∷ shares) theirs =
    All-cons (Contains backup) share shares theirs.0.0 (all_theirs backup names shares theirs.1)

-- a line of one of two texts, both of whose lines hold mnemonics of a backup
either_holds : (others : List ShareFields) (text output line : List ℕ) → All (HoldsNothingOrOneOf others) (lines_of (whole text))
    → All (HoldsNothingOrOneOf others) (lines_of (whole output))
    → Holds line None ⊎ (Contains (lines_of (whole text)) line ⊎ Contains (lines_of (whole output)) line) → HoldsNothingOrOneOf others line
either_holds others text output line old new (inl skipped) = (None, skipped, tt)
either_holds others text output line old new (inr (inl among)) = All-contains (HoldsNothingOrOneOf others) (lines_of (whole text)) line old among
either_holds others text output line old new (inr (inr among)) = All-contains (HoldsNothingOrOneOf others) (lines_of (whole output)) line new among

-- a printed form begins with a letter, has letters and spaces alone, and is no longer than a line may be
module _ (first : (share : ShareFields) (text : List ℕ) → IsPrinted text share
    → (letter : ℕ) × (rest : List ℕ) × (text ≡ letter ∷ rest) × IsLetter letter)
    (letters : (share : ShareFields) (text : List ℕ) → IsPrinted text share → All (λ byte. IsLetter byte ⊎ (byte ≡ 32)) text)
    (short : (share : ShareFields) (text : List ℕ) → IsPrinted text share → length text ≤ longest_text) where
  -- of the backup that the larger plan has
  pub joined_lines_hold : (asked : Asked) (larger : List Members) (random text output : List ℕ) (shares others set : List ShareFields) (names : Names)
      → IsPlan asked.group_threshold larger → IsCreation (record asked { groups = larger }) random (Ok others)
      → ArePartOf asked.groups shares others → ArePrintedLines shares text
      → WritesThoseOf set asked.group_threshold larger others names output
      → (more : List ℕ)
      → All (λ line. Holds line None ⊎ (Contains (lines_of (whole text)) line ⊎ Contains (lines_of (whole output)) line)) (lines_of (whole more))
      → HoldsMnemonicsOf asked.passphrase asked.secret (whole more)
  joined_lines_hold asked larger random text output shares others set names plan created part printed writes more each =
      let old =
      All-weaker (HoldsNothingOrOneOf shares) (HoldsNothingOrOneOf others) (among_holds shares others (λ share among. ((part share).0 among).0))
      (lines_of (whole text)) (text_holds first letters short shares text printed) in
      let theirs = all_theirs others names writes.shares writes.theirs in
      let new =
      All-weaker (HoldsNothingOrOneOf writes.shares) (HoldsNothingOrOneOf others)
      (among_holds writes.shares others (λ share among. All-contains (Contains others) writes.shares share theirs among))
      (lines_of (whole output)) (text_holds first letters short writes.shares output writes.printed) in
      record {
        group_threshold = asked.group_threshold;
        groups = larger;
        options = asked.options;
        random = random;
        shares = others;
        is_plan = plan;
        created = created;
        ended = refl;
        lines = All-weaker (λ line. Holds line None ⊎ (Contains (lines_of (whole text)) line ⊎ Contains (lines_of (whole output)) line))
            (HoldsNothingOrOneOf others) (λ line one. either_holds others text output line old new one) (lines_of (whole more)) each;
      }
