-- All lines that `create` writes have a quorum.
use Rattle.std.proofs.Common.{◌≡◌, ◌⊎◌, ℕ, ◌≤◌, List, [], ◌∷◌, ◌++◌, length, map, refl, ap, ◌∙◌, subst}
use Rattle.std.proofs.Common.{All, Contains, Ok}
use Rattle.std.specs.List.{AllZip, cons_option}
use Rattle.s39_words.specs.declared.ShareFields.{ShareFields}
use Rattle.s39_words.specs.Layout.{longest_text}
use Rattle.s39_words.specs.Printing.{IsPrinted}
use Rattle.s39_words.specs.WordList.{IsLetter}
use Rattle.s39_set.specs.ShareSet.{IsShareSet, name_of}
use Rattle.s39_set.specs.Quorums.{MeetsThresholds}
use Rattle.s39_backup.specs.Plan.{IsPlan}
use Rattle.s39_backup.specs.Created.{AreOfBackup, Asked}
use Rattle.s39_input.specs.Input.{whole, lines_of}
use Rattle.s39_input.specs.Accepted.{shares_in, held_share, IsSetOf, IsReadAs}
use Rattle.s39_input.specs.Create.{IsCreateOutput}
use Rattle.s39_input.proofs.Sets.Collected.{accepted}
use Rattle.s39_input.proofs.Sets.WrittenLines.{printed_holds, lines_are}

-- a printed form begins with a letter, has letters and spaces alone, and is no longer than a line may be
module _ (first : (share : ShareFields) (text : List ℕ) → IsPrinted text share
    → (letter : ℕ) × (rest : List ℕ) × (text ≡ letter ∷ rest) × IsLetter letter)
    (letters : (share : ShareFields) (text : List ℕ) → IsPrinted text share → All (λ byte. IsLetter byte ⊎ (byte ≡ 32)) text)
    (short : (share : ShareFields) (text : List ℕ) → IsPrinted text share → length text ≤ longest_text) where
  -- printed lines, and an empty one behind them, hold just their shares
  held_are : (lines : List (List ℕ)) (shares : List ShareFields) → AllZip IsPrinted lines shares → shares_in (lines ++ [] ∷ []) ≡ shares
  held_are [] [] printed = refl
  held_are [] (share ∷ shares) printed = absurd printed
  held_are (line ∷ lines) [] printed = absurd printed
  held_are (line ∷ lines) (share ∷ shares) printed =
      ap (λ r. cons_option (held_share r) (shares_in (lines ++ [] ∷ []))) (printed_holds first letters short share line printed.0)
      ∙ ap (λ l. share ∷ l) (held_are lines shares printed.1)

  -- the set of all lines that are written for a backup meets its thresholds
  pub whole_text_meets : ((set : List ShareFields) (passphrase secret : List ℕ) → IsShareSet set → (backup : AreOfBackup set passphrase secret)
      → All (Contains set) backup.shares → MeetsThresholds set (map name_of set))
      → (asked : Asked) (random text : List ℕ) (set : List ShareFields) → IsPlan asked.group_threshold asked.groups
      → IsCreateOutput asked (whole random) text (Ok tt) → IsReadAs (whole text) (Ok set) → IsShareSet set → MeetsThresholds set (map name_of set)
  whole_text_meets meets asked random text set plan (shares, ended, creates, printed) read is_set =
      let same : shares_in (lines_of (whole text)) ≡ shares =
      ap shares_in (lines_are first letters short shares text printed) ∙ held_are printed.lines shares printed.printed in
      let set_of = subst (λ l. IsSetOf l set) same (accepted (whole text) set read).1.1 in
      meets set asked.passphrase asked.secret is_set
      (record {
        group_threshold = asked.group_threshold;
        groups = asked.groups;
        options = asked.options;
        random = random;
        shares = shares;
        is_plan = plan;
        created = creates.3;
        belong = set_of.only;
      }) set_of.all
