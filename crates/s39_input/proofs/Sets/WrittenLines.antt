-- What `create` writes holds the mnemonics of its backup.
use Rattle.std.proofs.Common.{◌≡◌, ◌⊎◌, ℕ, ◌≤◌, false, List, [], ◌∷◌, ◌++◌, length, inl, inr, refl, sym, ap, ◌∙◌, subst, arith}
use Rattle.std.proofs.Common.{All, Contains, Some, None, Ok}
use Rattle.std.specs.List.{AllZip}
use Rattle.std.proofs.lemmas.Bool.Decides.{nat_tests}
use Rattle.std.proofs.lemmas.List.Elements.{All-nil, All-cons, All-head, All-tail, All-push, All-weaker, All-contains, All-contains_itself}
use Rattle.s39_words.specs.declared.ShareFields.{ShareFields}
use Rattle.s39_words.specs.Layout.{longest_text}
use Rattle.s39_words.specs.Printing.{IsPrinted}
use Rattle.s39_words.specs.WordList.{IsLetter}
use Rattle.s39_words.proofs.OneReading.{read_from_spelled}
use Rattle.s39_backup.specs.Plan.{IsPlan}
use Rattle.s39_input.specs.Input.{whole, parts_of, lines_of, is_skipped}
use Rattle.s39_input.specs.Lines.{Holds}
use Rattle.s39_backup.specs.Created.{Asked}
use Rattle.s39_input.specs.Create.{ArePrintedLines, IsCreateOutput}
use Rattle.s39_input.specs.OfBackup.{HoldsNothingOrOneOf, HoldsMnemonicsOf}
use Rattle.s39_input.proofs.Runs.PrintedLines.{without_line_feeds}
use Rattle.s39_input.proofs.Taking.SaidByLines.{holds_read}
use Rattle.s39_input.proofs.Texts.LineFeeds.{parts_of_lines}

letter_not_skipped : (letter : ℕ) (rest : List ℕ) → IsLetter letter → is_skipped (letter ∷ rest) ≡ false
letter_not_skipped letter rest is = grind (arith, nat_tests)

-- a printed form begins with a letter, has letters and spaces alone, and is no longer than a line may be
module _ (first : (share : ShareFields) (text : List ℕ) → IsPrinted text share
    → (letter : ℕ) × (rest : List ℕ) × (text ≡ letter ∷ rest) × IsLetter letter)
    (letters : (share : ShareFields) (text : List ℕ) → IsPrinted text share → All (λ byte. IsLetter byte ⊎ (byte ≡ 32)) text)
    (short : (share : ShareFields) (text : List ℕ) → IsPrinted text share → length text ≤ longest_text) where
  pub printed_holds : (share : ShareFields) (line : List ℕ) → IsPrinted line share → Holds line (Some share)
  printed_holds share line printed =
      let (letter, rest, is, small) = first share line printed in
      let fits = short share line printed in
      holds_read line share (omega arith) (ap is_skipped is ∙ letter_not_skipped letter rest small) (read_from_spelled line share printed.spells)

  lines_hold : (all : List ShareFields) (lines : List (List ℕ)) (shares : List ShareFields) → AllZip IsPrinted lines shares → All (Contains all) shares
      → All (HoldsNothingOrOneOf all) lines
  lines_hold all [] shares printed among = All-nil (HoldsNothingOrOneOf all)
  lines_hold all (line ∷ lines) [] printed among = absurd printed
  lines_hold all (line ∷ lines) (share ∷ shares) printed among =
      All-cons (HoldsNothingOrOneOf all) line lines
      (Some share, printed_holds share line printed.0, All-head (Contains all) share shares among)
      (lines_hold all lines shares printed.1 (All-tail (Contains all) share shares among))

  -- the lines of the printed forms of shares are those, and an empty one behind them
  pub lines_are : (shares : List ShareFields) (text : List ℕ) (p : ArePrintedLines shares text) → parts_of text ≡ p.lines ++ [] ∷ []
  lines_are shares text p = ap parts_of p.text_is ∙ parts_of_lines p.lines (without_line_feeds letters p.lines shares p.printed)

  -- each holds one of them, or nothing
  pub text_holds : (shares : List ShareFields) (text : List ℕ) → ArePrintedLines shares text → All (HoldsNothingOrOneOf shares) (lines_of (whole text))
  text_holds shares text p =
      subst (All (HoldsNothingOrOneOf shares)) (sym (lines_are shares text p))
      (All-push (HoldsNothingOrOneOf shares) p.lines [] (lines_hold shares p.lines shares p.printed (All-contains_itself shares))
      (None, refl, tt))

  selected_holds : (shares : List ShareFields) (text line : List ℕ) → All (HoldsNothingOrOneOf shares) (lines_of (whole text))
      → Holds line None ⊎ Contains (lines_of (whole text)) line → HoldsNothingOrOneOf shares line
  selected_holds shares text line each (inl skipped) = (None, skipped, tt)
  selected_holds shares text line each (inr among) = All-contains (HoldsNothingOrOneOf shares) (lines_of (whole text)) line each among

  -- some of the lines of what is printed of shares hold those, or nothing
  pub some_of_text_hold : (shares : List ShareFields) (text bytes : List ℕ) → ArePrintedLines shares text
      → All (λ line. Holds line None ⊎ Contains (lines_of (whole text)) line) (lines_of (whole bytes))
      → All (HoldsNothingOrOneOf shares) (lines_of (whole bytes))
  some_of_text_hold shares text bytes printed each =
      All-weaker (λ line. Holds line None ⊎ Contains (lines_of (whole text)) line) (HoldsNothingOrOneOf shares)
      (λ line one. selected_holds shares text line (text_holds shares text printed) one) (lines_of (whole bytes)) each

  module _ (asked : Asked) (random text : List ℕ) (plan : IsPlan asked.group_threshold asked.groups)
      (created : IsCreateOutput asked (whole random) text (Ok tt)) where
    -- lines of what is written for a backup hold mnemonics of it
    pub some_lines_hold : (bytes : List ℕ) → All (λ line. Holds line None ⊎ Contains (lines_of (whole text)) line) (lines_of (whole bytes))
        → HoldsMnemonicsOf asked.passphrase asked.secret (whole bytes)
    some_lines_hold bytes each =
        let (shares, ended, creates, printed) = created in record {
          group_threshold = asked.group_threshold;
          groups = asked.groups;
          options = asked.options;
          random = random;
          shares = shares;
          is_plan = plan;
          created = creates;
          ended = refl;
          lines = some_of_text_hold shares text bytes printed each;
        }

    -- so do all of them
    pub all_lines_hold : HoldsMnemonicsOf asked.passphrase asked.secret (whole text)
    all_lines_hold = some_lines_hold text (λ k d below. inr (All-contains_itself (lines_of (whole text)) k d below))
