-- How long the mnemonics that are reissued are.
use Rattle.std.proofs.Common.{ℕ, ◌≤◌, List, length, ap, arith, Ok, Err}
use Rattle.s39_lists.proofs.Each.{each-length}
use Rattle.s39_words.specs.declared.ShareFields.{ShareFields}
use Rattle.s39_words.specs.Layout.{longest_text}
use Rattle.s39_words.specs.Printing.{IsPrinted}
use Rattle.s39_set.specs.Names.{Names, AreNames}
use Rattle.s39_backup.specs.declared.plan.Members.{Members}
use Rattle.s39_input.specs.Input.{Input}
use Rattle.s39_input.proofs.Texts.AllNames.{names_few}
use Rattle.s39_creating.specs.Lengths.{longest_backup}
use Rattle.s39_creating.specs.Reissue.{given, IsReissueOutput}
use Rattle.s39_creating.proofs.Lengths.Backups.{lines_short}
use Rattle.s39_creating.proofs.Reissues.Given.{from_set}

pub reissue_short : ((share : ShareFields) (text : List ℕ) → IsPrinted text share → length text ≤ longest_text) → (group_threshold : ℕ)
    (groups : List Members) (names : Names) (input : Input) (text : List ℕ) → AreNames names
    → IsReissueOutput group_threshold groups names input text (Ok tt) → length text ≤ longest_backup
reissue_short short group_threshold groups names input text are (Ok shares, (read, is, same), (printed, done)) =
    let f = from_set group_threshold groups names read shares same in
    omega (
      arith,
      each-length (given f.set group_threshold groups) names shares f.each_is,
      names_few names are,
      lines_short short shares printed.lines printed.printed,
      ap length printed.text_is,
    )
reissue_short short group_threshold groups names input text are (Err fault, reissued, (empty, done)) = absurd (cc)
