use Rattle.std.proofs.Common.{◌≡◌, ◌∙◌, ◌≤◌, List, ℕ, length, None, Ok, Err, ap, if◌then◌else◌}
use Rattle.std.proofs.lemmas.Bool.{le-ltb}
use Rattle.s39_words.specs.Reading.{reading}
use Rattle.s39_input.specs.declared.fault.LineRefusal.TheVariants.{TooLong, Word}
use Rattle.s39_input.specs.Input.{longest_line, is_skipped}
use Rattle.s39_input.specs.Lines.{held, share_in}
use Rattle.s39_input.specs.Theory.LongLines.{long_is_refused}
use Rattle.s39_input.proofs.laws.lines_hold_what_they_are_read_as.Goals as goal

-- what a line that isn't too long holds
short : (line : List ℕ) → length line ≤ longest_line → share_in line ≡ (if is_skipped line then Ok None else held Word (reading line))
short line fits =
    ap (λ b. if b then Err TooLong else (if is_skipped line then Ok None else held Word (reading line))) (le-ltb longest_line (length line) fits)

pub returns-clause-too_long : goal.returns-clause-too_long
returns-clause-too_long c = λ line long. long_is_refused Word line (reading line) long

pub returns-clause-skipped : goal.returns-clause-skipped
returns-clause-skipped c = λ line fits skipped.
    short line fits ∙ ap (λ b. if b then Ok None else held Word (reading line)) skipped

pub returns-clause-read : goal.returns-clause-read
returns-clause-read c = λ line share fits unskipped reads.
    short line fits ∙ ap (λ b. if b then Ok None else held Word (reading line)) unskipped ∙ ap (held Word) reads

pub returns-clause-refused : goal.returns-clause-refused
returns-clause-refused c = λ line error fits unskipped reads.
    short line fits ∙ ap (λ b. if b then Ok None else held Word (reading line)) unskipped ∙ ap (held Word) reads
