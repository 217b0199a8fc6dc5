-- The output of `show`.
use Rattle.std.specs.Prelude.{◌≡◌, ℕ, List, [], ◌++◌, codes, Option, Some, None, Result}
use Rattle.std.specs.Fmt.{decimal}
use Rattle.hex.specs.Hex.{encode_lower}
use Rattle.s39_words.specs.declared.ShareFields.{ShareFields}
use Rattle.s39_words.specs.Share.{flag_bit}
use Rattle.s39_input.specs.declared.fault.Fault.{Fault}
use Rattle.s39_input.specs.Input.{Input, ended_line}
use Rattle.s39_input.specs.EachLine.{output_of_each}
use Rattle.s39_input.specs.Lines.{share_in}

-- the fields except the value, with numbers in decimal
abbrev pub header_text : ShareFields → List ℕ
header_text f =
    codes "identifier " ++ decimal f.id
    ++ codes " extendable " ++ decimal (flag_bit f.extendable)
    ++ codes " exponent " ++ decimal f.exponent
    ++ codes " group " ++ decimal f.group_index
    ++ codes " group-threshold " ++ decimal f.group_threshold
    ++ codes " group-count " ++ decimal f.group_count
    ++ codes " member " ++ decimal f.member_index
    ++ codes " member-threshold " ++ decimal f.member_threshold

-- the line that shows a share: its fields, the value in hexadecimal, and a line feed
abbrev pub show_line : ShareFields → List ℕ
show_line f = ended_line (header_text f ++ codes " value " ++ encode_lower f.value.items)

-- the text that is written for what a line holds
abbrev pub line_text : Option ShareFields → List ℕ
line_text None = []
line_text (Some share) = show_line share

-- what `show` writes for the input, and its answer
unfoldable pub show_output : Input → List ℕ × Result (Unit {0}) Fault
show_output = output_of_each line_text (λ _. tt) share_in

-- `show` writes this text for the input, and gives this answer
abbrev pub IsShowOutput : Input → List ℕ → Result (Unit {0}) Fault → Type 0
IsShowOutput input text answer = show_output input ≡ (text, answer)
