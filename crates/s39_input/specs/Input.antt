-- The lines of an input.
use Rattle.std.specs.Prelude.{ℕ, ◌-◌, List, [], ◌∷◌, ◌++◌, Bool, true, not, ◌==◌, nat_lt, if◌then◌else◌, length, take, find}
use Rattle.std.specs.List.{flat_map, slice_split}
use Rattle.std.specs.Option.{option_map_or}
use Rattle.s39_words.specs.Spelling.{is_separator}

-- the most bytes of a line, not counting its line feed
abbrev pub longest_line : ℕ
longest_line = 1024

-- the bytes that came, and whether the input ended after them or failed
pub record Input : Type 0 where
  pub bytes : List ℕ
  pub ended : Bool

-- these bytes, after which the input ended
abbrev pub whole : List ℕ → Input
whole bytes = record { bytes = bytes; ended = true }

abbrev pub is_line_feed : ℕ → Bool
is_line_feed b = b == 10

-- a line, and its line feed
abbrev pub ended_line : List ℕ → List ℕ
ended_line line = line ++ 10 ∷ []

-- the bytes up to each line feed, and those after the last one, of which there may be none
abbrev pub parts_of : List ℕ → List (List ℕ)
parts_of bytes = slice_split is_line_feed bytes

-- how many lines a text has, each of which ends with a line feed
unfoldable pub lines_in : List ℕ → ℕ
lines_in text = length (parts_of text) - 1

-- how many bytes stand before the last of these lines
unfoldable pub bytes_before_last : List ℕ → ℕ
bytes_before_last text = length (flat_map ended_line (take (lines_in text - 1) (parts_of text)))

-- the parts except the last, which no line feed ended; that one is kept if it is too long already
abbrev pub finished_parts : List (List ℕ) → List (List ℕ)
finished_parts [] = []
finished_parts (last ∷ []) = if nat_lt longest_line (length last) then last ∷ [] else []
finished_parts (part ∷ next ∷ parts) = part ∷ finished_parts (next ∷ parts)

-- The lines. The last one may lack its line feed if the input ended. If the input failed, a line without a line feed is
-- dropped, unless more bytes of it have come than a line may have.
abbrev pub lines_of : Input → List (List ℕ)
lines_of input = if input.ended then parts_of input.bytes else finished_parts (parts_of input.bytes)

-- a blank line, or a comment: it has separators only, or its first other byte is a number sign
abbrev pub is_skipped : List ℕ → Bool
is_skipped line = option_map_or (λ b. b == 35) (find (λ b. not (is_separator b)) line) true
