-- The greatest lengths of texts.
use Rattle.std.specs.Prelude.{ℕ}

-- how many bytes are enough for the line of a quorum, with its outcome, followed by the last line
abbrev pub longest_listing : ℕ
longest_listing = 2700
