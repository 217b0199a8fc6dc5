-- The greatest lengths of texts.
use Rattle.std.specs.Prelude.{ℕ}

-- how many bytes are enough for the lines of a status
abbrev pub longest_status : ℕ
longest_status = 1638
