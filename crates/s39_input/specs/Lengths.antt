-- The greatest lengths of texts.
use Rattle.std.specs.Prelude.{ℕ}

-- the most bytes of the written form of names
abbrev pub longest_names : ℕ
longest_names = 1215
