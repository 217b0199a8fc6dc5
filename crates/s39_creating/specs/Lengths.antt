-- The greatest lengths of texts.
use Rattle.std.specs.Prelude.{ℕ, ◌+◌, ◌*◌}
use Rattle.s39_words.specs.Layout.{longest_text}
use Rattle.s39_set.specs.Names.{most_names}

-- how many bytes are enough for the mnemonics of a backup, each with its line feed
abbrev pub longest_backup : ℕ
longest_backup = most_names * (longest_text + 1)
