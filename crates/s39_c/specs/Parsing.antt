-- What `shamir_parse` gives.
use Rattle.std.specs.Prelude.{◌≡◌, ℕ, List}
use Rattle.s39_words.specs.declared.ShareFields.{ShareFields}
use Rattle.s39_words.specs.Share.{flag_bit}
use Rattle.s39_words.specs.Reading.{Reads}
use Rattle.s39_c.specs.declared.answer.ShamirAnswer.{ShamirAnswer}
use Rattle.s39_c.specs.declared.parsing.ShamirShare.{ShamirShare}
use Rattle.s39_c.specs.Answers.{Step, Gives, filled, word_refused}

-- the fields of a share but its value
abbrev pub header_of : ShareFields → ShamirShare
header_of f = record {
  id = f.id;
  extendable = flag_bit f.extendable;
  exponent = f.exponent;
  group_index = f.group_index;
  group_threshold = f.group_threshold;
  group_count = f.group_count;
  member_index = f.member_index;
  member_threshold = f.member_threshold;
}

-- The fields of the share that a line is read as, and its value in a slice, or that the value doesn't fit; or the first cause for
-- which the line is no share, and nothing changes.
abbrev pub GivesShare : List ℕ → ShamirShare → ShamirShare → List ℕ → List ℕ → ShamirAnswer → Type 0
GivesShare line header header' old =
    Step (λ read. Reads line read × (header' ≡ filled header_of header read)) word_refused (λ fields. Gives fields.value.items old) old
