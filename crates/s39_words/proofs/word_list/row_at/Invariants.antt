use Rattle.std.proofs.Common.{◌≡◌, ◌<◌, ◌≤◌, [], get_or}
use Rattle.s39_words.specs.Rows.{number_of_row}
use Rattle.s39_words.proofs.word_list.row_at.Given as goal

-- nothing is found up to the index, and the number of its row after it
abbrev pub invariant-loop-i : goal.invariant-loop-i
invariant-loop-i l = record {
  before : l.i ≤ l.fn.index → l.found ≡ 0;
  after : l.fn.index < l.i → l.found ≡ number_of_row (get_or l.row-items l.fn.index []);
}
