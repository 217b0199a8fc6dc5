use Rattle.std.proofs.Common.{refl}
use Rattle.s39_words.proofs.laws.numbers.Goals as goal

pub returns : goal.returns
returns c = record {
  letters = refl;
  bits = refl;
  header = refl;
  id = refl;
  exponent = refl;
  count = refl;
  flag_at = refl;
  exponent_at = refl;
  group_index_at = refl;
  group_threshold_at = refl;
  group_count_at = refl;
  member_index_at = refl;
  member_threshold_at = refl;
  pair = refl;
  groups = refl;
  members = refl;
  padding = refl;
  checksum = refl;
  fewest = refl;
  most = refl;
  text = refl;
  wrong = refl;
}
