use Rattle.std.proofs.Common.{suc, ap, arith}
use Rattle.s39_repair.proofs.laws.one_wrong_word_is_named.Goals as goal

pub returns : goal.returns
returns c = λ words mnemonic share place position within same_count in_list elsewhere spells is. (is (suc place)).0 (record {
  mnemonic = mnemonic;
  share = share;
  in_list = in_list;
  spells = spells;
  positive = omega arith;
  within = omega arith;
  same_count = same_count;
  elsewhere = λ p other. elsewhere p (λ e. other (ap suc e));
})
