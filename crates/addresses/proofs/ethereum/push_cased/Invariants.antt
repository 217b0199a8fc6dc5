use Rattle.std.proofs.Common.{◌≡◌, ◌+◌, ◌++◌, length, drop}
use Rattle.addresses.specs.Ethereum.{cased}
use Rattle.addresses.proofs.ethereum.push_cased.Given as goal

abbrev pub invariant-loop-i : goal.invariant-loop-i
invariant-loop-i l = record {
  same : l.text.items ++ cased (drop l.i l.figures) (drop l.i l.digest) ≡ l.fn.text.items ++ cased l.figures l.digest;
  count : length l.text.items ≡ length l.fn.text.items + l.i;
}
