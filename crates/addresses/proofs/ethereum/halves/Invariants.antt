use Rattle.std.proofs.Common.{◌≡◌, ◌*◌, ◌++◌, ◌<◌, All, length, drop}
use Rattle.addresses.specs.Ethereum.{halves}
use Rattle.addresses.proofs.ethereum.halves.Given as goal

abbrev pub invariant-loop-byte : goal.invariant-loop-byte
invariant-loop-byte l = record {
  same : l.halves.items ++ halves (drop l.byte-index l.bytes) ≡ halves l.bytes;
  count : length l.halves.items ≡ 2 * l.byte-index;
  below : All (λ n. n < 16) l.halves.items;
}
