use Rattle.std.proofs.Common.{◌≡◌, ℕ, ◌<◌, ◌≤◌, get_or, bit_xor, length}
use Rattle.s39_kdf.specs.Hmac.{mac_length}
use Rattle.s39_kdf.proofs.key_derivation.xor_into.Given as goal

abbrev pub invariant-bytes : goal.invariant-bytes
invariant-bytes l = record {
  long : length l.sum ≡ mac_length;
  before : (k : ℕ) → k < l.i → get_or l.sum k 0 ≡ bit_xor (get_or l.initial.sum k 0) (get_or l.bytes k 0);
  after : (k : ℕ) → l.i ≤ k → get_or l.sum k 0 ≡ get_or l.initial.sum k 0;
}
