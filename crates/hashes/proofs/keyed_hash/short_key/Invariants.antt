use Rattle.std.proofs.Common.{◌≡◌, ◌≤◌, take}
use Rattle.arrayvec.specs.ArrayVec.{array_vec_len}
use Rattle.hashes.specs.Hmac.{block_length}
use Rattle.s39_kdf.specs.Bytes.{joined_parts}
use Rattle.hashes.proofs.keyed_hash.short_key.Given as goal

abbrev pub invariant-loop-part : goal.invariant-loop-part
invariant-loop-part l = record {
  fits : array_vec_len l.short ≤ block_length;
  parts : l.short.items ≡ joined_parts (take l.part-index l.key);
}
