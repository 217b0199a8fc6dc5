use Rattle.std.proofs.Common.{◌≡◌, All, vec_len}
use Rattle.std.specs.Vec.{vec_capacity}
use Rattle.s39_clearing.proofs.heap.clear_block.Given as goal

abbrev pub invariant-loop : goal.invariant-loop
invariant-loop l = record {
  zeros : All (λ byte. byte ≡ 0) l.bytes.items;
  len_is : vec_len l.bytes ≡ l.counter;
  same : vec_capacity l.bytes ≡ l.room;
}
