use Rattle.std.proofs.Common.{◌≡◌, ◌-◌, ◌≤◌, ℕ, ◌++◌, length, take, replicate, arith}
use Rattle.std.proofs.lemmas.List.{take-replicate}
use Rattle.hashes.specs.Hmac.{block_length}
use Rattle.hashes.proofs.keyed_hash.block_key.Goals as goal

pub returns : goal.returns
returns c =
    let short = c.short_key-block.result.items in
    let room = c.remaining_capacity-room.result in
    let extended : c.try_extend_from_slice.new.self.items ≡ short ++ take room (replicate block_length 0) =
    rw c.unwrap.ensures at c.try_extend_from_slice.ensures.ok in
    let array : c.unwrap-2.result ≡ c.try_extend_from_slice.new.self.items =
    rw c.unwrap-2.ensures at c.into_inner.ensures.ok in
    let fits : room ≤ block_length = omega arith in
    let room_is : room ≡ block_length - length short = omega arith in
    let zeros = take-replicate {X = ℕ} room block_length 0 fits in
    cc
