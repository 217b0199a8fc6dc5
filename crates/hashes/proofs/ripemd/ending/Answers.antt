use Rattle.std.proofs.Common.{◌++◌, ◌-◌, ◌%◌, length, ap, ap₂, ◌∙◌}
use Rattle.std.proofs.lemmas.List.{take_rest}
use Rattle.hashes.proofs.RipemdBlocks.{ending_is}
use Rattle.hashes.proofs.ripemd.ending.Goals as goal

pub returns : goal.returns
returns c =
    let m = c.args.message.now in
    let first = rw c.unwrap.ensures at c.try_extend_from_slice.ensures.ok in
    let zeros = rw c.unwrap-2.ensures at c.try_extend_from_slice-2.ensures.ok in
    let count = rw c.unwrap-3.ensures at c.try_extend_from_slice-3.ensures.ok in
    ending_is m c.try_extend_from_slice.new.self.items c.push.new.self.items c.try_extend_from_slice-2.new.self.items
    c.try_extend_from_slice-3.new.self.items (first ∙ ap₂ (λ xs ys. xs ++ ys) c.new-ending.ensures (take_rest m (length m - length m % 64)))
    c.push.ensures.items zeros (count ∙ ap (λ bytes. c.try_extend_from_slice-2.new.self.items ++ bytes) c.to_le_bytes.ensures)
