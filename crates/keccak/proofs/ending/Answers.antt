use Rattle.std.proofs.Common.{◌≢◌, ◌++◌, ◌-◌, ◌%◌, length, ap₂, ◌∙◌, arith}
use Rattle.std.proofs.lemmas.List.{take_rest}
use Rattle.keccak.specs.Keccak.{rate}
use Rattle.keccak.proofs.Sponge.{long_ending}
use Rattle.keccak.proofs.ending.Goals as goal

pub returns-else-used-eq135 : goal.returns-else-used-eq135
returns-else-used-eq135 c =
    let m = c.args.message.now in
    let first = rw c.unwrap.ensures at c.try_extend_from_slice.ensures.ok in
    let zeros = rw c.unwrap-else-used-eq135.ensures at c.try_extend_from_slice-else-used-eq135.ensures.ok in
    let other : length m % rate ≢ 135 = omega arith in
    long_ending m c.try_extend_from_slice.new.self.items c.push-else-used-eq135.new.self.items
    c.try_extend_from_slice-else-used-eq135.new.self.items c.push-else-used-eq135-2.new.self.items other
    (first ∙ ap₂ (λ xs ys. xs ++ ys) c.new-ending.ensures (take_rest m (length m - length m % rate)))
    c.push-else-used-eq135.ensures.items zeros c.push-else-used-eq135-2.ensures.items
