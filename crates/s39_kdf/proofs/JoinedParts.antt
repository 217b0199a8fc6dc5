-- Parts that are joined.
use Rattle.std.proofs.Common.{ℕ, zero, suc, ◌+◌, ◌<◌, ◌≤◌, List, [], ◌∷◌, length, take, get_or, arith, Bor}
use Rattle.std.proofs.lemmas.List.{length-append}
use Rattle.s39_kdf.specs.Bytes.{joined_parts}

-- the parts up to the place i and the part there are no longer than all parts
pub joined_front_le : (parts : List (Bor (List ℕ))) (i : ℕ) (part : Bor (List ℕ)) → i < length parts
    → length (joined_parts (take i parts)) + length (get_or parts i part).now ≤ length (joined_parts parts)
joined_front_le [] i part h = absurd (omega arith)
joined_front_le (p ∷ ps) zero part h = omega (arith, length-append p.now (joined_parts ps))
joined_front_le (p ∷ ps) (suc i) part h =
    let rest = joined_front_le ps i part (omega arith) in
    omega (arith, rest, length-append p.now (joined_parts ps), length-append p.now (joined_parts (take i ps)))
