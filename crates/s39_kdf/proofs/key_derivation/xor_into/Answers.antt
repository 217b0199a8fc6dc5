use Rattle.std.proofs.Common.{arith}
use Rattle.s39_kdf.proofs.Xor.{xored_by_index}
use Rattle.s39_kdf.proofs.key_derivation.xor_into.Goals as goal

pub returns : goal.returns
returns c =
    xored_by_index c.bytes.sum c.args.sum.now c.args.bytes.now (omega arith) (omega arith)
    (λ k h. c.bytes.invariant.before k (omega arith))
