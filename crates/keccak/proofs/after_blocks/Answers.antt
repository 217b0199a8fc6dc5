use Rattle.std.proofs.Common.{◌*◌, ◌+◌, refl}
use Rattle.hashes.specs.Blocks.{after_blocks}
use Rattle.hashes.proofs.Blocks.{block_more}
use Rattle.keccak.specs.Keccak.{rate, absorb}
use Rattle.keccak.proofs.after_blocks.Goals as goal

pub loop-n-init : goal.loop-n-init
unfolding after_blocks
loop-n-init c = refl

pub loop-n-preserved : goal.loop-n-preserved
loop-n-preserved c =
    block_more absorb rate c.args.start c.args.bytes.now c.loop-n.state c.absorb-next.result c.loop-n.n (c.loop-n.n * rate) (c.loop-n.n * rate + rate)
    c.loop-n.invariant refl refl c.absorb-next.ensures
