use Rattle.std.proofs.Common.{◌*◌, ◌+◌, refl}
use Rattle.hashes.specs.Blocks.{after_blocks}
use Rattle.hashes.specs.Ripemd160.{compress}
use Rattle.hashes.proofs.Blocks.{block_more}
use Rattle.hashes.proofs.ripemd.after_blocks.Goals as goal

pub loop-n-init : goal.loop-n-init
unfolding after_blocks
loop-n-init c = refl

pub loop-n-preserved : goal.loop-n-preserved
loop-n-preserved c =
    block_more compress 64 c.args.start c.args.bytes.now c.loop-n.state c.compress-next.result c.loop-n.n (c.loop-n.n * 64) (c.loop-n.n * 64 + 64)
    c.loop-n.invariant refl refl c.compress-next.ensures
