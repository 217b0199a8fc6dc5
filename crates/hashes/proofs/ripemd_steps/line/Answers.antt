use Rattle.std.proofs.Common.{◌≡◌, ◌∙◌, ap, arith, refl}
use Rattle.hashes.specs.Ripemd160.{line}
use Rattle.hashes.proofs.ripemd_steps.line.Goals as goal

pub loop-j-init : goal.loop-j-init
unfolding line
loop-j-init c = refl

pub returns : goal.returns
returns c =
    let end : c.loop-j.j ≡ 80 = omega arith in
    c.loop-j.invariant ∙ ap (line c.args.right c.args.h c.args.block.now) end
