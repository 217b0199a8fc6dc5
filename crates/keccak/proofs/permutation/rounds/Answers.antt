use Rattle.std.proofs.Common.{refl}
use Rattle.keccak.specs.Keccak.{rounds}
use Rattle.keccak.proofs.MoreRounds.{one_more}
use Rattle.keccak.proofs.permutation.rounds.Goals as goal

pub loop-n-init : goal.loop-n-init
unfolding rounds
loop-n-init c = refl

pub loop-n-preserved : goal.loop-n-preserved
loop-n-preserved c =
    one_more c.args.a c.loop-n.state c.theta.result c.rho_pi.result c.chi.result c.iota-next.result c.loop-n.n
    c.loop-n.invariant c.theta.ensures c.rho_pi.ensures c.chi.ensures c.iota-next.ensures
