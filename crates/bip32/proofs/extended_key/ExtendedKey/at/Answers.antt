use Rattle.std.proofs.Common.{◌+◌, drop, sym, ap, ◌∙◌}
use Rattle.std.specs.Option.{option_and_then}
use Rattle.bip32.specs.Paths.{at}
use Rattle.bip32.proofs.Steps.{step, at_end}
use Rattle.bip32.proofs.extended_key.ExtendedKey.at.Goals as goal

pub returns-in-None : goal.returns-in-None
returns-in-None c =
    let path = c.args.path.now in
    let i = c.loop-index.index-index in
    ap (λ o. option_and_then (λ next. at next (drop (i + 1) path)) o) (sym c.in-None.is)
    ∙ step c.args.self.now c.loop-index.key path i c.child.result c.loop-index-test.true c.loop-index.invariant c.child.ensures

pub loop-index-preserved : goal.loop-index-preserved
loop-index-preserved c =
    let path = c.args.path.now in
    let i = c.loop-index.index-index in
    ap (λ o. option_and_then (λ next. at next (drop (i + 1) path)) o) (sym c.in-Some.is)
    ∙ step c.args.self.now c.loop-index.key path i c.child.result c.loop-index-test.true c.loop-index.invariant c.child.ensures

pub returns : goal.returns
returns c =
    at_end c.args.self.now c.loop-index.key c.args.path.now c.loop-index.index-index c.loop-index-test.false c.loop-index.invariant
