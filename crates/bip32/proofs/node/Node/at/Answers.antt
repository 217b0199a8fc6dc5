use Rattle.std.proofs.Common.{length, sym, ap, ◌∙◌}
use Rattle.std.specs.Option.{option_and_then}
use Rattle.bip32.specs.Serialization.{child_of, master_node}
use Rattle.bip32.proofs.Steps.{node_at_path, node_at_none}
use Rattle.bip32.proofs.node.Node.at.Goals as goal

pub returns-in-None : goal.returns-in-None
returns-in-None c = node_at_none (master_node c.args.master.now) c.args.path.now c.in-None.ensures.cases

pub returns-in-Some-at : goal.returns-in-Some-at
returns-in-Some-at c =
    let path = c.args.path.now in
    let last = c.in-Some.last.now in
    let split = c.in-Some.ensures.cases in
    c.child_of.ensures
    ∙ ap (λ o. option_and_then (λ parent. child_of parent (length path) last) o) (sym c.in-Some-at.is)
    ∙ node_at_path c.args.master.now path c.in-Some.front.now last c.at.result split.0 split.1 c.at.ensures

pub returns-in-None-at : goal.returns-in-None-at
returns-in-None-at c =
    let path = c.args.path.now in
    let last = c.in-Some.last.now in
    let split = c.in-Some.ensures.cases in
    ap (λ o. option_and_then (λ parent. child_of parent (length path) last) o) (sym c.in-None-at.is)
    ∙ node_at_path c.args.master.now path c.in-Some.front.now last c.at.result split.0 split.1 c.at.ensures
