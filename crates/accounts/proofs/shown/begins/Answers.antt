use Rattle.std.proofs.Common.{sym, ◌∙◌, arith}
use Rattle.accounts.proofs.Begun.{same, other, short, over}
use Rattle.accounts.proofs.shown.begins.Goals as goal

pub returns-then-i-text : goal.returns-then-i-text
returns-then-i-text c =
    sym (short c.args.front.now c.args.text.now c.loop-i.i (omega arith) (omega arith)) ∙ c.loop-i.invariant

pub returns-then-lower-front : goal.returns-then-lower-front
returns-then-lower-front c =
    sym (other c.args.front.now c.args.text.now c.loop-i.i c.to_ascii_lowercase-lower.result (omega arith) (omega arith)
    c.to_ascii_lowercase-lower.ensures.value c.if-lower-front.true) ∙ c.loop-i.invariant

pub loop-i-preserved : goal.loop-i-preserved
loop-i-preserved c =
    same c.args.front.now c.args.text.now c.loop-i.i c.to_ascii_lowercase-lower.result (omega arith) (omega arith)
    c.to_ascii_lowercase-lower.ensures.value c.if-lower-front.false ∙ c.loop-i.invariant

pub returns : goal.returns
returns c = sym (over c.args.front.now c.args.text.now c.loop-i.i (omega arith)) ∙ c.loop-i.invariant
