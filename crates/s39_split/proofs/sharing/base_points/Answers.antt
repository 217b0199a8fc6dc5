use Rattle.std.proofs.Common.{[], ◌∷◌, ◌++◌, length, arith, ap, sym, ◌∙◌, length-append}
use Rattle.s39_split.specs.Sharing.{digest_place}
use Rattle.s39_split.proofs.Enumerated.{length-enumerated, enumerated-more}
use Rattle.s39_split.proofs.sharing.base_points.Goals as goal

pub push-requires : goal.push-requires
push-requires c =
    let count = ap length c.loop-i.invariant ∙ length-enumerated c.args.random_shares.now c.loop-i.i (omega arith) in
    omega arith

pub push-requires-2 : goal.push-requires-2
push-requires-2 c =
    let count = ap length c.loop-i.invariant ∙ length-enumerated c.args.random_shares.now c.loop-i.i (omega arith) in
    omega arith

pub push-requires-3 : goal.push-requires-3
push-requires-3 c =
    let count = ap length c.loop-i.invariant ∙ length-enumerated c.args.random_shares.now c.loop-i.i (omega arith) in
    omega (arith, ap length c.push-2.ensures, length-append c.loop-i.points ((digest_place, c.args.digest_share.now.items) ∷ []))

pub loop-i-preserved : goal.loop-i-preserved
loop-i-preserved c =
    let share = c.index-random_shares-i.result in
    c.push.ensures ∙ ap (λ ps. ps ++ (c.loop-i.i, share.items) ∷ []) c.loop-i.invariant
    ∙ sym (enumerated-more c.args.random_shares.now c.loop-i.i share c.loop-i-test.true c.index-random_shares-i.is)
