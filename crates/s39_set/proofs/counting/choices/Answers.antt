use Rattle.std.proofs.Common.{◌≡◌, ◌+◌, suc, replicate, subst, refl, ap, ◌∙◌, arith}
use Rattle.s39_set.specs.Counting.{AreWays, choices, most_counted}
use Rattle.std.proofs.Common.{min, get_or}
use Rattle.s39_set.proofs.counting.choices.Goals as goal

pub loop-init : goal.loop-init
loop-init c = c.of_no_parts-table.ensures.ways

pub loop-preserved : goal.loop-preserved
loop-preserved c =
    let one_more : suc c.loop.counter ≡ c.loop.counter + 1 = omega arith in
    subst (λ n. AreWays c.with_one_more-table.result (replicate n 1)) one_more
    (c.with_one_more-table.ensures.ways (replicate c.loop.counter 1) 1 c.loop.invariant refl)

pub returns : goal.returns
returns c =
    let all : c.loop.counter ≡ c.args.things = omega arith in
    ap (λ i. get_or c.loop.table i 0) c.from.ensures
    ∙ c.loop.invariant c.args.chosen c.requires
    ∙ ap (λ n. min (choices n c.args.chosen) most_counted) all
