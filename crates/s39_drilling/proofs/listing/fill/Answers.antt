use Rattle.std.proofs.Common.{◌≡◌, ◌+◌, ◌-◌, length, inl, inr, ap, ◌∙◌, is_some, arith}
use Rattle.std.proofs.lemmas.Result.{err_from_is_err_and}
use Rattle.s39_drilling.proofs.Drills.Filling.{first_too_long, filling_starts, filling_goes_on, filled, filled_early}
use Rattle.s39_drilling.proofs.listing.fill.Goals.{else-loop-left-test, then-loop-left-test+in_default}
use Rattle.s39_drilling.proofs.listing.fill.Goals.{then-loop-left-test+in-Some+in_default-put_line}
use Rattle.s39_drilling.proofs.listing.fill.Goals as goal

pub returns-in_err-written : goal.returns-in_err-written
returns-in_err-written c after first =
    let (is_needed, short, same) = c.in_err-written.ensures.short in
    let p = err_from_is_err_and c.from_residual.result c.from_residual.ensures.1 in
    rw (p.1, p.2) (
      first_too_long c.drill_laws.ensures c.requires.is_set (length c.args.text.now) c.in_err-written.field-0.0.needed first
          c.try_quorum-first.ensures.tried (omega (arith, is_needed)) short,
      same,
    )

pub loop-left-init : goal.loop-left-init
loop-left-init c =
    let (is_end, room, put) = c.in_ok-written.ensures.fits in
    let some = c.requires.some in
    let few = c.try_quorum-first.ensures.one in
    let looks = c.try_quorum-first.ensures.looks in
    let before = c.new-looks.ensures in
    let one : 1 ≡ c.args.limit - (c.args.limit - 1) = omega (arith, some) in
    record {
      filling =
          rw one at (filling_starts c.drill_laws.ensures c.try_quorum-first.ensures.tried put
          (omega (arith, is_end)) room);
      some = omega (arith, some);
      counted = omega (arith, some, few);
      looks = omega (arith, looks, before, some);
      passphrase = c.try_quorum-first.ensures.passphrase;
      params = rw c.try_quorum-first.ensures.params c.requires.params;
    }

pub loop-left-preserved : goal.loop-left-preserved
loop-left-preserved c =
    let inv = c.loop-left.invariant in
    let some = inv.some in
    let left = c.loop-left-test.true in
    let (end, room, put) = c.in-Ok.ensures.fits in
    let same = c.loop-left.auto.text in
    let next : (c.args.limit - c.loop-left.left) + 1 ≡ c.args.limit - (c.loop-left.left - 1) = omega (arith, some, left) in
    let few = c.try_quorum-tried.ensures.one in
    let looks = c.try_quorum-tried.ensures.looks in
    let before = inv.looks in
    let counted = inv.counted in
    record {
      filling =
          rw next at (filling_goes_on c.drill_laws.ensures c.requires.is_set (rw c.in-Some.is at inv.filling)
          (rw inv.passphrase at c.try_quorum-tried.ensures.tried) end put (omega (arith, room, same)));
      some = omega (arith, some, left);
      counted = omega (arith, counted, few, left);
      looks = omega (arith, looks, before, left);
      passphrase = c.try_quorum-tried.ensures.passphrase ∙ inv.passphrase;
      params = rw c.try_quorum-tried.ensures.params inv.params;
    }

pub returns : goal.returns
returns c after first =
    let inv = c.loop-left.invariant in
    let some = inv.some in
    elim c.loop-left-test.branch [
      | else-loop-left-test w ↦ (let over = w.loop-left-test.false in
          filled c.drill_laws.ensures c.requires.is_set (rw w.text-is at c.ended.ensures.text) c.ended.ensures.written c.ended.ensures.listed
          c.ended.ensures.last c.ended.ensures.mismatches inv.filling
          c.args.limit c.loop-left.left (omega (arith, some)) (omega (arith, some)) (inl (omega (arith, over))) after first)
      | then-loop-left-test+in_default w ↦
          filled c.drill_laws.ensures c.requires.is_set (rw w.text-is at c.ended.ensures.text) c.ended.ensures.written c.ended.ensures.listed
          c.ended.ensures.last c.ended.ensures.mismatches inv.filling
          c.args.limit c.loop-left.left (omega (arith, some)) (omega (arith, some)) (inr (ap is_some w.in_default.is)) after first
      | then-loop-left-test+in-Some+in_default-put_line w ↦ (let (needed, less, kept) = w.in_default-put_line.ensures.short in
          let same = c.loop-left.auto.text in
          filled_early c.drill_laws.ensures c.requires.is_set (rw (w.text-is ∙ kept) at c.ended.ensures.text) c.ended.ensures.written
          c.ended.ensures.listed c.ended.ensures.last c.ended.ensures.mismatches
          (rw w.in-Some.is at inv.filling) c.args.limit (rw inv.passphrase at w.try_quorum-tried.ensures.tried) (omega (arith, needed, less, same))
          (omega (arith, some)) (omega (arith, some)) after first)
    ]
