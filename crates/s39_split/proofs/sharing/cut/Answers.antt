use Rattle.std.proofs.Common.{◌≡◌, ◌+◌, ◌-◌, ◌*◌, ◌<◌, length, take, drop, arith}
use Rattle.std.proofs.lemmas.List.Elements.{AllWithin-more_set}
use Rattle.s39_split.proofs.Cuts.{cut_more, length-cut}
use Rattle.s39_split.proofs.sharing.cut.Goals as goal

pub loop-i-preserved : goal.loop-i-preserved
loop-i-preserved c =
    let shares = c.loop-i.shares in
    let share = c.unwrap.result in
    let bytes = c.args.bytes.now in
    let n = c.args.n in
    let i = c.loop-i.i in
    let long = c.loop-i.auto.shares in
    let within : i < length shares = omega arith in
    let is : share.items ≡ take ((i + 1) * n - i * n) (drop (i * n) bytes) = (rw c.unwrap.ensures at c.try_from.ensures).0 in
    let whole : length bytes ≡ length shares * n = cc in (
      cut_more shares share bytes n i within is c.loop-i.invariant.0,
      AllWithin-more_set shares i share within (λ s. length s.items ≡ n) c.loop-i.invariant.1 (length-cut shares share bytes n i within is whole),
    )
