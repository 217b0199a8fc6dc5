use Rattle.std.proofs.Common.{◌≡◌, ◌∙◌, ◌++◌, [], ◌∷◌, take, length, sym, ap, arith}
use Rattle.std.proofs.lemmas.List.{append-nil, length-take-le}
use Rattle.s39_backup.specs.GroupShares.{indexed_group_shares}
use Rattle.s39_backup.proofs.Combined.{indexed_group_shares-more, indexed_group_shares-few}
use Rattle.s39_backup.proofs.combination.lend.Goals.{in-Some, in_default}
use Rattle.s39_backup.proofs.combination.lend.Goals as goal

pub push-requires : goal.push-requires
push-requires c =
    let items = c.as_slice-share-items.result.now in
    let i = c.loop-share.share-index in
    let front : length (take i items) ≡ i = length-take-le i items (omega (arith, c.loop-share-test.true)) in
    omega (arith, ap length c.loop-share.invariant, indexed_group_shares-few (take i items), c.loop-share-test.true, c.as_slice-share-items.ensures.fits)

pub loop-share-preserved : goal.loop-share-preserved
loop-share-preserved c =
    let items = c.as_slice-share-items.result.now in
    let i = c.loop-share.share-index in
    let before = indexed_group_shares (take i items) in
    let more = indexed_group_shares-more items i c.share-item.result c.loop-share-test.true c.share-item.is in
    elim c.match-share.branch [
      | in-Some w ↦
          w.lent-is ∙ w.push.ensures ∙ ap (λ points. points ++ (w.in-Some.index, w.in-Some.bytes.items) ∷ []) c.loop-share.invariant
          ∙ ap (λ place. before ++ indexed_group_shares (place ∷ [])) (sym w.in-Some.is) ∙ sym more
      | in_default w ↦
          w.lent-is ∙ c.loop-share.invariant ∙ sym (append-nil before)
          ∙ ap (λ place. before ++ indexed_group_shares (place ∷ [])) (sym w.in_default.is) ∙ sym more
    ]
