use Rattle.std.proofs.Common.{◌≡◌, ◌≢◌, ◌<◌, [], ◌∷◌, ◌++◌, length, get_or, ap, ◌∙◌, arith}
use Rattle.s39_backup.proofs.Chosen.{chosen-none, chosen-kept, chosen-other, chosen-without, chosen-kept_all}
use Rattle.s39_backup.proofs.refitting.with_lowest.Goals as goal
use Rattle.s39_backup.proofs.refitting.with_lowest.Goals.{then-next-kept+then-kept-next, else-next-kept+then-others-gt0, else-next-kept+else-others-gt0}
use Rattle.s39_backup.proofs.refitting.with_lowest.Goals.{else-next-kept-via-then-next-kept+else-kept-next, else-next-kept-via-else-next-kept}

pub loop-index-init : goal.loop-index-init
loop-index-init c =
    let few = c.requires.few in
    chosen-none c.args.kept.now c.args.number _ c.new-indices.result.items (omega (arith, c.from.ensures)) c.new-indices.ensures

pub loop-index-preserved : goal.loop-index-preserved
loop-index-preserved c =
    let kept = c.args.kept.now in
    let l = c.loop-index in
    elim c.if-next-kept.branch [
      | then-next-kept+then-kept-next w ↦ (
          let more : c.if-next-kept.indices.items ≡ l.indices.items ++ l.index ∷ [] = ap (λ v. v.items) w.indices-is ∙ w.push.ensures.items in
          rw (w.next-is, w.others-is, more)
          (chosen-kept kept c.requires.kept c.args.number l.index l.next l.others l.indices.items l.invariant w.if-next-kept.true w.if-kept-next.true))
      | else-next-kept+then-others-gt0 w ↦ (
          let more : c.if-next-kept.indices.items ≡ l.indices.items ++ l.index ∷ [] = ap (λ v. v.items) w.indices-is ∙ w.push-then-others-gt0.ensures.items in
          let other : l.next < length kept → get_or kept l.next 0 ≢ l.index = elim w.else-next-kept.branch [
            | else-next-kept-via-then-next-kept+else-kept-next v ↦ λ within. v.if-kept-next.false
            | else-next-kept-via-else-next-kept v ↦ λ within. absurd (let past = v.if-next-kept.false in omega arith)
          ] in
          let some = w.if-others-gt0.true in
          rw (w.next-is, more)
          (chosen-other kept c.requires.kept c.args.number l.index l.next l.others l.indices.items l.invariant other c.if-next-kept.others
          (omega (arith, w.others-is))))
      | else-next-kept+else-others-gt0 w ↦ (
          let other : l.next < length kept → get_or kept l.next 0 ≢ l.index = elim w.else-next-kept.branch [
            | else-next-kept-via-then-next-kept+else-kept-next v ↦ λ within. v.if-kept-next.false
            | else-next-kept-via-else-next-kept v ↦ λ within. absurd (let past = v.if-next-kept.false in omega arith)
          ] in
          let none = w.if-others-gt0.false in
          rw (w.next-is, w.others-is, w.indices-is)
          (chosen-without kept c.requires.kept c.args.number l.index l.next l.others l.indices.items l.invariant other (omega arith)))
    ]

pub returns-clause-kept : goal.returns-clause-kept
returns-clause-kept c =
    let l = c.loop-index in
    chosen-kept_all c.args.kept.now c.requires.kept c.args.number l.index l.next l.others l.indices.items l.invariant
    c.args.count c.requires.below (omega arith)
