use Rattle.std.proofs.Common.{◌≡◌, ◌∷◌, [], ◌++◌, length, get_or, sym, ap, ◌∙◌, arith}
use Rattle.std.proofs.lemmas.List.{length-append}
use Rattle.s39_backup.specs.declared.plan.Members.{Members}
use Rattle.s39_backup.proofs.OtherGroups.{other-with, other-without}
use Rattle.s39_backup.proofs.at_hand.other_groups.Goals as goal
use Rattle.s39_backup.proofs.at_hand.other_groups.Goals.{then-is_other, else-is_other}

pub loop-place-preserved : goal.loop-place-preserved
loop-place-preserved c =
    let set = c.args.set.now in
    let groups = c.args.groups.now in
    let place = c.loop-place.place in
    let blank : Members = record { threshold = 0; count = 0 } in
    let others = c.loop-place.others.items in
    elim c.if-is_other.branch [
      | then-is_other w ↦ (
          let more : c.if-is_other.others.items ≡ others ++ (place, get_or groups place blank) ∷ [] =
          ap (λ v. v.items) w.others-is ∙ w.push.ensures.items in record {
            others_are = more ∙ ap (λ xs. xs ++ (place, get_or groups place blank) ∷ []) c.loop-place.invariant.others_are
                ∙ sym (other-with set c.args.group groups place blank c.loop-place-test.true (sym c.is_other.ensures ∙ w.if-is_other.true));
            short = let s = c.loop-place.invariant.short in omega (arith, ap length more, length-append others ((place, get_or groups place blank) ∷ []));
          })
      | else-is_other w ↦ record {
        others_are = ap (λ v. v.items) w.others-is ∙ c.loop-place.invariant.others_are
            ∙ sym (other-without set c.args.group groups place blank c.loop-place-test.true (sym c.is_other.ensures ∙ w.if-is_other.false));
        short = let s = c.loop-place.invariant.short in omega (arith, ap (λ v. length v.items) w.others-is);
      }
    ]
