use Rattle.std.proofs.Common.{◌≡◌, ◌∷◌, [], ◌++◌, length, sym, ap, ◌∙◌, arith}
use Rattle.std.proofs.lemmas.List.{length-append}
use Rattle.s39_backup.specs.declared.plan.Members.{Members}
use Rattle.s39_backup.proofs.HeldGroups.{held-with, held-without}
use Rattle.s39_backup.proofs.two_short.held_groups.Goals as goal
use Rattle.s39_backup.proofs.two_short.held_groups.Goals.{then-is_held, else-is_held}

pub loop-group-preserved : goal.loop-group-preserved
loop-group-preserved c =
    let names = c.args.names.now in
    let groups = c.args.groups.now in
    let group = c.loop-group.group in
    let blank : Members = record { threshold = 0; count = 0 } in
    let held = c.loop-group.held.items in
    elim c.if-is_held.branch [
      | then-is_held w ↦ (
          let more : c.if-is_held.held.items ≡ held ++ group ∷ [] = ap (λ v. v.items) w.held-is ∙ w.push.ensures.items in record {
            held_is = more ∙ ap (λ xs. xs ++ group ∷ []) c.loop-group.invariant.held_is
                ∙ sym (held-with names groups group blank c.loop-group-test.true (sym c.is_held.ensures ∙ w.if-is_held.true));
            short = let s = c.loop-group.invariant.short in omega (arith, ap length more, length-append held (group ∷ []));
          })
      | else-is_held w ↦ record {
        held_is = ap (λ v. v.items) w.held-is ∙ c.loop-group.invariant.held_is
            ∙ sym (held-without names groups group blank c.loop-group-test.true (sym c.is_held.ensures ∙ w.if-is_held.false));
        short = let s = c.loop-group.invariant.short in omega (arith, ap (λ v. length v.items) w.held-is);
      }
    ]
