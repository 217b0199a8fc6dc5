use Rattle.std.proofs.Common.{◌≡◌, ◌<◌, ℕ, List, length, Option, Some, refl, sym, subst, ◌∙◌}
use Rattle.std.specs.Prelude.{IsSomeAnd}
use Rattle.std.specs.List.{slice_get}
use Rattle.std.proofs.lemmas.Bool.{eq-eqb, eqb-true, ltb-true, false≢true}
use Rattle.std.proofs.lemmas.Option.{slice_get_read}
use Rattle.s39_backup.specs.declared.plan.Members.{Members}
use Rattle.s39_backup.proofs.at_hand.may_have.Goals as goal
use Rattle.s39_backup.proofs.at_hand.may_have.Goals.{then-group_threshold-plan, else-group_threshold-plan, then-from-len, else-from-len}

pub returns-then-member_index-members : goal.returns-then-member_index-members
returns-then-member_index-members c =
    let share = c.args.share.now in
    let plan = c.args.plan.now in
    let members = c.in-Some.members.now in
    let groups = c.deref.result.now in
    let item = c.in-Some.ensures.lookup in
    let here : slice_get groups c.from.result ≡ Some members =
    slice_get_read groups (length groups) c.from.result members refl (ltb-true c.from.result (length groups) (sym item.0)) item.1 in
    let found : slice_get plan.groups.items share.group_index ≡ Some members =
    subst (λ (gs : List Members). slice_get gs share.group_index ≡ Some members) c.deref.ensures.0
    (subst (λ (i : ℕ). slice_get groups i ≡ Some members) (c.from.ensures ∙ c.group_index.ensures) here) in
    let Fits : Members → Type 0 = λ m. (share.member_index < m.count) × (share.member_threshold ≡ m.threshold) in (
      λ same.
          elim c.if-from-len.branch [
            | then-from-len w ↦ (elim c.if-group_threshold-plan.branch [
              | then-group_threshold-plan v ↦ record {
                threshold_is = sym c.group_threshold.ensures ∙ v.if-group_threshold-plan.true;
                count_is = sym v.group_count.ensures ∙ sym v.from-then-group_threshold-plan.ensures
                    ∙ eqb-true v.from-then-group_threshold-plan.result v.len.result (sym v.value-is ∙ w.if-from-len.true) ∙ v.len.ensures.value;
                member_is = subst (λ (o : Option Members). IsSomeAnd o Fits) (sym found) (
                  subst (λ (m : ℕ). m < members.count) w.member_index.ensures
                      (ltb-true w.member_index.result members.count (sym w.value-is ∙ c.if-member_index-members.true)),
                  sym c.member_threshold.ensures ∙ eqb-true c.member_threshold.result members.threshold same,
                );
              }
              | else-group_threshold-plan v ↦
                  absurd (v.if-group_threshold-plan.false (eqb-true c.group_threshold.result plan.group_threshold (sym v.value-is ∙ w.if-from-len.true)))
            ])
            | else-from-len w ↦ absurd (false≢true (sym w.if-from-len.false ∙ sym w.value-is ∙ c.if-member_index-members.true))
          ],
      λ of.
          let fits : Fits members = subst (λ (o : Option Members). IsSomeAnd o Fits) found of.member_is in
          eq-eqb c.member_threshold.result members.threshold (c.member_threshold.ensures ∙ fits.1),
    )
