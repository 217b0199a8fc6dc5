use Rattle.std.proofs.Common.{◌≡◌, set, inl, inr, refl, sym, ap, ◌∙◌, arith, get_or, get_or-set_same, get_or-set_other, length-set}
use Rattle.std.proofs.lemmas.Bool.{cases_lt}
use Rattle.s39_set.proofs.Ways.{with_part, table_with_part}
use Rattle.s39_set.proofs.counting.with_one_more.Goals as goal

pub loop-chosen-init : goal.loop-chosen-init
loop-chosen-init c = record {
  long = c.told-table;
  none = refl;
  done = λ k low high. absurd (omega arith);
}

pub loop-chosen-preserved : goal.loop-chosen-preserved
loop-chosen-preserved c =
    let old = c.loop-chosen.more in
    let at = c.loop-chosen.chosen in
    let value = c.sum_with_product.result in
    record {
      long = length-set old at value ∙ c.loop-chosen.invariant.long;
      none = get_or-set_other old at 0 value 0 (omega arith) ∙ c.loop-chosen.invariant.none;
      done = λ k low high.
          elim (cases_lt k at) [
            | inl earlier ↦ get_or-set_other old at k value 0 (omega arith) ∙ c.loop-chosen.invariant.done k low earlier
            | inr here ↦ (let same : k ≡ at = omega arith in
                ap (λ i. get_or (set old at value) i 0) same ∙ get_or-set_same old at value 0 (let long = c.loop-chosen.invariant.long in omega arith)
                ∙ c.sum_with_product.ensures ∙ ap (with_part c.args.table.now c.args.uses) (sym same))
          ];
    }

pub returns-clause-length : goal.returns-clause-length
returns-clause-length c = c.loop-chosen.invariant.long

pub returns-clause-ways : goal.returns-clause-ways
returns-clause-ways c others more are uses =
    table_with_part c.args.table.now others c.args.uses more c.loop-chosen.more are uses c.loop-chosen.invariant.none
    (λ k low high. c.loop-chosen.invariant.done k low (omega arith))
