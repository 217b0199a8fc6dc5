use Rattle.std.proofs.Common.{◌≡◌, ◌-◌, ◌<◌, suc, length, get_or, drop, sum_by, Some, Ok, inl, inr, refl, sym, ap, subst, ◌∙◌, arith}
use Rattle.std.proofs.Common.{drop-cons}
use Rattle.std.proofs.lemmas.Bool.{cases_eq}
use Rattle.std.proofs.lemmas.List.Sums.{sum_by-cons}
use Rattle.s39_set.specs.Looks.{place_looks, step_looks}
use Rattle.s39_set.specs.Steps.{replacement_names}
use Rattle.s39_set.specs.Quorums.{IsQuorum, IsFirstQuorumAfter, HasNoQuorumAfter}
use Rattle.s39_set.proofs.StepLooks.{step_looks_next}
use Rattle.s39_set.proofs.StepOf.{IsFullAt, full_at, none_next, first_next, later_next}
use Rattle.s39_set.proofs.next.next_after.Goals as goal

pub returns-in-Some-clause-next : goal.returns-in-Some-clause-next
returns-in-Some-clause-next c =
    let shares = c.args.set.now in
    let Q = c.pairs-names.result.now in
    let is = c.if-not-is_quorum.ensures.is_set refl in
    let quorum : IsQuorum shares Q = subst (IsQuorum shares) (sym c.pairs-names.ensures.same) (c.if-not-is_quorum.ensures.quorum.0 refl) in
    let first =
    first_next shares is Q quorum c.of-context.result c.of-context.ensures.knows (c.loop-position.position - 1) (omega arith)
    (λ j from below. c.loop-position.invariant.full is quorum j (omega arith) below) c.in-Some.replacement c.in-Some.ensures.replacement in
    subst (λ q. IsFirstQuorumAfter shares (Some q) c.completed.result) c.pairs-names.ensures.same
    (subst (IsFirstQuorumAfter shares (Some Q)) (sym c.completed.ensures.names) first)

pub loop-position-preserved : goal.loop-position-preserved
loop-position-preserved c =
    let shares = c.args.set.now in
    let Q = c.pairs-names.result.now in
    let i = c.loop-position.position - 1 in
    let below : i < length Q = omega arith in
    record {
      full = λ is quorum j from short.
          elim (cases_eq i j) [
            | inl here ↦ subst (IsFullAt shares is Q quorum) here
                (full_at shares is Q quorum c.of-context.result c.of-context.ensures.knows i below c.in_default.ensures.replacement)
            | inr later ↦ c.loop-position.invariant.full is quorum j (omega arith) short
          ];
      upto = omega arith;
      looks_are =
          (let more = ap (sum_by place_looks) (drop-cons Q i (0, 0) below) ∙ sum_by-cons place_looks (get_or Q i (0, 0)) (drop (suc i) Q) in
          let here = ap (λ k. sum_by place_looks (drop k Q)) (let next : suc i ≡ c.loop-position.position = omega arith in next) in
          omega arith);
      at_most = omega arith;
    }

pub returns-in-Some-clause-looks : goal.returns-in-Some-clause-looks
returns-in-Some-clause-looks c =
    let Q = c.pairs-names.result.now in
    let i = c.loop-position.position - 1 in
    let below : i < length Q = omega arith in
    let x = get_or Q i (0, 0) in
    let replacement = replacement_names c.args.set.now c.of-context.result x c.in-Some.replacement in
    let quorum : IsQuorum c.args.set.now Q = subst (IsQuorum c.args.set.now) (sym c.pairs-names.ensures.same) (c.if-not-is_quorum.ensures.quorum.0 refl) in
    let later =
    later_next c.args.set.now (c.if-not-is_quorum.ensures.is_set refl) Q quorum c.of-context.result c.of-context.ensures.knows i below c.in-Some.replacement
    c.in-Some.ensures.replacement in
    let sum = step_looks_next Q c.completed.result replacement i below c.completed.ensures.names later in
    let given = ap (λ q. step_looks q (Ok (Some c.completed.result))) c.pairs-names.ensures.same in
    let here = ap (λ k. sum_by place_looks (drop k Q)) (let next : suc i ≡ c.loop-position.position = omega arith in next) in
    omega arith

pub returns-clause-last : goal.returns-clause-last
returns-clause-last c = λ _.
    let shares = c.args.set.now in
    let Q = c.pairs-names.result.now in
    let is = c.if-not-is_quorum.ensures.is_set refl in
    let quorum : IsQuorum shares Q = subst (IsQuorum shares) (sym c.pairs-names.ensures.same) (c.if-not-is_quorum.ensures.quorum.0 refl) in
    subst (λ q. HasNoQuorumAfter shares (Some q)) c.pairs-names.ensures.same
    (none_next shares is Q quorum (λ j below. c.loop-position.invariant.full is quorum j (omega arith) below))
