use Rattle.std.proofs.Common.{◌≡◌, ◌-◌, ◌≤◌, ◌⊎◌, ℕ, suc, List, [], length, Result, refl, sym, Option, Some, inl, inr, is_some, not, false, ap, ◌∙◌, subst, arith}
use Rattle.std.proofs.lemmas.Result.{err_from_is_err_and}
use Rattle.std.specs.Option.{option_copied}
use Rattle.s39_set.specs.Names.{Names}
use Rattle.s39_set.specs.Listing.{IsListing}
use Rattle.s39_set.specs.Quorums.{IsFirstQuorumAfter}
use Rattle.s39_backup.specs.declared.combination.Mismatch.{Mismatch}
use Rattle.s39_backup.specs.Outcome.{IsOutcome}
use Rattle.s39_drilling.specs.Drill.{last_line, quorum_line, in_bytes, IsDrill, IsNext}
use Rattle.s39_drilling.specs.Slices.{more_after}
use Rattle.s39_drilling.specs.Watching.{AreSeen, SeesListing}
use Rattle.s39_drilling.proofs.Drills.Drilling.{IsDrilling, drill_over, more_is}
use Rattle.s39_drilling.proofs.Drills.Counts.{mismatch_most}
use Rattle.s39_drilling.proofs.Drills.Watching.{IsCounting, counting_ends, counting_fails, counting_fails_last, counting_goes_on, counting_starts, listing_over, seen_more}
use Rattle.s39_drilling.proofs.Drills.Drilling.{drilling_starts, drilling_fails, drilling_goes_on, drilling_ends, drilling_fails_last}
use Rattle.s39_drilling.proofs.drill.write_drill.Given.{Over}
use Rattle.s39_drilling.proofs.drill.write_drill.Goals.{After-write_text, After-write_text-then-left-eq0}
use Rattle.s39_drilling.proofs.drill.write_drill.Goals.{then-left-eq0-via-then-left-eq0, then-left-eq0-via-else-left-eq0+then-is_none}
use Rattle.s39_drilling.proofs.drill.write_drill.Goals as goal

pub loop-outcome-init : goal.loop-outcome-init
loop-outcome-init g c = record {
  drilling = drilling_starts c.requires.quorum;
  some = c.requires.some;
  counted = omega arith;
  looks = omega (arith, c.new-looks.ensures);
  passphrase = refl;
  params = c.requires.params;
  counting = counting_starts c.args.output.now c.args.set.now c.args.memo.now.passphrase c.args.start c.args.limit;
  seen =
      let none : 0 ≡ c.args.limit - c.args.limit = omega arith in
      subst (λ (n : ℕ). AreSeen g.P.Watch.counts n c.args.watch.now c.args.watch.now) none refl;
}

-- what is known of a quorum whose line goes to the writer
module _ (g : Over) (c : After-write_text g) where
  abbrev outcome : Result (List ℕ) Mismatch
  outcome = in_bytes c.outcome_of-outcome.result

  -- the text before it
  drilling : IsDrilling g.W.Write.contents c.args.output.now c.loop-outcome.output c.args.form c.args.set.now c.args.memo.now.passphrase c.args.start c.args.limit
      c.loop-outcome.quorum (suc (c.loop-outcome.left - 1)) c.loop-outcome.mismatches
  drilling =
      let inv = c.loop-outcome.invariant in
      subst (λ n. IsDrilling g.W.Write.contents c.args.output.now c.loop-outcome.output c.args.form c.args.set.now c.args.memo.now.passphrase
      c.args.start c.args.limit c.loop-outcome.quorum n c.loop-outcome.mismatches) (omega (arith, inv.some)) inv.drilling

  is_outcome : IsOutcome c.args.set.now c.loop-outcome.quorum c.args.memo.now.passphrase outcome
  is_outcome =
      subst (λ p. IsOutcome c.args.set.now c.loop-outcome.quorum p outcome) c.loop-outcome.invariant.passphrase c.outcome_of-outcome.ensures.outcome

  line : c.as_slice.result.now ≡ quorum_line c.args.form (c.loop-outcome.quorum, outcome)
  line = c.as_slice.ensures.value ∙ c.quorum_line.ensures

  -- it is the next that is listed
  counting : IsCounting g.W.Write.contents c.args.output.now c.loop-outcome.output c.args.form c.args.set.now c.args.memo.now.passphrase c.args.start
      c.args.limit c.loop-outcome.quorum (suc (c.loop-outcome.left - 1))
  counting =
      let inv = c.loop-outcome.invariant in
      subst (λ n. IsCounting g.W.Write.contents c.args.output.now c.loop-outcome.output c.args.form c.args.set.now c.args.memo.now.passphrase c.args.start
      c.args.limit c.loop-outcome.quorum n) (omega (arith, inv.some)) inv.counting

-- what is known of the last line
module _ (g : Over) (c : After-write_text-then-left-eq0 g) where
  abbrev more : Option Names
  more = more_after c.loop-outcome.quorum c.following-next.result

  done : (c.loop-outcome.left - 1 ≡ 0) ⊎ (is_some c.following-next.result ≡ false)
  done = elim c.then-left-eq0.branch [
    | then-left-eq0-via-then-left-eq0 w ↦ inl w.if-left-eq0.true
    | then-left-eq0-via-else-left-eq0+then-is_none w ↦ inr (w.is_none.ensures ∙ ap not w.if-is_none.true)
  ]

  -- no line comes before it
  over : IsDrill c.args.form c.args.set.now c.args.memo.now.passphrase (Some c.loop-outcome.quorum) (c.loop-outcome.left - 1) [] more 0
  over = drill_over c.drill_laws.ensures c.args.set.now c.args.memo.now.passphrase c.requires.is_set c.loop-outcome.quorum c.following-next.result
      (c.loop-outcome.left - 1) c.following-next.ensures.next done

  -- no quorum is listed after it
  none : IsListing c.args.set.now (Some c.loop-outcome.quorum) (c.loop-outcome.left - 1) []
  none = listing_over c.drill_laws.ensures c.args.set.now c.requires.is_set c.loop-outcome.quorum c.following-next.result (c.loop-outcome.left - 1)
      c.following-next.ensures.next done

  -- it is told of too
  seen : AreSeen g.P.Watch.counts (c.args.limit - (c.loop-outcome.left - 1)) c.args.watch.now c.listed.new.self
  seen =
      let inv = c.loop-outcome.invariant in
      seen_more g.P.Watch.counts (c.args.limit - c.loop-outcome.left) (c.args.limit - (c.loop-outcome.left - 1)) c.args.watch.now c.loop-outcome.watch
      c.listed.new.self (omega (arith, inv.some, inv.counting.few)) inv.seen c.listed.ensures

  last : c.as_slice-then-left-eq0.result.now ≡ last_line more
  last = c.as_slice-then-left-eq0.ensures.value ∙ c.last_line-last.ensures
      ∙ ap last_line (ap option_copied c.then_some.ensures ∙ more_is _ c.following-next.result c.is_some.result c.is_some.ensures)

pub loop-outcome-preserved : goal.loop-outcome-preserved
loop-outcome-preserved g c =
    let inv = c.loop-outcome.invariant in
    let at = (goal.at.loop-outcome-preserved g c).After-write_text in
    let first : IsFirstQuorumAfter c.args.set.now (Some c.loop-outcome.quorum) c.unwrap-quorum.result =
    subst (IsNext c.args.set.now (Some c.loop-outcome.quorum)) c.unwrap-quorum.ensures c.following-next.ensures.next in
    let some = c.if-left-eq0.false in
    record {
      drilling =
          rw c.mismatch_in-mismatches.ensures (drilling_goes_on c.drill_laws.ensures (outcome g at) (drilling g at) (is_outcome g at)
          (rw (line g at) at c.in_ok-write_text.ensures) c.unwrap-quorum.result first);
      some = omega (arith, inv.some);
      counted = let counted = c.mismatch_in-mismatches.ensures in let few = mismatch_most c.args.form (outcome g at) in omega (arith, inv.counted, inv.some);
      looks = let more = c.following-next.ensures.looks in omega (arith, inv.looks, inv.some);
      passphrase = c.outcome_of-outcome.ensures.passphrase ∙ inv.passphrase;
      params = rw c.outcome_of-outcome.ensures.params inv.params;
      counting = counting_goes_on c.drill_laws.ensures (counting g at) (outcome g at) (is_outcome g at) c.write_text.new.output
          (rw (line g at) at c.in_ok-write_text.ensures) c.unwrap-quorum.result first;
      seen = seen_more g.P.Watch.counts (c.args.limit - c.loop-outcome.left) (c.args.limit - (c.loop-outcome.left - 1)) c.args.watch.now c.loop-outcome.watch
          c.listed.new.self (omega (arith, inv.some, inv.counting.few)) inv.seen c.listed.ensures;
    }

pub returns-in_err-write_text-clause-lines : goal.returns-in_err-write_text-clause-lines
returns-in_err-write_text-clause-lines g c =
    let at = (goal.at.returns-in_err-write_text-clause-lines g c).After-write_text in
    let p = err_from_is_err_and c.from_residual.result c.from_residual.ensures.1 in
    rw p.1 (drilling_fails c.drill_laws.ensures (outcome g at) (drilling g at) (is_outcome g at) c.requires.is_set
    (rw (line g at) at c.in_err-write_text.ensures))

pub returns-in_err-write_text-2-clause-lines : goal.returns-in_err-write_text-2-clause-lines
returns-in_err-write_text-2-clause-lines g c =
    let at = (goal.at.returns-in_err-write_text-2-clause-lines g c).After-write_text in
    let end = (goal.at.returns-in_err-write_text-2-clause-lines g c).After-write_text-then-left-eq0 in
    let p = err_from_is_err_and c.from_residual-in_err-write_text-2.result c.from_residual-in_err-write_text-2.ensures.1 in
    rw p.1 (λ after first. drilling_fails_last c.drill_laws.ensures (outcome g at) (drilling g at) (is_outcome g at)
    (rw (line g at) at c.in_ok-write_text.ensures) (more g end) (over g end) c.write_text-then-left-eq0.new.output after first
    (rw (last g end) at c.in_err-write_text-2.ensures))

pub returns-then-left-eq0-clause-lines : goal.returns-then-left-eq0-clause-lines
returns-then-left-eq0-clause-lines g c =
    let at = (goal.at.returns-then-left-eq0-clause-lines g c).After-write_text in
    let end = (goal.at.returns-then-left-eq0-clause-lines g c).After-write_text-then-left-eq0 in
    rw c.mismatch_in-mismatches.ensures (λ after first. drilling_ends c.drill_laws.ensures (outcome g at) (drilling g at) (is_outcome g at)
    (rw (line g at) at c.in_ok-write_text.ensures) (more g end) (over g end) c.write_text-then-left-eq0.new.output after first
    (rw (last g end) at c.in_ok-write_text-2.ensures))

-- ---- how many are told of

pub returns-in_err-write_text-clause-seen : goal.returns-in_err-write_text-clause-seen
returns-in_err-write_text-clause-seen g c =
    let at = (goal.at.returns-in_err-write_text-clause-seen g c).After-write_text in
    let inv = c.loop-outcome.invariant in
    let p = err_from_is_err_and c.from_residual.result c.from_residual.ensures.1 in
    let same : suc (c.loop-outcome.left - 1) ≡ c.loop-outcome.left = omega (arith, inv.some) in
    rw p.1 (λ after listed first is.
    let fails = counting_fails c.drill_laws.ensures (counting g at) after first listed is c.requires.is_set _ c.write_text.new.output
    (rw (line g at) at c.in_err-write_text.ensures) in (
      c.args.limit - suc (c.loop-outcome.left - 1),
      fails.0,
      subst (λ n. AreSeen g.P.Watch.counts (c.args.limit - n) c.args.watch.now c.loop-outcome.watch) (sym same) inv.seen,
      fails.1,
    ))

pub returns-in_err-write_text-2-clause-seen : goal.returns-in_err-write_text-2-clause-seen
returns-in_err-write_text-2-clause-seen g c =
    let at = (goal.at.returns-in_err-write_text-2-clause-seen g c).After-write_text in
    let end = (goal.at.returns-in_err-write_text-2-clause-seen g c).After-write_text-then-left-eq0 in
    let p = err_from_is_err_and c.from_residual-in_err-write_text-2.result c.from_residual-in_err-write_text-2.ensures.1 in
    rw p.1 (λ after listed first is. (
      c.args.limit - (c.loop-outcome.left - 1),
      (let few = counting_ends c.drill_laws.ensures (counting g at) (outcome g at) (is_outcome g at) c.write_text.new.output
          (rw (line g at) at c.in_ok-write_text.ensures) after first listed is (none g end) in omega (arith, few)),
      seen g end,
      counting_fails_last c.drill_laws.ensures (counting g at) (outcome g at) (is_outcome g at) c.write_text.new.output
          (rw (line g at) at c.in_ok-write_text.ensures) after first listed is (none g end) _ c.write_text-then-left-eq0.new.output
          c.in_err-write_text-2.ensures,
    ))

pub returns-then-left-eq0-clause-seen : goal.returns-then-left-eq0-clause-seen
returns-then-left-eq0-clause-seen g c = λ after listed first is.
    let at = (goal.at.returns-then-left-eq0-clause-seen g c).After-write_text in
    let end = (goal.at.returns-then-left-eq0-clause-seen g c).After-write_text-then-left-eq0 in
    subst (λ (n : ℕ). AreSeen g.P.Watch.counts n c.args.watch.now c.listed.new.self)
    (counting_ends c.drill_laws.ensures (counting g at) (outcome g at) (is_outcome g at) c.write_text.new.output
    (rw (line g at) at c.in_ok-write_text.ensures) after first listed is (none g end)) (seen g end)
