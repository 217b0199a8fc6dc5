use Rattle.std.proofs.Common.{◌∙◌, ◌≤◌, ℕ, List, [], length, None, ap, arith, refl, subst, sym}
use Rattle.std.proofs.lemmas.List.Elements.{All-nil}
use Rattle.std.proofs.lemmas.Result.{err_from_is_err_and}
use Rattle.s39_backup.specs.Outcome.{IsOutcome}
use Rattle.s39_input.proofs.Runs.Writing.{nothing_written}
use Rattle.s39_set.specs.Names.{Names}
use Rattle.s39_drilling.specs.Drill.{IsNext}
use Rattle.s39_drilling.specs.Watching.{AreSeen}
use Rattle.s39_drilling.proofs.Drills.Drilling.{drill_ends}
use Rattle.s39_drilling.proofs.drill.list_from.Goals as goal

pub returns-in_err-write_text-clause-lines : goal.returns-in_err-write_text-clause-lines
returns-in_err-write_text-clause-lines g c =
    let p = err_from_is_err_and c.from_residual.result c.from_residual.ensures.1 in
    rw p.1 (λ after next.
    let none = subst (IsNext c.args.set.now after) c.in_default.is next in (
      [],
      None,
      0,
      drill_ends c.args.set.now c.args.passphrase.now after c.args.limit (c.listings_join.ensures.none c.args.set.now after c.args.limit none) none,
      rw (c.as_slice.ensures.value ∙ c.last_line.ensures) at c.in_err-write_text.ensures,
    ))

pub returns-in_default-clause-lines : goal.returns-in_default-clause-lines
returns-in_default-clause-lines g c = λ after next.
    let none = subst (IsNext c.args.set.now after) c.in_default.is next in (
      [],
      None,
      drill_ends c.args.set.now c.args.passphrase.now after c.args.limit (c.listings_join.ensures.none c.args.set.now after c.args.limit none) none,
      rw (c.as_slice.ensures.value ∙ c.last_line.ensures) at c.in_ok-write_text.ensures,
    )

pub returns-in_err-write_text-clause-seen : goal.returns-in_err-write_text-clause-seen
returns-in_err-write_text-clause-seen g c =
    let p = err_from_is_err_and c.from_residual.result c.from_residual.ensures.1 in
    rw p.1 (λ after listed next is. (
      0,
      omega arith,
      refl,
      record {
        lines = [];
        quorums = refl;
        outcomes = All-nil (λ line. IsOutcome c.args.set.now line.0 c.args.passphrase.now line.1);
        mid = c.args.output.now;
        written = nothing_written g.W.Write.contents c.args.output.now;
        rest = c.as_slice.result.now;
        failed = c.in_err-write_text.ensures;
      },
    ))

pub returns-in_default-clause-seen : goal.returns-in_default-clause-seen
returns-in_default-clause-seen g c = λ after listed next is.
    let none = subst (IsNext c.args.set.now after) c.in_default.is next in
    let same = c.one_listing.ensures.once c.args.set.now after c.args.limit [] listed
    (c.listings_join.ensures.none c.args.set.now after c.args.limit none) is in
    subst (λ (l : List Names). AreSeen g.P.Watch.counts (length l) c.args.watch.now c.args.watch.now) same refl

pub returns-clause-seen : goal.returns-clause-seen
returns-clause-seen g c = λ after listed next is.
    rw c.new-memo.ensures.passphrase at c.write_drill.ensures.seen after listed (subst (IsNext c.args.set.now after) c.in-Some.is next) is

pub returns-clause-lines : goal.returns-clause-lines
returns-clause-lines g c = λ after next.
    rw c.new-memo.ensures.passphrase at c.write_drill.ensures.lines after (subst (IsNext c.args.set.now after) c.in-Some.is next)
