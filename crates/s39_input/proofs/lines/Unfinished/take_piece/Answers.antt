use Rattle.std.proofs.Common.{◌≡◌, ◌+◌, ◌-◌, ◌==◌, true, [], ◌∷◌, ◌++◌, length, take, drop, get_or, append_assoc, sym, ap, subst, ◌∙◌, arith, refl}
use Rattle.std.specs.Prelude.{◌≢◌}
use Rattle.std.proofs.lemmas.Bool.Decides.{nat_tests}
use Rattle.std.proofs.lemmas.List.Elements.{All-from_get_or}
use Rattle.std.proofs.lemmas.Result.{err_from_is_err_and}
use Rattle.s39_input.specs.Midway.{IsMidway, StopsWithin, ReachesOrStops}
use Rattle.s39_input.proofs.Taking.PartsBetweenLineFeeds.{done_to}
use Rattle.s39_input.proofs.Taking.Reading.{stops_in_piece}
use Rattle.s39_input.proofs.lines.Unfinished.take_piece.Goals as goal

pub returns-in_err-end_line-clause-taken : goal.returns-in_err-end_line-clause-taken
returns-in_err-end_line-clause-taken g c = λ came first m.
    let p = err_from_is_err_and c.from_residual.result c.from_residual.ensures.1 in
    let done = c.loop-end.invariant.taken.0 in
    let rest = c.loop-end.rest.now in
    let end = c.in-Some.end in
    let part = take end rest in
    let feed : get_or rest end 0 ≡ 10 = let passes = c.in-Some.ensures.1 in grind (arith, nat_tests) in
    let stopped = c.in_err-end_line.ensures.taken (came ++ done) first (c.loop-end.invariant.taken.2 came first m) in
    let bytes : ((came ++ done) ++ part) ++ 10 ∷ [] ≡ came ++ (done ++ (part ++ 10 ∷ [])) =
    append_assoc (came ++ done) part (10 ∷ []) ∙ append_assoc came done (part ++ 10 ∷ []) in
    rw (p.1, p.2)
    (stops_in_piece g.T.TakeLine.takes came c.args.piece.now (done ++ (part ++ 10 ∷ [])) (take (length rest - (end + 1)) (drop (end + 1) rest))
    c.in_err-end_line.field-0.0 first c.end_line.new.taker
    (done_to c.args.piece.now done rest end c.loop-end.invariant.taken.1 c.in-Some.ensures.0.high feed)
    (subst (λ bytes. StopsWithin g.T.TakeLine.takes bytes first c.end_line.new.taker c.in_err-end_line.field-0.0) bytes stopped))

pub loop-end-preserved : goal.loop-end-preserved
loop-end-preserved g c =
    let done = c.loop-end.invariant.taken.0 in
    let rest = c.loop-end.rest.now in
    let end = c.in-Some.end in
    let part = take end rest in
    let feed : get_or rest end 0 ≡ 10 = let passes = c.in-Some.ensures.1 in grind (arith, nat_tests) in
    record {
      can_take = c.in_ok-end_line.ensures.ready;
      taken = (
        done ++ (part ++ 10 ∷ []),
        done_to c.args.piece.now done rest end c.loop-end.invariant.taken.1 c.in-Some.ensures.0.high feed,
        λ came first m.
            subst (λ bytes. IsMidway g.T.TakeLine.takes bytes c.end_line.new.self.line.items c.end_line.new.self.number first c.end_line.new.taker)
            (append_assoc (came ++ done) part (10 ∷ []) ∙ append_assoc came done (part ++ 10 ∷ []))
            (c.in_ok-end_line.ensures.taken (came ++ done) first (c.loop-end.invariant.taken.2 came first m)),
      );
    }

pub keep-requires : goal.keep-requires
keep-requires g c =
    All-from_get_or (λ b. b ≢ 10) c.loop-end.rest.now 0 (λ k within e.
    let passes : (get_or c.loop-end.rest.now k 0 == 10) ≡ true = rw e refl in
    c.in_default.ensures k (omega arith) within passes)

pub returns-clause-taken : goal.returns-clause-taken
returns-clause-taken g c = λ came first m.
    let done = c.loop-end.invariant.taken.0 in
    subst (λ bytes. ReachesOrStops g.T.TakeLine.takes bytes c.keep.new.self.line.items c.keep.new.self.number first c.loop-end.taker c.keep.result)
    (append_assoc came done c.loop-end.rest.now ∙ ap (λ bytes. came ++ bytes) (sym c.loop-end.invariant.taken.1))
    (c.keep.ensures.taken (came ++ done) first c.loop-end.taker (c.loop-end.invariant.taken.2 came first m))
