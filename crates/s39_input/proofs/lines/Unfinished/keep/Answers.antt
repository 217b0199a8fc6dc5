use Rattle.std.proofs.Common.{◌≡◌, ◌+◌, ◌<◌, ◌≤◌, ◌++◌, Err, length, refl, sym, subst, rules}
use Rattle.s39_input.specs.Midway.{IsMidway}
use Rattle.s39_input.proofs.Taking.Reading.{midway_after_part, stops_too_long}
use Rattle.s39_input.proofs.lines.Unfinished.keep.Goals as goal

pub returns-then-is_ok-clause-taken : goal.returns-then-is_ok-clause-taken
returns-then-is_ok-clause-taken g c = λ came first now m.
    let line = c.args.self.now.line.items in
    let part = c.args.part.now in
    let items : c.try_extend_from_slice.new.self.items ≡ line ++ part = search rules in
    let room : length line + length part ≤ 1024 = search rules in
    subst (λ u. IsMidway g.T.TakeLine.takes (came ++ part) u c.args.self.now.number first now) (sym items)
    (midway_after_part g.T.TakeLine.takes came line part c.args.self.now.number first now m c.requires room)

pub returns-else-is_ok-clause-taken : goal.returns-else-is_ok-clause-taken
returns-else-is_ok-clause-taken g c = λ came first now m.
    let line = c.args.self.now.line.items in
    let part = c.args.part.now in
    let full : 1024 < length line + length part = search rules in
    stops_too_long g.T.TakeLine.takes came line part c.args.self.now.number (record { number = c.args.self.now.number; refusal = c.too_long.result })
    first now m c.requires full
    (λ line long. subst (λ r. g.T.TakeLine.takes now line (Err r) now) (sym c.too_long.ensures) (g.met.T.TakeLine.refuses_long now line long)) refl
