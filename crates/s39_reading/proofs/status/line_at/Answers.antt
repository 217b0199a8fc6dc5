use Rattle.std.proofs.Common.{◌≡◌, ◌-◌, ◌∙◌, ℕ, suc, List, [], get_or, sym, ap, arith, rules}
use Rattle.std.proofs.lemmas.List.FromFn.{get_or-map-range_with_len}
use Rattle.s39_set.specs.Names.{most_groups}
use Rattle.s39_set.specs.Status.{group_status_of}
use Rattle.s39_reading.specs.Status.{group_text, lines_of_status}
use Rattle.s39_reading.proofs.status.line_at.Goals as goal

pub returns-else-index-eq0 : goal.returns-else-index-eq0
returns-else-index-eq0 c =
    let set = c.args.set.now in
    let index = c.args.index in
    let group : ℕ → List ℕ = λ g. group_text (group_status_of set g) in
    let place : index ≡ suc (index - 1) = omega (arith, c.if-index-eq0.false) in
    let is : c.group_text.result.items ≡ group (index - 1) = search rules in
    is
    ∙ sym (get_or-map-range_with_len group 0 most_groups (index - 1) (index - 1) [] (omega (arith, c.requires, place)) (omega arith))
    ∙ ap (λ k. get_or (lines_of_status set c.args.status) k []) (sym place)
