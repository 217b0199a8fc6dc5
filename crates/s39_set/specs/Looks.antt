-- How many looks a call adds: questions whether a set has a share, and turns of loops. Each loop runs to its end, except
-- the search for a greater quorum, which stops at the place at which its answer differs from the given names.
use Rattle.std.specs.Prelude.{ℕ, ◌+◌, ◌-◌, ◌*◌, ◌==◌, ◌&&◌, [], ◌∷◌, length, drop, sum_by, Option, Some, None}
use Rattle.std.specs.Prelude.{Result, Ok, Err, slice_index_or, if◌then◌else◌}
use Rattle.s39_set.specs.declared.next.NotAQuorum.{NotAQuorum}
use Rattle.s39_set.specs.Names.{Name, Names, most_groups, most_members, most_names}

-- the test whether names are a quorum adds at most this number
abbrev pub most_test_looks : ℕ
most_test_looks = 1024

-- and the step to the next quorum
abbrev pub most_step_looks : ℕ
most_step_looks = 16384

-- the test: for each name a turn and a question, and a turn where its group's names are counted; for each group a turn
abbrev pub test_looks : Names → ℕ
test_looks names = 3 * length names + most_groups

-- What a step finds out before it searches: a turn and a question for each name that there is, a turn for each group and
-- each member of it, and two for each of these names.
abbrev pub context_looks : Names → ℕ
context_looks names = 2 * most_names + most_groups * (1 + most_members) + 2 * length names

-- how many members there may be above a name in its group
abbrev pub later_members : Name → ℕ
later_members name = most_members - (name.1 + 1)

-- how many groups there may be above a name's
abbrev pub later_groups : Name → ℕ
later_groups name = most_groups - (name.0 + 1)

-- whether a greater name can stand in the place of one: a turn, and one for each later member and each later group
abbrev pub place_looks : Name → ℕ
place_looks name = 1 + later_members name + later_groups name

-- the names before a place, and the least that can be there and after it: a turn for each name before, two for each
-- later member, and for each later group two and one for each of its members
abbrev pub completion_looks : ℕ → Name → ℕ
completion_looks place name = place + 2 * later_members name + (2 + most_members) * later_groups name

-- how many names two lists begin with in common
abbrev pub common_names : Names → Names → ℕ
common_names [] others = 0
common_names (x ∷ xs) [] = 0
common_names (x ∷ xs) (y ∷ ys) = if (x.0 == y.0) && (x.1 == y.1) then 1 + common_names xs ys else 0

-- a step from these names, by its answer: the places of the names are tried from the last one back, to the one at which the
-- answer differs, or to the first
abbrev pub step_looks : Names → Result (Option Names) NotAQuorum → ℕ
step_looks names (Err _) = test_looks names
step_looks names (Ok None) = test_looks names + context_looks names + sum_by place_looks names
step_looks names (Ok (Some next)) =
    let place = common_names names next in
    test_looks names + context_looks names + sum_by place_looks (drop place names) + completion_looks place (slice_index_or names place (0, 0))
