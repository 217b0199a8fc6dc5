-- Worked examples: plans, and names of their shares.
use Rattle.std.specs.Prelude.{ℕ, List, [], ◌∷◌}
use Rattle.s39_backup.specs.declared.plan.Members.{Members}

-- a group of so many members, of which so many are needed
abbrev pub group_of : ℕ → ℕ → Members
group_of threshold count = record { threshold = threshold; count = count }

-- the groups of `3of5`
abbrev pub one_group : List Members
one_group = group_of 3 5 ∷ []

-- the groups of `2/2of3,1of1,1of1`
abbrev pub home_and_two : List Members
home_and_two = group_of 2 3 ∷ group_of 1 1 ∷ group_of 1 1 ∷ []

-- the groups of `2/3of5,1of1,1of1`
abbrev pub family_and_two : List Members
family_and_two = group_of 3 5 ∷ group_of 1 1 ∷ group_of 1 1 ∷ []

-- the groups of `3/3of5,2of3,1of1,1of1`
abbrev pub four_groups : List Members
four_groups = group_of 3 5 ∷ group_of 2 3 ∷ group_of 1 1 ∷ group_of 1 1 ∷ []
