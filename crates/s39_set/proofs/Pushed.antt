-- Members of a group that stand behind names of earlier ones.
use Rattle.std.proofs.Common.{◌≡◌, ◌<◌, ℕ, filter, take, All, Less, refl}
use Rattle.std.specs.List.{range_with_len}
use Rattle.std.proofs.lemmas.List.Elements.{All-map, All-take, All-weaker}
use Rattle.s39_set.specs.declared.masks.Masks.{Masks}
use Rattle.s39_set.specs.Names.{Names, name_cmp, most_members}
use Rattle.s39_set.specs.Masks.{is_in}
use Rattle.s39_set.specs.Steps.{members_from}
use Rattle.s39_set.proofs.Ascending.{name_cmp_groups}

-- they are of the group
pub members-group : (masks : Masks) (group many : ℕ) → All (λ n. n.0 ≡ group) (take many (members_from masks group 0))
members-group masks group many =
    All-take (λ n. n.0 ≡ group) many (members_from masks group 0)
    (All-map (λ n. n.0 ≡ group) (λ member. (group, member)) (filter (is_in masks group) (range_with_len 0 most_members)) (λ k d below. refl))

-- names of earlier groups come before its first
pub before_first : (group : ℕ) (names : Names) → All (λ n. n.0 < group) names → All (λ n. name_cmp n (group, 0) ≡ Less) names
before_first group names earlier = All-weaker (λ n. n.0 < group) (λ n. name_cmp n (group, 0) ≡ Less) (λ n less. name_cmp_groups n (group, 0) less) names earlier
