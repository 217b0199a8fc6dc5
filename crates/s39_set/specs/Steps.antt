-- What a step to the next quorum knows. No public contract cites this.
use Rattle.std.specs.Prelude.{◌≡◌, ℕ, ◌+◌, ◌-◌, ◌<◌, Bool, true, false, List, length, map, take, filter, Contains}
use Rattle.std.specs.Prelude.{IsTrue, ◌↔◌, ◌++◌, Option, Some, None, nat_lt, unwrap_or, slice_index_or}
use Rattle.std.specs.List.{range_with_len, flat_map}
use Rattle.s39_words.specs.declared.share.ShareFields.{ShareFields}
use Rattle.s39_set.specs.declared.masks.Masks.{Masks}
use Rattle.s39_set.specs.declared.next.StepContext.{StepContext}
use Rattle.s39_set.specs.declared.next.Replacement.{Replacement}
use Rattle.s39_set.specs.declared.next.Replacement.TheVariants.{Group, LaterGroups}
use Rattle.s39_set.specs.Names.{Name, Names, most_groups, most_members, names_in_group}
use Rattle.s39_set.specs.Groups.{is_complete, groups_above}
use Rattle.s39_set.specs.ShareSet.{name_of}
use Rattle.s39_set.specs.Quorums.{member_threshold_of}
use Rattle.s39_set.specs.Masks.{is_in}

-- the name at a position of a list
abbrev pub name_at : Names → ℕ → Name
name_at names position = slice_index_or names position (0, 0)

-- how many names before a position are of the group of the name there
abbrev pub earlier_of_group : Names → ℕ → ℕ
earlier_of_group names position = length (names_in_group (name_at names position).0 (take position names))

-- the masks have exactly these names
abbrev pub AreMasksOf : Masks → Names → Type 0
AreMasksOf masks names = (g m : ℕ) → g < most_groups → m < most_members → (IsTrue (is_in masks g m) ↔ Contains names (g, m))

-- the names of a group's members, from one on, that are in the masks
abbrev pub members_from : Masks → ℕ → ℕ → Names
members_from masks group a = map (λ member. (group, member)) (filter (is_in masks group) (range_with_len a (most_members - a)))

-- the first members of a group in the masks, as many as its threshold asks
abbrev pub members_taken : List ShareFields → Masks → ℕ → Names
members_taken set masks group = take (unwrap_or (member_threshold_of set group) 0) (members_from masks group 0)

-- the first complete groups, from one on
abbrev pub groups_from : List Bool → ℕ → List ℕ
groups_from complete a = filter (λ g. slice_index_or complete g false) (range_with_len a (most_groups - a))

-- the first members of this number of complete groups, from one on
abbrev pub groups_taken : List ShareFields → StepContext → ℕ → ℕ → Names
groups_taken set context a wanted = flat_map (members_taken set context.at_hand) (take wanted (groups_from context.complete a))

-- the table says which groups of a set are complete
abbrev pub AreCompleteGroups : List Bool → List ShareFields → Type 0
AreCompleteGroups complete set = (g : ℕ) → g < most_groups
    → slice_index_or complete g false ≡ is_complete (member_threshold_of set) (map name_of set) g

-- the table says how many of the names each group has
abbrev pub AreCounts : List ℕ → Names → Type 0
AreCounts members names = (g : ℕ) → g < most_groups → slice_index_or members g 0 ≡ length (names_in_group g names)

-- what is known of a set and of names
pub record Knows (set : List ShareFields) (names : Names) (context : StepContext) : Type 0 where
  pub at_hand : AreMasksOf context.at_hand (map name_of set)
  pub chosen : AreMasksOf context.chosen names
  pub complete : AreCompleteGroups context.complete set
  pub members : AreCounts context.members names

-- some member of a name's group above it is at hand and not chosen
abbrev pub HasSpareMember : Masks → Masks → Name → Type 0
HasSpareMember at_hand chosen x =
    (m : ℕ) × ((x.1 < m) × (m < most_members) × IsTrue (is_in at_hand x.0 m) × (is_in chosen x.0 m ≡ false))

-- all that are at hand are chosen
abbrev pub AllAreChosen : Masks → Masks → Name → Type 0
AllAreChosen at_hand chosen x =
    (m : ℕ) → x.1 < m → m < most_members → IsTrue (is_in at_hand x.0 m) → IsTrue (is_in chosen x.0 m)

-- some group above one is complete and has no chosen name
abbrev pub HasSpareGroup : List Bool → List ℕ → ℕ → Type 0
HasSpareGroup complete members group =
    (g : ℕ) × ((group < g) × (g < most_groups) × (slice_index_or complete g false ≡ true) × (slice_index_or members g 0 ≡ 0))

-- all that are complete have
abbrev pub AllAreUsed : List Bool → List ℕ → ℕ → Type 0
AllAreUsed complete members group =
    (g : ℕ) → group < g → g < most_groups → slice_index_or complete g false ≡ true → 0 < slice_index_or members g 0

-- what can replace x after these names, and from where
abbrev pub IsReplacementFor : StepContext → Names → Name → Option Replacement → Type 0
IsReplacementFor context before x None = AllAreChosen context.at_hand context.chosen x
    × (length (names_in_group x.0 before) ≡ 0 → AllAreUsed context.complete context.members x.0)
IsReplacementFor context before x (Some Group) = HasSpareMember context.at_hand context.chosen x
IsReplacementFor context before x (Some LaterGroups) = AllAreChosen context.at_hand context.chosen x
    × (length (names_in_group x.0 before) ≡ 0) × HasSpareGroup context.complete context.members x.0

-- how many groups above one have chosen names
abbrev pub groups_used : List ℕ → ℕ → ℕ
groups_used members group = length (filter (λ g. nat_lt 0 (slice_index_or members g 0)) (groups_above group))

-- the names that stand there
abbrev pub replacement_names : List ShareFields → StepContext → Name → Replacement → Names
replacement_names set context x Group =
    take (length (members_from context.chosen x.0 (x.1 + 1)) + 1) (members_from context.at_hand x.0 (x.1 + 1))
    ++ groups_taken set context (x.0 + 1) (groups_used context.members x.0)
replacement_names set context x LaterGroups = groups_taken set context (x.0 + 1) (groups_used context.members x.0 + 1)
