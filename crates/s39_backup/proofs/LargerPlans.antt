-- A backup of a plan is part of that of a plan with more members, by the same random bytes.
use Rattle.std.proofs.Common.{◌≡◌, ℕ, zero, suc, ◌+◌, ◌<◌, ◌≤◌, List, [], ◌∷◌, length, take, All, Contains, Option, Some, None, refl, sym, ap, subst, ◌∙◌}
use Rattle.std.proofs.Common.{arith}
use Rattle.std.specs.Prelude.{IsSomeAnd, sum_by}
use Rattle.std.specs.List.{slice_get}
use Rattle.std.proofs.lemmas.List.{length-take-le, get_or-take}
use Rattle.std.proofs.lemmas.List.Elements.{All-head, All-tail, length_all_zip}
use Rattle.std.proofs.lemmas.List.Sums.{sum_by-cons}
use Rattle.std.proofs.lemmas.Option.{slice_get-get_or, slice_get_within, get_or_from_slice_get}
use Rattle.s39_split.specs.Sharing.{random_needed as level_random_needed, IsSplit, FirstSharesAreASplit}
use Rattle.s39_words.specs.declared.share.ShareFields.{ShareFields}
use Rattle.s39_set.specs.ShareSet.{name_of}
use Rattle.s39_backup.specs.declared.plan.Members.{Members}
use Rattle.s39_backup.specs.Plan.{IsGroup}
use Rattle.s39_backup.specs.Plan.{IsNameOfPlan}
use Rattle.s39_backup.specs.LargerPlan.{HaveMoreMembers, ArePartOf}
use Rattle.s39_backup.specs.Created.{Asked, AreSplitAmong, created_share, created_groups, IsCreatedFrom, identifier_length, random_needed}
use Rattle.s39_lists.proofs.Finds.{some_same}
use Rattle.s39_backup.proofs.Promise.{IsCreatedShare, in_created_groups}
use Rattle.s39_backup.proofs.WholeBackups.{contains_created, values_at}

-- they take as many random bytes
pub needed_alike : (group_threshold : ℕ) (groups larger : List Members) (n : ℕ) → HaveMoreMembers groups larger
    → random_needed group_threshold groups n ≡ random_needed group_threshold larger n
needed_alike group_threshold groups larger n more = ap (λ (m : ℕ). identifier_length + level_random_needed group_threshold n + m) (sums groups larger more)
  where
    sums : (gs ls : List Members) → HaveMoreMembers gs ls
        → sum_by (λ m. level_random_needed m.threshold n) gs ≡ sum_by (λ m. level_random_needed m.threshold n) ls
    sums [] [] more = refl
    sums [] (l ∷ ls) more = absurd more
    sums (g ∷ gs) [] more = absurd more
    sums (g ∷ gs) (l ∷ ls) more =
        sum_by-cons (λ m. level_random_needed m.threshold n) g gs
        ∙ ap (λ (t : ℕ). level_random_needed t n + sum_by (λ m. level_random_needed m.threshold n) gs) more.0.0
        ∙ ap (λ (m : ℕ). level_random_needed l.threshold n + m) (sums gs ls more.1)
        ∙ sym (sum_by-cons (λ m. level_random_needed m.threshold n) l ls)

-- the values of the first members of each group
cut_values : List Members → List (List (List ℕ)) → List (List (List ℕ))
cut_values [] values = []
cut_values (g ∷ gs) [] = []
cut_values (g ∷ gs) (v ∷ vs) = take g.count v ∷ cut_values gs vs

cut_split : FirstSharesAreASplit → (groups larger : List Members) (shares pieces : List (List ℕ)) (values : List (List (List ℕ)))
    → HaveMoreMembers groups larger → All IsGroup groups → AreSplitAmong larger shares pieces values
    → AreSplitAmong groups shares pieces (cut_values groups values)
unfolding cut_values
cut_split first [] [] [] [] [] more each split = tt
cut_split first [] [] ss ps vs more each split = absurd split
cut_split first [] (l ∷ ls) ss ps vs more each split = absurd more
cut_split first (g ∷ gs) [] ss ps vs more each split = absurd more
cut_split first (g ∷ gs) (l ∷ ls) (s ∷ ss) (p ∷ ps) (v ∷ vs) more each split =
    let enough = (All-head IsGroup g gs each).enough.enough in
    let same : g.threshold ≡ l.threshold = more.0.0 in (
      subst (λ (t : ℕ). IsSplit t g.count s p (take g.count v)) (sym same)
          (first l.threshold l.count g.count s p v split.0 (omega arith) more.0.1),
      cut_split first gs ls ss ps vs more.1 (All-tail IsGroup g gs each) split.1,
    )
cut_split first (g ∷ gs) (l ∷ ls) ss ps vs more each split = absurd split

-- the values of a group, cut
cut_at : (groups : List Members) (values : List (List (List ℕ))) (place : ℕ) (members : Members) (v : List (List ℕ))
    → slice_get groups place ≡ Some members → slice_get values place ≡ Some v
    → slice_get (cut_values groups values) place ≡ Some (take members.count v)
unfolding cut_values
cut_at [] values place members v at is = absurd (let none : None ≡ Some members = at in cc)
cut_at (g ∷ gs) [] place members v at is = absurd (let none : None ≡ Some v = is in cc)
cut_at (g ∷ gs) (w ∷ ws) zero members v at is =
    let same : g ≡ members = some_same g members at in
    let values : w ≡ v = some_same w v is in
    ap (λ (m : Members). Some (take m.count w)) same ∙ ap (λ x. Some (take members.count x)) values
cut_at (g ∷ gs) (w ∷ ws) (suc k) members v at is = cut_at gs ws k members v at is

-- the same group of the larger plan
larger_at : (groups larger : List Members) (place : ℕ) (members : Members) → HaveMoreMembers groups larger → slice_get groups place ≡ Some members
    → (more : Members) × (slice_get larger place ≡ Some more) × (members.threshold ≡ more.threshold) × (members.count ≤ more.count)
larger_at [] larger place members more at = absurd (let none : None ≡ Some members = at in cc)
larger_at (g ∷ gs) [] place members more at = absurd more
larger_at (g ∷ gs) (l ∷ ls) zero members more at =
    let same : g ≡ members = some_same g members at in
    (l, refl, subst (λ (m : Members). m.threshold ≡ l.threshold) same more.0.0, subst (λ (m : Members). m.count ≤ l.count) same more.0.1)
larger_at (g ∷ gs) (l ∷ ls) (suc k) members more at = larger_at gs ls k members more.1 at

-- one of the first values
from_take : (n k : ℕ) (v : List (List ℕ)) (value : List ℕ) → n ≤ length v → slice_get (take n v) k ≡ Some value
    → (k < n) × (slice_get v k ≡ Some value)
from_take n k v value enough at =
    let within = slice_get_within (take n v) k value at in
    let count = length-take-le n v enough in
    let low : k < n = omega arith in
    (low, slice_get-get_or v k [] (omega arith) ∙ ap Some (sym (get_or-take n v k [] low) ∙ get_or_from_slice_get (take n v) k value [] at))

to_take : (n k : ℕ) (v : List (List ℕ)) (value : List ℕ) → n ≤ length v → k < n → slice_get v k ≡ Some value → slice_get (take n v) k ≡ Some value
to_take n k v value enough low at =
    let count = length-take-le n v enough in
    slice_get-get_or (take n v) k [] (omega arith) ∙ ap Some (get_or-take n v k [] low ∙ get_or_from_slice_get v k value [] at)

module _ (first : FirstSharesAreASplit) (asked : Asked) (larger : List Members) (random : List ℕ) (shares others : List ShareFields)
    (plan : All IsGroup asked.groups) (more : HaveMoreMembers asked.groups larger)
    (created : IsCreatedFrom asked random shares) (also : IsCreatedFrom (record asked { groups = larger }) random others)
    (once : (a b : List ShareFields) → IsCreatedFrom asked random a → IsCreatedFrom asked random b → a ≡ b) where
  abbrev group_threshold : ℕ
  group_threshold = asked.group_threshold

  abbrev groups : List Members
  groups = asked.groups

  as_many : length groups ≡ length larger
  as_many = length_all_zip (λ members more. (members.threshold ≡ more.threshold) × (members.count ≤ more.count)) groups larger more

  abbrev cut : List (List (List ℕ))
  cut = cut_values groups also.values

  abbrev first_shares : List ShareFields
  first_shares = created_groups also.params group_threshold (length groups) 0 groups cut

  -- the first members of the larger backup are a backup of the plan
  is_backup : IsCreatedFrom asked random first_shares
  is_backup = record {
    high = also.high;
    low = also.low;
    group_piece = also.group_piece;
    pieces = also.pieces;
    params = also.params;
    encrypted = also.encrypted;
    group_shares = also.group_shares;
    values = cut;
    consumed = also.consumed;
    params_are = also.params_are;
    encryption = also.encryption;
    groups_split = subst (λ (n : ℕ). IsSplit group_threshold n also.encrypted also.group_piece also.group_shares) (sym as_many) also.groups_split;
    members_split = cut_split first groups larger also.group_shares also.pieces also.values more plan also.members_split;
    shares_are = refl;
  }

  shares_are : shares ≡ first_shares
  shares_are = once shares first_shares created is_backup

  -- a share of one group, in both backups
  same_share : (place : ℕ) (members bigger : Members) (member : ℕ) (value : List ℕ) → members.threshold ≡ bigger.threshold
      → created_share also.params group_threshold (length groups) (0 + place) members member value
      ≡ created_share also.params group_threshold (length larger) (0 + place) bigger member value
  same_share place members bigger member value threshold =
      ap (λ (n : ℕ). created_share also.params group_threshold n (0 + place) members member value) as_many
      ∙ ap (λ (t : ℕ). created_share also.params group_threshold (length larger) (0 + place)
      (record { threshold = t; count = bigger.count }) member value) threshold

  to_larger : (share : ShareFields) → IsCreatedShare also.params group_threshold (length groups) groups cut 0 share
      → Contains others share × IsNameOfPlan groups (name_of share)
  to_larger share is =
      let (bigger, bigger_is, threshold, count) = larger_at groups larger is.place is.members more is.group_is in
      let has = values_at larger also.group_shares also.pieces also.values is.place bigger also.members_split bigger_is in
      let number = has.number in
      let cut_is = cut_at groups also.values is.place is.members has.others is.group_is has.values_are in
      let same : is.others ≡ take is.members.count has.others = some_same is.others (take is.members.count has.others) (sym is.values_are ∙ cut_is) in
      let (low, value_is) = from_take is.members.count is.member has.others is.value (omega arith)
      (ap (λ vs. slice_get vs is.member) (sym same) ∙ is.value_is) in
      let contained = contains_created also.params group_threshold (length larger) 0 larger also.values is.place bigger has.others is.member is.value
      bigger_is has.values_are value_is in
      let in_others : Contains others share =
      subst (Contains others) (sym (is.share_is ∙ same_share is.place is.members bigger is.member is.value threshold))
      (subst (λ xs. Contains xs (created_share also.params group_threshold (length larger) (0 + is.place) bigger is.member is.value))
      (sym also.shares_are) contained) in
      let placed : share.group_index ≡ 0 + is.place = ap (λ (s : ShareFields). s.group_index) is.share_is in
      let place : is.place ≡ share.group_index = omega arith in
      let member : is.member ≡ share.member_index = sym (ap (λ (s : ShareFields). s.member_index) is.share_is) in
      let at : slice_get groups share.group_index ≡ Some is.members = subst (λ (p : ℕ). slice_get groups p ≡ Some is.members) place is.group_is in
      (in_others, subst (λ o. IsSomeAnd o (λ m. share.member_index < m.count)) (sym at) (omega arith))

  from_larger : (share : ShareFields) → IsCreatedShare also.params group_threshold (length larger) larger also.values 0 share
      → IsNameOfPlan groups (name_of share) → Contains shares share
  from_larger share is named = by (slice_get groups is.place) refl
    where
      placed : share.group_index ≡ 0 + is.place
      placed = ap (λ (s : ShareFields). s.group_index) is.share_is

      place : share.group_index ≡ is.place
      place = omega (arith, placed)

      member : share.member_index ≡ is.member
      member = ap (λ (s : ShareFields). s.member_index) is.share_is

      name_at : IsSomeAnd (slice_get groups is.place) (λ m. share.member_index < m.count)
      name_at = subst (λ (p : ℕ). IsSomeAnd (slice_get groups p) (λ m. share.member_index < m.count)) place named

      by : (found : Option Members) → slice_get groups is.place ≡ found → Contains shares share
      by None none = absurd (subst (λ o. IsSomeAnd o (λ m. share.member_index < m.count)) none name_at)
      by (Some members) at =
          let below : share.member_index < members.count = subst (λ o. IsSomeAnd o (λ m. share.member_index < m.count)) at name_at in
          let (bigger, bigger_is, threshold, count) = larger_at groups larger is.place members more at in
          let same : bigger ≡ is.members = some_same bigger is.members (sym bigger_is ∙ is.group_is) in
          let has = values_at larger also.group_shares also.pieces also.values is.place is.members also.members_split is.group_is in
          let number = has.number in
          let values : has.others ≡ is.others = some_same has.others is.others (sym has.values_are ∙ is.values_are) in
          let long : members.count ≤ length is.others = omega (arith, ap length values, ap (λ (m : Members). m.count) same) in
          let contained = contains_created also.params group_threshold (length groups) 0 groups cut is.place members (take members.count is.others)
          is.member is.value at (cut_at groups also.values is.place members is.others at is.values_are)
          (to_take members.count is.member is.others is.value long (omega (arith, member)) is.value_is) in
          subst (Contains shares) (same_share is.place members is.members is.member is.value (threshold ∙ ap (λ (m : Members). m.threshold) same)
          ∙ sym is.share_is)
          (subst (λ xs. Contains xs (created_share also.params group_threshold (length groups) (0 + is.place) members is.member is.value))
          (sym shares_are) contained)

  pub part_of_larger : ArePartOf groups shares others
  part_of_larger share = (
    λ among. to_larger share (in_created_groups also.params group_threshold (length groups) groups cut 0 share
        (subst (λ xs. Contains xs share) shares_are among)),
    λ both. from_larger share (in_created_groups also.params group_threshold (length larger) larger also.values 0 share
        (subst (λ xs. Contains xs share) also.shares_are both.0)) both.1,
  )
