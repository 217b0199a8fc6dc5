-- The members of a group that are at hand.
use Rattle.std.proofs.Common.{◌≡◌, ◌≢◌, ℕ, ◌+◌, ◌-◌, ◌<◌, ◌≤◌, ◌==◌, ◌&&◌, Bool, true, false, nat_lt, nat_le, List, [], ◌∷◌, ◌++◌, length, get_or}
use Rattle.std.proofs.Common.{take, filter, find, map, All, AllPairs, Contains, Option, Some, None, Less, ◌⊎◌, inl, inr, refl, sym, ap, subst, ◌∙◌, arith}
use Rattle.std.specs.Option.{option_map_or}
use Rattle.std.proofs.lemmas.Bool.{cases_Bool, cases_lt, cond-true, cond-false, and_parts, and_from, and_left, and_right, eqb-true, eq-eqb}
use Rattle.std.proofs.lemmas.Bool.{lt-ltb, le-ltb}
use Rattle.std.proofs.lemmas.Bool.Decides.{nat_tests}
use Rattle.std.proofs.lemmas.List.{length-map, length-take-le, length-append, take_all, take-append-le, append-nil, append_assoc}
use Rattle.std.proofs.lemmas.List.Elements.{All-cons, All-map, All-filter, All-take, filter_passes}
use Rattle.std.proofs.lemmas.List.Kept.{AllPairs-cons, AllPairs-filter}
use Rattle.s39_kdf.specs.Bytes.{AreBytes}
use Rattle.s39_kdf.specs.Limits.{shortest_secret}
use Rattle.s39_split.specs.Sharing.{most_shares, secret_place}
use Rattle.s39_lists.proofs.Images.{filter_alike}
use Rattle.s39_lists.proofs.Pairs.{AllPairs-from_map, AllPairs-map, AllPairs-head, AllPairs-tail}
use Rattle.s39_words.specs.declared.share.ShareFields.{ShareFields}
use Rattle.s39_words.specs.Share.{IsShare}
use Rattle.s39_set.specs.Names.{most_members, name_cmp}
use Rattle.s39_set.specs.ShareSet.{IsShareSet, name_of, is_in_group, has_name}
use Rattle.s39_lists.proofs.Sublists.{AllPairs-sublist, take-sublist, filter-none}
use Rattle.s39_backup.specs.GroupShares.{value_bytes_of, AreOfOneLevel}
use Rattle.s39_backup.specs.Reissue.{members_at_hand}
use Rattle.s39_backup.specs.Reissuing.{members_below, ArePointsOfOneLevel}
use Rattle.s39_backup.proofs.Values.{values_agree, value_bytes-long}

abbrev pub point_of : ShareFields → ℕ × List ℕ
point_of share = (share.member_index, share.value.items)

-- ---- in the order of their indices

-- what is found, as a list
abbrev pub found_point : Option ShareFields → List (ℕ × List ℕ)
found_point found = option_map_or (λ share. point_of share ∷ []) found []

module _ (group : ℕ) where
  abbrev is_below : ℕ → ShareFields → Bool
  is_below index share = is_in_group group share && nat_lt share.member_index index

  -- where the share of an index is first, the others of its group have greater ones
  none_later : (index bound : ℕ) (share : ShareFields) (set : List ShareFields) → bound ≤ index + 1 → has_name group index share ≡ true
      → All (λ t. name_cmp (name_of share) (name_of t) ≡ Less) set → All (λ t. is_below bound t ≡ false) set
  none_later index bound share set low has later k d within =
      let parts = and_parts (share.group_index == group) (share.member_index == index) has in
      apart (get_or set k d) (eqb-true share.group_index group parts.0) (eqb-true share.member_index index parts.1) (later k d within)
    where
      apart : (t : ShareFields) → share.group_index ≡ group → share.member_index ≡ index → name_cmp (name_of share) (name_of t) ≡ Less
          → is_below bound t ≡ false
      apart t g m less = elim (cases_Bool (t.group_index == group)) [
        | inl same ↦
            let same_group : t.group_index ≡ group = eqb-true t.group_index group same in
            let above : share.member_index < t.member_index = grind (arith, nat_tests) in
            and_right (t.group_index == group) (nat_lt t.member_index bound) (le-ltb t.member_index bound (omega arith))
        | inr other ↦ and_left (t.group_index == group) (nat_lt t.member_index bound) other
      ]

  -- a share with another name is below both or neither
  as_below : (index : ℕ) (share : ShareFields) → has_name group index share ≡ false → is_below (index + 1) share ≡ is_below index share
  as_below index share other = elim (cases_Bool (share.group_index == group)) [
    | inl same ↦ (
        let differs : share.member_index ≢ index = λ here.
        let b : has_name group index share ≡ true =
        and_from (share.group_index == group) (share.member_index == index) same (eq-eqb share.member_index index here) in
        let both : true ≡ false = sym b ∙ other in
        cc in
        elim (cases_lt share.member_index index) [
          | inl less ↦
              ap (λ b. (share.group_index == group) && b) (lt-ltb share.member_index (index + 1) (omega arith) ∙ sym (lt-ltb share.member_index index less))
          | inr more ↦
              let above : index + 1 ≤ share.member_index = omega (arith, differs) in
              ap (λ b. (share.group_index == group) && b) (le-ltb share.member_index (index + 1) above ∙ sym (le-ltb share.member_index index more))
        ])
    | inr apart ↦ and_left (share.group_index == group) (nat_lt share.member_index (index + 1)) apart
        ∙ sym (and_left (share.group_index == group) (nat_lt share.member_index index) apart)
  ]

  -- one index more
  pub below_more : (set : List ShareFields) (index : ℕ) → AllPairs (λ s t. name_cmp (name_of s) (name_of t) ≡ Less) set
      → members_below set group (index + 1) ≡ members_below set group index ++ found_point (find (has_name group index) set)
  below_more [] index sorted = refl
  below_more (s ∷ ss) index sorted = elim (cases_Bool (has_name group index s)) [
    | inl here ↦ (
        let parts = and_parts (s.group_index == group) (s.member_index == index) here in
        let member : s.member_index ≡ index = eqb-true s.member_index index parts.1 in
        let later = AllPairs-head (λ s t. name_cmp (name_of s) (name_of t) ≡ Less) s ss sorted in
        let more : is_below (index + 1) s ≡ true =
        and_from (s.group_index == group) (nat_lt s.member_index (index + 1)) parts.0 (lt-ltb s.member_index (index + 1) (omega arith)) in
        let before : is_below index s ≡ false =
        and_right (s.group_index == group) (nat_lt s.member_index index) (le-ltb s.member_index index (omega arith)) in
        let none_more : filter (is_below (index + 1)) ss ≡ [] =
        filter-none (is_below (index + 1)) ss (none_later index (index + 1) s ss (omega arith) here later) in
        let none_before : filter (is_below index) ss ≡ [] = filter-none (is_below index) ss (none_later index index s ss (omega arith) here later) in
        let left : filter (is_below (index + 1)) (s ∷ ss) ≡ s ∷ [] =
        cond-true (is_below (index + 1) s) (s ∷ filter (is_below (index + 1)) ss) (filter (is_below (index + 1)) ss) more ∙ ap (λ xs. s ∷ xs) none_more in
        let right : filter (is_below index) (s ∷ ss) ≡ [] =
        cond-false (is_below index s) (s ∷ filter (is_below index) ss) (filter (is_below index) ss) before ∙ none_before in
        ap (map point_of) left
        ∙ sym (ap (λ xs. map point_of xs ++ found_point (find (has_name group index) (s ∷ ss))) right
        ∙ ap found_point (cond-true (has_name group index s) (Some s) (find (has_name group index) ss) here)))
    | inr other ↦ (
        let rest = below_more ss index (AllPairs-tail (λ s t. name_cmp (name_of s) (name_of t) ≡ Less) s ss sorted) in
        let same = as_below index s other in
        let found : find (has_name group index) (s ∷ ss) ≡ find (has_name group index) ss =
        cond-false (has_name group index s) (Some s) (find (has_name group index) ss) other in
        elim (cases_Bool (is_below index s)) [
          | inl passes ↦ (
              let left : filter (is_below (index + 1)) (s ∷ ss) ≡ s ∷ filter (is_below (index + 1)) ss =
              cond-true (is_below (index + 1) s) (s ∷ filter (is_below (index + 1)) ss) (filter (is_below (index + 1)) ss) (same ∙ passes) in
              let right : filter (is_below index) (s ∷ ss) ≡ s ∷ filter (is_below index) ss =
              cond-true (is_below index s) (s ∷ filter (is_below index) ss) (filter (is_below index) ss) passes in
              ap (map point_of) left ∙ ap (λ xs. point_of s ∷ xs) rest
              ∙ sym (ap (λ xs. map point_of xs ++ found_point (find (has_name group index) (s ∷ ss))) right
              ∙ ap (λ o. (point_of s ∷ members_below ss group index) ++ found_point o) found))
          | inr fails ↦ (
              let left : filter (is_below (index + 1)) (s ∷ ss) ≡ filter (is_below (index + 1)) ss =
              cond-false (is_below (index + 1) s) (s ∷ filter (is_below (index + 1)) ss) (filter (is_below (index + 1)) ss) (same ∙ fails) in
              let right : filter (is_below index) (s ∷ ss) ≡ filter (is_below index) ss =
              cond-false (is_below index s) (s ∷ filter (is_below index) ss) (filter (is_below index) ss) fails in
              ap (map point_of) left ∙ rest
              ∙ sym (ap (λ xs. map point_of xs ++ found_point (find (has_name group index) (s ∷ ss))) right
              ∙ ap (λ o. members_below ss group index ++ found_point o) found))
        ])
  ]

  pub below_none : (set : List ShareFields) → members_below set group 0 ≡ []
  below_none set =
      ap (map point_of) (filter-none (is_below 0) set
      (λ k d within.
      and_right ((get_or set k d).group_index == group) (nat_lt (get_or set k d).member_index 0) (le-ltb (get_or set k d).member_index 0 (omega arith))))

  pub below_all : (set : List ShareFields) → All IsShare set → members_below set group most_members ≡ members_at_hand set group
  below_all set each =
      ap (map point_of) (filter_alike (is_below most_members) (is_in_group group) set
      (λ k d within.
      let low = (each k d within).member_index in
      ap (λ b. ((get_or set k d).group_index == group) && b) (lt-ltb (get_or set k d).member_index most_members low)
      ∙ and_true ((get_or set k d).group_index == group)))
    where
      and_true : (b : Bool) → (b && true) ≡ b
      and_true true = refl
      and_true false = refl

pub sorted_set : (set : List ShareFields) → IsShareSet set → AllPairs (λ s t. name_cmp (name_of s) (name_of t) ≡ Less) set
sorted_set set is = AllPairs-from_map (λ a b. name_cmp a b ≡ Less) name_of set is.ascending

-- ---- the first of a list, behind others

module _ {X : Type 0} (old xs : List X) (x : X) (threshold : ℕ) (points : List X) (are : points ≡ old ++ take (threshold - length old) xs) where
  length_points : length points ≡ length old + length (take (threshold - length old) xs)
  length_points = ap length are ∙ length-append old (take (threshold - length old) xs)

  -- one more where there is room
  pub first_more : length points < threshold → points ++ x ∷ [] ≡ old ++ take (threshold - length old) (xs ++ x ∷ [])
  first_more room = elim (cases_lt (length xs) (threshold - length old)) [
    | inl short ↦
        let all : take (threshold - length old) xs ≡ xs = take_all (threshold - length old) xs (omega arith) in
        let more : take (threshold - length old) (xs ++ x ∷ []) ≡ xs ++ x ∷ [] =
        take_all (threshold - length old) (xs ++ x ∷ []) (omega (arith, length-append xs (x ∷ []))) in
        ap (λ ys. ys ++ x ∷ []) (are ∙ ap (λ ys. old ++ ys) all) ∙ append_assoc old xs (x ∷ []) ∙ sym (ap (λ ys. old ++ ys) more)
    | inr long ↦ absurd (let n = length-take-le (threshold - length old) xs long in omega (arith, length_points))
  ]

  -- and none where there is no room
  pub first_full : threshold ≤ length points → points ≡ old ++ take (threshold - length old) (xs ++ x ∷ [])
  first_full full = elim (cases_lt (length xs) (threshold - length old)) [
    | inl short ↦ absurd (let all = take_all (threshold - length old) xs (omega arith) in omega (arith, length_points, ap length all))
    | inr long ↦ are ∙ ap (λ ys. old ++ ys) (sym (take-append-le (threshold - length old) xs (x ∷ []) long))
  ]

-- as many as a number are taken, or all of fewer
pub taken_all : {X : Type 0} (n : ℕ) (xs : List X) → length (take n xs) ≡ n → n ≤ length xs
taken_all n xs as_many = elim (cases_lt (length xs) n) [
  | inl short ↦ omega (arith, ap length (take_all n xs (omega arith)))
  | inr long ↦ long
]

pub taken_few : {X : Type 0} (n : ℕ) (xs : List X) → length (take n xs) ≢ n → (length (take n xs) ≡ length xs) × (length xs < n)
taken_few n xs differs = elim (cases_lt (length xs) n) [
  | inl short ↦ (ap length (take_all n xs (omega arith)), short)
  | inr long ↦ absurd (differs (length-take-le n xs long))
]

-- as many as a number are taken exactly where there are as many
pub taken : {X : Type 0} (n : ℕ) (xs : List X) → (length (take n xs) == n) ≡ nat_le n (length xs)
taken n xs = elim (cases_lt (length xs) n) [
  | inl short ↦
      let all = ap length (take_all n xs (omega arith)) in
      grind (arith, nat_tests, all)
  | inr long ↦
      let count = length-take-le n xs long in
      grind (arith, nat_tests, count)
]

-- ---- as points

module _ (set : List ShareFields) (is : IsShareSet set) (group : ℕ) where
  later_member : (s t : ShareFields) → s.group_index ≡ group → t.group_index ≡ group → name_cmp (name_of s) (name_of t) ≡ Less
      → s.member_index ≢ t.member_index
  later_member s t first second less same = grind (arith, nat_tests)

  in_group : All (λ s. s.group_index ≡ group) (filter (is_in_group group) set)
  in_group k d within =
      let s = get_or (filter (is_in_group group) set) k d in
      eqb-true s.group_index group (filter_passes (is_in_group group) set k d within)

  pub members-distinct : AllPairs (λ a b. a.0 ≢ b.0) (members_at_hand set group)
  members-distinct =
      AllPairs-map (λ a b. a.0 ≢ b.0) point_of (filter (is_in_group group) set)
      (λ i j d before within.
      later_member (get_or (filter (is_in_group group) set) i d) (get_or (filter (is_in_group group) set) j d)
      (in_group i d (omega arith)) (in_group j d within)
      (AllPairs-filter (λ s t. name_cmp (name_of s) (name_of t) ≡ Less) (is_in_group group) set (sorted_set set is) i j d before within))

  of_members : (P : ℕ × List ℕ → Type 0) → All (λ share. P (point_of share)) set → All P (members_at_hand set group)
  of_members P all = All-map P point_of (filter (is_in_group group) set) (All-filter (is_in_group group) (λ share. P (point_of share)) set all)

  pub members-low : All (λ point. point.0 < most_shares) (members_at_hand set group)
  members-low = of_members (λ point. point.0 < most_shares) (λ k d within. (is.each k d within).member_index)

  pub members-long : All (λ point. length point.1 ≡ value_bytes_of set) (members_at_hand set group)
  members-long = of_members (λ point. length point.1 ≡ value_bytes_of set) (values_agree set is)

  pub members-bytes : All (λ point. AreBytes point.1) (members_at_hand set group)
  members-bytes = of_members (λ point. AreBytes point.1) (λ k d within. (is.each k d within).value.bytes)

  -- the least of them can be combined
  pub least_level : (n : ℕ) → 0 < n → n ≤ length (members_at_hand set group) → n ≤ most_shares
      → AreOfOneLevel (value_bytes_of set) (take n (members_at_hand set group))
  least_level n positive enough few =
      let members = members_at_hand set group in
      let count = length-take-le n members enough in
      record {
        some = omega arith;
        few = omega arith;
        distinct = AllPairs-sublist (λ a b. a.0 ≢ b.0) (take-sublist n members) members-distinct;
        indices = All-take (λ point. point.0 < most_shares) n members members-low;
        lengths = All-take (λ point. length point.1 ≡ value_bytes_of set) n members members-long;
        long =
            let of_group = filter (is_in_group group) set in
            by set refl (omega (arith, length-map of_group point_of));
      }
    where
      by : (xs : List ShareFields) → set ≡ xs → 0 < length (filter (is_in_group group) set) → shortest_secret ≤ value_bytes_of set
      by [] none some = absurd (omega (arith, ap (λ ys. length (filter (is_in_group group) ys)) none))
      by (s ∷ ss) here some = value_bytes-long set s is (subst (λ ys. Contains ys s) (sym here) (0, omega arith, refl))

  -- with the group's share in front they can be completed
  pub share_level : (share : List ℕ) → length share ≡ value_bytes_of set → shortest_secret ≤ length share
      → length (members_at_hand set group) < most_shares
      → ArePointsOfOneLevel (value_bytes_of set) ((secret_place, share) ∷ members_at_hand set group)
  share_level share bytes long few =
      let members = members_at_hand set group in
      let point : ℕ × List ℕ = (secret_place, share) in
      record {
        some = omega arith;
        few = omega arith;
        distinct = AllPairs-cons (λ a b. a.0 ≢ b.0) point members (λ k d within same. let low = members-low k d within in omega (arith, same)) members-distinct;
        places = All-cons (λ p. (p.0 < most_shares) ⊎ (p.0 ≡ secret_place)) point members (inr refl) (λ k d within. inl (members-low k d within));
        lengths = All-cons (λ p. length p.1 ≡ value_bytes_of set) point members bytes members-long;
        long = omega arith;
      }

-- one point and all others
pub filled : {X : Type 0} (p : X) (old new xs : List X) (threshold : ℕ) → old ≡ p ∷ [] → new ≡ old ++ take (threshold - length old) xs
    → length xs + 1 ≡ threshold → new ≡ p ∷ xs
filled p old new xs threshold first more one =
    let number = ap length first in
    more ∙ ap (λ ys. old ++ ys) (take_all (threshold - length old) xs (omega arith)) ∙ ap (λ ys. ys ++ xs) first

-- ---- one index after the other

pub nothing_added : (set : List ShareFields) (group : ℕ) (initial : List (ℕ × List ℕ)) (threshold : ℕ)
    → initial ≡ initial ++ take (threshold - length initial) (members_below set group 0)
nothing_added set group initial threshold =
    let none = below_none group set in
    sym (ap (λ xs. initial ++ xs) (take_all (threshold - length initial) (members_below set group 0) (omega (arith, ap length none)) ∙ none)
    ∙ append-nil initial)

pub one_index_more : (set : List ShareFields) → IsShareSet set → (group index : ℕ) (initial points new : List (ℕ × List ℕ)) (threshold : ℕ)
    (found : Option ShareFields) → found ≡ find (has_name group index) set
    → points ≡ initial ++ take (threshold - length initial) (members_below set group index)
    → (found ≡ None → new ≡ points)
    → (threshold ≤ length points → new ≡ points)
    → ((share : ShareFields) → found ≡ Some share → length points < threshold → new ≡ points ++ point_of share ∷ [])
    → new ≡ initial ++ take (threshold - length initial) (members_below set group (index + 1))
one_index_more set is group index initial points new threshold None here so_far none full more =
    let below : members_below set group (index + 1) ≡ members_below set group index =
    below_more group set index (sorted_set set is) ∙ ap (λ o. members_below set group index ++ found_point o) (sym here)
    ∙ append-nil (members_below set group index) in
    none refl ∙ so_far ∙ ap (λ xs. initial ++ take (threshold - length initial) xs) (sym below)
one_index_more set is group index initial points new threshold (Some share) here so_far none full more =
    let below : members_below set group (index + 1) ≡ members_below set group index ++ point_of share ∷ [] =
    below_more group set index (sorted_set set is) ∙ ap (λ o. members_below set group index ++ found_point o) (sym here) in
    let P : List (ℕ × List ℕ) → Type 0 = λ xs. new ≡ initial ++ take (threshold - length initial) xs in
    subst P (sym below) (elim (cases_lt (length points) threshold) [
      | inl room ↦ more share refl room ∙ first_more initial (members_below set group index) (point_of share) threshold points so_far room
      | inr no_room ↦ full no_room ∙ first_full initial (members_below set group index) (point_of share) threshold points so_far no_room
    ])
