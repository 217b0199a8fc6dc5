-- The share of a name that a set has or hasn't.
use Rattle.std.proofs.Common.{◌≡◌, ℕ, ◌+◌, ◌*◌, ◌/◌, ◌%◌, ◌<◌, ◌==◌, false, List, [], ◌∷◌, get_or, find, map, All, Contains, Option, Some, None}
use Rattle.std.proofs.Common.{refl, sym, ap, subst, ◌∙◌, arith}
use Rattle.std.specs.Prelude.{IfSome}
use Rattle.std.proofs.lemmas.Bool.{and_parts, and_from, eqb-true, eq-eqb, false≢true}
use Rattle.std.proofs.lemmas.List.Elements.{All-contains, Contains-get_or}
use Rattle.s39_words.specs.declared.share.ShareFields.{ShareFields}
use Rattle.s39_words.specs.Share.{IsShare}
use Rattle.s39_set.specs.Names.{Name, most_groups, most_members, most_names}
use Rattle.s39_set.specs.ShareSet.{IsShareSet, name_of, has_name}
use Rattle.s39_lists.proofs.Images.{one_of_map}
use Rattle.s39_lists.proofs.Finds.{find-passes, Contains-find, none-passes}
use Rattle.s39_set.proofs.Sets.{one_share}
use Rattle.s39_backup.specs.Reissue.{share_like}

-- ---- names

-- a share that is found has the name
pub found_name : (group member : ℕ) (set : List ShareFields) (share : ShareFields) → find (has_name group member) set ≡ Some share
    → name_of share ≡ (group, member)
found_name group member set share found =
    let parts = and_parts (share.group_index == group) (share.member_index == member) (find-passes (has_name group member) set share found) in
    let in_group : share.group_index ≡ group = eqb-true share.group_index group parts.0 in
    let in_member : share.member_index ≡ member = eqb-true share.member_index member parts.1 in
    cc

module _ (set : List ShareFields) (is : IsShareSet set) where
  -- the share of a name is found
  pub found_itself : (share : ShareFields) → Contains set share → find (has_name share.group_index share.member_index) set ≡ Some share
  found_itself share among = by (find (has_name share.group_index share.member_index) set) refl
    where
      by : (found : Option ShareFields) → find (has_name share.group_index share.member_index) set ≡ found → found ≡ Some share
      by None here =
          absurd (false≢true (sym (All-contains (λ s. has_name share.group_index share.member_index s ≡ false) set share
          (none-passes (has_name share.group_index share.member_index) set here) among)
          ∙ and_from (share.group_index == share.group_index) (share.member_index == share.member_index)
          (eq-eqb share.group_index share.group_index refl) (eq-eqb share.member_index share.member_index refl)))
      by (Some other) here =
          let parts = and_parts (other.group_index == share.group_index) (other.member_index == share.member_index)
          (find-passes (has_name share.group_index share.member_index) set other here) in
          let group : other.group_index ≡ share.group_index = eqb-true other.group_index share.group_index parts.0 in
          let member : other.member_index ≡ share.member_index = eqb-true other.member_index share.member_index parts.1 in
          let names : name_of other ≡ name_of share = cc in
          ap Some (one_share set is other share (Contains-find (has_name share.group_index share.member_index) set other here) among names)

  -- and of another name none
  pub found_by : (share : ShareFields) (name : Name) → Contains set share → name_of share ≡ name → find (has_name name.0 name.1) set ≡ Some share
  found_by share name among is_name =
      subst (λ (n : Name). find (has_name n.0 n.1) set ≡ Some share) is_name (found_itself share among)

  pub not_found : (name : Name) → find (has_name name.0 name.1) set ≡ None → Contains (map name_of set) name → ⊥
  not_found name none among =
      let (share, in_set, is_name) = one_of_map name_of set name among in
      let found = found_by share name in_set is_name in
      let clash : None ≡ Some share = sym none ∙ found in
      cc

  -- ---- the places of names

  -- each share stands at the place of its name
  pub at_its_place : (share : ShareFields) → Contains set share
      → (place : ℕ) × (place < most_names) × (find (has_name (place / most_members) (place % most_members)) set ≡ Some share)
  at_its_place share among =
      let fields : IsShare share = All-contains IsShare set share is.each among in
      let low = fields.group_index in
      let member = fields.member_index in
      let place = most_members * share.group_index + share.member_index in
      let group_is : share.group_index ≡ place / most_members = omega arith in
      let member_is : share.member_index ≡ place % most_members = omega arith in (
        place,
        omega arith,
        subst (λ (m : ℕ). find (has_name (place / most_members) m) set ≡ Some share) member_is
            (subst (λ (g : ℕ). find (has_name g share.member_index) set ≡ Some share) group_is (found_itself share among)),
      )

  module _ (P : ShareFields → Type 0) where
    -- what holds of the share at each place holds of all shares
    pub all_from_places : ((place : ℕ) → place < most_names → IfSome (find (has_name (place / most_members) (place % most_members)) set) P) → All P set
    all_from_places each k d within =
        let share = get_or set k d in
        let at = at_its_place share (Contains-get_or set k d within) in
        subst (λ found. IfSome found P) at.2 (each at.0 at.1)

  -- a set with no share at any place is empty
  pub none_at_places : ((place : ℕ) → place < most_names → find (has_name (place / most_members) (place % most_members)) set ≡ None) → set ≡ []
  none_at_places none = by set refl
    where
      by : (xs : List ShareFields) → set ≡ xs → xs ≡ []
      by [] here = refl
      by (s ∷ ss) here =
          let at = at_its_place s (subst (λ xs. Contains xs s) (sym here) (0, omega arith, refl)) in
          let clash : None ≡ Some s = sym (none at.0 at.1) ∙ at.2 in
          absurd (cc)

  -- the share of a name that is found, which is like itself
  module _ (group member : ℕ) (share : ShareFields) (found : find (has_name group member) set ≡ Some share) where
    pub is_share : IsShare share
    is_share = All-contains IsShare set share is.each (Contains-find (has_name group member) set share found)

    pub low_group : group < most_groups
    low_group = let low = is_share.group_index in omega (arith, ap (λ (n : Name). n.0) (found_name group member set share found))

    pub low_member : member < most_members
    low_member = let low = is_share.member_index in omega (arith, ap (λ (n : Name). n.1) (found_name group member set share found))

    pub like_itself : share_like share (group, member) share.member_threshold share.value.items ≡ share
    like_itself = ap (λ (n : Name). share_like share n share.member_threshold share.value.items) (sym (found_name group member set share found))
