-- Shares that stand in the slots of their names.
use Rattle.std.proofs.Common.{◌≡◌, ℕ, zero, suc, ◌+◌, ◌<◌, false, List, [], ◌∷◌, length, get_or, set, find, map}
use Rattle.std.proofs.Common.{All, AllPairs, Contains, Option, Some, None, Less, inl, inr, refl, sym, ap, ap₂, subst, ◌∙◌, arith}
use Rattle.std.specs.Prelude.{IfSome}
use Rattle.std.proofs.lemmas.Bool.{cases_eq, cases_Bool}
use Rattle.std.proofs.lemmas.Bool.Decides.{nat_tests}
use Rattle.std.proofs.lemmas.List.{get_or-set_same, get_or-set_other}
use Rattle.std.proofs.lemmas.List.Elements.{All-contains}
use Rattle.std.proofs.lemmas.List.Kept.{AllPairs-cons}
use Rattle.s39_words.specs.declared.share.ShareFields.{ShareFields}
use Rattle.s39_words.specs.Share.{IsShare}
use Rattle.s39_set.specs.Names.{Name, name_cmp, most_groups, most_members, most_names}
use Rattle.s39_set.specs.ShareSet.{IsShareSet, HasOneMore, CanJoin, name_of, has_name, refusal_of}
use Rattle.s39_set.specs.Quorums.{member_threshold_of}
use Rattle.s39_set.specs.Slots.{shares_at, slot_of, IsBefore, IsKept}
use Rattle.s39_lists.proofs.Finds.{find-none, some_same}
use Rattle.s39_lists.proofs.Images.{Contains-map}
use Rattle.s39_lists.proofs.Pairs.{AllPairs-nil, AllPairs-map}
use Rattle.s39_lists.proofs.Sublists.{each, Contains-head, Contains-cons, Contains-cases, Contains-nil}
use Rattle.s39_set.proofs.OneMore.{All-more, one_more_has, set_more, threshold_kept}
use Rattle.s39_set.proofs.Sets.{has_name-is, find_own, group_threshold_is, threshold_is}

-- ---- lists of optional values, and what is there

pub placed : (slots : List (Option ShareFields)) (k : ℕ) (s : ShareFields) → get_or slots k None ≡ Some s → Contains (shares_at slots) s
placed [] k s at = absurd (let bad : None ≡ Some s = at in cc)
placed (None ∷ slots) zero s at = absurd (let bad : None ≡ Some s = at in cc)
placed (None ∷ slots) (suc k) s at = placed slots k s at
placed (Some t ∷ slots) zero s at = subst (Contains (t ∷ shares_at slots)) (some_same t s at) (Contains-head t (shares_at slots))
placed (Some t ∷ slots) (suc k) s at = Contains-cons t (shares_at slots) s (placed slots k s at)

place_of : (slots : List (Option ShareFields)) (s : ShareFields) → Contains (shares_at slots) s → (k : ℕ) × (get_or slots k None ≡ Some s)
place_of [] s has_s = absurd (Contains-nil s has_s)
place_of (None ∷ slots) s has_s = let (k, at) = place_of slots s has_s in (suc k, at)
place_of (Some t ∷ slots) s has_s =
    elim (Contains-cases t (shares_at slots) s has_s) [
      | inl same ↦ (0, ap Some same)
      | inr later ↦ (let (k, at) = place_of slots s later in (suc k, at))
    ]

pairs_in_order : (R : ShareFields → ShareFields → Type 0) (slots : List (Option ShareFields))
    → ((i j : ℕ) (s t : ShareFields) → i < j → get_or slots i None ≡ Some s → get_or slots j None ≡ Some t → R s t) → AllPairs R (shares_at slots)
pairs_in_order R [] order = AllPairs-nil R
pairs_in_order R (None ∷ slots) order = pairs_in_order R slots (λ i j s t before at_s at_t. order (suc i) (suc j) s t (omega arith) at_s at_t)
pairs_in_order R (Some s ∷ slots) order =
    AllPairs-cons R s (shares_at slots)
    (each (R s) (shares_at slots) (λ t has_t. let (j, at) = place_of slots t has_t in order 0 (suc j) s t (omega arith) refl at))
    (pairs_in_order R slots (λ i j x y before at_x at_y. order (suc i) (suc j) x y (omega arith) at_x at_y))

pub none_placed : (slots : List (Option ShareFields)) → ((k : ℕ) → get_or slots k None ≡ None) → shares_at slots ≡ []
none_placed [] none = refl
none_placed (None ∷ slots) none = none_placed slots (λ k. none (suc k))
none_placed (Some s ∷ slots) none = absurd (let bad : Some s ≡ None = none 0 in cc)

-- a share put into an empty slot is one more
pub has_one_more : (slots : List (Option ShareFields)) (k : ℕ) (share : ShareFields) → k < length slots → get_or slots k None ≡ None
    → HasOneMore (shares_at slots) share (shares_at (set slots k (Some share)))
has_one_more [] k share below empty = absurd (omega arith)
has_one_more (None ∷ slots) zero share below empty = record { before = []; after = shares_at slots; old_is = refl; new_is = refl }
has_one_more (Some s ∷ slots) zero share below empty = absurd (let bad : Some s ≡ None = empty in cc)
has_one_more (None ∷ slots) (suc k) share below empty = has_one_more slots k share (omega arith) empty
has_one_more (Some s ∷ slots) (suc k) share below empty =
    let rest = has_one_more slots k share (omega arith) empty in
    record {
      before = s ∷ rest.before;
      after = rest.after;
      old_is = ap (λ l. s ∷ l) rest.old_is;
      new_is = ap (λ l. s ∷ l) rest.new_is;
    }

-- ---- what is kept

name_cmp-from_slots : (a b : Name) → a.1 < most_members → b.1 < most_members → slot_of a < slot_of b → name_cmp a b ≡ Less
name_cmp-from_slots (g, m) (h, n) low also_low before = grind (arith, nat_tests)

pub same_name : (a b : Name) → a.1 < most_members → b.1 < most_members → slot_of a ≡ slot_of b → a ≡ b
same_name (g, m) (h, n) low also_low same =
    let groups : g ≡ h = omega arith in
    let members : m ≡ n = omega arith in
    ap₂ (λ (x y : ℕ). (x, y)) groups members

abbrev OwnSlots : List (Option ShareFields) → Type 0
OwnSlots slots = (k : ℕ) → IfSome (get_or slots k None) (λ share. slot_of (name_of share) ≡ k)

pub own_slot : (slots : List (Option ShareFields)) → OwnSlots slots → (k : ℕ) (s : ShareFields) → get_or slots k None ≡ Some s → slot_of (name_of s) ≡ k
own_slot slots own k s at = subst (λ (o : Option ShareFields). IfSome o (λ share. slot_of (name_of share) ≡ k)) at (own k)

module _ {group_threshold : Option ℕ} {member_thresholds : List (Option ℕ)} (slots : List (Option ShareFields))
    (kept : IsKept group_threshold member_thresholds slots) where
  -- each share stands in the slot of its name
  pub own_place : (s : ShareFields) → Contains (shares_at slots) s → get_or slots (slot_of (name_of s)) None ≡ Some s
  own_place s has_s = let (k, at) = place_of slots s has_s in ap (λ n. get_or slots n None) (own_slot slots kept.own_slot k s at) ∙ at

  -- none stands in an empty slot
  pub none_before_more : (k : ℕ) → get_or slots k None ≡ None → All (λ s. ¬ IsBefore k s) (shares_at slots)
      → All (λ s. ¬ IsBefore (k + 1) s) (shares_at slots)
  none_before_more k empty none =
      each (λ s. ¬ IsBefore (k + 1) s) (shares_at slots) (λ s has_s before. elim (cases_eq (slot_of (name_of s)) k) [
        | inl here ↦ (let bad : None ≡ Some s = sym empty ∙ ap (λ n. get_or slots n None) (sym here) ∙ own_place s has_s in cc)
        | inr apart ↦ All-contains (λ t. ¬ IsBefore k t) (shares_at slots) s none has_s (omega arith)
      ])

  -- and there the share of a name is found
  pub share_in_slot : (group member : ℕ) → member < most_members
      → find (has_name group member) (shares_at slots) ≡ get_or slots (slot_of (group, member)) None
  share_in_slot group member low = by (get_or slots (slot_of (group, member)) None) refl
    where
      by : (o : Option ShareFields) → get_or slots (slot_of (group, member)) None ≡ o → find (has_name group member) (shares_at slots) ≡ o
      by None empty =
          find-none (has_name group member) (shares_at slots)
          (each (λ s. has_name group member s ≡ false) (shares_at slots) (λ s has_s. elim (cases_Bool (has_name group member s)) [
            | inl named ↦ absurd
                (let bad : None ≡ Some s =
                sym empty ∙ ap (λ (n : Name). get_or slots (slot_of n) None) (sym (has_name-is group member s named)) ∙ own_place s has_s in cc)
            | inr other ↦ other
          ]))
      by (Some s) at =
          let has_s = placed slots (slot_of (group, member)) s at in
          let low_s = (All-contains IsShare (shares_at slots) s kept.is_set.each has_s).member_index in
          let name = same_name (name_of s) (group, member) low_s low (own_slot slots kept.own_slot (slot_of (group, member)) s at) in
          subst (λ (n : Name). find (has_name n.0 n.1) (shares_at slots) ≡ Some s) name (find_own (shares_at slots) kept.is_set s has_s)

  -- the slot of a name that no share has is empty
  pub empty_slot : (name : Name) → name.1 < most_members → ¬ Contains (map name_of (shares_at slots)) name → get_or slots (slot_of name) None ≡ None
  empty_slot name low apart = by (get_or slots (slot_of name) None) refl
    where
      by : (o : Option ShareFields) → get_or slots (slot_of name) None ≡ o → o ≡ None
      by None at = refl
      by (Some s) at =
          let has_s = placed slots (slot_of name) s at in
          let low_s = (All-contains IsShare (shares_at slots) s kept.is_set.each has_s).member_index in
          let same = same_name (name_of s) name low_s low (own_slot slots kept.own_slot (slot_of name) s at) in
          absurd (apart (subst (Contains (map name_of (shares_at slots))) same (Contains-map name_of (shares_at slots) s has_s)))

  module _ (share : ShareFields) (valid : IsShare share) (joins : CanJoin (shares_at slots) share) (k : ℕ) (at : k ≡ slot_of (name_of share))
      (below : k < length slots) (empty : get_or slots k None ≡ None) (room : share.group_index < length member_thresholds) where
    own_more : OwnSlots (set slots k (Some share))
    own_more j =
        elim (cases_eq j k) [
          | inl same ↦ subst (λ (o : Option ShareFields). IfSome o (λ s. slot_of (name_of s) ≡ j))
              (sym (ap (λ n. get_or (set slots k (Some share)) n None) same ∙ get_or-set_same slots k (Some share) None below)) (sym at ∙ sym same)
          | inr apart ↦ subst (λ (o : Option ShareFields). IfSome o (λ s. slot_of (name_of s) ≡ j))
              (sym (get_or-set_other slots k j (Some share) None apart)) (kept.own_slot j)
        ]

    is_set_more : IsShareSet (shares_at (set slots k (Some share)))
    is_set_more =
        let new = set slots k (Some share) in
        let more = has_one_more slots k share below empty in
        let valid_all = All-more (shares_at slots) share (shares_at new) more IsShare kept.is_set.each valid in
        set_more (shares_at slots) share (shares_at new) more kept.is_set joins valid
        (AllPairs-map (λ a b. name_cmp a b ≡ Less) name_of (shares_at new)
        (pairs_in_order (λ s t. name_cmp (name_of s) (name_of t) ≡ Less) new (λ i j s t before at_s at_t.
        let slot_s = own_slot new own_more i s at_s in
        let slot_t = own_slot new own_more j t at_t in
        name_cmp-from_slots (name_of s) (name_of t)
        (All-contains IsShare (shares_at new) s valid_all (placed new i s at_s)).member_index
        (All-contains IsShare (shares_at new) t valid_all (placed new j t at_t)).member_index
        (omega arith))))

    -- the thresholds are its own, and of other groups those that were
    thresholds_more : (group : ℕ) → group < most_groups
        → get_or (set member_thresholds share.group_index (Some share.member_threshold)) group None
        ≡ member_threshold_of (shares_at (set slots k (Some share))) group
    thresholds_more group low =
        let new = shares_at (set slots k (Some share)) in
        let more = has_one_more slots k share below empty in
        elim (cases_eq group share.group_index) [
          | inl same ↦
              ap (λ g. get_or (set member_thresholds share.group_index (Some share.member_threshold)) g None) same
              ∙ get_or-set_same member_thresholds share.group_index (Some share.member_threshold) None room
              ∙ sym (ap (member_threshold_of new) same ∙ threshold_is new is_set_more share (one_more_has (shares_at slots) share new more share (inr refl)))
          | inr apart ↦
              get_or-set_other member_thresholds share.group_index group (Some share.member_threshold) None apart
              ∙ kept.member_thresholds_are group low
              ∙ sym (threshold_kept (shares_at slots) share new more group (λ same. apart (sym same)))
        ]

    -- with a share in its slot that can join them they are kept
    pub kept_more : IsKept (Some share.group_threshold) (set member_thresholds share.group_index (Some share.member_threshold)) (set slots k (Some share))
    kept_more =
        let new = shares_at (set slots k (Some share)) in
        let more = has_one_more slots k share below empty in
        record {
          is_set = is_set_more;
          own_slot = own_more;
          group_threshold_is = sym (group_threshold_is new is_set_more share (one_more_has (shares_at slots) share new more share (inr refl)));
          member_thresholds_are = thresholds_more;
        }

-- ---- a set of which no share stands before the last slot

empty_from_none : (shares : List ShareFields) → IsShareSet shares → All (λ s. ¬ IsBefore most_names s) shares → shares ≡ []
empty_from_none [] is none = refl
empty_from_none (s ∷ others) is none =
    let valid = All-contains IsShare (s ∷ others) s is.each (Contains-head s others) in
    let group = valid.group_index in
    let member = valid.member_index in
    absurd (All-contains (λ t. ¬ IsBefore most_names t) (s ∷ others) s none (Contains-head s others) (omega arith))

pub not_refused_by_none : (shares : List ShareFields) → IsShareSet shares → (share : ShareFields) → All (λ s. ¬ IsBefore most_names s) shares
    → refusal_of shares share ≡ None
not_refused_by_none shares is share none = ap (λ set. refusal_of set share) (empty_from_none shares is none)
