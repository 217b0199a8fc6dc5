-- Share sets: what their shares agree in, and one share of each name.
use Rattle.std.proofs.Common.{Bor, ◌≡◌, ℕ, ◌<◌, Bool, true, false, List, [], ◌∷◌, length, get_or, find, map}
use Rattle.std.proofs.Common.{◌≤◌, ◌⊎◌, ⊎_elim, subst, All, Contains, Option, Some, None, inl, inr, refl, sym, ap, ap₂, ◌∙◌, arith}
use Rattle.std.specs.Prelude.{◌==◌, IsTrue, ◌↔◌}
use Rattle.std.specs.Option.{option_map, option_copied, is_some}
use Rattle.std.specs.declared.cmp.Ordering.TheVariants.{Less}
use Rattle.std.proofs.lemmas.Bool.{false≢true, eqb-true, eq-eqb, cases_order, and_parts, and_from}
use Rattle.std.proofs.lemmas.List.{get_or_default}
use Rattle.std.proofs.lemmas.List.Elements.{All-contains}
use Rattle.s39_words.specs.declared.share.ShareFields.{ShareFields}
use Rattle.s39_words.specs.Share.{IsShare}
use Rattle.s39_set.specs.Names.{Name, name_cmp, most_groups, most_members}
use Rattle.s39_set.specs.ShareSet.{Agrees, IsShareSet, name_of, is_in_group, has_name}
use Rattle.s39_set.specs.Quorums.{group_threshold_of, member_threshold_of}
use Rattle.s39_lists.proofs.Finds.{find-passes, Contains-find, none-passes}
use Rattle.s39_lists.proofs.Images.{Contains-map, one_of_map}
use Rattle.s39_lists.proofs.Pairs.{AllPairs-from_map}
use Rattle.s39_lists.proofs.Sublists.{Contains-head, Contains-nil}

-- where an element passes a test, a search finds one
found : {X : Type 0} (test : X → Bool) (xs : List X) (x : X) → Contains xs x → test x ≡ true → (y : X) × (find test xs ≡ Some y)
found {X} test xs x among passes = by (find test xs) refl
  where
    by : (o : Option X) → find test xs ≡ o → (y : X) × (find test xs ≡ Some y)
    by None e = absurd (false≢true (sym (All-contains (λ y. test y ≡ false) xs x (none-passes test xs e) among) ∙ passes))
    by (Some y) e = (y, e)

-- a share's name, by the test
pub has_name-is : (group member : ℕ) (s : ShareFields) → has_name group member s ≡ true → name_of s ≡ (group, member)
has_name-is group member s h =
    let parts = and_parts (s.group_index == group) (s.member_index == member) h in
    ap₂ (λ (a b : ℕ). (a, b)) (eqb-true s.group_index group parts.0) (eqb-true s.member_index member parts.1)

pub has_name-own : (s : ShareFields) → has_name s.group_index s.member_index s ≡ true
has_name-own s =
    and_from (s.group_index == s.group_index) (s.member_index == s.member_index) (eq-eqb s.group_index s.group_index refl)
    (eq-eqb s.member_index s.member_index refl)

equal_names : (a b : Name) → a ≡ b → name_cmp a b ≡ Less → ⊥
equal_names a b e less = grind (arith, e, less)

module _ (shares : List ShareFields) (is : IsShareSet shares) where
  pub agree : (s t : ShareFields) → Contains shares s → Contains shares t → Agrees s t
  agree s t has_s has_t = All-contains (Agrees s) shares t (All-contains (λ x. All (Agrees x) shares) shares s is.agree has_s) has_t

  -- a group's member threshold is that of any of its shares
  pub threshold_is : (s : ShareFields) → Contains shares s → member_threshold_of shares s.group_index ≡ Some s.member_threshold
  threshold_is s has_s =
      let test = is_in_group s.group_index in
      let (t, e) = found test shares s has_s (eq-eqb s.group_index s.group_index refl) in
      let same = eqb-true t.group_index s.group_index (find-passes test shares t e) in
      ap (option_map (λ (x : ShareFields). x.member_threshold)) e ∙ ap Some ((agree t s (Contains-find test shares t e) has_s).member_threshold same)

  apart : (i j : ℕ) (d : ShareFields) → i < j → j < length shares → name_of (get_or shares i d) ≡ name_of (get_or shares j d) → ⊥
  apart i j d before below same =
      equal_names (name_of (get_or shares i d)) (name_of (get_or shares j d)) same
      (AllPairs-from_map (λ a b. name_cmp a b ≡ Less) name_of shares is.ascending i j d before below)

  -- a name has one share
  pub one_share : (s t : ShareFields) → Contains shares s → Contains shares t → name_of s ≡ name_of t → s ≡ t
  one_share s t (i, i_below, at_i) (j, j_below, at_j) same =
      let at_t : get_or shares j s ≡ t = get_or_default shares j s t j_below ∙ at_j in
      let names : name_of (get_or shares i s) ≡ name_of (get_or shares j s) = ap name_of at_i ∙ same ∙ ap name_of (sym at_t) in
      elim (cases_order i j) [
        | inl e ↦ (sym at_i ∙ ap (λ n. get_or shares n s) e ∙ at_t)
        | inr other ↦ elim other [
          | inl before ↦ absurd (apart i j s before j_below names)
          | inr after ↦ absurd (apart j i s after i_below (sym names))
        ]
      ]

  -- which the search by its name finds
  pub find_own : (s : ShareFields) → Contains shares s → find (has_name s.group_index s.member_index) shares ≡ Some s
  find_own s has_s =
      let test = has_name s.group_index s.member_index in
      let (t, e) = found test shares s has_s (has_name-own s) in
      e ∙ ap Some (one_share t s (Contains-find test shares t e) has_s (has_name-is s.group_index s.member_index t (find-passes test shares t e)))

-- the group threshold is that of any share
pub group_threshold_is : (shares : List ShareFields) → IsShareSet shares → (s : ShareFields) → Contains shares s
    → group_threshold_of shares ≡ Some s.group_threshold
group_threshold_is [] is s has_s = absurd (Contains-nil s has_s)
group_threshold_is (t ∷ ts) is s has_s = ap Some (agree (t ∷ ts) is t s (Contains-head t ts) has_s).group_threshold

-- a name is a share's where a search by it finds one
pub name_found : (shares : List ShareFields) (group member : ℕ) (held : Option (Bor ShareFields))
    → option_copied held ≡ find (has_name group member) shares → (IsTrue (is_some held) ↔ Contains (map name_of shares) (group, member))
name_found shares group member None e = (
  λ some. absurd (false≢true some),
  λ among.
      let (s, has_s, name) = one_of_map name_of shares (group, member) among in
      let (t, there) = found (has_name group member) shares s has_s (subst (λ (n : Name). has_name n.0 n.1 s ≡ true) name (has_name-own s)) in
      absurd (let bad : None ≡ Some t = e ∙ there in cc),
)
name_found shares group member (Some held) e = (
  λ _.
      subst (Contains (map name_of shares)) (has_name-is group member held.now (find-passes (has_name group member) shares held.now (sym e)))
      (Contains-map name_of shares held.now (Contains-find (has_name group member) shares held.now (sym e))),
  λ _. refl,
)

-- no share has an index past the most
pub none_past : (shares : List ShareFields) → IsShareSet shares → (group member : ℕ) → (most_groups ≤ group) ⊎ (most_members ≤ member)
    → find (has_name group member) shares ≡ None
none_past shares is group member past = by (find (has_name group member) shares) refl
  where
    by : (o : Option ShareFields) → find (has_name group member) shares ≡ o → o ≡ None
    by None e = refl
    by (Some s) e =
        let valid = All-contains IsShare shares s is.each (Contains-find (has_name group member) shares s e) in
        let name = has_name-is group member s (find-passes (has_name group member) shares s e) in
        let same_group : s.group_index ≡ group = ap (λ (n : Name). n.0) name in
        let same_member : s.member_index ≡ member = ap (λ (n : Name). n.1) name in
        let low_group = valid.group_index in
        let low_member = valid.member_index in
        absurd (⊎_elim (λ (high : most_groups ≤ group). omega arith) (λ (high : most_members ≤ member). omega arith) past)
