-- Shares, and one share more.
use Rattle.std.proofs.Common.{◌≡◌, ◌⊎◌, ℕ, Bool, false, List, [], ◌∷◌, ◌++◌, Some, find, if◌then◌else◌, map, All, Contains, ap, inl, inr, refl, subst}
use Rattle.std.specs.Option.{option_map}
use Rattle.std.proofs.lemmas.Bool.{ne_eqb}
use Rattle.std.proofs.lemmas.List.Elements.{All-contains, Contains-append_left, Contains-append_right, Contains-append_cases}
use Rattle.s39_words.specs.declared.share.ShareFields.{ShareFields}
use Rattle.s39_words.specs.Share.{IsShare}
use Rattle.s39_set.specs.Names.{IsAscending}
use Rattle.s39_set.specs.Quorums.{member_threshold_of}
use Rattle.s39_set.specs.ShareSet.{Agrees, IsShareSet, CanJoin, HasOneMore, is_in_group, name_of}
use Rattle.s39_lists.proofs.Sublists.{each, Contains-head, Contains-cons, Contains-cases}
use Rattle.s39_set.proofs.SharesThatJoin.{agrees-itself, agrees-back}

-- an element put between two lists is one more
between_cases : {X : Type 0} (before after : List X) (x y : X) → Contains (before ++ x ∷ after) y → Contains (before ++ after) y ⊎ (x ≡ y)
between_cases before after x y among =
    elim (Contains-append_cases before (x ∷ after) y among) [
      | inl front ↦ inl (Contains-append_left before after y front)
      | inr back ↦ elim (Contains-cases x after y back) [
        | inl same ↦ inr same
        | inr later ↦ inl (Contains-append_right before after y later)
      ]
    ]

between_old : {X : Type 0} (before after : List X) (x y : X) → Contains (before ++ after) y → Contains (before ++ x ∷ after) y
between_old before after x y among =
    elim (Contains-append_cases before after y among) [
      | inl front ↦ Contains-append_left before (x ∷ after) y front
      | inr back ↦ Contains-append_right before (x ∷ after) y (Contains-cons x after y back)
    ]

-- a search doesn't see an element that fails its test
find_between : {X : Type 0} (test : X → Bool) (before after : List X) (x : X) → test x ≡ false → find test (before ++ x ∷ after) ≡ find test (before ++ after)
find_between test [] after x fails = rw fails refl
find_between test (b ∷ before) after x fails = ap (λ rest. if test b then Some b else rest) (find_between test before after x fails)

module _ (old : List ShareFields) (share : ShareFields) (new : List ShareFields) (more : HasOneMore old share new) where
  -- groups but the share's have the member threshold that they had
  pub threshold_kept : (group : ℕ) → (share.group_index ≡ group → ⊥) → member_threshold_of new group ≡ member_threshold_of old group
  threshold_kept group apart =
      rw (more.old_is, more.new_is)
      (ap (option_map (λ (s : ShareFields). s.member_threshold))
      (find_between (is_in_group group) more.before more.after share (ne_eqb share.group_index group apart)))

  pub one_more_cases : (s : ShareFields) → Contains new s → Contains old s ⊎ (share ≡ s)
  one_more_cases s has_s = rw more.old_is (between_cases more.before more.after share s (subst (λ l. Contains l s) more.new_is has_s))

  pub one_more_has : (s : ShareFields) → Contains old s ⊎ (share ≡ s) → Contains new s
  one_more_has s (inl has_s) = rw more.new_is (between_old more.before more.after share s (subst (λ l. Contains l s) more.old_is has_s))
  one_more_has s (inr same) =
      rw more.new_is
      (subst (Contains (more.before ++ share ∷ more.after)) same
      (Contains-append_right more.before (share ∷ more.after) share (Contains-head share more.after)))

  pub All-more : (P : ShareFields → Type 0) → All P old → P share → All P new
  All-more P all here =
      each P new (λ s among. elim (one_more_cases s among) [
        | inl has_s ↦ All-contains P old s all has_s
        | inr same ↦ subst P same here
      ])

  -- a set with one more that can join it, in order, is a set
  pub set_more : IsShareSet old → CanJoin old share → IsShare share → IsAscending (map name_of new) → IsShareSet new
  set_more is joins valid ascending = record {
    each = All-more IsShare is.each valid;
    ascending = ascending;
    agree =
        let with_share : All (λ s. Agrees s share) new = All-more (λ s. Agrees s share) joins.agrees (agrees-itself share) in
        each (λ s. All (Agrees s) new) new (λ s has_s. elim (one_more_cases s has_s) [
          | inl was_s ↦ All-more (Agrees s)
              (All-contains (λ t. All (Agrees t) old) old s is.agree was_s)
              (All-contains (λ t. Agrees t share) new s with_share has_s)
          | inr same ↦ subst (λ t. All (Agrees t) new) same (λ k d below. agrees-back _ share (with_share k d below))
        ]);
  }
