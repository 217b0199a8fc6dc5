-- What a share is refused for, by one share of each kind.
use Rattle.std.proofs.Common.{◌≡◌, ℕ, Bool, true, false, List, length, find, filter, Contains, Option, Some, None, not, inl, inr, refl, sym, ap, ◌∙◌}
use Rattle.std.specs.Prelude.{◌==◌, bytes_eq}
use Rattle.std.specs.List.{list_any}
use Rattle.std.specs.Option.{option_map, option_map_or}
use Rattle.std.proofs.lemmas.Bool.{cases_Bool, eqb-true}
use Rattle.std.proofs.lemmas.List.Folds.{list_any_none, list_any_at}
use Rattle.s39_words.specs.declared.share.ShareFields.{ShareFields}
use Rattle.s39_words.specs.Share.{flag_bit}
use Rattle.s39_set.specs.ShareSet.{Agrees, IsShareSet, is_in_group, has_name, some_differs, refusal_of}
use Rattle.s39_set.specs.Quorums.{member_threshold_of}
use Rattle.s39_set.specs.Slots.{threshold_differs, value_differs, first_cause}
use Rattle.s39_lists.proofs.Finds.{find-passes, Contains-find, none-passes}
use Rattle.s39_lists.proofs.Sublists.{each, of_filter, filter-none, Contains-filter}
use Rattle.s39_set.proofs.Sets.{agree, one_share, has_name-is}

-- where a test decides each element as it does one of them, it decides the list so
any_as : {X : Type 0} (test : X → Bool) (xs : List X) (x : X) → Contains xs x → ((y : X) → Contains xs y → test y ≡ test x) → list_any test xs ≡ test x
any_as test xs x (k, below, here) same =
    elim (cases_Bool (test x)) [
      | inl passes ↦ (list_any_at test xs k x below (ap test here ∙ passes) ∙ sym passes)
      | inr fails ↦ (list_any_none test xs (each (λ y. test y ≡ false) xs (λ y among. same y among ∙ fails)) ∙ sym fails)
    ]

-- of those that are chosen, the first one shows it
any_by_first : {X : Type 0} (chosen test : X → Bool) (xs : List X)
    → ((x y : X) → Contains xs x → Contains xs y → chosen x ≡ true → chosen y ≡ true → test x ≡ test y)
    → list_any test (filter chosen xs) ≡ option_map_or test (find chosen xs) false
any_by_first {X} chosen test xs same = by (find chosen xs) refl
  where
    by : (o : Option X) → find chosen xs ≡ o → list_any test (filter chosen xs) ≡ option_map_or test o false
    by None e = ap (list_any test) (filter-none chosen xs (none-passes chosen xs e))
    by (Some x) e =
        let has_x = Contains-find chosen xs x e in
        let passes = find-passes chosen xs x e in
        any_as test (filter chosen xs) x (Contains-filter chosen xs x has_x passes)
        (λ y among. let (has_y, also) = of_filter chosen xs y among in same y x has_y has_x also passes)

module _ (shares : List ShareFields) (is : IsShareSet shares) (share : ShareFields) where
  -- the causes in what all shares have in common, by any of them
  pub refusal_by_one : (held : ShareFields) → Contains shares held
      → refusal_of shares share ≡ first_cause held share (threshold_differs shares share) (value_differs shares share)
  refusal_by_one held has_held =
      let one : (number : ShareFields → ℕ) → ((s : ShareFields) → Agrees s held → number s ≡ number held)
      → some_differs number shares share ≡ not (number held == number share) =
      λ number same. any_as (λ s. not (number s == number share)) shares held has_held
      (λ s has_s. ap (λ n. not (n == number share)) (same s (agree shares is s held has_s has_held))) in
      rw (
        one (λ s. s.id) (λ s agrees. agrees.id),
        one (λ s. flag_bit s.extendable) (λ s agrees. ap flag_bit agrees.extendable),
        one (λ s. s.exponent) (λ s agrees. agrees.exponent),
        one (λ s. s.group_threshold) (λ s agrees. agrees.group_threshold),
        one (λ s. s.group_count) (λ s agrees. agrees.group_count),
        one (λ s. length s.value.items) (λ s agrees. agrees.value_length),
      )
      refl

  -- the member threshold, by that of the group
  pub threshold_test : threshold_differs shares share
      ≡ option_map_or (λ t. not (t == share.member_threshold)) (member_threshold_of shares share.group_index) false
  threshold_test =
      let group = is_in_group share.group_index in
      any_by_first group (λ s. not (s.member_threshold == share.member_threshold)) shares
      (λ s t has_s has_t of_s of_t. ap (λ n. not (n == share.member_threshold))
      ((agree shares is s t has_s has_t).member_threshold
      (eqb-true s.group_index share.group_index of_s ∙ sym (eqb-true t.group_index share.group_index of_t))))
      ∙ by (find group shares)
    where
      by : (o : Option ShareFields) → option_map_or (λ (s : ShareFields). not (s.member_threshold == share.member_threshold)) o false
          ≡ option_map_or (λ t. not (t == share.member_threshold)) (option_map (λ (s : ShareFields). s.member_threshold) o) false
      by None = refl
      by (Some s) = refl

  -- the value, by the share of the name
  pub value_test : value_differs shares share
      ≡ option_map_or (λ s. not (bytes_eq s.value.items share.value.items)) (find (has_name share.group_index share.member_index) shares) false
  value_test =
      any_by_first (has_name share.group_index share.member_index) (λ s. not (bytes_eq s.value.items share.value.items)) shares
      (λ s t has_s has_t of_s of_t. ap (λ (x : ShareFields). not (bytes_eq x.value.items share.value.items))
      (one_share shares is s t has_s has_t
      (has_name-is share.group_index share.member_index s of_s ∙ sym (has_name-is share.group_index share.member_index t of_t))))
