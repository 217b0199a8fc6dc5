-- A share that isn't refused has its slot in a set.
use Rattle.std.proofs.Common.{◌≡◌, ◌⊎◌, List, [], ◌∷◌, get_or, map, All, Contains, Ordering, Less, Equal, Greater, None, inl, inr, refl, ap, ◌∙◌, subst}
use Rattle.std.proofs.Common.{arith}
use Rattle.std.specs.Ordering.{ordering_reverse}
use Rattle.std.proofs.lemmas.List.{length-map, get_or-map}
use Rattle.std.proofs.lemmas.List.Elements.{All-nil, All-cons, All-map}
use Rattle.std.proofs.lemmas.List.Kept.{AllPairs-cons}
use Rattle.s39_words.specs.declared.share.ShareFields.{ShareFields}
use Rattle.s39_words.specs.Share.{IsShare}
use Rattle.s39_set.specs.Names.{Name, name_cmp, IsAscending}
use Rattle.s39_set.specs.ShareSet.{IsShareSet, HasOneMore, CanJoin, name_of, refusal_of}
use Rattle.s39_lists.proofs.Sublists.{Contains-head, Contains-cons}
use Rattle.s39_lists.proofs.Pairs.{AllPairs-head, AllPairs-tail, AllPairs-nil}
use Rattle.s39_set.proofs.Ascending.{name_cmp_total}
use Rattle.s39_set.proofs.NamesOrder.{name_cmp-equal}
use Rattle.s39_set.proofs.SharesThatJoin.{joins_from_none, same_from_joins}
use Rattle.s39_set.proofs.OneMore.{All-more, set_more}

-- one of these shares has the name of that one
abbrev HasNameOf : List ShareFields → ShareFields → Type 0
HasNameOf set share = (s : ShareFields) × Contains set s × (name_of s ≡ name_of share)

-- the shares with that one, in the order of names
record IsInserted (set : List ShareFields) (share : ShareFields) (more : List ShareFields) : Type 0 where
  one_more : HasOneMore set share more
  ascending : IsAscending (map name_of more)

-- the names of the others come after the first one's
names_after : (s : ShareFields) (ss : List ShareFields) → IsAscending (map name_of (s ∷ ss)) → All (λ t. name_cmp (name_of s) (name_of t) ≡ Less) ss
names_after s ss ascending k d below =
    let after : All (λ n. name_cmp (name_of s) n ≡ Less) (map name_of ss) = AllPairs-head (λ a b. name_cmp a b ≡ Less) (name_of s) (map name_of ss) ascending in
    subst (λ (n : Name). name_cmp (name_of s) n ≡ Less) (get_or-map name_of ss k d (name_of d) below)
    (after k (name_of d) (omega (arith, length-map ss name_of)))

inserted : (set : List ShareFields) (share : ShareFields) → IsAscending (map name_of set)
    → HasNameOf set share ⊎ ((more : List ShareFields) × IsInserted set share more)
inserted [] share ascending =
    inr (
      share ∷ [],
      record {
        one_more = record { before = []; after = []; old_is = refl; new_is = refl };
        ascending = AllPairs-cons (λ a b. name_cmp a b ≡ Less) (name_of share) [] (All-nil (λ n. name_cmp (name_of share) n ≡ Less))
            (AllPairs-nil (λ a b. name_cmp a b ≡ Less));
      },
    )
inserted (s ∷ ss) share ascending =
    by (inserted ss share (AllPairs-tail (λ a b. name_cmp a b ≡ Less) (name_of s) (map name_of ss) ascending)) (name_cmp (name_of s) (name_of share)) refl
  where
    after : All (λ t. name_cmp (name_of s) (name_of t) ≡ Less) ss
    after = names_after s ss ascending

    by : HasNameOf ss share ⊎ ((more : List ShareFields) × IsInserted ss share more) → (o : Ordering) → name_cmp (name_of s) (name_of share) ≡ o
        → HasNameOf (s ∷ ss) share ⊎ ((more : List ShareFields) × IsInserted (s ∷ ss) share more)
    by rest Equal e = inl (s, Contains-head s ss, name_cmp-equal (name_of s) (name_of share) e)
    by rest Less e =
        elim rest [
          | inl (t, among, names) ↦ inl (t, Contains-cons s ss t among, names)
          | inr (more, is) ↦
              inr (
                s ∷ more,
                record {
                  one_more = record {
                    before = s ∷ is.one_more.before;
                    after = is.one_more.after;
                    old_is = ap (λ l. s ∷ l) is.one_more.old_is;
                    new_is = ap (λ l. s ∷ l) is.one_more.new_is;
                  };
                  ascending =
                      AllPairs-cons (λ a b. name_cmp a b ≡ Less) (name_of s) (map name_of more)
                      (All-map (λ n. name_cmp (name_of s) n ≡ Less) name_of more
                      (All-more ss share more is.one_more (λ t. name_cmp (name_of s) (name_of t) ≡ Less) after e))
                      is.ascending;
                },
              )
        ]
    by rest Greater e =
        let first : name_cmp (name_of share) (name_of s) ≡ Less = name_cmp_total.antisymm (name_of share) (name_of s) ∙ ap ordering_reverse e in
        inr (
          share ∷ s ∷ ss,
          record {
            one_more = record { before = []; after = s ∷ ss; old_is = refl; new_is = refl };
            ascending =
                AllPairs-cons (λ a b. name_cmp a b ≡ Less) (name_of share) (map name_of (s ∷ ss))
                (All-map (λ n. name_cmp (name_of share) n ≡ Less) name_of (s ∷ ss)
                (All-cons (λ t. name_cmp (name_of share) (name_of t) ≡ Less) s ss first
                (λ k d below. name_cmp_total.trans (name_of share) (name_of s) (name_of (get_or ss k d)) first (after k d below))))
                ascending;
          },
        )

-- a share that a set doesn't refuse is one of it, or there is the set with that share more
pub takes_share : (set : List ShareFields) (share : ShareFields) → IsShareSet set → IsShare share → refusal_of set share ≡ None
    → Contains set share ⊎ ((more : List ShareFields) × HasOneMore set share more × IsShareSet more)
takes_share set share is valid allowed =
    let joins : CanJoin set share = joins_from_none set share allowed in
    elim (inserted set share is.ascending) [
      | inl (s, among, names) ↦ inl (subst (Contains set) (same_from_joins set s share joins among names) among)
      | inr (more, has) ↦ inr (more, has.one_more, set_more set share more has.one_more is joins valid has.ascending)
    ]
