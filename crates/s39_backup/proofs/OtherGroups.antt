-- The other groups of a plan of which enough members are at hand, and what they combine to.
use Rattle.std.proofs.Common.{◌≡◌, ◌≢◌, ℕ, ◌+◌, ◌<◌, ◌≤◌, ◌==◌, ◌&&◌, Bool, true, false, not, List, [], ◌∷◌, ◌++◌, length, get_or, take, filter, map}
use Rattle.std.proofs.Common.{All, AllPairs, Ok, inl, sym, ap, subst, ◌∙◌, arith}
use Rattle.std.specs.List.{enumerate_from}
use Rattle.std.specs.Option.{ok_or}
use Rattle.std.proofs.lemmas.Bool.{and_parts, leb-true}
use Rattle.std.proofs.lemmas.List.{take_more, length-take-le, append-nil}
use Rattle.std.proofs.lemmas.List.Elements.{All-filter, All-map, All-take, All-weaker, filter-append, filter_passes}
use Rattle.std.proofs.lemmas.List.FromFn.{length-enumerate_from, get_or-enumerate_from}
use Rattle.std.proofs.lemmas.List.Kept.{AllPairs-filter}
use Rattle.s39_kdf.specs.Bytes.{AreBytes}
use Rattle.s39_kdf.specs.Limits.{shortest_secret}
use Rattle.s39_lists.specs.Each.{each}
use Rattle.s39_lists.proofs.Each.{from_ok_or, then_gives, each-length, each-values, each-images}
use Rattle.s39_lists.proofs.Pushes.{enumerate_from-push}
use Rattle.s39_lists.proofs.Pairs.{All-from_map, AllPairs-from_map, AllPairs-map}
use Rattle.s39_lists.proofs.Sublists.{AllPairs-sublist, take-sublist}
use Rattle.s39_split.specs.Recovery.{combined}
use Rattle.s39_split.specs.Completion.{completed}
use Rattle.s39_split.specs.Sharing.{most_shares}
use Rattle.s39_words.specs.declared.share.ShareFields.{ShareFields}
use Rattle.s39_set.specs.Names.{most_groups}
use Rattle.s39_set.specs.ShareSet.{IsShareSet}
use Rattle.s39_backup.specs.declared.plan.Members.{Members}
use Rattle.s39_backup.specs.declared.combination.Mismatch.TheVariants.{OfGroups}
use Rattle.s39_backup.specs.Plan.{IsGroup}
use Rattle.s39_backup.specs.GroupShares.{value_bytes_of, AreOfOneLevel}
use Rattle.s39_backup.specs.Reissue.{members_at_hand, least_members, is_at_hand, other_groups, least_share, share_by_others}
use Rattle.s39_backup.specs.Reissuing.{AreComplete, ArePointsOfOneLevel}
use Rattle.s39_backup.proofs.Combining.{IsLike, combined_like, completed_like, share_is}
use Rattle.s39_backup.proofs.MembersAtHand.{least_level, members-bytes}

-- ---- which they are

module _ (set : List ShareFields) (group : ℕ) where
  abbrev is_other : ℕ × Members → Bool
  is_other other = not (other.0 == group) && is_at_hand set other

  -- one group more
  other_more : (groups : List Members) (i : ℕ) (d : Members) → i < length groups
      → other_groups set (take (i + 1) groups) group ≡ other_groups set (take i groups) group ++ filter is_other ((i, get_or groups i d) ∷ [])
  other_more groups i d within =
      let first = take i groups in
      let members = get_or groups i d in
      let place : 0 + length first ≡ i = omega (arith, length-take-le i groups (omega arith)) in
      ap (λ gs. other_groups set gs group) (take_more groups i d within)
      ∙ ap (filter is_other) (enumerate_from-push 0 first members ∙ ap (λ (p : ℕ). enumerate_from 0 first ++ (p, members) ∷ []) place)
      ∙ filter-append is_other (enumerate_from 0 first) ((i, members) ∷ [])

  pub other-with : (groups : List Members) (i : ℕ) (d : Members) → i < length groups
      → (not (i == group) && is_at_hand set (i, get_or groups i d)) ≡ true
      → other_groups set (take (i + 1) groups) group ≡ other_groups set (take i groups) group ++ (i, get_or groups i d) ∷ []
  other-with groups i d within is = rw is at (other_more groups i d within)

  pub other-without : (groups : List Members) (i : ℕ) (d : Members) → i < length groups
      → (not (i == group) && is_at_hand set (i, get_or groups i d)) ≡ false
      → other_groups set (take (i + 1) groups) group ≡ other_groups set (take i groups) group
  other-without groups i d within is = rw is at (other_more groups i d within) ∙ append-nil (other_groups set (take i groups) group)

  -- so many of them are groups of the plan of which enough members are at hand
  module _ (groups : List Members) (each : All IsGroup groups) (few : length groups ≤ most_groups) where
    places-distinct : AllPairs (λ a b. a.0 ≢ b.0) (enumerate_from 0 groups)
    places-distinct i j d before within =
        let number = length-enumerate_from 0 groups in
        rw (get_or-enumerate_from 0 groups i d (omega arith), get_or-enumerate_from 0 groups j d (omega arith)) (λ same. omega (arith, same))

    places-low : All (λ g. g.0 < most_groups) (enumerate_from 0 groups)
    places-low k d within =
        let number = length-enumerate_from 0 groups in
        rw (get_or-enumerate_from 0 groups k d (omega arith)) (omega arith)

    are_groups : All (λ g. IsGroup g.1) (enumerate_from 0 groups)
    are_groups k d within =
        let number = length-enumerate_from 0 groups in
        rw (get_or-enumerate_from 0 groups k d (omega arith)) (each k d.1 (omega arith))

    pub others_complete : (n : ℕ) → n ≤ length (other_groups set groups group) → n ≤ most_groups
        → AreComplete set (take n (other_groups set groups group))
    others_complete n enough low =
        let others = other_groups set groups group in
        let all = enumerate_from 0 groups in
        record {
          few = omega (arith, length-take-le n others enough);
          distinct = AllPairs-sublist (λ a b. a.0 ≢ b.0) (take-sublist n others) (AllPairs-filter (λ a b. a.0 ≢ b.0) is_other all places-distinct);
          indices = All-take (λ g. g.0 < most_groups) n others (All-filter is_other (λ g. g.0 < most_groups) all places-low);
          are_groups = All-take (λ g. IsGroup g.1) n others (All-filter is_other (λ g. IsGroup g.1) all are_groups);
          at_hand = All-take (λ g. is_at_hand set g ≡ true) n others
              (All-weaker (λ g. is_other g ≡ true) (λ g. is_at_hand set g ≡ true)
              (λ g passes. (and_parts (not (g.0 == group)) (is_at_hand set g) passes).1) others (filter_passes is_other all));
        }

-- ---- their shares

module _ (set : List ShareFields) (is : IsShareSet set) where
  -- the least members of a group can be combined
  module _ (group : ℕ × Members) (is_group : IsGroup group.1) (enough : group.1.threshold ≤ length (members_at_hand set group.0)) where
    pub group_level : AreOfOneLevel (value_bytes_of set) (least_members set group)
    group_level =
        let positive = is_group.positive in
        let most = is_group.enough.few in
        let counted = is_group.enough.enough in
        least_level set is group.0 group.1.threshold (omega arith) enough (omega arith)

    pub least_bytes : All (λ p. AreBytes p.1) (least_members set group)
    least_bytes = All-take (λ p. AreBytes p.1) group.1.threshold (members_at_hand set group.0) (members-bytes set is group.0)

    -- the group's share is like them
    share_like_members : (share : ℕ × List ℕ) → least_share set group ≡ Ok share → IsLike (value_bytes_of set) share.1
    share_like_members share here =
        combined_like (value_bytes_of set) (least_members set group) group_level least_bytes share.1
        (share_is group.0 (combined (least_members set group)) share here).1

  -- the shares of groups can be completed
  module _ (groups : List (ℕ × Members)) (complete : AreComplete set groups) (some : 0 < length groups) where
    enough_at : All (λ g. g.1.threshold ≤ length (members_at_hand set g.0)) groups
    enough_at k d within = let g = get_or groups k d in leb-true g.1.threshold (length (members_at_hand set g.0)) (complete.at_hand k d within)

    groups_long : shortest_secret ≤ value_bytes_of set
    groups_long =
        let blank : ℕ × Members = (0, record { threshold = 0; count = 0 }) in
        (group_level (get_or groups 0 blank) (complete.are_groups 0 blank some) (enough_at 0 blank some)).long

    module _ (shares : List (ℕ × List ℕ)) (all : each (least_share set) groups ≡ Ok shares) where
      alike : All (λ s. IsLike (value_bytes_of set) s.1) shares
      alike =
          each-values (least_share set) (λ g. IsGroup g.1 × (g.1.threshold ≤ length (members_at_hand set g.0))) (λ s. IsLike (value_bytes_of set) s.1)
          (λ g share good here. share_like_members g good.0 good.1 share here) groups shares
          (λ k d within. (complete.are_groups k d within, enough_at k d within)) all

      firsts : map (λ s. s.0) shares ≡ map (λ g. g.0) groups
      firsts =
          each-images (least_share set) (λ s. s.0) (λ g. g.0) (λ g share here. (share_is g.0 (combined (least_members set g)) share here).0) groups shares all

      pub shares_level : ArePointsOfOneLevel (value_bytes_of set) shares
      shares_level =
          let low : All (λ s. s.0 < most_shares) shares =
          All-from_map (λ n. n < most_shares) (λ s. s.0) shares
          (subst (All (λ n. n < most_shares)) (sym firsts) (All-map (λ n. n < most_shares) (λ g. g.0) groups complete.indices)) in
          let number = each-length (least_share set) groups shares all in
          record {
            some = omega arith;
            few = let few = complete.few in omega arith;
            distinct = AllPairs-from_map (λ a b. a ≢ b) (λ s. s.0) shares
                (subst (AllPairs (λ a b. a ≢ b)) (sym firsts) (AllPairs-map (λ a b. a ≢ b) (λ g. g.0) groups complete.distinct));
            places = λ k d within. inl (low k d within);
            lengths = λ k d within. (alike k d within).0;
            long = groups_long;
          }

      pub shares_bytes : All (λ s. AreBytes s.1) shares
      shares_bytes k d within = (alike k d within).1

    -- the share that they give is like the values
    pub share_like_values : (group : ℕ) (share : List ℕ) → group < 256 → share_by_others set groups group ≡ Ok share
        → IsLike (value_bytes_of set) share × (shortest_secret ≤ length share)
    unfolding share_by_others
    share_like_values group share low here =
        let gives = then_gives (λ shares. ok_or (completed shares group) OfGroups) (each (least_share set) groups) share here in
        let like = completed_like (value_bytes_of set) gives.a (shares_level gives.a gives.first_is) (shares_bytes gives.a gives.first_is) group share low
        (from_ok_or (completed gives.a group) OfGroups share gives.then_is) in
        (like, let same = like.0 in let long = groups_long in omega arith)
