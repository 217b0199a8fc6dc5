-- Listings and walks.
use Rattle.std.proofs.Common.{◌≡◌, ℕ, zero, suc, ◌+◌, List, [], ◌∷◌, ◌++◌, take, drop, Contains, Option, Some, None}
use Rattle.std.proofs.Common.{Less, ⊎_elim, refl, sym, ap, ap₂, ◌∙◌, subst, append_assoc}
use Rattle.std.proofs.lemmas.List.{take-append-drop}
use Rattle.std.proofs.lemmas.List.Elements.{All-contains, All-contains_itself}
use Rattle.std.proofs.lemmas.List.Kept.{AllPairs-cons}
use Rattle.std.proofs.Math.Seq.{take-add}
use Rattle.s39_words.specs.declared.share.ShareFields.{ShareFields}
use Rattle.s39_set.specs.Names.{Names, names_cmp}
use Rattle.s39_set.specs.Quorums.{IsQuorum, ComesAfter, IsFirstQuorumAfter, HasNoQuorumAfter}
use Rattle.s39_set.specs.Listing.{AreAllQuorumsAfter, IsListing, IsWalk}
use Rattle.s39_lists.proofs.Sublists.{Contains-head, Contains-cons, Contains-cases, Contains-nil, same_from_elements}
use Rattle.s39_lists.proofs.Pairs.{AllPairs-nil, AllPairs-head, AllPairs-tail}
use Rattle.s39_set.proofs.NamesOrder.{names_order, names_one_way, names_not_before_itself, same_or_before, before-not_greater, same-not_greater, same_from_both}

-- what comes after a list that comes after a given one comes after that one
pub comes_after-goes_on : (given : Option Names) (names others : Names) → ComesAfter given names → names_cmp names others ≡ Less
    → ComesAfter given others
comes_after-goes_on None names others after before = tt
comes_after-goes_on (Some first) names others after before = names_order.trans first names others after before

module _ (set : List ShareFields) (given : Option Names) where
  -- there is one first quorum
  pub one_first : (names others : Names) → IsFirstQuorumAfter set given names → IsFirstQuorumAfter set given others → names ≡ others
  one_first names others p q = same_from_both names others (p.least others q.quorum q.after) (q.least names p.quorum p.after)

  -- and one list of all
  pub one_list : (quorums others : List Names) → AreAllQuorumsAfter set given quorums → AreAllQuorumsAfter set given others → quorums ≡ others
  one_list quorums others p q =
      same_from_elements (λ a b. names_cmp a b ≡ Less) names_one_way quorums others p.ascending q.ascending
      (λ k d below. (p.each _).1 ((q.each _).0 (All-contains_itself others k d below)))
      (λ k d below. (q.each _).1 ((p.each _).0 (All-contains_itself quorums k d below)))

  -- none, where none comes after
  pub none_listed : HasNoQuorumAfter set given → AreAllQuorumsAfter set given []
  none_listed none = record {
    ascending = AllPairs-nil (λ a b. names_cmp a b ≡ Less);
    each = λ names. (λ among. absurd (Contains-nil names among), λ is. absurd (none names is.0 is.1));
  }

  pub none_from_empty : AreAllQuorumsAfter set given [] → HasNoQuorumAfter set given
  none_from_empty all names quorum after = Contains-nil names ((all.each names).1 (quorum, after))

  -- the first quorum, and then all after it
  pub all_from_first : (names : Names) (others : List Names) → IsFirstQuorumAfter set given names → AreAllQuorumsAfter set (Some names) others
      → AreAllQuorumsAfter set given (names ∷ others)
  all_from_first names others first all = record {
    ascending =
        AllPairs-cons (λ a b. names_cmp a b ≡ Less) names others
        (λ k d below. ((all.each _).0 (All-contains_itself others k d below)).1)
        all.ascending;
    each = λ other. (
      λ among.
          ⊎_elim
          (λ (same : names ≡ other). subst (λ (n : Names). IsQuorum set n × ComesAfter given n) same (first.quorum, first.after))
          (λ (later : Contains others other). let is = (all.each other).0 later in (is.0, comes_after-goes_on given names other first.after is.1))
          (Contains-cases names others other among),
      λ is.
          ⊎_elim
          (λ (same : names ≡ other). subst (Contains (names ∷ others)) same (Contains-head names others))
          (λ (before : names_cmp names other ≡ Less). Contains-cons names others other ((all.each other).1 (is.0, before)))
          (same_or_before names other (first.least other is.0 is.1)),
    );
  }

  -- the first of all is the first quorum
  pub first_of_all : (names : Names) (others : List Names) → AreAllQuorumsAfter set given (names ∷ others) → IsFirstQuorumAfter set given names
  first_of_all names others all =
      let is = (all.each names).0 (Contains-head names others) in
      record {
        quorum = is.0;
        after = is.1;
        least = λ other quorum after.
            ⊎_elim
            (λ (same : names ≡ other). same-not_greater names other same)
            (λ (later : Contains others other).
            before-not_greater names other
            (All-contains (λ n. names_cmp names n ≡ Less) others other (AllPairs-head (λ a b. names_cmp a b ≡ Less) names others all.ascending) later))
            (Contains-cases names others other ((all.each other).1 (quorum, after)));
      }

  -- and the others come after it
  pub all_after_first : (names : Names) (others : List Names) → AreAllQuorumsAfter set given (names ∷ others)
      → AreAllQuorumsAfter set (Some names) others
  all_after_first names others all =
      let later = AllPairs-head (λ a b. names_cmp a b ≡ Less) names others all.ascending in
      let here = (all.each names).0 (Contains-head names others) in
      record {
        ascending = AllPairs-tail (λ a b. names_cmp a b ≡ Less) names others all.ascending;
        each = λ other. (
          λ among. (((all.each other).0 (Contains-cons names others other among)).0, All-contains (λ n. names_cmp names n ≡ Less) others other later among),
          λ is.
              ⊎_elim
              (λ (same : names ≡ other). absurd (names_not_before_itself names other same is.1))
              (λ (among : Contains others other). among)
              (Contains-cases names others other ((all.each other).1 (is.0, comes_after-goes_on given names other here.1 is.1))),
        );
      }

-- all quorums after a listed one are those behind it
pub all_after : (set : List ShareFields) (given : Option Names) (before : List Names) (last : Names) (others : List Names)
    → AreAllQuorumsAfter set given (before ++ last ∷ others) → AreAllQuorumsAfter set (Some last) others
all_after set given [] last others all = all_after_first set given last others all
all_after set given (names ∷ before) last others all =
    all_after set (Some names) before last others (all_after_first set given names (before ++ last ∷ others) all)

-- ---- walks

-- a walk lists all quorums
pub listed_by_walk : (set : List ShareFields) (given : Option Names) (quorums : List Names) → IsWalk set given quorums
    → AreAllQuorumsAfter set given quorums
listed_by_walk set given [] none = none_listed set given none
listed_by_walk set given (names ∷ others) walk = all_from_first set given names others walk.0 (listed_by_walk set (Some names) others walk.1)

-- and all quorums are a walk
pub walk_from_all : (set : List ShareFields) (given : Option Names) (quorums : List Names) → AreAllQuorumsAfter set given quorums
    → IsWalk set given quorums
walk_from_all set given [] all = none_from_empty set given all
walk_from_all set given (names ∷ others) all =
    (first_of_all set given names others all, walk_from_all set (Some names) others (all_after_first set given names others all))

-- ---- listings

module _ (set : List ShareFields) (given : Option Names) where
  -- there is one listing
  pub one_listing : (limit : ℕ) (listed others : List Names) → IsListing set given limit listed → IsListing set given limit others → listed ≡ others
  one_listing limit listed others p q = p.listed_are ∙ ap (take limit) (one_list set given p.all q.all p.all_are q.all_are) ∙ sym q.listed_are

  -- the first quorum, and then the listing after it
  pub listing_goes_on : (names : Names) (limit : ℕ) (others : List Names) → IsFirstQuorumAfter set given names
      → IsListing set (Some names) limit others → IsListing set given (suc limit) (names ∷ others)
  listing_goes_on names limit others first listing = record {
    all = names ∷ listing.all;
    all_are = all_from_first set given names listing.all first listing.all_are;
    listed_are = ap (λ ns. names ∷ ns) listing.listed_are;
  }

  take-none : (limit : ℕ) → [] ≡ take limit (let none : List Names = [] in none)
  take-none zero = refl
  take-none (suc limit) = refl

  -- nothing, where no quorum comes after
  pub listing_ends : (limit : ℕ) → HasNoQuorumAfter set given → IsListing set given limit []
  listing_ends limit none = record { all = []; all_are = none_listed set given none; listed_are = take-none limit }

  -- a listing, and the listing after its last quorum
  pub listings_join : (limit more : ℕ) (before : List Names) (last : Names) (others : List Names)
      → IsListing set given limit (before ++ last ∷ []) → IsListing set (Some last) more others
      → IsListing set given (limit + more) ((before ++ last ∷ []) ++ others)
  listings_join limit more before last others p q =
      let rest = drop limit p.all in
      let whole : p.all ≡ before ++ last ∷ rest =
      sym (take-append-drop limit p.all) ∙ ap (λ ns. ns ++ rest) (sym p.listed_are) ∙ append_assoc before (last ∷ []) rest in
      let behind : AreAllQuorumsAfter set (Some last) rest = all_after set given before last rest (subst (AreAllQuorumsAfter set given) whole p.all_are) in
      let same : q.all ≡ rest = one_list set (Some last) q.all rest q.all_are behind in
      record {
        all = p.all;
        all_are = p.all_are;
        listed_are = ap₂ ◌++◌ p.listed_are (q.listed_are ∙ ap (take more) same) ∙ sym (take-add limit more p.all);
      }
