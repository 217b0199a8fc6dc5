-- The shares by which a level is refitted: those that are kept, and the lowest others.
use Rattle.std.proofs.Common.{◌≡◌, ◌≢◌, ℕ, ◌+◌, ◌-◌, ◌<◌, ◌≤◌, List, [], ◌∷◌, ◌++◌, length, get_or, take, map, All, AllPairs, Contains, Some, sym}
use Rattle.std.proofs.Common.{refl, ap, subst, ◌∙◌}
use Rattle.std.proofs.Common.{inl, inr, arith}
use Rattle.std.specs.List.{slice_get}
use Rattle.std.proofs.lemmas.Bool.{cases_lt}
use Rattle.std.proofs.lemmas.List.{length-append, take_more, take_all, get_or_default, get_or-take, length-take-le}
use Rattle.std.proofs.lemmas.List.Elements.{All-nil, All-push, All-map, All-contains, Contains-push, Contains-push_cases, Contains-append_left, Contains-get_or}
use Rattle.std.proofs.lemmas.List.Quantifiers.{all_pairs_push}
use Rattle.std.proofs.lemmas.Option.{slice_get-get_or}
use Rattle.s39_split.specs.Shares.{AreDistinct}
use Rattle.s39_lists.proofs.Pairs.{All-from_map, AllPairs-map, AllPairs-nil}
use Rattle.s39_lists.proofs.Sublists.{Contains-nil}
use Rattle.s39_backup.specs.Correspondence.{AreSameAt, StayTheSame}

-- Of the indices below one, these were taken: all that are kept, and others, of which so many are left to take.
pub record AreChosen (kept : List ℕ) (number index next others : ℕ) (indices : List ℕ) : Type 0 where
  pub placed : next ≤ length kept
  pub before : All (Contains indices) (take next kept)
  pub later : (j d : ℕ) → next ≤ j → j < length kept → index ≤ get_or kept j d
  pub ascending : AllPairs (λ a b. a < b) indices
  pub below : All (λ i. i < index) indices
  pub counted : length indices + others + length kept ≡ number + next
  pub full : 0 < others → length indices ≡ index
  pub short : length indices ≤ index
  pub lowest : (i j : ℕ) → i < j → Contains indices j → ¬ Contains kept j → Contains indices i
  pub filled : 0 < others → (i : ℕ) → i < index → Contains indices i

-- none at first
pub chosen-nothing : (kept : List ℕ) (number left : ℕ) → left + length kept ≡ number → AreChosen kept number 0 0 left []
chosen-nothing kept number left few = record {
  placed = omega arith;
  before = All-nil (Contains []);
  later = λ j d from inside. omega arith;
  ascending = AllPairs-nil (λ a b. a < b);
  below = All-nil (λ i. i < 0);
  counted = omega arith;
  full = λ some. refl;
  short = omega arith;
  lowest = λ i j less among other. absurd (Contains-nil j among);
  filled = λ some i below. absurd (omega arith);
}

pub chosen-none : (kept : List ℕ) (number left : ℕ) (indices : List ℕ) → left + length kept ≡ number → indices ≡ []
    → AreChosen kept number 0 0 left indices
chosen-none kept number left indices few none = subst (AreChosen kept number 0 0 left) (sym none) (chosen-nothing kept number left few)

module _ (kept : List ℕ) (sorted : AllPairs (λ a b. a < b) kept) (number index next others : ℕ) (indices : List ℕ)
    (so_far : AreChosen kept number index next others indices) where
  -- one index more
  ascending_more : AllPairs (λ a b. a < b) (indices ++ index ∷ [])
  ascending_more = all_pairs_push (λ a b. a < b) indices index so_far.ascending so_far.below

  below_more : All (λ i. i < index + 1) (indices ++ index ∷ [])
  below_more = All-push (λ i. i < index + 1) indices index (λ k d within. let b = so_far.below k d within in omega arith) (omega arith)

  length_more : length (indices ++ index ∷ []) ≡ length indices + 1
  length_more = length-append indices (index ∷ [])

  earlier : (i : ℕ) → Contains indices i → Contains (indices ++ index ∷ []) i
  earlier i among = Contains-append_left indices (index ∷ []) i among

  filled_more : 0 < others → (i : ℕ) → i < index + 1 → Contains (indices ++ index ∷ []) i
  filled_more some i below = elim (cases_lt i index) [
    | inl less ↦ earlier i (so_far.filled some i less)
    | inr last ↦
        let here : index ≡ i = omega arith in
        subst (Contains (indices ++ index ∷ [])) here (Contains-push indices index)
  ]

  -- where an index is added that is kept, or before which all were taken
  lowest_more : (¬ Contains kept index → (i : ℕ) → i < index → Contains indices i)
      → (i j : ℕ) → i < j → Contains (indices ++ index ∷ []) j → ¬ Contains kept j → Contains (indices ++ index ∷ []) i
  lowest_more all_before i j less among other = elim (Contains-push_cases indices index j among) [
    | inl old ↦ earlier i (so_far.lowest i j less old other)
    | inr new ↦
        let before : i < index = omega (arith, new) in
        earlier i (all_before (subst (λ (k : ℕ). ¬ Contains kept k) (sym new) other) i before)
  ]

  -- one that is kept
  pub chosen-kept : next < length kept → get_or kept next 0 ≡ index → AreChosen kept number (index + 1) (next + 1) others (indices ++ index ∷ [])
  chosen-kept within here = record {
    placed = omega arith;
    before = rw (take_more kept next 0 within)
        (All-push (Contains (indices ++ index ∷ [])) (take next kept) (get_or kept next 0)
        (λ k d inside. Contains-append_left indices (index ∷ []) (get_or (take next kept) k d) (so_far.before k d inside))
        (rw here (Contains-push indices index)));
    later = λ j d from inside. let more = sorted next j 0 (omega arith) inside in
        let same = get_or_default kept j 0 d inside in
        omega arith;
    ascending = ascending_more;
    below = below_more;
    counted = let c = so_far.counted in omega (arith, length_more);
    full = λ some. let f = so_far.full some in omega (arith, length_more);
    short = let s = so_far.short in omega (arith, length_more);
    lowest = lowest_more (λ other. absurd (other (subst (Contains kept) here (Contains-get_or kept next 0 within))));
    filled = filled_more;
  }

  module _ (other : next < length kept → get_or kept next 0 ≢ index) where
    later_still : (j d : ℕ) → next ≤ j → j < length kept → index + 1 ≤ get_or kept j d
    later_still j d from inside =
        let first = so_far.later next 0 (omega arith) (omega arith) in
        let differs = other (omega arith) in
        let same = get_or_default kept j 0 d inside in
        elim (cases_lt next j) [
          | inl before ↦ let more = sorted next j 0 before inside in omega arith
          | inr after ↦
              let here : j ≡ next = omega arith in
              omega (arith, ap (λ (m : ℕ). get_or kept m 0) here)
        ]

    -- another that is taken
    pub chosen-other : (left : ℕ) → left + 1 ≡ others → AreChosen kept number (index + 1) next left (indices ++ index ∷ [])
    chosen-other left some = record {
      placed = so_far.placed;
      before = λ k d inside. Contains-append_left indices (index ∷ []) (get_or (take next kept) k d) (so_far.before k d inside);
      later = later_still;
      ascending = ascending_more;
      below = below_more;
      counted = let c = so_far.counted in omega (arith, length_more);
      full = λ more. let f = so_far.full (omega arith) in omega (arith, length_more);
      short = let s = so_far.short in omega (arith, length_more);
      lowest = lowest_more (λ _. so_far.filled (omega arith));
      filled = λ more. filled_more (omega arith);
    }

    -- one that isn't taken
    pub chosen-without : others ≡ 0 → AreChosen kept number (index + 1) next others indices
    chosen-without none = record {
      placed = so_far.placed;
      before = so_far.before;
      later = later_still;
      ascending = so_far.ascending;
      below = λ k d within. let b = so_far.below k d within in omega arith;
      counted = so_far.counted;
      full = λ some. absurd (omega arith);
      short = let s = so_far.short in omega arith;
      lowest = so_far.lowest;
      filled = λ some. absurd (omega arith);
    }

  module _ (count : ℕ) (inside : All (λ i. i < count) kept) (end : index ≡ count) where
    -- all that are kept were taken
    pub chosen-all : next ≡ length kept
    chosen-all = elim (cases_lt next (length kept)) [
      | inl within ↦ absurd (let b = inside next 0 within in let l = so_far.later next 0 (omega arith) within in omega arith)
      | inr done ↦ let p = so_far.placed in omega arith
    ]

    pub chosen-kept_all : All (Contains indices) kept
    chosen-kept_all = subst (All (Contains indices)) (take_all next kept (omega (arith, chosen-all))) so_far.before

-- the shares with these indices
abbrev pub lent : List (List ℕ) → List ℕ → List (ℕ × List ℕ)
lent shares indices = map (λ index. (index, get_or shares index [])) indices

pub lent-distinct : (shares : List (List ℕ)) (indices : List ℕ) → AllPairs (λ a b. a < b) indices → AreDistinct (lent shares indices)
lent-distinct shares indices sorted =
    AllPairs-map (λ a b. a.0 ≢ b.0) (λ index. (index, get_or shares index [])) indices
    (λ i j d before within. λ same. let less = sorted i j d before within in omega (arith, same))

pub lent-indices : (shares : List (List ℕ)) (indices : List ℕ) (n : ℕ) → All (λ i. i < n) indices → All (λ s. s.0 < n) (lent shares indices)
lent-indices shares indices n below = All-map (λ s. s.0 < n) (λ index. (index, get_or shares index [])) indices below

pub lent-lengths : (shares : List (List ℕ)) (indices : List ℕ) (n : ℕ) → All (λ i. i < length shares) indices → All (λ s. length s ≡ n) shares
    → All (λ s. length s.1 ≡ n) (lent shares indices)
lent-lengths shares indices n below long =
    All-map (λ s. length s.1 ≡ n) (λ index. (index, get_or shares index [])) indices (λ k d within. long (get_or indices k d) [] (below k d within))

-- shares that stand among those that are lent are the same
pub same_at : (shares fitted : List (List ℕ)) (indices kept : List ℕ) → All (Contains indices) kept → All (λ i. i < length shares) kept
    → All (λ s. slice_get fitted s.0 ≡ Some s.1) (lent shares indices) → AreSameAt kept shares fitted
same_at shares fitted indices kept among below belong k d within =
    let index = get_or kept k d in
    let each = All-from_map (λ s. slice_get fitted s.0 ≡ Some s.1) (λ i. (i, get_or shares i [])) indices belong in
    slice_get-get_or shares index [] (below k d within)
    ∙ sym (All-contains (λ i. slice_get fitted i ≡ Some (get_or shares i [])) indices index each (among k d within))

-- and in the first of them
pub same_in_first : (shares fitted others : List (List ℕ)) (kept : List ℕ) (count : ℕ) → All (λ i. i < count) kept → AreSameAt kept shares fitted
    → count ≤ length fitted → take count fitted ≡ others → AreSameAt kept shares others
same_in_first shares fitted others kept count below same long first k d within =
    let index = get_or kept k d in
    let less = below k d within in
    let count_is = length-take-le count fitted long in
    same k d within ∙ slice_get-get_or fitted index [] (omega arith)
    ∙ ap Some (sym (get_or-take count fitted index [] less))
    ∙ sym (slice_get-get_or (take count fitted) index [] (omega arith))
    ∙ ap (λ xs. slice_get xs index) first

-- where no share is kept and one is enough
pub none_stay : (threshold : ℕ) (secret kept random : List ℕ) (shares others : List (List ℕ)) → threshold ≤ 1 → length kept ≤ threshold - 2
    → StayTheSame threshold secret kept random random shares others
none_stay threshold secret kept random shares others one few = record {
  indices = [];
  staying = record {
    ascending = AllPairs-nil (λ a b. a < b);
    number = omega arith;
    among = λ k d within. absurd (omega arith);
    lowest = λ i j less among other. absurd (Contains-nil j among);
  };
  below = All-nil (λ i. i < length shares);
  same = All-nil (λ i. slice_get shares i ≡ slice_get others i);
  key = refl;
}

-- the shares that are kept are the same
pub kept_stay : {threshold : ℕ} {secret kept random fitted : List ℕ} {shares others : List (List ℕ)}
    → StayTheSame threshold secret kept random fitted shares others → AreSameAt kept shares others
kept_stay {kept = kept} {shares = shares} {others = others} stay k d within =
    All-contains (λ i. slice_get shares i ≡ slice_get others i) stay.indices (get_or kept k d) stay.same (stay.staying.among k d within)
