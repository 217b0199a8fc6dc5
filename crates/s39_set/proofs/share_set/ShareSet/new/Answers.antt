use Rattle.std.proofs.Common.{◌≡◌, ◌∙◌, ◌≤◌, ◌<◌, ℕ, zero, suc, Bool, true, false, Option, Some, List, [], ◌∷◌, refl, length, get_or, All}
use Rattle.std.proofs.Common.{None, Less, ⊎_elim, ap, sym, subst, arith, rules}
use Rattle.std.proofs.lemmas.Bool.{cases_lt, false≢true}
use Rattle.std.proofs.lemmas.List.{get_or_past}
use Rattle.std.proofs.lemmas.List.Elements.{All-nil}
use Rattle.s39_words.specs.Share.{IsShare}
use Rattle.s39_set.specs.Names.{name_cmp, most_names}
use Rattle.s39_set.specs.ShareSet.{Agrees, IsShareSet}
use Rattle.s39_set.specs.Quorums.{group_threshold_of, member_threshold_of}
use Rattle.s39_lists.proofs.Pairs.{AllPairs-nil}
use Rattle.s39_set.proofs.Slots.{none_placed}
use Rattle.s39_set.proofs.share_set.ShareSet.new.Goals as goal

none_at : (c : goal.After-from_fn) (i : ℕ) → get_or c.from_fn.result i None ≡ None
none_at c i =
    let long : length c.from_fn.result ≡ most_names = c.from_fn.ensures.items.long in
    ⊎_elim
    (λ (below : i < most_names). let h = c.from_fn.ensures.items.at i None below in search rules)
    (λ (past : most_names ≤ i). get_or_past c.from_fn.result i None (omega arith))
    (cases_lt i most_names)

-- there is no value
abbrev all_none : List (Option ℕ) → Bool
all_none [] = true
all_none (None ∷ rest) = all_none rest
all_none (Some n ∷ rest) = false

abbrev four : List (Option ℕ) → List (Option ℕ)
four rest = None ∷ None ∷ None ∷ None ∷ rest

none_read : (values : List (Option ℕ)) → all_none values ≡ true → (k : ℕ) → get_or values k None ≡ None
none_read [] none k = refl
none_read (None ∷ rest) none zero = refl
none_read (None ∷ rest) none (suc k) = none_read rest none k
none_read (Some n ∷ rest) none k = absurd (false≢true none)

is_set-none : IsShareSet []
is_set-none = record {
  each = All-nil IsShare;
  ascending = AllPairs-nil (λ x y. name_cmp x y ≡ Less);
  agree = All-nil (λ s. All (Agrees s) []);
}

pub invariant_of-result : goal.invariant_of-result
invariant_of-result c = record {
  is_set = subst IsShareSet (sym (none_placed c.from_fn.result (none_at c))) is_set-none;
  own_slot = λ k. rw (none_at c k) tt;
  group_threshold_is = sym (ap group_threshold_of (none_placed c.from_fn.result (none_at c)));
  member_thresholds_are = λ group low.
      none_read (four (four (four (four [])))) refl group ∙ sym (ap (λ shares. member_threshold_of shares group) (none_placed c.from_fn.result (none_at c)));
}

pub returns : goal.returns
returns c = none_placed c.from_fn.result (none_at c)
