-- What is combined, as the code holds it.
use Rattle.std.proofs.Common.{◌≡◌, ℕ, ◌+◌, ◌<◌, ◌≤◌, ◌==◌, Bool, true, false, List, [], ◌∷◌, ◌++◌, length, get_or, take, find, Contains, Option, Some, None, refl, sym, ap}
use Rattle.std.proofs.Common.{subst, ◌∙◌, arith}
use Rattle.std.specs.Prelude.{IfSome, IsSome}
use Rattle.std.specs.Borrow.{Bor}
use Rattle.std.specs.Option.{option_copied, option_map}
use Rattle.std.proofs.lemmas.List.{take_more}
use Rattle.std.proofs.lemmas.List.Elements.{filter_map-append}
use Rattle.std.proofs.lemmas.Bool.Decides.{nat_tests}
use Rattle.arrayvec.specs.ArrayVec.{ArrayVec}
use Rattle.s39_words.specs.declared.share.ShareFields.{ShareFields}
use Rattle.s39_set.specs.Names.{Names, names_in_group}
use Rattle.s39_set.specs.ShareSet.{has_name}
use Rattle.s39_backup.specs.Combination.{member_shares}
use Rattle.s39_backup.specs.GroupShares.{indexed_group_shares, value_bytes_of, IsExactQuorum, AreOfOneLevel}
use Rattle.s39_lists.proofs.Finds.{Contains-find}
use Rattle.s39_backup.proofs.Values.{HasShare}
use Rattle.s39_backup.proofs.Levels.{length-member_shares, members_of_one_level, some_group}

-- a share that is found is one of the set
pub among-found : (found : Option (Bor ShareFields)) (group member : ℕ) (set : List ShareFields)
    → option_copied found ≡ find (has_name group member) set → IfSome found (λ share. Contains set share.now)
among-found None group member set is = tt
among-found (Some share) group member set is = Contains-find (has_name group member) set share.now (sym is)

-- the share of a name of the set is found
pub found_some : (found : Option (Bor ShareFields)) (group member : ℕ) (set : List ShareFields) → HasShare set (group, member)
    → option_copied found ≡ find (has_name group member) set → IsSome found
found_some None group member set has is = let found = has.found in cc
found_some (Some share) group member set has is = refl

-- a quorum has a name
pub some_name : (set : List ShareFields) (names : Names) → IsExactQuorum set names → 0 < length names
some_name set [] quorum = let some = some_group set [] quorum in omega arith
some_name set (n ∷ ns) quorum = omega arith

-- a group share more
pub indexed_group_shares-push : (items : List (Option (ℕ × ArrayVec ℕ))) (share : ℕ × ArrayVec ℕ)
    → indexed_group_shares (items ++ Some share ∷ []) ≡ indexed_group_shares items ++ (share.0, share.1.items) ∷ []
indexed_group_shares-push items share = filter_map-append (λ place. option_map (λ s. (s.0, s.1.items)) place) items (Some share ∷ [])

-- a place more
pub indexed_group_shares-more : (items : List (Option (ℕ × ArrayVec ℕ))) (i : ℕ) (place : Option (ℕ × ArrayVec ℕ)) → i < length items
    → place ≡ get_or items i place
    → indexed_group_shares (take (i + 1) items) ≡ indexed_group_shares (take i items) ++ indexed_group_shares (place ∷ [])
indexed_group_shares-more items i place within is =
    ap indexed_group_shares (take_more items i place within)
    ∙ filter_map-append (λ p. option_map (λ s. (s.0, s.1.items)) p) (take i items) (get_or items i place ∷ [])
    ∙ ap (λ p. indexed_group_shares (take i items) ++ indexed_group_shares (p ∷ [])) (sym is)

-- there are at most as many as places
pub indexed_group_shares-few : (items : List (Option (ℕ × ArrayVec ℕ))) → length (indexed_group_shares items) ≤ length items
indexed_group_shares-few [] = omega arith
indexed_group_shares-few (None ∷ places) = let few = indexed_group_shares-few places in omega arith
indexed_group_shares-few (Some share ∷ places) = let few = indexed_group_shares-few places in omega arith

module _ (set : List ShareFields) (names : Names) (quorum : IsExactQuorum set names) (group : ℕ) (members : List (ℕ × List ℕ))
    (is : members ≡ member_shares set names group) where
  pub length-members : length members ≡ length (names_in_group group names)
  length-members = ap length is ∙ length-member_shares set names group

  -- the shares of a group can be combined
  pub members_can : 0 < length members → AreOfOneLevel (value_bytes_of set) members
  members_can some =
      subst (AreOfOneLevel (value_bytes_of set)) (sym is) (members_of_one_level set names quorum group (omega (arith, length-members)))

-- a list that isn't empty has an element
pub some_from_test : (test : Bool) (n : ℕ) → test ≡ (n == 0) → test ≡ false → 0 < n
some_from_test test n is fails = grind (arith, nat_tests)

pub none_from_test : (test : Bool) (n : ℕ) → test ≡ (n == 0) → test ≡ true → n ≤ 0
none_from_test test n is passes = grind (arith, nat_tests)
