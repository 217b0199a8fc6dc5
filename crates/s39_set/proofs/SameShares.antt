-- Lists with the same shares.
use Rattle.std.proofs.Common.{◌≡◌, ℕ, Bool, true, false, not, List, length, get_or, map, filter, All, Contains, Less}
use Rattle.std.proofs.Common.{refl, sym, ap, ◌∙◌, subst}
use Rattle.std.specs.List.{list_any}
use Rattle.std.specs.Prelude.{◌==◌, bytes_eq}
use Rattle.std.proofs.lemmas.List.Elements.{All-contains, filter_passes}
use Rattle.std.proofs.lemmas.List.Folds.{Any-from_list_any, list_any_at}
use Rattle.s39_words.specs.declared.share.ShareFields.{ShareFields}
use Rattle.s39_words.specs.Share.{flag_bit}
use Rattle.s39_set.specs.Names.{name_cmp, IsAscending}
use Rattle.s39_set.specs.ShareSet.{name_of, is_in_group, has_name, some_differs, refusal_of}
use Rattle.s39_lists.proofs.Pairs.{AllPairs-from_map}
use Rattle.s39_lists.proofs.Sublists.{Contains-filter, Contains-from_filter, same_from_elements}
use Rattle.s39_set.proofs.Ascending.{name_cmp_one_way}

-- ---- tests of lists with the same elements

same_bools : (b c : Bool) → (b ≡ true → c ≡ true) → (c ≡ true → b ≡ true) → b ≡ c
same_bools true c f g = sym (f refl)
same_bools false true f g = g refl
same_bools false false f g = refl

list_any-part : {X : Type 0} (test : X → Bool) (xs ys : List X) → All (Contains xs) ys → list_any test ys ≡ true → list_any test xs ≡ true
list_any-part test xs ys inside h =
    let found = Any-from_list_any test ys h in
    let among : Contains xs found.1 = subst (Contains xs) found.3 (inside found.0 found.1 found.2) in
    list_any_at test xs among.0 found.1 among.1 (ap test among.2 ∙ found.4)

list_any-same_elements : {X : Type 0} (test : X → Bool) (xs ys : List X) → All (Contains xs) ys → All (Contains ys) xs → list_any test xs ≡ list_any test ys
list_any-same_elements test xs ys first second =
    same_bools (list_any test xs) (list_any test ys) (list_any-part test ys xs second) (list_any-part test xs ys first)

filter-part : {X : Type 0} (test : X → Bool) (xs ys : List X) → All (Contains xs) ys → All (Contains (filter test xs)) (filter test ys)
filter-part test xs ys inside k d below =
    let y = get_or (filter test ys) k d in
    Contains-filter test xs y (All-contains (Contains xs) ys y inside (Contains-from_filter test ys k d below)) (filter_passes test ys k d below)

any_filtered-same_elements : {X : Type 0} (chosen test : X → Bool) (xs ys : List X) → All (Contains xs) ys → All (Contains ys) xs
    → list_any test (filter chosen xs) ≡ list_any test (filter chosen ys)
any_filtered-same_elements chosen test xs ys first second =
    list_any-same_elements test (filter chosen xs) (filter chosen ys) (filter-part chosen xs ys first) (filter-part chosen ys xs second)

-- whether a share is refused depends on which shares there are
pub refusal-same_shares : (xs ys : List ShareFields) (share : ShareFields) → All (Contains xs) ys → All (Contains ys) xs
    → refusal_of xs share ≡ refusal_of ys share
refusal-same_shares xs ys share first second =
    let differs : (number : ShareFields → ℕ) → some_differs number xs share ≡ some_differs number ys share =
    λ number. list_any-same_elements (λ s. not (number s == number share)) xs ys first second in
    rw (
      differs (λ s. s.id),
      differs (λ s. flag_bit s.extendable),
      differs (λ s. s.exponent),
      differs (λ s. s.group_threshold),
      differs (λ s. s.group_count),
      differs (λ s. length s.value.items),
      any_filtered-same_elements (is_in_group share.group_index) (λ s. not (s.member_threshold == share.member_threshold)) xs ys first second,
      any_filtered-same_elements (has_name share.group_index share.member_index) (λ s. not (bytes_eq s.value.items share.value.items)) xs ys first second,
    )
    refl

-- they are known by which shares they are
pub set_once : (set other : List ShareFields) → IsAscending (map name_of set) → IsAscending (map name_of other) → All (Contains set) other
    → All (Contains other) set → set ≡ other
set_once set other first second =
    same_from_elements (λ s t. name_cmp (name_of s) (name_of t) ≡ Less) (λ s t. name_cmp_one_way (name_of s) (name_of t)) set other
    (AllPairs-from_map (λ a b. name_cmp a b ≡ Less) name_of set first) (AllPairs-from_map (λ a b. name_cmp a b ≡ Less) name_of other second)
