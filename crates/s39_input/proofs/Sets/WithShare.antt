-- The set with a share more.
use Rattle.std.proofs.Common.{◌≡◌, ◌⊎◌, ◌↔◌, List, [], ◌∷◌, ◌++◌, get_or, All, AllPairs, Contains, Some, None, Result, Ok, Less, Equal, inl, inr, refl, sym, ap, subst, ◌∙◌, arith}
use Rattle.std.specs.Ordering.{ordering_reverse}
use Rattle.std.proofs.lemmas.Bool.Decides.{nat_tests}
use Rattle.std.proofs.lemmas.List.Elements.{All-contains, All-contains_itself, Contains-append_right, Contains-get_or}
use Rattle.s39_lists.proofs.Pairs.{AllPairs-head, AllPairs-tail, AllPairs-from_map}
use Rattle.s39_lists.proofs.Sublists.{Contains-head, Contains-cases}
use Rattle.s39_words.specs.declared.ShareFields.{ShareFields}
use Rattle.s39_words.specs.Share.{IsShare}
use Rattle.s39_set.specs.Names.{Name, name_cmp}
use Rattle.s39_set.specs.declared.set_error.Added.{Added}
use Rattle.s39_set.specs.declared.set_error.Added.TheVariants.{New, Repeat}
use Rattle.s39_set.specs.declared.set_error.SetError.{SetError}
use Rattle.s39_set.specs.ShareSet.{IsShareSet, HasOneMore, name_of, refusal_of}
use Rattle.s39_set.proofs.Ascending.{name_cmp_total}
use Rattle.s39_set.proofs.Inserting.{takes_share}
use Rattle.s39_set.proofs.OneMore.{one_more_cases, one_more_has}
use Rattle.s39_input.specs.Accepted.{placed, with_share, with_held, joined}

abbrev IsBefore : ShareFields → ShareFields → Type 0
IsBefore s t = name_cmp (name_of s) (name_of t) ≡ Less

same_name : (name : Name) → name_cmp name name ≡ Equal
same_name name = grind (arith, nat_tests)

-- a share of the set stays where it is
with_own : (set : List ShareFields) (share : ShareFields) → AllPairs IsBefore set → Contains set share → with_share share set ≡ set
with_own [] share ordered among = absurd (omega (arith, among.1))
with_own (s ∷ set) share ordered among =
    elim (Contains-cases s set share among) [
      | inl same ↦ ap (λ o. placed o share s set (with_share share set))
          (ap (λ (t : ShareFields). name_cmp (name_of s) (name_of t)) (sym same) ∙ same_name (name_of s))
      | inr later ↦
          ap (λ o. placed o share s set (with_share share set)) (All-contains (IsBefore s) set share (AllPairs-head IsBefore s set ordered) later)
          ∙ ap (λ l. s ∷ l) (with_own set share (AllPairs-tail IsBefore s set ordered) later)
    ]

-- another share gets its place
with_other : (before after : List ShareFields) (share : ShareFields) → AllPairs IsBefore (before ++ share ∷ after)
    → with_share share (before ++ after) ≡ before ++ share ∷ after
with_other [] [] share ordered = refl
with_other [] (s ∷ after) share ordered =
    let first = AllPairs-head IsBefore share (s ∷ after) ordered in
    let here : name_cmp (name_of share) (name_of s) ≡ Less = All-contains (IsBefore share) (s ∷ after) s first (Contains-head s after) in
    ap (λ o. placed o share s after (with_share share after)) (name_cmp_total.antisymm (name_of s) (name_of share) ∙ ap ordering_reverse here)
with_other (s ∷ before) after share ordered =
    let here : name_cmp (name_of s) (name_of share) ≡ Less =
    All-contains (IsBefore s) (before ++ share ∷ after) share (AllPairs-head IsBefore s (before ++ share ∷ after) ordered)
    (Contains-append_right before (share ∷ after) share (Contains-head share after)) in
    ap (λ o. placed o share s (before ++ after) (with_share share (before ++ after))) here
    ∙ ap (λ l. s ∷ l) (with_other before after share (AllPairs-tail IsBefore s (before ++ share ∷ after) ordered))

pub with_own_share : (set : List ShareFields) (share : ShareFields) → IsShareSet set → Contains set share → with_share share set ≡ set
with_own_share set share is = with_own set share (AllPairs-from_map (λ a b. name_cmp a b ≡ Less) name_of set is.ascending)

pub with_one_more : (set : List ShareFields) (share : ShareFields) (more : List ShareFields) → HasOneMore set share more → IsShareSet more
    → with_share share set ≡ more
with_one_more set share more one is =
    let ordered = AllPairs-from_map (λ a b. name_cmp a b ≡ Less) name_of more is.ascending in
    ap (with_share share) one.old_is
    ∙ with_other one.before one.after share (subst (AllPairs IsBefore) one.new_is ordered) ∙ sym one.new_is

-- the set has this share more, and no other
pub record Grows (set : List ShareFields) (share : ShareFields) (more : List ShareFields) : Type 0 where
  pub is_set : IsShareSet more
  pub earlier : All (Contains more) set
  pub here : Contains more share
  pub only : (s : ShareFields) → Contains more s → Contains set s ⊎ (share ≡ s)

pub grows : (set : List ShareFields) (share : ShareFields) → IsShareSet set → IsShare share → refusal_of set share ≡ None
    → Grows set share (with_share share set)
grows set share is valid joins =
    elim (takes_share set share is valid joins) [
      | inl among ↦ subst (Grows set share) (sym (with_own_share set share is among))
          (record { is_set = is; earlier = All-contains_itself set; here = among; only = λ s has. inl has })
      | inr (more, one, valid_more) ↦ subst (Grows set share) (sym (with_one_more set share more one valid_more)) (record {
        is_set = valid_more;
        earlier = λ k d below. one_more_has set share more one (get_or set k d) (inl (Contains-get_or set k d below));
        here = one_more_has set share more one share (inr refl);
        only = λ s has. one_more_cases set share more one s has;
      })
    ]

-- what adding a share to a set leads to
pub added : (old new : List ShareFields) (share : ShareFields) (answer : Added) → refusal_of old share ≡ None
    → (◌≡◌ {A = Result Added SetError} (Ok answer) (Ok Repeat) ↔ Contains old share)
    → (◌≡◌ {A = Result Added SetError} (Ok answer) (Ok New) → HasOneMore old share new)
    → (◌≡◌ {A = Result Added SetError} (Ok answer) (Ok Repeat) → new ≡ old) → IsShareSet new → with_held old (Some share) ≡ Ok new
added old new share New joins again one same is = ap (joined old share) joins ∙ ap Ok (with_one_more old share new (one refl) is)
added old new share Repeat joins again one same is =
    ap (joined old share) joins ∙ ap Ok (with_own_share old share (subst IsShareSet (same refl) is) (again.0 refl) ∙ sym (same refl))
