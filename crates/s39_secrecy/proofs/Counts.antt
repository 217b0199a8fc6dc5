-- Lists that correspond one to one are as many.
use Rattle.std.proofs.Common.{◌≡◌, ◌≢◌, ℕ, ◌+◌, ◌≤◌, List, [], ◌∷◌, length, get_or, map, All, AllPairs, Contains, sym, subst, ◌∙◌, inl, inr, arith}
use Rattle.std.proofs.lemmas.List.{length-map}
use Rattle.std.proofs.lemmas.List.Elements.{All-head, All-tail}
use Rattle.s39_lists.proofs.Pairs.{AllPairs-head, AllPairs-tail}
use Rattle.s39_lists.proofs.Sublists.{Contains-head, Contains-cons, Contains-cases, Contains-nil}
use Rattle.s39_secrecy.specs.Secrecy.{UndoEachOther, CorrespondOneToOne, AreAll}
use Rattle.s39_secrecy.proofs.OneToOne.{different_there}

-- a list without one of its elements
record HaveWithout {X : Type 0} (ys : List X) (x : X) : Type 0 where
  pub rest : List X
  pub number : length ys ≡ length rest + 1
  pub keep : (y : X) → Contains ys y → x ≢ y → Contains rest y

have_without : {X : Type 0} (ys : List X) (x : X) → Contains ys x → HaveWithout ys x
have_without [] x among = absurd (Contains-nil x among)
have_without (z ∷ zs) x among = elim (Contains-cases z zs x among) [
  | inl same ↦ record {
    rest = zs;
    number = omega arith;
    keep = λ y of other. elim (Contains-cases z zs y of) [
      | inl here ↦ absurd (other (sym same ∙ here))
      | inr later ↦ later
    ];
  }
  | inr later ↦
      let have = have_without zs x later in
      let number = have.number in
      record {
        rest = z ∷ have.rest;
        number = omega arith;
        keep = λ y of other. elim (Contains-cases z zs y of) [
          | inl here ↦ subst (Contains (z ∷ have.rest)) here (Contains-head z have.rest)
          | inr further ↦ Contains-cons z have.rest y (have.keep y further other)
        ];
      }
]

-- different elements of a list are no more than the list has
no_more : {X : Type 0} (xs ys : List X) → AllPairs (λ a b. a ≢ b) xs → All (Contains ys) xs → length xs ≤ length ys
no_more [] ys different among = omega arith
no_more (x ∷ xs) ys different among =
    let have = have_without ys x (All-head (Contains ys) x xs among) in
    let number = have.number in
    let others = All-tail (Contains ys) x xs among in
    let differs = AllPairs-head (λ a b. a ≢ b) x xs different in
    let fewer = no_more xs have.rest (AllPairs-tail (λ a b. a ≢ b) x xs different)
    (λ k d within. have.keep (get_or xs k d) (others k d within) (differs k d within)) in
    omega arith

-- all lists of one kind are no more than all of the other
no_more_there : (P Q : List ℕ → Type 0) (there back : List ℕ → List ℕ) → UndoEachOther P Q there back → (lists others : List (List ℕ))
    → AreAll P lists → AreAll Q others → length lists ≤ length others
no_more_there P Q there back undo lists others are also =
    let images = different_there P Q there back undo lists are.different in
    let fewer = no_more (map there lists) others images.different
    (λ k d within. also.complete (get_or (map there lists) k d) (images.of_kind k d within)) in
    omega (arith, length-map lists there)

pub as_many : (P Q : List ℕ → Type 0) → CorrespondOneToOne P Q → (lists others : List (List ℕ)) → AreAll P lists → AreAll Q others
    → length lists ≡ length others
as_many P Q c lists others are also =
    let one = no_more_there P Q c.there c.back c.undo lists others are also in
    let other = no_more_there Q P c.back c.there (record {
      leads_there = c.undo.leads_back;
      leads_back = c.undo.leads_there;
      there_and_back = c.undo.back_and_there;
      back_and_there = c.undo.there_and_back;
    }) others lists also are in
    omega (arith, one, other)
