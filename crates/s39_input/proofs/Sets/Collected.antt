-- The set that lines lead to has their shares.
use Rattle.std.proofs.Common.{◌≡◌, ◌⊎◌, ℕ, Bool, true, false, List, [], ◌∷◌, get_or, All, Contains, inl, inr, refl, sym, ap, ◌∙◌, subst, suc}
use Rattle.std.proofs.Common.{Option, Some, None, Result, Ok, Err, Less}
use Rattle.std.specs.List.{cons_option}
use Rattle.std.specs.Result.{IfOk}
use Rattle.std.proofs.lemmas.List.Elements.{All-nil, All-cons, All-contains, All-contains_itself}
use Rattle.s39_lists.proofs.Each.{then_gives}
use Rattle.s39_lists.proofs.Pairs.{AllPairs-nil}
use Rattle.s39_lists.proofs.Sublists.{each, Contains-head, Contains-cons, Contains-nil}
use Rattle.s39_lists.specs.Each.{and_then}
use Rattle.s39_words.specs.declared.ShareFields.{ShareFields}
use Rattle.s39_words.specs.Share.{IsShare}
use Rattle.s39_words.proofs.OneReading.{spelled_from_read}
use Rattle.s39_set.specs.declared.set_error.SetError.{SetError}
use Rattle.s39_set.specs.Names.{name_cmp}
use Rattle.s39_set.specs.ShareSet.{Agrees, IsShareSet, refusal_of}
use Rattle.s39_input.specs.declared.fault.LineRefusal.{LineRefusal}
use Rattle.s39_input.specs.declared.fault.Stop.{Stop}
use Rattle.s39_input.specs.Input.{Input, lines_of}
use Rattle.s39_input.specs.Lines.{Holds, share_in, at_line, at_end, led}
use Rattle.s39_input.specs.Accepted.{IsSetOf, IsReadAs, read_as, shares_in, held_share, with_share, with_held, with_line, joined}
use Rattle.s39_input.specs.Collecting.{CollectsLine, ended_in}
use Rattle.s39_input.specs.Midway.{RunsOver}
use Rattle.s39_input.proofs.Sets.WithShare.{Grows, grows}
use Rattle.s39_input.proofs.Taking.SaidByLines.{held_is_read}
use Rattle.s39_input.proofs.Taking.RunsOfLines.{runs_led}

-- ---- one line

-- the set has what a line holds
abbrev pub Joins : List ShareFields → Option ShareFields → List ShareFields → Type 0
Joins set None more = set ≡ more
Joins set (Some share) more = Grows set share more

record HasTaken (set : List ShareFields) (line : List ℕ) (more : List ShareFields) : Type 0 where
  held : Option ShareFields
  holds : Holds line held
  joins : Joins set held more

pub held_share_is_share : (line : List ℕ) (share : ShareFields) → Holds line (Some share) → IsShare share
held_share_is_share line share holds = (spelled_from_read line share (held_is_read line share holds)).is_share

has_taken : (set : List ShareFields) (line : List ℕ) (more : List ShareFields) → IsShareSet set → with_line set line ≡ Ok more → HasTaken set line more
has_taken set line more is taken = by (share_in line) refl taken where
  share_taken : (share : ShareFields) → Holds line (Some share) → (cause : Option SetError) → refusal_of set share ≡ cause
      → joined set share cause ≡ Ok more → HasTaken set line more
  share_taken share holds (Some error) cause taken = absurd (cc)
  share_taken share holds None none taken =
      let same : with_share share set ≡ more = cc in record {
        held = Some share;
        holds = holds;
        joins = subst (Grows set share) same (grows set share is (held_share_is_share line share holds) none);
      }

  by : (said : Result (Option ShareFields) LineRefusal) → share_in line ≡ said → and_then (with_held set) said ≡ Ok more → HasTaken set line more
  by (Err refusal) says taken = absurd (cc)
  by (Ok None) says taken = record { held = None; holds = says; joins = cc }
  by (Ok (Some share)) says taken = share_taken share says (refusal_of set share) refl taken

-- ---- all lines

-- the set has grown by the shares of these lines
pub record IsCollected (set : List ShareFields) (lines : List (List ℕ)) (more : List ShareFields) : Type 0 where
  pub is_set : IsShareSet more
  pub earlier : All (Contains more) set
  pub all : All (Contains more) (shares_in lines)
  pub only : (s : ShareFields) → Contains more s → Contains set s ⊎ Contains (shares_in lines) s

collected_none : (set : List ShareFields) → IsShareSet set → IsCollected set [] set
collected_none set is = record { is_set = is; earlier = All-contains_itself set; all = All-nil (Contains set); only = λ s has. inl has }

collected_line : (line : List ℕ) (lines : List (List ℕ)) (set next more : List ShareFields) (held : Option ShareFields) → Joins set held next
    → IsCollected next lines more → shares_in (line ∷ lines) ≡ cons_option held (shares_in lines) → IsCollected set (line ∷ lines) more
collected_line line lines set next more None same c shares =
    subst (λ (l : List ShareFields). IsCollected l (line ∷ lines) more) (sym same) (record {
      is_set = c.is_set;
      earlier = c.earlier;
      all = subst (All (Contains more)) (sym shares) c.all;
      only = λ s has. subst (λ l. Contains next s ⊎ Contains l s) (sym shares) (c.only s has);
    })
collected_line line lines set next more (Some share) grown c shares = record {
  is_set = c.is_set;
  earlier = λ k d below. All-contains (Contains more) next (get_or set k d) c.earlier (grown.earlier k d below);
  all = subst (All (Contains more)) (sym shares)
      (All-cons (Contains more) share (shares_in lines) (All-contains (Contains more) next share c.earlier grown.here) c.all);
  only = λ s has. subst (λ l. Contains set s ⊎ Contains l s) (sym shares) (elim (c.only s has) [
    | inl before ↦ elim (grown.only s before) [
      | inl earlier ↦ inl earlier
      | inr same ↦ inr (subst (Contains (share ∷ shares_in lines)) same (Contains-head share (shares_in lines)))
    ]
    | inr later ↦ inr (Contains-cons share (shares_in lines) s later)
  ]);
}

all_ended : {S C : Type 0} (ended : Bool) (s t : S) → at_end {S = S} {C = C} ended s ≡ Ok t → (ended ≡ true) × (s ≡ t)
all_ended true s t is = (refl, cc)
all_ended false s t is = absurd (cc)

pub line_taken : {S C : Type 0} (n : ℕ) (taken : Result S C) (s : S) → at_line n taken ≡ Ok s → taken ≡ Ok s
line_taken n (Ok t) s is = cc
line_taken n (Err cause) s is = absurd (cc)

pub collected : (ended : Bool) (n : ℕ) (set : List ShareFields) (lines : List (List ℕ)) (more : List ShareFields) → IsShareSet set
    → led with_line ended n set lines ≡ Ok more → (ended ≡ true) × IsCollected set lines more
collected ended n set [] more is leads =
    let end = all_ended ended set more leads in (end.0, subst (IsCollected set []) end.1 (collected_none set is))
collected ended n set (line ∷ lines) more is leads =
    let first = then_gives (λ t. led with_line ended (suc n) t lines) (at_line n (with_line set line)) more leads in
    let taken = has_taken set line first.a is (line_taken n (with_line set line) first.a first.first_is) in
    let valid = next_is_set taken.held taken.joins in
    let rest = collected ended (suc n) first.a lines more valid first.then_is in (
      rest.0,
      collected_line line lines set first.a more taken.held taken.joins rest.1 (ap (λ r. cons_option (held_share r) (shares_in lines)) taken.holds),
    )
  where
    next_is_set : {next : List ShareFields} (held : Option ShareFields) → Joins set held next → IsShareSet next
    next_is_set None same = subst IsShareSet same is
    next_is_set (Some share) grown = grown.is_set

pub no_shares : IsShareSet []
no_shares = record { each = All-nil IsShare; ascending = AllPairs-nil (λ a b. name_cmp a b ≡ Less); agree = All-nil (λ share. All (Agrees share) []) }

-- ---- an input

-- a run that collects what lines hold gives what the input is read as
pub runs_read : (input : Input) (old new : List ShareFields) (answer : Result (Unit {0}) (Stop LineRefusal)) → old ≡ []
    → RunsOver CollectsLine input old new answer → IsReadAs input (ended_in new answer)
unfolding read_as
runs_read input old new answer none runs =
    ap (λ s. led with_line input.ended 0 s (lines_of input)) (sym none) ∙ runs_led with_line input.ended 0 (lines_of input) old new answer runs

-- the set that lines lead to has exactly their shares
pub set_of : (lines : List (List ℕ)) (set : List ShareFields) → IsCollected [] lines set → IsSetOf (shares_in lines) set
set_of lines set c = record {
  ascending = c.is_set.ascending;
  all = c.all;
  only = each (Contains (shares_in lines)) set (λ s has. elim (c.only s has) [
    | inl none ↦ absurd (Contains-nil s none)
    | inr held ↦ held
  ]);
}

-- an accepted input ended, and is read as the set of the shares of its lines
pub accepted : (input : Input) (set : List ShareFields) → IsReadAs input (Ok set)
    → IsShareSet set × ((input.ended ≡ true) × IsSetOf (shares_in (lines_of input)) set)
unfolding read_as
accepted input set read =
    let (ended, c) = collected input.ended 0 [] (lines_of input) set no_shares read in
    (c.is_set, (ended, set_of (lines_of input) set c))

-- so an input is read as a share set, or it's refused
pub some_read : (input : Input) → (answer : Result (List ShareFields) (Stop LineRefusal)) × IsReadAs input answer × IfOk answer IsShareSet
some_read input = (read_as input, refl, by (read_as input) refl) where
  by : (answer : Result (List ShareFields) (Stop LineRefusal)) → read_as input ≡ answer → IfOk answer IsShareSet
  by (Ok set) read = (accepted input set read).0
  by (Err stop) read = tt
