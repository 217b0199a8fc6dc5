-- A judged mnemonic's set has the shares with its identifier, and its own.
use Rattle.std.proofs.Common.{◌≡◌, ◌↔◌, ℕ, suc, Bool, true, false, cond, List, [], ◌∷◌, length, filter, Contains, inl, inr, refl, sym, ap, subst, ◌∙◌}
use Rattle.std.proofs.Common.{Option, Some, None, Result, Ok, Err, ◌==◌, nat_lt, if◌then◌else◌}
use Rattle.std.specs.Option.{option_map_or}
use Rattle.std.proofs.lemmas.List.Elements.{All-contains, All-cons}
use Rattle.s39_lists.proofs.Each.{then_gives}
use Rattle.s39_lists.proofs.Sublists.{each, Contains-head, Contains-cons}
use Rattle.s39_lists.specs.Each.{and_then}
use Rattle.s39_words.specs.declared.ShareFields.{ShareFields}
use Rattle.s39_words.specs.declared.word_error.WordError.{WordError}
use Rattle.s39_words.specs.Share.{IsShare}
use Rattle.s39_words.specs.Reading.{reading}
use Rattle.s39_words.proofs.OneReading.{spelled_from_read}
use Rattle.s39_set.specs.declared.set_error.SetError.{SetError}
use Rattle.s39_set.specs.ShareSet.{IsShareSet, refusal_of}
use Rattle.s39_set.proofs.Inserting.{takes_share}
use Rattle.s39_input.specs.declared.fault.Fault.{Fault}
use Rattle.s39_input.specs.declared.fault.LineRefusal.{LineRefusal}
use Rattle.s39_input.specs.declared.fault.LineRefusal.TheVariants.{TooLong}
use Rattle.s39_input.specs.declared.fault.Refusal.TheVariants.{Line}
use Rattle.s39_input.specs.declared.fault.Stop.{Stop}
use Rattle.s39_input.specs.declared.judging.Judged.{Judged}
use Rattle.s39_input.specs.Fault.{fault_of}
use Rattle.s39_input.specs.Input.{longest_line, whole, lines_of}
use Rattle.s39_input.specs.Lines.{share_in, at_line, led}
use Rattle.s39_input.specs.Accepted.{IsSetOf, held_share, with_held, with_line, with_share}
use Rattle.s39_input.specs.Judging.{mate_in, with_mate, mates, holds_mate, mate_shares, is_again, beside, share_or_fault, set_or_fault, judgement}
use Rattle.s39_input.proofs.Sets.Collected.{collected, line_taken, no_shares, set_of}
use Rattle.s39_input.proofs.Sets.Mates.{longer, same_length}
use Rattle.s39_input.proofs.Sets.WithShare.{Grows, grows, with_own_share, with_one_more}

-- ---- lines

-- the lines that hold mates lead alone to the set that all lead to
alone : (id n m : ℕ) (set : List ShareFields) (lines : List (List ℕ)) (more : List ShareFields) → led (with_mate id) true n set lines ≡ Ok more
    → led with_line true m set (filter (holds_mate id) lines) ≡ Ok more
alone id n m set [] more leads = let same : set ≡ more = cc in ap Ok same
alone id n m set (line ∷ lines) more leads =
    let first = then_gives (λ t. led (with_mate id) true (suc n) t lines) (at_line n (with_mate id set line)) more leads in
    by (share_in line) refl first.a (line_taken n (with_mate id set line) first.a first.first_is) (λ k. alone id (suc n) k first.a lines more first.then_is)
  where
    rest : List (List ℕ)
    rest = filter (holds_mate id) lines

    kept : (holds : Bool) → holds_mate id line ≡ holds → led with_line true m set (cond holds (line ∷ rest) rest) ≡ Ok more
        → led with_line true m set (filter (holds_mate id) (line ∷ lines)) ≡ Ok more
    kept holds is leads = ap (λ b. led with_line true m set (cond b (line ∷ rest) rest)) is ∙ leads

    on : (share : ShareFields) → share_in line ≡ Ok (Some share) → (next : List ShareFields) → (own : Bool) → (share.id == id) ≡ own
        → with_held set (if own then Some share else None) ≡ Ok next → ((k : ℕ) → led with_line true k next rest ≡ Ok more)
        → led with_line true m set (filter (holds_mate id) (line ∷ lines)) ≡ Ok more
    on share says next true own taken later =
        kept true (ap (λ said. option_map_or (λ s. s.id == id) (held_share said) false) says ∙ own)
        (ap (λ r. and_then (λ t. led with_line true (suc m) t rest) (at_line m r)) (ap (and_then (with_held set)) says ∙ taken) ∙ later (suc m))
    on share says next false other taken later =
        let same : set ≡ next = cc in
        kept false (ap (λ said. option_map_or (λ s. s.id == id) (held_share said) false) says ∙ other)
        (subst (λ s. led with_line true m s rest ≡ Ok more) (sym same) (later m))

    by : (said : Result (Option ShareFields) LineRefusal) → share_in line ≡ said → (next : List ShareFields)
        → and_then (λ held. with_held set (mate_in id held)) said ≡ Ok next → ((k : ℕ) → led with_line true k next rest ≡ Ok more)
        → led with_line true m set (filter (holds_mate id) (line ∷ lines)) ≡ Ok more
    by (Err refusal) says next taken later = absurd (cc)
    by (Ok None) says next taken later =
        let same : set ≡ next = cc in
        kept false (ap (λ said. option_map_or (λ s. s.id == id) (held_share said) false) says)
        (subst (λ s. led with_line true m s rest ≡ Ok more) (sym same) (later m))
    by (Ok (Some share)) says next taken later = on share says next (share.id == id) refl taken later

-- a share that is read is one
share_read : (line : List ℕ) (share : ShareFields) → reading line ≡ Ok share → IsShare share
share_read line share reads = (spelled_from_read line share reads).is_share

-- the set of mates has their shares
mates_are : (id : ℕ) (lines : List ℕ) (set : List ShareFields) → mates id lines ≡ Ok set → IsShareSet set × IsSetOf (mate_shares id lines) set
unfolding mates
mates_are id lines set led =
    let own = filter (holds_mate id) (lines_of (whole lines)) in
    let (ended, c) = collected true 0 [] own set no_shares (alone id 0 0 [] (lines_of (whole lines)) set led) in
    (c.is_set, set_of own set c)

-- ---- a judgement

-- what a judgement says
pub record IsJudged (lines line : List ℕ) (judged : Judged) : Type 0 where
  pub before : List ShareFields
  pub reads : reading line ≡ Ok judged.share
  pub led : mates judged.share.id lines ≡ Ok before
  pub joins : refusal_of before judged.share ≡ None
  pub again_is : is_again before judged.share ≡ judged.again
  pub set_is : with_share judged.share before ≡ judged.set

pub is_judged : (lines line : List ℕ) (found : Judged) → judgement lines line ≡ Ok found → IsJudged lines line found
is_judged lines line found is = by_length (nat_lt longest_line (length line)) is where
  Beside : ShareFields → List ShareFields → Result Judged Fault
  Beside share set = beside share set (refusal_of set share)

  by_cause : (share : ShareFields) (set : List ShareFields) → reading line ≡ Ok share → mates share.id lines ≡ Ok set → (cause : Option SetError)
      → refusal_of set share ≡ cause → beside share set cause ≡ Ok found → IsJudged lines line found
  by_cause share set reads led (Some error) joins is = absurd (cc)
  by_cause share set reads led None joins is =
      subst (IsJudged lines line) (judged_once is)
      (record { before = set; reads = reads; led = led; joins = joins; again_is = refl; set_is = refl })
    where
      judged_once : {a b : Judged} → ◌≡◌ {A = Result Judged Fault} (Ok a) (Ok b) → a ≡ b
      judged_once same = cc

  by_set : (share : ShareFields) → reading line ≡ Ok share → (set : Result (List ShareFields) (Stop LineRefusal)) → mates share.id lines ≡ set
      → and_then (Beside share) (set_or_fault set) ≡ Ok found → IsJudged lines line found
  by_set share reads (Err stop) led is = absurd (cc)
  by_set share reads (Ok set) led is = by_cause share set reads led (refusal_of set share) refl is

  by_read : (read : Result ShareFields WordError) → reading line ≡ read
      → and_then (λ share. and_then (Beside share) (set_or_fault (mates share.id lines))) (share_or_fault read) ≡ Ok found → IsJudged lines line found
  by_read (Err error) reads is = absurd (cc)
  by_read (Ok share) reads is = by_set share reads (mates share.id lines) refl is

  by_length : (long : Bool) → and_then (λ share. and_then (Beside share) (set_or_fault (mates share.id lines)))
      (if long then Err (fault_of (Line TooLong)) else share_or_fault (reading line)) ≡ Ok found → IsJudged lines line found
  by_length true is = absurd (cc)
  by_length false is = by_read (reading line) refl is

-- the share is among the set's before it joins it, or it isn't, as is told
told : (before : List ShareFields) (share : ShareFields) → IsShareSet before → IsShare share → refusal_of before share ≡ None
    → (is_again before share ≡ true ↔ Contains before share)
told before share is valid joins = (among, again) where
  again : Contains before share → is_again before share ≡ true
  again among = ap (λ own. length own == length before) (with_own_share before share is among) ∙ same_length before

  among : is_again before share ≡ true → Contains before share
  among grown = elim (takes_share before share is valid joins) [
    | inl has ↦ has
    | inr (more, one, valid_more) ↦ absurd (
        let not : is_again before share ≡ false =
        ap (λ set. length set == length before) (with_one_more before share more one valid_more) ∙ longer before more share one in
        let clash : true ≡ false = sym grown ∙ not in cc)
  ]

-- the set of a judgement has the mates, and the judged share
pub judged_set : (lines line : List ℕ) (found : Judged) → judgement lines line ≡ Ok found
    → IsShareSet found.set × IsSetOf (found.share ∷ mate_shares found.share.id lines) found.set
judged_set lines line found is =
    let j = is_judged lines line found is in
    let share = found.share in
    let (valid, of) = mates_are share.id lines j.before j.led in
    let grown = subst (Grows j.before share) j.set_is (grows j.before share valid (share_read line share j.reads) j.joins) in (
      grown.is_set,
      record {
        ascending = grown.is_set.ascending;
        all = All-cons (Contains found.set) share (mate_shares share.id lines) grown.here
            (each (Contains found.set) (mate_shares share.id lines)
            (λ s has. All-contains (Contains found.set) j.before s grown.earlier (All-contains (Contains j.before) (mate_shares share.id lines) s of.all has)));
        only = each (Contains (share ∷ mate_shares share.id lines)) found.set (λ s has. elim (grown.only s has) [
          | inl before ↦ Contains-cons share (mate_shares share.id lines) s
              (All-contains (Contains (mate_shares share.id lines)) j.before s of.only before)
          | inr same ↦ subst (Contains (share ∷ mate_shares share.id lines)) same (Contains-head share (mate_shares share.id lines))
        ]);
      },
    )

pub judged_again : (lines line : List ℕ) (found : Judged) → judgement lines line ≡ Ok found
    → (found.again ≡ true ↔ Contains (mate_shares found.share.id lines) found.share)
judged_again lines line found is =
    let j = is_judged lines line found is in
    let share = found.share in
    let (valid, of) = mates_are share.id lines j.before j.led in
    let (among, again) = told j.before share valid (share_read line share j.reads) j.joins in (
      λ yes. All-contains (Contains (mate_shares share.id lines)) j.before share of.only (among (j.again_is ∙ yes)),
      λ has. sym j.again_is ∙ again (All-contains (Contains j.before) (mate_shares share.id lines) share of.all has),
    )
