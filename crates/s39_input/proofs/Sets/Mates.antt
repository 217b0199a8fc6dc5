-- What lines lead to whose shares have one identifier, and a share beside the set of its mates.
use Rattle.std.proofs.Common.{◌≡◌, ℕ, suc, true, false, List, [], ◌∷◌, length, length-append, inl, inr, sym, ap, subst, ◌∙◌, arith}
use Rattle.std.proofs.Common.{Some, None, Result, Ok, Err, Contains, ◌==◌, if◌then◌else◌}
use Rattle.std.proofs.lemmas.Bool.Decides.{nat_tests}
use Rattle.s39_lists.specs.Each.{and_then}
use Rattle.s39_words.specs.declared.ShareFields.{ShareFields}
use Rattle.s39_set.specs.ShareSet.{IsShareSet, HasOneMore, refusal_of}
use Rattle.s39_input.specs.Fault.{fault_of_stop}
use Rattle.s39_input.specs.declared.fault.LineRefusal.{LineRefusal}
use Rattle.s39_input.specs.declared.fault.Stop.{Stop}
use Rattle.s39_input.specs.declared.judging.Mates.{Mates}
use Rattle.s39_input.specs.Input.{whole, lines_of}
use Rattle.s39_input.specs.Lines.{at_line, led}
use Rattle.s39_input.specs.Collecting.{CollectsMate, ended_in}
use Rattle.s39_input.specs.Judging.{mate_in, with_mate, mates, beside, judged, share_of, set_or_fault, judgement}
use Rattle.s39_input.specs.Midway.{RunsOn, RunsOver}
use Rattle.s39_input.proofs.Sets.WithShare.{with_own_share, with_one_more}

-- ---- lines

-- a share with the identifier is a mate
pub own_mate : (id : ℕ) (share : ShareFields) → share.id ≡ id → mate_in id (Some share) ≡ Some share
own_mate id share same = ap (λ b. if b then Some share else None) (equal share.id id same) where
  equal : (m n : ℕ) → m ≡ n → (m == n) ≡ true
  equal m n same = grind (arith, nat_tests)

mates_led : (n : ℕ) (lines : List (List ℕ)) (old new : Mates) (answer : Result (Unit {0}) (Stop LineRefusal))
    → RunsOn CollectsMate true n lines old new answer → led (with_mate old.id) true n old.set lines ≡ ended_in new.set answer
mates_led n [] old new answer (same, is) = ap (λ (m : Mates). Ok m.set) same ∙ ap (ended_in new.set) is
mates_led n (line ∷ lines) old new answer (inl (next, (leads, id), later)) =
    ap (λ r. and_then (λ t. led (with_mate old.id) true (suc n) t lines) (at_line n r)) leads
    ∙ subst (λ (i : ℕ). led (with_mate i) true (suc n) next.set lines ≡ ended_in new.set answer) id (mates_led (suc n) lines next new answer later)
mates_led n (line ∷ lines) old new answer (inr (cause, (refused, id), is)) =
    ap (λ r. and_then (λ t. led (with_mate old.id) true (suc n) t lines) (at_line n r)) refused ∙ ap (ended_in new.set) is

-- a run that takes the mates of lines gives their set
pub runs_to_mates : (bytes : List ℕ) (old new : Mates) (answer : Result (Unit {0}) (Stop LineRefusal)) → old.set ≡ []
    → RunsOver CollectsMate (whole bytes) old new answer → mates old.id bytes ≡ ended_in new.set answer
unfolding mates
runs_to_mates bytes old new answer none runs =
    ap (λ s. led (with_mate old.id) true 0 s (lines_of (whole bytes))) (sym none) ∙ mates_led 0 (lines_of (whole bytes)) old new answer runs

-- ---- a share

pub longer : (old new : List ShareFields) (share : ShareFields) → HasOneMore old share new → (length new == length old) ≡ false
longer old new share one =
    let before = ap length one.old_is in
    let now = ap length one.new_is in
    grind (arith, nat_tests, before, now, length-append one.before one.after, length-append one.before (share ∷ one.after))

pub same_length : (set : List ShareFields) → (length set == length set) ≡ true
same_length set = grind (arith, nat_tests)

-- a share beside a set that doesn't have it, and beside one that has it
pub beside_new : (old new : List ShareFields) (share : ShareFields) → refusal_of old share ≡ None → HasOneMore old share new → IsShareSet new
    → beside share old (refusal_of old share) ≡ Ok (judged share false new)
beside_new old new share joins one is =
    ap (beside share old) joins
    ∙ ap (λ set. Ok (judged share (length set == length old) set)) (with_one_more old share new one is)
    ∙ ap (λ longer. Ok (judged share longer new)) (longer old new share one)

pub beside_own : (set : List ShareFields) (share : ShareFields) → refusal_of set share ≡ None → Contains set share → IsShareSet set
    → beside share set (refusal_of set share) ≡ Ok (judged share true set)
beside_own set share joins among is =
    ap (beside share set) joins
    ∙ ap (λ own. Ok (judged share (length own == length set) own)) (with_own_share set share is among)
    ∙ ap (λ again. Ok (judged share again set)) (same_length set)

-- what is read once more is the same
pub read_again : {A E : Type 0} (read : Result A E) (a b : A) → read ≡ Ok a → read ≡ Ok b → a ≡ b
read_again {A} {E} read a b first second = let same : ◌≡◌ {A = Result A E} (Ok a) (Ok b) = sym first ∙ second in cc

-- a judgement is the fault of the lines, or what the share is beside the set of its mates
pub judged_stopped : (lines line : List ℕ) (share : ShareFields) (stop : Stop LineRefusal) → share_of line ≡ Ok share
    → mates share.id lines ≡ Err stop → judgement lines line ≡ Err (fault_of_stop stop)
judged_stopped lines line share stop read led =
    ap (and_then (λ s. and_then (λ set. beside s set (refusal_of set s)) (set_or_fault (mates s.id lines)))) read
    ∙ ap (λ m. and_then (λ set. beside share set (refusal_of set share)) (set_or_fault m)) led

pub judged_beside : (lines line : List ℕ) (share : ShareFields) (set : List ShareFields) → share_of line ≡ Ok share
    → mates share.id lines ≡ Ok set → judgement lines line ≡ beside share set (refusal_of set share)
judged_beside lines line share set read led =
    ap (and_then (λ s. and_then (λ set. beside s set (refusal_of set s)) (set_or_fault (mates s.id lines)))) read
    ∙ ap (λ m. and_then (λ set. beside share set (refusal_of set share)) (set_or_fault m)) led
