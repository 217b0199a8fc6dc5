use Rattle.std.proofs.Common.{ℕ, map, get_or, Contains, sym, ◌∙◌, arith}
use Rattle.std.proofs.lemmas.Bool.{false≢true}
use Rattle.std.proofs.lemmas.List.Elements.{All-from_get_or}
use Rattle.s39_set.specs.ShareSet.{name_of}
use Rattle.s39_set.proofs.Flags.{flag_fallen, flag_stayed}
use Rattle.s39_set.proofs.quorum.are_at_hand.Goals as goal
use Rattle.s39_set.proofs.quorum.are_at_hand.Goals.{then-not-has, else-not-has}

pub loop-group-preserved : goal.loop-group-preserved
loop-group-preserved c =
    let P : ℕ → Type 0 = λ k. Contains (map name_of c.args.set.now) (get_or c.args.names.now k (0, 0)) in
    let i = c.loop-group.group-index in
    elim c.if-not-has.branch [
      | then-not-has w ↦ record {
        at_hand = flag_fallen P i c.if-not-has.all w.all-is (λ here. false≢true (sym w.if-not-has.true ∙ c.has.ensures.has.1 here));
        looks_are = omega arith;
      }
      | else-not-has w ↦ record {
        at_hand = flag_stayed P i c.loop-group.all c.if-not-has.all w.all-is (c.has.ensures.has.0 w.if-not-has.false) c.loop-group.invariant.at_hand;
        looks_are = omega arith;
      }
    ]

pub returns-clause-at_hand : goal.returns-clause-at_hand
returns-clause-at_hand c = (
  λ h. All-from_get_or (Contains (map name_of c.args.set.now)) c.args.names.now (0, 0) (λ k below. c.loop-group.invariant.at_hand.0 h k (omega arith)),
  λ all. c.loop-group.invariant.at_hand.1 (λ k below. all k (0, 0) (omega arith)),
)
