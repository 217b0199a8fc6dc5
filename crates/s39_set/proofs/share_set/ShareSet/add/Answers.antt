use Rattle.std.proofs.Common.{◌≡◌, ◌<◌, ℕ, length, get_or, set, map, Contains, Some, None, Ok, Err, refl, sym, ap, ap₂, subst, ◌∙◌, arith}
use Rattle.std.proofs.lemmas.Bool.{false≢true}
use Rattle.s39_words.specs.declared.share.ShareFields.{ShareFields}
use Rattle.s39_set.specs.declared.set_error.Added.TheVariants.{New, Repeat}
use Rattle.s39_set.specs.ShareSet.{IsShareSet, CanJoin, HasOneMore, name_of}
use Rattle.s39_set.specs.Slots.{shares_at, slot_of, IsKept}
use Rattle.s39_lists.proofs.Images.{Contains-map, one_of_map}
use Rattle.s39_set.proofs.SharesThatJoin.{joins_from_none, same_from_joins, not_refused}
use Rattle.s39_set.proofs.Slots.{empty_slot, has_one_more, kept_more}
use Rattle.s39_set.proofs.share_set.ShareSet.add.Goals as goal
use Rattle.s39_set.proofs.share_set.ShareSet.add.Goals.{After-is_at_hand}

pub returns-in-Some-clause-repeat : goal.returns-in-Some-clause-repeat
returns-in-Some-clause-repeat c = (
  (λ e. absurd (let bad : Err c.in-Some.error ≡ Ok Repeat = e in cc)),
  (λ has_share. absurd
      (let bad : Some c.in-Some.error ≡ None =
      sym c.in-Some.is ∙ c.refusal.ensures
      ∙ not_refused c.args.self.now (subst IsShareSet c.self.view_is c.self.invariant.is_set) c.args.share has_share in cc)),
)

-- what is known where the set was asked for the share's name
module _ (c : After-is_at_hand) where
  name : (c.fields.result.now.group_index, c.member_index-member.result) ≡ name_of c.args.share
  name = ap₂ (λ (x : ShareFields) (m : ℕ). (x.group_index, m)) c.fields.ensures.fields c.member_index-member.ensures

  joins : CanJoin c.args.self.now c.args.share
  joins = joins_from_none c.args.self.now c.args.share (sym c.refusal.ensures ∙ c.in_default.is)

pub returns-then-is_at_hand-clause-repeat : goal.returns-then-is_at_hand-clause-repeat
returns-then-is_at_hand-clause-repeat c =
    let d = (goal.at.returns-then-is_at_hand-clause-repeat c).After-is_at_hand in
    let set = c.args.self.now in (
      (λ e.
          let among = subst (Contains (map name_of set)) (name d) (c.is_at_hand.ensures.0 c.if-is_at_hand.true) in
          let (s, has_s, same) = one_of_map name_of set (name_of c.args.share) among in
          subst (Contains set) (same_from_joins set s c.args.share (joins d) has_s same) has_s),
      (λ has_share. refl),
    )

-- and where it had none
module _ (c : goal.After-index-self-slot_of) where
  abbrev asked : After-is_at_hand
  asked = (goal.at.invariant_of-self c).After-is_at_hand

  no_name : ¬ Contains (map name_of (shares_at c.self.inside.slots)) (name_of c.args.share)
  no_name among =
      let here = subst (λ set. Contains (map name_of set) (name_of c.args.share)) c.self.view_is among in
      false≢true
      (sym c.if-is_at_hand.false
      ∙ c.is_at_hand.ensures.1 (subst (Contains (map name_of c.args.self.now)) (sym (name asked)) here))

  at : c.slot_of.result ≡ slot_of (name_of c.args.share)
  at = c.slot_of.ensures ∙ ap slot_of (name asked)

  below : c.slot_of.result < length c.self.inside.slots
  below =
      let group = c.fields.ensures.in_range.group_index in
      let member = c.fields.ensures.in_range.member_index in
      let here = at in
      omega arith

  empty : get_or c.self.inside.slots c.slot_of.result None ≡ None
  empty =
      ap (λ k. get_or c.self.inside.slots k None) at
      ∙ empty_slot c.self.inside.slots c.self.invariant (name_of c.args.share) c.fields.ensures.in_range.member_index no_name

  room : c.args.share.group_index < length c.self.inside.member_thresholds
  room = let group = c.fields.ensures.in_range.group_index in omega arith

  kept : IsKept (Some c.args.share.group_threshold)
      (set c.self.inside.member_thresholds c.args.share.group_index (Some c.args.share.member_threshold))
      (set c.self.inside.slots c.slot_of.result (Some c.args.share))
  kept =
      kept_more c.self.inside.slots c.self.invariant c.args.share c.fields.ensures.in_range
      (subst (λ set. CanJoin set c.args.share) (sym c.self.view_is) (joins asked)) c.slot_of.result at below empty room

pub invariant_of-self : goal.invariant_of-self
invariant_of-self c =
    let index : c.from.result ≡ c.args.share.group_index =
    c.from.ensures ∙ ap (λ (x : ShareFields). x.group_index) c.fields.ensures.fields in
    rw (c.group_threshold.ensures, index, c.member_threshold.ensures) (kept c)

pub returns-clause-repeat : goal.returns-clause-repeat
returns-clause-repeat c = (
  (λ e. absurd (let bad : Ok New ≡ Ok Repeat = e in cc)),
  (λ has_share. absurd (no_name c
      (Contains-map name_of (shares_at c.self.inside.slots) c.args.share (subst (λ set. Contains set c.args.share) (sym c.self.view_is) has_share)))),
)

pub returns-clause-new : goal.returns-clause-new
returns-clause-new c = λ e.
    subst (λ old. HasOneMore old c.args.share (shares_at (set c.self.inside.slots c.slot_of.result (Some c.args.share)))) c.self.view_is
    (has_one_more c.self.inside.slots c.slot_of.result c.args.share (below c) (empty c))

pub returns-clause-is_set : goal.returns-clause-is_set
returns-clause-is_set c = (kept c).is_set
