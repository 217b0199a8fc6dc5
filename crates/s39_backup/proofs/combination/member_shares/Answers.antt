use Rattle.std.proofs.Common.{get_or, map, Contains, ap, subst, length, arith}
use Rattle.s39_set.specs.ShareSet.{name_of}
use Rattle.s39_backup.proofs.Levels.{room_for_member}
use Rattle.s39_backup.proofs.combination.member_shares.Goals as goal

pub lent_value-requires : goal.lent_value-requires
lent_value-requires c =
    let name = get_or c.args.names.now c.loop-of.of-index (0, 0) in
    subst (λ group. Contains (map name_of c.args.set.now) (group, name.1)) c.if-of-group.true
    (c.requires.exact.at_hand.at_hand c.loop-of.of-index (0, 0) c.loop-of-test.true)

pub push-requires : goal.push-requires
push-requires c =
    let room = room_for_member c.args.set.now c.args.names.now c.requires c.args.group c.loop-of.of-index c.loop-of-test.true c.if-of-group.true in
    omega (arith, ap length c.loop-of.invariant)
