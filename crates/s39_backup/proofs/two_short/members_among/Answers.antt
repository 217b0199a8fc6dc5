use Rattle.std.proofs.Common.{length, take, ap, arith}
use Rattle.std.proofs.lemmas.List.{length-map}
use Rattle.s39_backup.proofs.HeldGroups.{few_before}
use Rattle.s39_set.specs.Names.{names_in_group}
use Rattle.s39_backup.proofs.two_short.members_among.Goals as goal

pub push-requires : goal.push-requires
push-requires c =
    let names = c.args.names.now in
    let group = c.args.group in
    let i = c.loop-of.of-index in
    let fewer = few_before names group i c.loop-of-test.true c.if-of-group.true in
    let most = c.requires in
    (omega arith, omega (arith, ap length c.loop-of.invariant, length-map (names_in_group group (take i names)) (λ name. name.1)))
