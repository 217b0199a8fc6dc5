use Rattle.std.proofs.Common.{◌/◌, ◌%◌, sym, arith}
use Rattle.s39_set.specs.Names.{most_members}
use Rattle.s39_set.specs.ShareSet.{has_name}
use Rattle.s39_lists.proofs.Finds.{Contains-find}
use Rattle.s39_backup.proofs.AtHand.{none_at_places}
use Rattle.s39_backup.proofs.at_hand.any_share.Goals as goal

pub returns-in-Some : goal.returns-in-Some
returns-in-Some c =
    let place = c.loop-place.place in
    Contains-find (has_name (place / most_members) (place % most_members)) c.args.set.now c.in-Some.share.now (sym c.in-Some.ensures)

pub unreachable-requires : goal.unreachable-requires
unreachable-requires c =
    c.requires (none_at_places c.args.set.now c.are_a_share_set.ensures (λ place below. c.loop-place.invariant place (omega arith)))
