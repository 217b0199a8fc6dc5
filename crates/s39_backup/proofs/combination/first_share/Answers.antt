use Rattle.std.proofs.Common.{get_or, Some, sym, ap, ◌∙◌}
use Rattle.std.specs.Option.{option_copied}
use Rattle.s39_backup.specs.GroupShares.{IsExactQuorum}
use Rattle.s39_backup.proofs.Values.{has_share}
use Rattle.s39_backup.proofs.Combined.{some_name, found_some, among-found}
use Rattle.s39_backup.proofs.combination.first_share.Goals as goal

pub bounds-names-0 : goal.bounds-names-0
bounds-names-0 c =
    some_name c.args.set.now c.args.names.now
    (record {
      is_set = c.are_a_share_set.ensures;
      exact = (c.quorums_are_exact.ensures c.args.set.now c.args.names.now c.are_a_share_set.ensures).0
          c.requires;
    })

pub unwrap-requires : goal.unwrap-requires
unwrap-requires c =
    let name = get_or c.args.names.now 0 (0, 0) in
    let exact : IsExactQuorum c.args.set.now c.args.names.now =
    record {
      is_set = c.are_a_share_set.ensures;
      exact = (c.quorums_are_exact.ensures c.args.set.now c.args.names.now c.are_a_share_set.ensures).0
          c.requires;
    } in
    found_some c.share_at.result name.0 name.1 c.args.set.now
    (has_share c.args.set.now name (exact.exact.at_hand.at_hand 0 (0, 0) (some_name c.args.set.now c.args.names.now exact))) c.share_at.ensures.share

pub returns-clause-among : goal.returns-clause-among
returns-clause-among c =
    let name = get_or c.args.names.now 0 (0, 0) in
    among-found (Some c.unwrap.result) name.0 name.1 c.args.set.now (ap option_copied (sym c.unwrap.ensures) ∙ c.share_at.ensures.share)
