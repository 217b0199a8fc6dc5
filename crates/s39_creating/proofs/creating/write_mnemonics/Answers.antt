use Rattle.std.proofs.Common.{◌≡◌, [], map, get_or, rules}
use Rattle.std.specs.List.{concat}
use Rattle.s39_input.specs.Input.{ended_line}
use Rattle.s39_creating.proofs.Runs.Creating.{printed_texts, lines_are}
use Rattle.s39_creating.proofs.creating.write_mnemonics.Goals as goal

pub returns : goal.returns
returns g c =
    let (lines, printed, all) = printed_texts c.every_share_has_a_printed_form.ensures c.args.shares.now c.requires.are_shares in (
      concat (map ended_line lines),
      all,
      c.write_lines.ensures (map ended_line lines)
          (lines_are lines c.args.shares.now printed
          (λ index line below given. (let is : line.items ≡ ended_line (get_or lines index []) = search rules in is))),
    )
