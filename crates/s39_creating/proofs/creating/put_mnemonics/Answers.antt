use Rattle.std.proofs.Common.{◌≡◌, [], map, get_or, sym, rules}
use Rattle.std.specs.List.{concat}
use Rattle.std.proofs.lemmas.Result.{err_from_is_err_and}
use Rattle.s39_input.specs.Input.{ended_line}
use Rattle.s39_creating.proofs.Runs.Creating.{printed_texts, lines_are}
use Rattle.s39_creating.proofs.creating.put_mnemonics.Goals as goal

pub put_lines-requires-clause-some : goal.put_lines-requires-clause-some
put_lines-requires-clause-some c =
    let (lines, printed, all) = printed_texts c.every_share_has_a_printed_form.ensures c.args.shares.now c.requires.are_shares in (
      map ended_line lines,
      lines_are lines c.args.shares.now printed
          (λ index line below given. (let is : line.items ≡ ended_line (get_or lines index []) = search rules in is)),
    )

pub returns-in_err-written-clause-short : goal.returns-in_err-written-clause-short
returns-in_err-written-clause-short c =
    let p = err_from_is_err_and c.from_residual.result c.from_residual.ensures.1 in
    let (lines, printed, all) = printed_texts c.every_share_has_a_printed_form.ensures c.args.shares.now c.requires.are_shares in
    let (needed, long, same) = c.in_err-written.ensures (map ended_line lines)
    (lines_are lines c.args.shares.now printed
    (λ index line below given. (let is : line.items ≡ ended_line (get_or lines index []) = search rules in is))) in
    rw (p.1, p.2) (concat (map ended_line lines), all, needed, long, same)

pub returns-clause-put : goal.returns-clause-put
returns-clause-put c =
    let (lines, printed, all) = printed_texts c.every_share_has_a_printed_form.ensures c.args.shares.now c.requires.are_shares in
    let (front, bytes) = c.in_ok-written.ensures (map ended_line lines)
    (lines_are lines c.args.shares.now printed
    (λ index line below given. (let is : line.items ≡ ended_line (get_or lines index []) = search rules in is))) in
    let count = sym (c.each_mnemonic_is_a_line.ensures c.args.shares.now (concat (map ended_line lines)) all) in
    (concat (map ended_line lines), all, front, bytes, count)
