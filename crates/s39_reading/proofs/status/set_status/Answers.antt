use Rattle.std.proofs.Common.{◌≡◌, [], get_or, refl, ap, rules}
use Rattle.std.proofs.lemmas.Result.{err_from_is_err_and}
use Rattle.s39_reading.specs.Status.{lines_of_status, status_text, status_written}
use Rattle.s39_reading.proofs.status.set_status.Goals as goal

pub returns-in_default : goal.returns-in_default
returns-in_default c = rw c.from-in_default.ensures (rw c.from.ensures (ap (status_written c.args.set.now) c.in_default.ensures, refl))

pub put_lines-requires-clause-some : goal.put_lines-requires-clause-some
put_lines-requires-clause-some c =
    let lines = lines_of_status c.args.set.now c.in-Some.status in (
      lines,
      record { many = refl; each = λ index line below given. (let is : line.items ≡ get_or lines index [] = search rules in is) },
    )

pub returns-in_err-written : goal.returns-in_err-written
returns-in_err-written c =
    let p = err_from_is_err_and c.from_residual.result c.from_residual.ensures.1 in
    let lines = lines_of_status c.args.set.now c.in-Some.status in
    let (needed, long, same) = c.in_err-written.ensures lines
    (record { many = refl; each = λ index line below given. (let is : line.items ≡ get_or lines index [] = search rules in is) }) in
    rw (p.1, p.2) (status_text c.args.set.now c.in-Some.status, c.in-Some.status, ap (status_written c.args.set.now) c.in-Some.ensures, needed, long, same)

pub returns : goal.returns
returns c =
    let lines = lines_of_status c.args.set.now c.in-Some.status in
    let (front, bytes) = c.in_ok-written.ensures lines
    (record { many = refl; each = λ index line below given. (let is : line.items ≡ get_or lines index [] = search rules in is) }) in
    (status_text c.args.set.now c.in-Some.status, ap (status_written c.args.set.now) c.in-Some.ensures, front, bytes)
