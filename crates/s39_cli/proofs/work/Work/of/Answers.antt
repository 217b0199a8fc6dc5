use Rattle.std.proofs.Common.{refl}
use Rattle.std.proofs.lemmas.Result.{err_from_is_err_and}
use Rattle.s39_cli.proofs.WithoutWork.{bad_cursor, bad_fingerprint}
use Rattle.s39_cli.proofs.work.Work.of.Goals as goal

pub returns-in_err-after-in-Drill-clause-refused : goal.returns-in_err-after-in-Drill-clause-refused
returns-in_err-after-in-Drill-clause-refused c =
    let p = err_from_is_err_and c.from_residual-in_err-after-in-Drill.result c.from_residual-in_err-after-in-Drill.ensures.1 in
    rw (p.1, p.2) (bad_cursor c.args.job c.in-Drill.after c.in-Drill.limit c.in-Drill.form
    c.in-Drill.expected c.in-Drill.is c.in_err-after-in-Drill.ensures.refused)

pub returns-in_ok-plan-in-Create-clause-work : goal.returns-in_ok-plan-in-Create-clause-work
returns-in_ok-plan-in-Create-clause-work c = rw c.in-Create.is (
  _,
  refl,
  record {
    read = record { secret_is = c.in_ok-secret-in-Create.ensures.secret; plan_is = c.in_ok-plan-in-Create.ensures.reading };
    passphrase_is = refl;
    given = record { exponent_is = refl; extendable_is = refl };
  },
)

pub returns-in_err-noted-in-Drill-clause-refused : goal.returns-in_err-noted-in-Drill-clause-refused
returns-in_err-noted-in-Drill-clause-refused c =
    let p = err_from_is_err_and c.from_residual-in_err-noted-in-Drill.result c.from_residual-in_err-noted-in-Drill.ensures.1 in
    rw (p.1, p.2) (bad_fingerprint c.args.job c.in-Drill.after c.in-Drill.limit c.in-Drill.form c.in-Drill.expected
    c.in_ok-after-in-Drill.after c.in-Drill.is c.in_ok-after-in-Drill.ensures.cursor c.in_err-noted-in-Drill.ensures.refused)

pub returns-in_ok-noted-in-Drill-clause-work : goal.returns-in_ok-noted-in-Drill-clause-work
returns-in_ok-noted-in-Drill-clause-work c = rw c.in-Drill.is (
  _,
  refl,
  record {
    noted = c.in_ok-noted-in-Drill.noted;
    passphrase_is = refl;
    cursor = c.in_ok-after-in-Drill.ensures.cursor;
    limit_is = refl;
    noted_is = c.in_ok-noted-in-Drill.ensures.noted;
    form_is = c.told_in.ensures;
  },
)

pub returns-in_ok-of-in-Reissue-clause-work : goal.returns-in_ok-of-in-Reissue-clause-work
returns-in_ok-of-in-Reissue-clause-work c = rw c.in-Reissue.is (_, refl, c.in_ok-of-in-Reissue.ensures.reissue)

pub returns-in_ok-parse-in-Resplit-clause-work : goal.returns-in_ok-parse-in-Resplit-clause-work
returns-in_ok-parse-in-Resplit-clause-work c = rw c.in-Resplit.is (_, refl, record { plan_is = c.in_ok-parse-in-Resplit.ensures.reading; random_is = refl })
