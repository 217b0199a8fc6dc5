use Rattle.std.proofs.Common.{refl, inl, inr}
use Rattle.s39_c.proofs.MostExponents.{checked_up_to, secret_of_checked}
use Rattle.s39_c.proofs.recovering.recover_expected.Goals as goal

pub returns-in-Ok : goal.returns-in-Ok
returns-in-Ok c =
    let checked = checked_up_to c.args.max_exponent c.args.passphrase.now c.args.lines.now c.in-Ok.set c.in-Ok.ensures in
    inr (
      c.in-Ok.set,
      c.in-Ok.ensures,
      secret_of_checked c.args.max_exponent c.args.passphrase.now c.args.lines.now c.args.expected c.in-Ok.set checked
          c.args.secret.now c.give_secret.new.secret c.give_secret.result c.give_secret.ensures,
    )

pub returns-in-Err : goal.returns-in-Err
returns-in-Err c = inl (c.in-Err.refusal, c.in-Err.ensures, refl, refl)
