use Rattle.std.proofs.Common.{refl, inl, inr, subst}
use Rattle.s39_c.specs.Answers.{Gives}
use Rattle.s39_c.proofs.decrypting.decrypt_expected.Goals as goal

pub returns-in-Ok : goal.returns-in-Ok
returns-in-Ok c =
    inl (
      c.in-Ok.decrypted.items,
      c.in-Ok.ensures.secret,
      subst (λ bytes. Gives bytes c.args.secret.now c.give.new.out c.give.result) c.as_slice.ensures.value c.give.ensures,
    )

pub returns-in-Err : goal.returns-in-Err
returns-in-Err c = inr (c.in-Err.fault, c.in-Err.ensures.refused, refl, c.from.ensures)
