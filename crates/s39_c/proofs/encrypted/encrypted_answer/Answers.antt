use Rattle.std.proofs.Common.{refl, inl, inr, subst}
use Rattle.s39_c.specs.Answers.{Gives}
use Rattle.s39_c.proofs.encrypted.encrypted_answer.Goals as goal

pub returns-in-Ok : goal.returns-in-Ok
returns-in-Ok c =
    let found = c.in-Ok.found in
    inr (
      (found.params, found.bytes.items),
      (c.in-Ok.ensures.encrypted, c.parameters_of.ensures),
      subst (λ bytes. Gives bytes c.args.encrypted.now c.give.new.out c.give.result) c.as_slice.ensures.value c.give.ensures,
    )

pub returns-in-Err : goal.returns-in-Err
returns-in-Err c = inl (c.in-Err.fault, (c.in-Err.ensures.refused, refl), refl, c.from.ensures)
