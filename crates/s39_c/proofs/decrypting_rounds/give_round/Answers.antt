use Rattle.std.proofs.Common.{refl, inl, inr, subst}
use Rattle.s39_c.specs.Answers.{Gives}
use Rattle.s39_c.proofs.decrypting_rounds.give_round.Goals as goal

pub returns-in-Ok : goal.returns-in-Ok
returns-in-Ok c =
    inr (
      c.in-Ok.text.items,
      c.in-Ok.ensures.undone,
      subst (λ bytes. Gives bytes c.args.undone.now c.give.new.out c.give.result) c.as_slice.ensures.value c.give.ensures,
    )

pub returns-in-Err : goal.returns-in-Err
returns-in-Err c = inl (c.in-Err.fault, c.in-Err.ensures.refused, refl, c.from.ensures)
