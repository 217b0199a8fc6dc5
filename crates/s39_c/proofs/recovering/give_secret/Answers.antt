use Rattle.std.proofs.Common.{inl, inr, refl, subst}
use Rattle.s39_kdf.specs.Bytes.{AreBytes}
use Rattle.s39_input.specs.Steps.{gives, refuses}
use Rattle.s39_c.specs.Answers.{Gives}
use Rattle.s39_c.proofs.recovering.give_secret.Goals as goal

pub returns-in-Ok : goal.returns-in-Ok
returns-in-Ok c =
    inr (
      c.in-Ok.recovered.items,
      (subst AreBytes c.as_slice-bytes.ensures.value c.are_bytes.ensures, gives c.in-Ok.recovered.items c.in-Ok.ensures.secret refl),
      subst (λ bytes. Gives bytes c.args.secret.now c.give.new.out c.give.result) c.as_slice-bytes.ensures.value c.give.ensures,
    )

pub returns-in-Err : goal.returns-in-Err
returns-in-Err c = inl (c.in-Err.fault, refuses c.in-Err.fault c.in-Err.ensures.refused refl, refl, c.from.ensures)
