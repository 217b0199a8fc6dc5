use Rattle.std.proofs.Common.{refl, inl, inr, subst}
use Rattle.s39_reading.specs.Encrypted.{IsRoundDecryption}
use Rattle.s39_c.specs.Encrypted.{GivesDecryption}
use Rattle.s39_c.proofs.decrypting_rounds.numbered_round.Goals as goal

pub returns-in-Some : goal.returns-in-Some
returns-in-Some c =
    let old = c.args.undone.now in
    inr (
      tt,
      c.in-Some.ensures.in_range.0 refl,
      subst (λ number. GivesDecryption (IsRoundDecryption number c.args.passphrase.now (c.args.params, c.args.encrypted.now)) old
          c.give_round.new.undone c.give_round.result) c.in-Some.ensures.same c.give_round.ensures,
    )

pub returns-in-None : goal.returns-in-None
returns-in-None c = inl (tt, λ low. let some = c.in-None.ensures.in_range.1 low in absurd (cc), refl, c.out_of_range.ensures)
