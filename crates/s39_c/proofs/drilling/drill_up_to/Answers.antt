use Rattle.std.proofs.Common.{refl, inl, inr}
use Rattle.s39_input.specs.Steps.{gives}
use Rattle.s39_c.proofs.Outputs.{listing_weaker}
use Rattle.s39_c.proofs.MostExponents.{checked_up_to}
use Rattle.s39_c.proofs.drilling.drill_up_to.Goals as goal

pub returns-in-Ok : goal.returns-in-Ok
returns-in-Ok c =
    let checked = checked_up_to c.args.max_exponent c.args.passphrase.now c.args.lines.now c.in-Ok.set c.in-Ok.ensures in
    inr (
      c.in-Ok.set,
      c.in-Ok.ensures,
      listing_weaker (λ n text answer written. gives c.in-Ok.set checked written) c.args.limit c.args.text.now
          c.give_listing.new.text c.give_listing.result c.give_listing.ensures,
    )

pub returns-in-Err : goal.returns-in-Err
returns-in-Err c = inl (c.in-Err.refusal, c.in-Err.ensures, refl, refl)
