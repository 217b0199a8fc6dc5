use Rattle.std.proofs.Common.{sym, ap, subst, ◌∙◌}
use Rattle.s39_words.specs.Layout.{IsIndex}
use Rattle.s39_words.specs.Division.{unpacked, next_remainder}
use Rattle.s39_words.proofs.Registers.{stepped, stepped-below}
use Rattle.s39_words.proofs.checksum.Register.next.Goals as goal

pub invariant_of-result : goal.invariant_of-result
invariant_of-result c =
    let element = subst IsIndex (sym c.from.ensures) c.requires in
    record {
      three_coefficients = stepped-below c.args.self.bits c.from.result c.args.self.three_coefficients element c.generator_times.result
          c.generator_times.ensures;
    }

pub returns : goal.returns
returns c =
    let element = subst IsIndex (sym c.from.ensures) c.requires in
    stepped c.args.self.bits c.from.result c.args.self.three_coefficients element c.generator_times.result c.generator_times.ensures
    ∙ ap (next_remainder (unpacked c.args.self.bits)) c.from.ensures
