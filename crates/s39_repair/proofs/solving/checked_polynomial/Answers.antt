use Rattle.std.proofs.Common.{◌≡◌, ◌∷◌, ◌++◌, length, sym, ap, subst, ◌∙◌, arith}
use Rattle.std.specs.Prelude.{All}
use Rattle.s39_words.specs.Checksum.{customization_string, one_added_to_last}
use Rattle.s39_words.specs.Layout.{IsIndex}
use Rattle.s39_repair.proofs.Polynomials.{last_added, polynomial-in_range}
use Rattle.s39_repair.proofs.solving.checked_polynomial.Goals as goal

polynomial : (c : goal.After-push) → c.push.new.self.items ≡ one_added_to_last (1 ∷ customization_string c.args.extendable ++ c.args.words.now)
polynomial c =
    let all : c.try_extend_from_slice.new.self.items ≡ 1 ∷ customization_string c.args.extendable ++ c.args.words.now =
    (rw c.unwrap.ensures at c.try_extend_from_slice.ensures.ok) ∙ ap (λ l. l ++ c.args.words.now) c.coefficients_before-coefficients.ensures in
    c.push.ensures.items
    ∙ last_added c.try_extend_from_slice.new.self.items c.pop.new.self.items c.pop.result c.unwrap_or-last.result c.pop.ensures.items c.pop.ensures.variant
    (omega (arith, ap length all)) c.unwrap_or-last.ensures
    ∙ ap one_added_to_last all

pub returns-clause-same : goal.returns-clause-same
returns-clause-same c = polynomial c

pub returns-clause-in_range : goal.returns-clause-in_range
returns-clause-in_range c =
    subst (All IsIndex) (sym (polynomial c)) (polynomial-in_range c.args.extendable c.args.words.now c.requires.in_list)
