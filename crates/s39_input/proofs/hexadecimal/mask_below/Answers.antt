use Rattle.std.proofs.Common.{◌≡◌, ◌+◌, ◌-◌, ◌/◌, ap, ◌∙◌, bit_or, bit_and, arith}
use Rattle.std.proofs.lemmas.Nat.{and_mask}
use Rattle.s39_input.proofs.Texts.HexDigits.{none_below, one_above}
use Rattle.s39_input.proofs.hexadecimal.mask_below.Goals as goal

pub returns-clause-below : goal.returns-clause-below
returns-clause-below c = λ below.
    let number = c.args.number in
    let limit = c.args.limit in
    let above : bit_or (number / 16 + 15) (bit_and number 15 + (16 - limit)) / 16 ≡ 0 =
    ap (λ low. bit_or (number / 16 + 15) (low + (16 - limit)) / 16) (and_mask number 4) ∙ none_below number limit below c.requires in
    omega (arith, above)

pub returns-clause-others : goal.returns-clause-others
returns-clause-others c = λ others.
    let number = c.args.number in
    let limit = c.args.limit in
    let above : bit_or (number / 16 + 15) (bit_and number 15 + (16 - limit)) / 16 ≡ 1 =
    ap (λ low. bit_or (number / 16 + 15) (low + (16 - limit)) / 16) (and_mask number 4) ∙ one_above number limit (omega arith) others c.requires in
    omega (arith, above)
