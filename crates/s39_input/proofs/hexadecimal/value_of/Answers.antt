use Rattle.std.proofs.Common.{ap₂, ◌∙◌, arith}
use Rattle.s39_input.proofs.Texts.HexDigits.{mask_is, worth_by_masks, worth_is}
use Rattle.s39_input.proofs.hexadecimal.value_of.Goals as goal

pub returns : goal.returns
returns c =
    let figure = c.mask_below-is_figure.ensures in
    let letter = c.mask_below-is_letter.ensures in
    ap₂ (λ f l. worth_by_masks f l c.args.byte) (mask_is _ 10 _ figure.below figure.others) (mask_is _ 6 _ letter.below letter.others)
    ∙ worth_is c.args.byte (omega arith)
