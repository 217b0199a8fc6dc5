use Rattle.std.proofs.Common.{◌-◌, sym, ap, ◌∙◌, Err, length, take, drop, arith}
use Rattle.accounts.proofs.HexDigits.{bad_within}
use Rattle.accounts.proofs.shown.account_in.Goals as goal

pub overflow_add-result : goal.overflow_add-result
overflow_add-result c =
    let bad = c.in-Err-InvalidHexCharacter in
    let small = bad_within (take (length c.args.text.now - 2) (drop 2 c.args.text.now)) 20 _ _ (sym c.from_hex.ensures ∙ bad.is ∙ ap Err bad.field-0-is) in
    omega (arith, small, bad.index-is)
