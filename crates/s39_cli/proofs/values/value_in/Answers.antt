use Rattle.std.proofs.Common.{◌≡◌, ◌≤◌, ◌<◌, ◌∙◌, arith, length, subst}
use Rattle.s39_cli.specs.declared.values.BadValue.{BadValue}
use Rattle.s39_cli.specs.declared.values.BadValue.TheVariants.{TooLong, Mnemonic}
use Rattle.s39_cli.specs.Values.{HoldsBad, IsMnemonic}
use Rattle.s39_cli.proofs.ReadParts.{long_of_part, mnemonic_of_part, value_of_part}
use Rattle.s39_cli.proofs.values.value_in.Goals as goal

pub returns-then-len-gt-MOST-clause-bad : goal.returns-then-len-gt-MOST-clause-bad
returns-then-len-gt-MOST-clause-bad g c bad same =
    let long : 1024 < length c.without_line_end-value.result.items = omega (arith, c.if-len-gt-MOST.true, c.len.ensures.value) in
    let is : TooLong ≡ bad = cc in
    subst (λ (b : BadValue). HoldsBad b c.args.until (g.R.Read.remaining c.args.input.now)) is
    (long_of_part c.args.until (g.R.Read.remaining c.args.input.now) (g.R.Read.remaining c.part.new.input) c.in_ok-part.field-0.items
    c.in_ok-part.ensures.part (subst (λ xs. 1024 < length xs) c.without_line_end-value.ensures long))

pub returns-then-is_mnemonic-clause-bad : goal.returns-then-is_mnemonic-clause-bad
returns-then-is_mnemonic-clause-bad g c bad same =
    let short : length c.without_line_end-value.result.items ≤ 1024 = omega (arith, c.if-len-gt-MOST.false, c.len.ensures.value) in
    let is : Mnemonic ≡ bad = cc in
    subst (λ (b : BadValue). HoldsBad b c.args.until (g.R.Read.remaining c.args.input.now)) is
    (mnemonic_of_part c.args.until (g.R.Read.remaining c.args.input.now) (g.R.Read.remaining c.part.new.input) c.in_ok-part.field-0.items
    c.in_ok-part.ensures.part (subst (λ xs. length xs ≤ 1024) c.without_line_end-value.ensures short)
    (subst IsMnemonic (c.as_slice.ensures.value ∙ c.without_line_end-value.ensures) (c.is_mnemonic.ensures.mnemonic c.if-is_mnemonic.true)))

pub returns-clause-value : goal.returns-clause-value
returns-clause-value g c =
    let short : length c.without_line_end-value.result.items ≤ 1024 = omega (arith, c.if-len-gt-MOST.false, c.len.ensures.value) in
    let text = c.as_slice.ensures.value ∙ c.without_line_end-value.ensures in
    rw (c.without_line_end-value.ensures) (value_of_part c.args.until (g.R.Read.remaining c.args.input.now) (g.R.Read.remaining c.part.new.input)
    c.in_ok-part.field-0.items c.in_ok-part.ensures.part (subst (λ xs. length xs ≤ 1024) c.without_line_end-value.ensures short)
    (subst (λ xs. IsMnemonic xs → ⊥) text (c.is_mnemonic.ensures.other c.if-is_mnemonic.false)))
