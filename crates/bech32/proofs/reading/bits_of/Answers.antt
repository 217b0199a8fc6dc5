use Rattle.std.proofs.Common.{◌≡◌, ◌+◌, ◌*◌, ℕ, get_or, ap, ap₂, sym, ◌∙◌, arith}
use Rattle.std.proofs.lemmas.Int.Digits.{number_more}
use Rattle.s39_lists.specs.Written.{Bits, bits_with}
use Rattle.bech32.proofs.reading.bits_of.Goals as goal

pub loop-group-preserved : goal.loop-group-preserved
loop-group-preserved c =
    let i = c.loop-group.group-index in
    let more = number_more 32 c.args.groups.now i c.loop-group-test.true in
    let count : 5 * i + 5 ≡ 5 * (i + 1) = omega arith in
    let make : ℕ → ℕ → Bits = λ n m. record { count = n; number = m } in
    c.write.ensures ∙ ap (λ (bits : Bits). bits_with bits 5 (get_or c.args.groups.now i 0)) c.loop-group.invariant
    ∙ ap₂ make count (sym more)
