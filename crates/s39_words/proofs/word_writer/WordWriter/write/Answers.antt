use Rattle.std.proofs.Common.{◌≡◌, ◌+◌, ◌-◌, ◌*◌, ◌/◌, ◌%◌, ◌^◌, ◌<◌, [], ◌∷◌, ◌++◌, length, sym, ap, ◌∙◌, subst, arith, bit_or, bit_and}
use Rattle.std.proofs.lemmas.Nat.{shr_below}
use Rattle.s39_words.specs.Layout.{most_words, checksum_length}
use Rattle.s39_lists.specs.Written.{Bits, bits_with}
use Rattle.s39_lists.proofs.Written.{AreBits, written, shifted-is, digit_more, masked-is}
use Rattle.s39_words.proofs.word_writer.WordWriter.write.Goals as goal

pub loop-self-init : goal.loop-self-init
loop-self-init c =
    let w = c.self.inside in
    let n = c.args.number in
    let width = c.args.width in
    let are : AreBits 10 w.words.items w.held w.rest c.args.self.now = record {
      digits_below = c.self.invariant.2;
      rest_below = c.self.invariant.1;
      count = ap (λ (b : Bits). b.count) c.self.view_is;
      number = ap (λ (b : Bits). b.number) c.self.view_is;
    } in
    let rest : bit_or (w.rest * 2 ^ width % 4294967296) c.from.result ≡ w.rest * 2 ^ width + n =
    ap (λ m. bit_or (w.rest * 2 ^ width % 4294967296) m) c.from.ensures
    ∙ shifted-is w.rest width n w.held c.self.invariant.1 c.requires.digits (omega (arith, c.self.invariant.0, c.requires.width)) in
    record {
      bits =
          subst (λ r. AreBits 10 w.words.items (w.held + width) r (bits_with c.args.self.now width n)) (sym rest)
          (written 10 w.words.items w.held w.rest width n c.args.self.now are c.requires.digits);
      held = omega (arith, c.self.invariant.0);
    }

-- a number of ten digits more than are left
pub overflow_cast-self-inside-in-loop-self : goal.overflow_cast-self-inside-in-loop-self
overflow_cast-self-inside-in-loop-self c =
    let w = c.loop-self.self-inside in
    let e : w.held ≡ 10 + (w.held - 10) = omega arith in
    let b : w.rest < 2 ^ (10 + (w.held - 10)) = subst (λ k. w.rest < 2 ^ k) e c.loop-self.invariant.bits.rest_below in
    omega (arith, shr_below w.rest 10 (w.held - 10) b)

pub push-requires : goal.push-requires
push-requires c =
    let h : length c.loop-self.self-inside.words.items < most_words - checksum_length = omega (arith, c.loop-self.invariant.bits.count) in
    (omega arith, h)

pub loop-self-preserved : goal.loop-self-preserved
loop-self-preserved c =
    let w = c.loop-self.self-inside in
    let after = w.held - 10 in
    let e : w.held ≡ 10 + after = omega arith in
    let all = bits_with c.args.self.now c.args.width c.args.number in
    let more = digit_more 10 w.words.items after w.rest all (subst (λ k. AreBits 10 w.words.items k w.rest all) e c.loop-self.invariant.bits) in
    record {
      bits =
          subst (λ ws. AreBits 10 ws after (bit_and w.rest (1 * 2 ^ after % 4294967296 - 1)) all) (sym c.push.ensures.items)
          (subst (λ r. AreBits 10 (w.words.items ++ w.rest / 2 ^ after ∷ []) after r all) (sym (masked-is w.rest after (omega arith))) more);
      held = omega arith;
    }
