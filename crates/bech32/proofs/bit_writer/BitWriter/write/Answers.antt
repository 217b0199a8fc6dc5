use Rattle.std.proofs.Common.{◌≡◌, ◌+◌, ◌-◌, ◌*◌, ◌/◌, ◌%◌, ◌^◌, ◌<◌, ◌≤◌, [], ◌∷◌, ◌++◌, length, sym, ap, ◌∙◌, subst, arith, bit_or, bit_and}
use Rattle.std.proofs.Math.Nat.{pow-le-pow_right}
use Rattle.std.proofs.lemmas.Nat.{shr_below}
use Rattle.s39_lists.specs.Written.{Bits, bits_with}
use Rattle.s39_lists.proofs.Written.{AreBits, written, shifted-is, digit_more, masked-is, has_room}
use Rattle.bech32.proofs.bit_writer.BitWriter.write.Goals as goal

pub loop-self-init : goal.loop-self-init
loop-self-init g c =
    let w = c.self.inside in
    let n = c.args.number in
    let width = c.args.width in
    let are : AreBits g.row.SIZE w.digits.items w.held w.rest c.args.self.now = record {
      digits_below = c.self.invariant.2;
      rest_below = c.self.invariant.1;
      count = ap (λ (b : Bits). b.count) c.self.view_is;
      number = ap (λ (b : Bits). b.number) c.self.view_is;
    } in
    let rest : bit_or (w.rest * 2 ^ width % 4294967296) c.from.result ≡ w.rest * 2 ^ width + n =
    ap (λ m. bit_or (w.rest * 2 ^ width % 4294967296) m) c.from.ensures
    ∙ shifted-is w.rest width n w.held c.self.invariant.1 c.requires.bits (omega (arith, c.self.invariant.0, c.requires.size, c.requires.width)) in
    record {
      bits =
          subst (λ r. AreBits g.row.SIZE w.digits.items (w.held + width) r (bits_with c.args.self.now width n)) (sym rest)
          (written g.row.SIZE w.digits.items w.held w.rest width n c.args.self.now are c.requires.bits);
      held = omega (arith, c.self.invariant.0);
    }

-- a number of so many bits more than are left
pub overflow_cast-self-inside-in-loop-self : goal.overflow_cast-self-inside-in-loop-self
overflow_cast-self-inside-in-loop-self g c =
    let w = c.loop-self.self-inside in
    let after = w.held - g.row.SIZE in
    let e : w.held ≡ g.row.SIZE + after = omega arith in
    let b : w.rest < 2 ^ (g.row.SIZE + after) = subst (λ k. w.rest < 2 ^ k) e c.loop-self.invariant.bits.rest_below in
    let most : 2 ^ g.row.SIZE ≤ 2 ^ 8 = pow-le-pow_right (omega arith) c.requires.size in
    omega (arith, shr_below w.rest g.row.SIZE after b)

pub push-requires : goal.push-requires
push-requires g c =
    let w = c.loop-self.self-inside in
    let h : length w.digits.items < 64 =
    has_room g.row.SIZE (length w.digits.items) w.held 64 (omega arith) (omega (arith, c.self.invariant.0)) (omega (arith, c.loop-self.invariant.bits.count)) in
    (omega arith, h)

pub loop-self-preserved : goal.loop-self-preserved
loop-self-preserved g c =
    let w = c.loop-self.self-inside in
    let size = g.row.SIZE in
    let after = w.held - size in
    let e : w.held ≡ size + after = omega arith in
    let all = bits_with c.args.self.now c.args.width c.args.number in
    let more = digit_more size w.digits.items after w.rest all (subst (λ k. AreBits size w.digits.items k w.rest all) e c.loop-self.invariant.bits) in
    record {
      bits =
          subst (λ ds. AreBits size ds after (bit_and w.rest (1 * 2 ^ after % 4294967296 - 1)) all) (sym c.push.ensures.items)
          (subst (λ r. AreBits size (w.digits.items ++ w.rest / 2 ^ after ∷ []) after r all) (sym (masked-is w.rest after (omega arith))) more);
      held = omega arith;
    }
