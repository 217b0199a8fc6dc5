use Rattle.std.proofs.Common.{◌≡◌, ◌/◌, ◌^◌, ap, ◌∙◌, arith}
use Rattle.s39_lists.specs.Digits.{digits}
use Rattle.s39_lists.specs.Written.{Bits}
use Rattle.s39_lists.proofs.Written.{whole-digits}
use Rattle.s39_words.proofs.word_writer.WordWriter.into_words.Goals as goal

pub returns : goal.returns
returns c =
    let w = c.self.inside in
    let bits = c.args.self in
    let whole : bits.number / 2 ^ 0 ≡ bits.number = omega arith in
    whole-digits 10 w.words.items w.held w.rest bits (record {
      digits_below = c.self.invariant.2;
      rest_below = c.self.invariant.1;
      count = ap (λ (b : Bits). b.count) c.self.view_is;
      number = ap (λ (b : Bits). b.number) c.self.view_is;
    }) c.self.invariant.0
    ∙ ap (λ k. digits 10 (bits.count / 10) (bits.number / 2 ^ k)) c.requires ∙ ap (digits 10 (bits.count / 10)) whole
