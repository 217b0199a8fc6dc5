use Rattle.std.proofs.Common.{ap, sym, ◌∙◌, fold}
use Rattle.std.specs.Prelude.{◌==◌}
use Rattle.std.proofs.lemmas.List.Sums.{fold-append}
use Rattle.s39_words.specs.Checksum.{customization_string}
use Rattle.s39_words.specs.Division.{one_remainder, next_remainder, packed}
use Rattle.s39_words.proofs.Registers.{packed-unpacked}
use Rattle.s39_words.proofs.checksum.is_valid_checksum.Goals as goal

pub returns : goal.returns
returns c =
    let words = c.args.words.now in
    let remainder_is = c.after_words-register.ensures ∙ ap (λ r. fold next_remainder r words) c.after_customization_string.ensures
    ∙ sym (fold-append next_remainder one_remainder (customization_string c.args.extendable) words) in
    ap (λ n. n == 1) (sym (packed-unpacked c.after_words-register.result.bits) ∙ ap packed remainder_is)
