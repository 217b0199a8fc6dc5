use Rattle.std.proofs.Common.{[], ◌∷◌, fold, sym, ap, ◌∙◌}
use Rattle.s39_words.specs.Division.{unpacked, next_remainder}
use Rattle.s39_words.proofs.Remainders.{valid_checksum, only_checksum}
use Rattle.s39_words.proofs.Registers.{words-are, words-below}
use Rattle.s39_words.proofs.checksum.checksum_of.Goals as goal

pub returns-clause-valid : goal.returns-clause-valid
returns-clause-valid c =
    let bits = c.after_words-register.result.bits in
    let words = c.args.data_words.now in
    let remainder_is = c.after_words-register.ensures ∙ ap (λ r. fold next_remainder r (0 ∷ 0 ∷ 0 ∷ []))
    (c.after_words.ensures ∙ ap (λ r. fold next_remainder r words) c.after_customization_string.ensures) in
    (valid_checksum c.args.extendable words _ _ _ (unpacked bits) remainder_is c.requires
    (words-below bits c.after_words-register.result.three_coefficients)).1 (words-are bits)

pub returns-clause-only : goal.returns-clause-only
returns-clause-only c = λ checksum len all valid.
    let bits = c.after_words-register.result.bits in
    let words = c.args.data_words.now in
    let remainder_is = c.after_words-register.ensures ∙ ap (λ r. fold next_remainder r (0 ∷ 0 ∷ 0 ∷ []))
    (c.after_words.ensures ∙ ap (λ r. fold next_remainder r words) c.after_customization_string.ensures) in
    only_checksum c.args.extendable words (unpacked bits) remainder_is c.requires checksum len all valid ∙ sym (words-are bits)
