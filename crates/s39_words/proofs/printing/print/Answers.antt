use Rattle.std.proofs.Common.{◌≡◌, ◌++◌, ap, ◌∙◌, rules}
use Rattle.s39_words.specs.Checksum.{IsValidChecksum}
use Rattle.s39_words.proofs.Printed.{IsPrinted-from}
use Rattle.s39_words.proofs.printing.print.Goals as goal

pub returns : goal.returns
returns c =
    let share = c.args.share.now in
    let words = c.data_words_of-data_words in
    let checksum = c.checksum_of-checksum in
    let first = rw c.unwrap.ensures at c.try_extend_from_slice.ensures.ok in
    let second = rw c.unwrap-2.ensures at c.try_extend_from_slice-2.ensures.ok in
    let indices_are : c.deref-3.result.now ≡ words.result.items ++ checksum.result =
    c.deref-3.ensures.0 ∙ second ∙ ap (λ t. t ++ checksum.result) (first ∙ ap (λ t. t ++ c.deref-2.result.now) c.new-indices.ensures ∙ c.deref-2.ensures.0) in
    let valid : IsValidChecksum c.extendable-extendable.result (words.result.items ++ checksum.result) = rw c.deref.ensures.0 at checksum.ensures.valid in
    IsPrinted-from share c.extendable-extendable.result words.result.items c.deref-3.result.now checksum.result c.text_of.result.items
    words.ensures.in_range c.extendable-extendable.ensures words.ensures.same words.ensures.in_list
    (search rules) checksum.ensures.in_range valid indices_are c.text_of.ensures
