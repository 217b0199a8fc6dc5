use Rattle.std.proofs.Common.{◌<◌, ◌∙◌, ◌++◌, ap, ap₂, arith}
use Rattle.std.proofs.lemmas.List.Elements.{All-append, All-from_get_or, All-same}
use Rattle.base58.specs.Base58.{checksum}
use Rattle.base58.proofs.Texts.{checksum-below}
use Rattle.base58.proofs.writing.with_checksum.Goals as goal

pub returns-clause-bytes : goal.returns-clause-bytes
returns-clause-bytes c =
    let payload = c.args.payload.now in
    let first = rw c.unwrap.ensures at c.try_extend_from_slice.ensures.ok in
    let second = rw c.unwrap-2.ensures at c.try_extend_from_slice-2.ensures.ok in
    let same = second ∙ ap₂ (λ xs ys. xs ++ ys) (first ∙ ap (λ xs. xs ++ payload) c.new-bytes.ensures) c.checksum.ensures in
    All-same (λ b. b < 256) c.try_extend_from_slice-2.new.self.items (payload ++ checksum payload) same
    (All-append (λ b. b < 256) payload (checksum payload) (All-from_get_or (λ b. b < 256) payload 0 (λ i _. omega (arith, c.type_inv.payload i)))
    (checksum-below payload))
