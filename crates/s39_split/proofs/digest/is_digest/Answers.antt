use Rattle.std.proofs.Common.{sym, ◌∙◌}
use Rattle.s39_split.proofs.Digests.{one_by_one}
use Rattle.s39_split.proofs.digest.is_digest.Goals as goal

pub returns : goal.returns
returns c =
    let bytes = one_by_one c.args.bytes.now c.requires in (
      λ passes. sym bytes ∙ c.are_equal.ensures.0 passes ∙ c.digest_of.ensures.value,
      λ same. c.are_equal.ensures.1 (bytes ∙ same ∙ sym c.digest_of.ensures.value),
    )
