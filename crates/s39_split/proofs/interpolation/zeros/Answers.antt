use Rattle.std.proofs.Common.{ℕ, take, arith, ap, ◌∙◌}
use Rattle.std.proofs.lemmas.List.{take-replicate}
use Rattle.s39_kdf.specs.declared.limits.TheConstants.{MAX_SECRET_BYTES}
use Rattle.s39_split.proofs.interpolation.zeros.Goals as goal

pub returns : goal.returns
returns c =
    c.truncate.ensures.items ∙ ap (take c.args.n) c.from-bytes.ensures.0 ∙ take-replicate {X = ℕ} c.args.n MAX_SECRET_BYTES 0 (omega arith)
