use Rattle.std.proofs.Common.{None}
use Rattle.s39_backup.proofs.Resplits.{set_gives, encrypted_gives}
use Rattle.s39_backup.proofs.resplit_laws.resplits_split_encrypted_secrets.Goals as goal

pub returns : goal.returns
returns c = λ set group_threshold groups random names old encrypted result least are combined. (
  encrypted_gives set group_threshold groups random names old encrypted least are combined (c.one_first_quorum.ensures set None)
      c.one_lack.ensures.none result,
  set_gives set group_threshold groups random names old encrypted least are combined result,
)
