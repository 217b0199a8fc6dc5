use Rattle.s39_split.proofs.OneOutcome.{secrets_are_like_their_shares}
use Rattle.s39_split.proofs.laws.secrets_are_like_their_shares.Goals as goal

pub returns : goal.returns
returns c = secrets_are_like_their_shares
