-- Known shares, two fewer than the threshold, fit every secret. For each secret and each key of its digest, exactly one list of
-- random bytes gives these shares.
use Rattle.std.specs.Prelude.{◌≡◌, ℕ, List, ◌++◌}
use Rattle.s39_split.specs.Sharing.{most_shares, IsSplit}
use Rattle.s39_split.specs.Recovery.{AreSharesOf}

-- These random bytes begin with the key of the digest, and with them the split of the secret into the most
-- shares that there may be has the known shares, each with its index.
pub record Fits (threshold : ℕ) (secret key : List ℕ) (known : List (ℕ × List ℕ)) (random : List ℕ) : Type 0 where
  pub rest : List ℕ
  pub begins : random ≡ key ++ rest
  pub shares : List (List ℕ)
  pub split : IsSplit threshold most_shares secret random shares
  pub known_among : AreSharesOf shares known
