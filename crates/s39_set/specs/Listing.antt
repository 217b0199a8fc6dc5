-- The quorums of a set in order.
use Rattle.std.specs.Prelude.{◌≡◌, ℕ, List, [], ◌∷◌, take, Contains, Option, Some, ◌↔◌}
use Rattle.s39_words.specs.declared.share.ShareFields.{ShareFields}
use Rattle.s39_set.specs.Names.{Names, AreInOrder}
use Rattle.s39_set.specs.Quorums.{IsQuorum, ComesAfter, IsFirstQuorumAfter, HasNoQuorumAfter}

-- the quorums that come after a given list of names, or all where none is given, each once and in ascending order
pub record AreAllQuorumsAfter (set : List ShareFields) (given : Option Names) (quorums : List Names) : Type 0 where
  pub ascending : AreInOrder quorums
  pub each : (names : Names) → Contains quorums names ↔ (IsQuorum set names × ComesAfter given names)

-- the first of them, at most `limit`
pub record IsListing (set : List ShareFields) (given : Option Names) (limit : ℕ) (listed : List Names) : Type 0 where
  pub all : List Names
  pub all_are : AreAllQuorumsAfter set given all
  pub listed_are : listed ≡ take limit all

-- each of these is the first quorum after the one before it, the first of them after the given list or of all, and
-- no quorum comes after the last
abbrev pub IsWalk : List ShareFields → Option Names → List Names → Type 0
IsWalk set given [] = HasNoQuorumAfter set given
IsWalk set given (names ∷ others) = IsFirstQuorumAfter set given names × IsWalk set (Some names) others
