-- Facts about share sets, as laws state them.
use Rattle.std.specs.Prelude.{◌≡◌, ◌↔◌, ◌⊎◌, List, map, All, Contains}
use Rattle.s39_words.specs.declared.share.ShareFields.{ShareFields}
use Rattle.s39_set.specs.Names.{Names, IsAscending}
use Rattle.s39_set.specs.ShareSet.{name_of, refusal_of, HasOneMore}
use Rattle.s39_set.specs.Quorums.{IsQuorum}
use Rattle.s39_set.specs.Lack.{IsLack}
use Rattle.s39_set.specs.declared.set_lack.SetLack.{SetLack}

-- whether and why shares refuse one depends on which shares they are, and not on their order, or on how often each is listed
abbrev pub SameSharesRefuseTheSame : Type 0
SameSharesRefuseTheSame = (shares others : List ShareFields) (share : ShareFields)
    → All (Contains shares) others
    → All (Contains others) shares
    → refusal_of shares share ≡ refusal_of others share

-- with one share more, a list has the old ones and that share
abbrev pub OneMoreIsAdded : Type 0
OneMoreIsAdded = (old : List ShareFields) (share : ShareFields) (new : List ShareFields)
    → HasOneMore old share new
    → (s : ShareFields) → (Contains new s ↔ (Contains old s ⊎ (share ≡ s)))

-- shares in the order of their names, each name once, are known by which they are
abbrev pub SetsAreTheirShares : Type 0
SetsAreTheirShares = (set other : List ShareFields)
    → IsAscending (map name_of set)
    → IsAscending (map name_of other)
    → All (Contains set) other
    → All (Contains other) set
    → set ≡ other

-- a set has at most one cause for which it has no quorum
abbrev pub SetsHaveOneLack : Type 0
SetsHaveOneLack = (set : List ShareFields) (lack other : SetLack) → IsLack set lack → IsLack set other → lack ≡ other

-- and none if it has a quorum
abbrev pub SetsWithQuorumsHaveNone : Type 0
SetsWithQuorumsHaveNone = (set : List ShareFields) (names : Names) (lack : SetLack) → IsQuorum set names → ¬ IsLack set lack
