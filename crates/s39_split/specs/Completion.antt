-- Computing the share at another index from points of a split (SLIP-0039, "Shamir's secret sharing"), and its laws.
use Rattle.std.specs.Prelude.{◌≡◌, ◌⊎◌, ℕ, ◌<◌, ◌≤◌, List, ◌∷◌, Option, Some, None, length, All}
use Rattle.std.specs.List.{slice_get}
use Rattle.std.specs.Option.{option_map}
use Rattle.s39_field.specs.Interpolation.{InterpolatesBytes}
use Rattle.s39_kdf.specs.Bytes.{AreBytes}
use Rattle.s39_split.specs.Shares.{AreDistinct, HaveByteIndices, HaveOneLength}
use Rattle.s39_split.specs.Sharing.{secret_place, IsSplit}
use Rattle.s39_split.specs.Recovery.{interpolated, combined, Combines, AreSharesOf}

-- Points complete to this share at an index: they combine, and interpolate it there. If they don't combine, they are
-- refused, which is None. A point is a share with its index or the secret with its place; they are as many as the
-- threshold.
abbrev pub Completes : ℕ → List (ℕ × List ℕ) → ℕ → Option (List ℕ) → Type 0
Completes threshold points index None = Combines threshold points None
Completes threshold points index (Some share) =
    ((secret : List ℕ) × Combines threshold points (Some secret)) × InterpolatesBytes points index share

-- the one outcome that points complete to at an index, computed
abbrev pub completed : List (ℕ × List ℕ) → ℕ → Option (List ℕ)
completed points index = option_map (λ secret. interpolated points index) (combined points)

-- these are some of a split's shares, each with its index, and maybe its secret with its place, in any order
pub record ArePointsOf (secret : List ℕ) (shares : List (List ℕ)) (chosen : List (ℕ × List ℕ)) : Type 0 where
  pub distinct : AreDistinct chosen
  pub belong : All (λ point. (slice_get shares point.0 ≡ Some point.1) ⊎ ((point.0 ≡ secret_place) × (point.1 ≡ secret))) chosen

-- some of a split's shares are points of it, with or without the secret at its place
abbrev pub SharesArePoints : Type 0
SharesArePoints = (threshold count : ℕ) (secret random : List ℕ) (shares : List (List ℕ)) (chosen : List (ℕ × List ℕ))
    → IsSplit threshold count secret random shares
    → AreSharesOf shares chosen
    → ArePointsOf secret shares chosen × ArePointsOf secret shares ((secret_place, secret) ∷ chosen)

-- any points of a split, as many as its threshold and consisting of bytes, complete to each of its shares at its index,
-- and to nothing else
abbrev pub AnyPointsComplete : Type 0
AnyPointsComplete =
    (threshold count : ℕ) (secret random : List ℕ) (shares : List (List ℕ)) (chosen : List (ℕ × List ℕ)) (index : ℕ) (share : List ℕ)
    → All (λ point. AreBytes point.1) chosen
    → IsSplit threshold count secret random shares
    → ArePointsOf secret shares chosen → length chosen ≡ threshold
    → slice_get shares index ≡ Some share
    → Completes threshold chosen index (Some share)
    × ((outcome : Option (List ℕ)) → Completes threshold chosen index outcome → outcome ≡ Some share)

-- one or more points at distinct places below 256 complete to at most one outcome at an index, which is what is computed
abbrev pub PointsCompleteOnce : Type 0
PointsCompleteOnce = (threshold : ℕ) (points : List (ℕ × List ℕ)) (index : ℕ) (outcome : Option (List ℕ))
    → 0 < length points → HaveByteIndices points → AreDistinct points
    → Completes threshold points index outcome → outcome ≡ completed points index

-- points complete to what is computed if they are as many as the threshold, at least one, have different places below
-- 256, and consist of equally many bytes
abbrev pub PointsComplete : Type 0
PointsComplete = (threshold : ℕ) (points : List (ℕ × List ℕ)) (index : ℕ)
    → 1 ≤ threshold
    → length points ≡ threshold
    → HaveByteIndices points
    → All (λ point. AreBytes point.1) points
    → HaveOneLength points
    → AreDistinct points
    → Completes threshold points index (completed points index)
