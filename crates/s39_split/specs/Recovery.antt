-- The recovery of a secret from shares of one level (SLIP-0039, "Shamir's secret sharing" and
-- "Recovery of the secret"), and its laws.
use Rattle.std.specs.Prelude.{◌≡◌, ◌≢◌, ℕ, ◌<◌, ◌≤◌, bytes_eq, if◌then◌else◌, List, [], ◌∷◌, Option, Some, None, length, take, drop, All}
use Rattle.std.specs.List.{slice_get}
use Rattle.s39_field.specs.Interpolation.{InterpolatesBytes, interpolated_bytes}
use Rattle.s39_kdf.specs.Bytes.{AreBytes}
use Rattle.s39_split.specs.Shares.{AreDistinct, HaveByteIndices, HaveOneLength}
use Rattle.s39_split.specs.Sharing.{digest_place, secret_place, digest_length, digest_of, IsSplit}

-- The outcome of two or more shares: the secret S if the first 4 bytes of D are its digest under the
-- rest of D as the key, and a refusal otherwise.
pub record CombinesSeveral (shares : List (ℕ × List ℕ)) (outcome : Option (List ℕ)) : Type 0 where
  pub secret : List ℕ
  pub digest : List ℕ
  pub secret_interpolated : InterpolatesBytes shares secret_place secret
  pub digest_interpolated : InterpolatesBytes shares digest_place digest
  pub accepted : take digest_length digest ≡ digest_of (drop digest_length digest) secret
      → outcome ≡ Some secret
  pub refused : take digest_length digest ≢ digest_of (drop digest_length digest) secret
      → outcome ≡ None

-- Shares, each with its index and as many as the threshold, combine to a secret or are refused, which is
-- None. If one share is enough, it is the secret.
pub record Combines (threshold : ℕ) (shares : List (ℕ × List ℕ)) (outcome : Option (List ℕ)) : Type 0 where
  pub number : length shares ≡ threshold
  pub one_needed : threshold ≡ 1
      → (index : ℕ) × (share : List ℕ) × (shares ≡ (index, share) ∷ []) × (outcome ≡ Some share)
  pub more_needed : threshold ≢ 1 → CombinesSeveral shares outcome

-- ---- the same, computed

-- what points of one length interpolate at a place
unfoldable pub interpolated : List (ℕ × List ℕ) → ℕ → List ℕ
interpolated [] place = []
interpolated (point ∷ points) place = interpolated_bytes (point ∷ points) place (length point.1)

-- a secret, if a digest share has its digest
abbrev pub checked : List ℕ → List ℕ → Option (List ℕ)
checked secret digest =
    if bytes_eq (take digest_length digest) (digest_of (drop digest_length digest) secret) then Some secret else None

-- The one outcome that shares combine to, if all of them are needed: the secret, or None if they are refused.
unfoldable pub combined : List (ℕ × List ℕ) → Option (List ℕ)
combined [] = None
combined (share ∷ []) = Some share.1
combined (share ∷ other ∷ shares) =
    checked (interpolated (share ∷ other ∷ shares) secret_place) (interpolated (share ∷ other ∷ shares) digest_place)

-- ---- laws

-- these are some of a split's shares, each with its index, in any order
pub record AreSharesOf (shares : List (List ℕ)) (chosen : List (ℕ × List ℕ)) : Type 0 where
  pub distinct : AreDistinct chosen
  pub belong : All (λ share. slice_get shares share.0 ≡ Some share.1) chosen

-- any shares of a split, as many as its threshold, combine to its secret and to nothing else
abbrev pub AnySharesCombine : Type 0
AnySharesCombine =
    (threshold count : ℕ) (secret random : List ℕ) (shares : List (List ℕ)) (chosen : List (ℕ × List ℕ))
    → IsSplit threshold count secret random shares
    → AreSharesOf shares chosen → length chosen ≡ threshold
    → Combines threshold chosen (Some secret)
    × ((outcome : Option (List ℕ)) → Combines threshold chosen outcome → outcome ≡ Some secret)

-- one or more shares with different indices below 256 combine to at most one outcome, which is what is computed
abbrev pub SharesCombineOnce : Type 0
SharesCombineOnce = (threshold : ℕ) (shares : List (ℕ × List ℕ)) (outcome : Option (List ℕ))
    → 0 < length shares → HaveByteIndices shares → AreDistinct shares
    → Combines threshold shares outcome → outcome ≡ combined shares

-- shares combine to what is computed if they are as many as the threshold, at least one, have different indices below
-- 256, and consist of equally many bytes
abbrev pub SharesCombine : Type 0
SharesCombine = (threshold : ℕ) (shares : List (ℕ × List ℕ))
    → 1 ≤ threshold
    → length shares ≡ threshold
    → HaveByteIndices shares
    → All (λ share. AreBytes share.1) shares
    → HaveOneLength shares
    → AreDistinct shares
    → Combines threshold shares (combined shares)

-- the secret to which shares of one length combine has that length, and consists of bytes if they do
abbrev pub SecretsAreLikeTheirShares : Type 0
SecretsAreLikeTheirShares = (threshold n : ℕ) (shares : List (ℕ × List ℕ)) (secret : List ℕ)
    → 1 ≤ threshold
    → Combines threshold shares (Some secret)
    → All (λ share. length share.1 ≡ n) shares
    → All (λ share. AreBytes share.1) shares
    → (length secret ≡ n) × AreBytes secret
