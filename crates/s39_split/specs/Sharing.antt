-- One level of splitting (SLIP-0039, "Shamir's secret sharing" and "Sharing a secret").
use Rattle.std.specs.Prelude.{◌≡◌, ◌≢◌, ℕ, ◌+◌, ◌-◌, ◌*◌, ◌≤◌, ◌==◌, if◌then◌else◌, List, [], ◌∷◌, ◌++◌, Some, length, take, All}
use Rattle.std.specs.List.{concat, enumerate_from, slice_get}
use Rattle.s39_field.specs.Interpolation.{InterpolatesBytes}
use Rattle.s39_kdf.specs.Bytes.{AreBytes}
use Rattle.s39_kdf.specs.Hmac.{hmac}
use Rattle.s39_kdf.specs.Limits.{longest_secret}

-- the most shares of a split, so a share's index is at most 15
abbrev pub most_shares : ℕ
most_shares = 16

-- the place at which the polynomials take the bytes of D, the digest share
abbrev pub digest_place : ℕ
digest_place = 254

-- the place at which they take the bytes of the secret
abbrev pub secret_place : ℕ
secret_place = 255

-- the number of bytes of a secret's digest
abbrev pub digest_length : ℕ
digest_length = 4

-- the digest of the secret S: the first 4 bytes of HMAC-SHA256 with the key R and the message S
abbrev pub digest_of : List ℕ → List ℕ → List ℕ
digest_of key secret = take digest_length (hmac key secret)

-- D: the digest of the secret, followed by R
abbrev pub digest_share : List ℕ → List ℕ → List ℕ
digest_share key secret = digest_of key secret ++ key

-- How many random bytes a split of a secret of n bytes takes: none if one share is enough, otherwise
-- the n - 4 bytes of R and the n bytes of each of the shares 0 to threshold - 3.
abbrev pub random_needed : ℕ → ℕ → ℕ
random_needed threshold n =
    if threshold == 1 then 0 else (n - digest_length) + (threshold - 2) * n

-- the most random bytes of a split: those for the longest secret at the greatest threshold
abbrev pub most_random_bytes : ℕ
most_random_bytes = random_needed most_shares longest_secret

-- the points from which a split makes its shares: the random shares 0, 1, .., then D, then the secret
abbrev pub base_points : List (List ℕ) → List ℕ → List ℕ → List (ℕ × List ℕ)
base_points random_shares digest secret =
    enumerate_from 0 random_shares ++ (digest_place, digest) ∷ (secret_place, secret) ∷ []

-- The split if two or more shares are needed. The random bytes are R and then the shares 0 to
-- threshold - 3, and each further share is interpolated at its index.
pub record IsPolynomialSplit (threshold : ℕ) (secret random : List ℕ) (shares : List (List ℕ)) : Type 0 where
  pub key : List ℕ
  pub key_length : length key ≡ length secret - digest_length
  pub consumed : random ≡ key ++ concat (take (threshold - 2) shares)
  pub interpolated : (index : ℕ) (share : List ℕ)
      → threshold - 2 ≤ index
      → slice_get shares index ≡ Some share
      → InterpolatesBytes
      (base_points (take (threshold - 2) shares) (digest_share key secret) secret) index share

-- A secret is split into count shares, of which any threshold recover it; 1 ≤ threshold ≤ count ≤ 16.
-- If one share is enough, each share is the secret.
pub record IsSplit (threshold count : ℕ) (secret random : List ℕ) (shares : List (List ℕ)) : Type 0 where
  pub positive : 1 ≤ threshold
  pub enough : threshold ≤ count
  pub few : count ≤ most_shares
  pub number : length shares ≡ count
  pub one_needed : threshold ≡ 1 → (random ≡ []) × All (λ share. share ≡ secret) shares
  pub more_needed : threshold ≢ 1 → IsPolynomialSplit threshold secret random shares

-- a split takes exactly as many random bytes as are needed
abbrev pub SplitsTakeTheBytesNeeded : Type 0
SplitsTakeTheBytesNeeded = (threshold count : ℕ) (secret random : List ℕ) (shares : List (List ℕ))
    → IsSplit threshold count secret random shares
    → length random ≡ random_needed threshold (length secret)

-- the shares of a split are as long as the secret
abbrev pub SharesAreAsLong : Type 0
SharesAreAsLong = (threshold count : ℕ) (secret random : List ℕ) (shares : List (List ℕ))
    → IsSplit threshold count secret random shares
    → All (λ share. length share ≡ length secret) shares

-- the shares of a split consist of bytes if the secret and the random bytes do
abbrev pub SharesAreBytes : Type 0
SharesAreBytes = (threshold count : ℕ) (secret random : List ℕ) (shares : List (List ℕ))
    → IsSplit threshold count secret random shares
    → AreBytes secret
    → AreBytes random
    → All AreBytes shares

-- there is a split for a threshold, a number of shares, a secret that is at least as long as a digest,
-- and as many random bytes as are needed
abbrev pub HaveASplit : Type 0
HaveASplit = (threshold count : ℕ) (secret random : List ℕ)
    → 1 ≤ threshold
    → threshold ≤ count
    → count ≤ most_shares
    → digest_length ≤ length secret
    → AreBytes secret
    → AreBytes random
    → length random ≡ random_needed threshold (length secret)
    → (shares : List (List ℕ)) × IsSplit threshold count secret random shares

-- there is no other split for them
abbrev pub HaveOneSplit : Type 0
HaveOneSplit = (threshold count : ℕ) (secret random : List ℕ) (shares other : List (List ℕ))
    → IsSplit threshold count secret random shares
    → IsSplit threshold count secret random other
    → shares ≡ other

-- the first shares of a split, if at least as many as the threshold, are the split into that many shares
abbrev pub FirstSharesAreASplit : Type 0
FirstSharesAreASplit = (threshold count fewer : ℕ) (secret random : List ℕ) (shares : List (List ℕ))
    → IsSplit threshold count secret random shares
    → threshold ≤ fewer
    → fewer ≤ count
    → IsSplit threshold fewer secret random (take fewer shares)
