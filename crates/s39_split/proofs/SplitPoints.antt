-- The points of which a split makes its shares: what they interpolate.
use Rattle.std.proofs.Common.{◌≡◌, ℕ, ◌+◌, ◌-◌, ◌<◌, ◌≤◌, List, [], ◌++◌, Some, length, get_or, take, drop, sym, ap, ◌∙◌, inl, inr, arith}
use Rattle.std.specs.List.{All, slice_get, concat}
use Rattle.std.proofs.lemmas.List.{length-take-le, get_or-take}
use Rattle.std.proofs.lemmas.Option.{slice_get-get_or, get_or_from_slice_get}
use Rattle.std.proofs.lemmas.Bool.{cases_lt}
use Rattle.s39_field.specs.Interpolation.{InterpolatesBytes}
use Rattle.s39_split.specs.Shares.{AreDistinct}
use Rattle.s39_split.specs.Sharing.{most_shares, digest_place, secret_place, digest_length, base_points, digest_share, digest_of, IsPolynomialSplit, IsSplit}
use Rattle.s39_split.proofs.Interpolations.{none, interpolates_itself}
use Rattle.s39_split.proofs.BasePoints.{length-base_points, base_points-random, base_points-digest, base_points-secret, base_points-places}
use Rattle.s39_split.proofs.BasePoints.{base_points-distinct}
use Rattle.s39_split.proofs.Digests.{digest_share-is_accepted}

-- the points of which a split with this R makes its shares
abbrev pub base_of : ℕ → List ℕ → List ℕ → List (List ℕ) → List (ℕ × List ℕ)
base_of threshold key secret shares = base_points (take (threshold - 2) shares) (digest_share key secret) secret

module _ (threshold count : ℕ) (secret random : List ℕ) (shares : List (List ℕ))
    (enough : threshold ≤ count) (few : count ≤ most_shares) (several : 1 < threshold)
    (number : length shares ≡ count) (split : IsPolynomialSplit threshold secret random shares) where
  length-random : length (take (threshold - 2) shares) ≡ threshold - 2
  length-random = length-take-le (threshold - 2) shares (omega arith)

  length-base : length (base_of threshold split.key secret shares) ≡ threshold
  length-base = length-base_points (take (threshold - 2) shares) (digest_share split.key secret) secret ∙ omega (arith, length-random)

  distinct_base : AreDistinct (base_of threshold split.key secret shares)
  distinct_base = base_points-distinct (take (threshold - 2) shares) (digest_share split.key secret) secret (omega (arith, length-random))

  base_places : All (λ s. s.0 < 256) (base_of threshold split.key secret shares)
  base_places = base_points-places (take (threshold - 2) shares) (digest_share split.key secret) secret (omega (arith, length-random))

  -- the first share that is not random is interpolated, so all base points are
  base_interpolated : (k : ℕ) → k < threshold
      → InterpolatesBytes (base_of threshold split.key secret shares) (get_or (base_of threshold split.key secret shares) k none).0
      (get_or (base_of threshold split.key secret shares) k none).1
  base_interpolated k within =
      interpolates_itself (base_of threshold split.key secret shares) k (threshold - 2) (get_or shares (threshold - 2) []) (omega (arith, length-base))
      (split.interpolated (threshold - 2) (get_or shares (threshold - 2) []) (omega arith) (slice_get-get_or shares (threshold - 2) [] (omega arith)))

  -- each share is
  share_interpolated : (index : ℕ) (share : List ℕ) → slice_get shares index ≡ Some share
      → InterpolatesBytes (base_of threshold split.key secret shares) index share
  share_interpolated index share is = elim (cases_lt index (threshold - 2)) [
    | inl random ↦
        let at : get_or (base_of threshold split.key secret shares) index none ≡ (index, share) =
        base_points-random (take (threshold - 2) shares) (digest_share split.key secret) secret index none (omega (arith, length-random))
        ∙ ap (λ s. (index, s)) (get_or-take (threshold - 2) shares index [] random ∙ get_or_from_slice_get shares index share [] is) in
        rw at at (base_interpolated index (omega arith))
    | inr later ↦ split.interpolated index share later is
  ]

  -- the secret and the digest share are
  secret_interpolated : InterpolatesBytes (base_of threshold split.key secret shares) secret_place secret
  secret_interpolated =
      let at = base_points-secret (take (threshold - 2) shares) (digest_share split.key secret) secret none in
      rw at at (base_interpolated (length (take (threshold - 2) shares) + 1) (omega (arith, length-random)))

  digest_interpolated : InterpolatesBytes (base_of threshold split.key secret shares) digest_place (digest_share split.key secret)
  digest_interpolated =
      let at = base_points-digest (take (threshold - 2) shares) (digest_share split.key secret) secret none in
      rw at at (base_interpolated (length (take (threshold - 2) shares)) (omega (arith, length-random)))

  accepted : take digest_length (digest_share split.key secret) ≡ digest_of (drop digest_length (digest_share split.key secret)) secret
  accepted =
      let at = base_points-digest (take (threshold - 2) shares) (digest_share split.key secret) secret none in
      let h = secret_interpolated in
      let whole = h.one_length (length (take (threshold - 2) shares)) none (omega (arith, length-base, length-random)) in
      digest_share-is_accepted split.key secret (length secret) (rw at at whole) split.key_length

  -- all shares are as long as the secret
  length-share : (index : ℕ) (share : List ℕ) → slice_get shares index ≡ Some share → length share ≡ length secret
  length-share index share is =
      let h = share_interpolated index share is in
      let at = base_points-secret (take (threshold - 2) shares) (digest_share split.key secret) secret none in
      let whole = h.one_length (length (take (threshold - 2) shares) + 1) none (omega (arith, length-base, length-random)) in
      sym (rw at at whole)

-- what is known of the points of which a split makes its shares
pub record SplitBase (threshold : ℕ) (secret random : List ℕ) (shares : List (List ℕ)) (key : List ℕ) : Type 0 where
  pub key_length : length key ≡ length secret - digest_length
  pub consumed : random ≡ key ++ concat (take (threshold - 2) shares)
  pub random_number : length (take (threshold - 2) shares) ≡ threshold - 2
  pub number : length (base_of threshold key secret shares) ≡ threshold
  pub distinct : AreDistinct (base_of threshold key secret shares)
  pub places : All (λ s. s.0 < 256) (base_of threshold key secret shares)
  pub share_interpolated : (index : ℕ) (share : List ℕ) → slice_get shares index ≡ Some share
      → InterpolatesBytes (base_of threshold key secret shares) index share
  pub secret_interpolated : InterpolatesBytes (base_of threshold key secret shares) secret_place secret
  pub digest_interpolated : InterpolatesBytes (base_of threshold key secret shares) digest_place (digest_share key secret)
  pub accepted : take digest_length (digest_share key secret) ≡ digest_of (drop digest_length (digest_share key secret)) secret
  pub share_length : (index : ℕ) (share : List ℕ) → slice_get shares index ≡ Some share → length share ≡ length secret

-- a split where several shares are needed has such points
pub split_base : (threshold count : ℕ) (secret random : List ℕ) (shares : List (List ℕ)) → 1 < threshold
    → IsSplit threshold count secret random shares → (key : List ℕ) × SplitBase threshold secret random shares key
split_base threshold count secret random shares several split =
    let p = split.more_needed (omega arith) in (
      p.key,
      record {
        key_length = p.key_length;
        consumed = p.consumed;
        random_number = length-random threshold count secret random shares split.enough split.few several split.number p;
        number = length-base threshold count secret random shares split.enough split.few several split.number p;
        distinct = distinct_base threshold count secret random shares split.enough split.few several split.number p;
        places = base_places threshold count secret random shares split.enough split.few several split.number p;
        share_interpolated = share_interpolated threshold count secret random shares split.enough split.few several split.number p;
        secret_interpolated = secret_interpolated threshold count secret random shares split.enough split.few several split.number p;
        digest_interpolated = digest_interpolated threshold count secret random shares split.enough split.few several split.number p;
        accepted = accepted threshold count secret random shares split.enough split.few several split.number p;
        share_length = length-share threshold count secret random shares split.enough split.few several split.number p;
      },
    )
