use Rattle.std.proofs.Common.{◌≡◌, ℕ, ◌+◌, ◌-◌, ◌*◌, ◌<◌, ◌≤◌, List, [], ◌∷◌, ◌++◌, length, sym, ap, ◌∙◌, subst, inl, inr, arith}
use Rattle.std.specs.List.{All}
use Rattle.std.proofs.lemmas.List.{length-map}
use Rattle.std.proofs.lemmas.Bool.{cases_lt}
use Rattle.std.proofs.Math.Nat.{mul-le-mul_right}
use Rattle.arrayvec.specs.ArrayVec.{ArrayVec}
use Rattle.std.specs.Borrow.{Bor}
use Rattle.s39_kdf.specs.Bytes.{AreBytes}
use Rattle.s39_split.specs.Sharing.{most_shares, digest_place, secret_place, digest_length, digest_share}
use Rattle.s39_split.specs.Shares.{indexed_bytes, AreDistinct}
use Rattle.s39_split.proofs.SplitLaws.{AreBytes-digest_share, splits_take_the_bytes_needed}
use Rattle.s39_split.proofs.FittedPoints.{AreKnown, AreFitted, AreFitted-none, AreFitted-more, length-fitted, fitting_points, fitting_points-all}
use Rattle.s39_split.proofs.FittedPoints.{length-points, points_lengths, points_distinct, fits, fits_only}
use Rattle.s39_split.proofs.fitting.fit.Goals as goal

-- what the caller says of the known shares
known_are : (t : ℕ) (secret key : List ℕ) (known : List (ℕ × Bor (ArrayVec ℕ))) → 2 ≤ t → t ≤ most_shares
    → length key + digest_length ≡ length secret → length known + 2 ≡ t → AreDistinct (indexed_bytes known)
    → All (λ s. s.0 < most_shares) (indexed_bytes known) → All (λ s. length s.1 ≡ length secret) (indexed_bytes known)
    → AreKnown t secret key (indexed_bytes known)
known_are t secret key known several few long number distinct indices lengths =
    let count : length (indexed_bytes known) ≡ length known = length-map known (λ s. (s.0, s.1.now.items)) in
    record {
      several = omega arith;
      few = few;
      key_length = long;
      number = omega arith;
      distinct = distinct;
      indices = indices;
      lengths = lengths;
    }

-- what the code interpolates
points_are : (secret key : List ℕ) (known slice points : List (ℕ × List ℕ)) (digest : List ℕ) → slice ≡ points
    → points ≡ known ++ (digest_place, digest) ∷ (secret_place, secret) ∷ [] → digest ≡ digest_share key secret
    → slice ≡ fitting_points secret key known
points_are secret key known slice points digest lent made share =
    lent ∙ made ∙ ap (λ d. known ++ (digest_place, d) ∷ (secret_place, secret) ∷ []) share

pub interpolate-share-requires-clause-distinct : goal.interpolate-share-requires-clause-distinct
interpolate-share-requires-clause-distinct c =
    let secret = c.args.secret.now.items in
    let key = c.args.r.now in
    let known = indexed_bytes c.args.known.now in
    let are = known_are c.args.t c.args.secret.now.items c.args.r.now c.args.known.now c.requires.several c.requires.few
    c.requires.key c.requires.number c.requires.distinct c.requires.indices c.requires.one_length in
    let points = points_are secret key known _ _ _ c.as_slice-points.ensures c.points_of-points.ensures c.digest_share-digest_share.ensures.value in
    rw points (points_distinct c.args.t secret key known are)

pub interpolate-share-requires-clause-one_length : goal.interpolate-share-requires-clause-one_length
interpolate-share-requires-clause-one_length c =
    let secret = c.args.secret.now.items in
    let key = c.args.r.now in
    let known = indexed_bytes c.args.known.now in
    let are = known_are c.args.t c.args.secret.now.items c.args.r.now c.args.known.now c.requires.several c.requires.few
    c.requires.key c.requires.number c.requires.distinct c.requires.indices c.requires.one_length in
    let points = points_are secret key known _ _ _ c.as_slice-points.ensures c.points_of-points.ensures c.digest_share-digest_share.ensures.value in
    (length secret, rw points (points_lengths c.args.t secret key known are))

pub unwrap-requires-in-loop-place : goal.unwrap-requires-in-loop-place
unwrap-requires-in-loop-place c =
    let secret = c.args.secret.now.items in
    let key = c.args.r.now in
    let known = indexed_bytes c.args.known.now in
    let are = known_are c.args.t c.args.secret.now.items c.args.r.now c.args.known.now c.requires.several c.requires.few
    c.requires.key c.requires.number c.requires.distinct c.requires.indices c.requires.one_length in
    let points = points_are secret key known _ _ _ c.as_slice-points.ensures c.points_of-points.ensures c.digest_share-digest_share.ensures.value in
    let n = length secret in
    let some : 0 < length (indexed_bytes c.as_slice-points.result.now) =
    omega (arith, ap length points, length-points c.args.t secret key known are, are.several) in
    let lengths : All (λ s. length s.1 ≡ n) (indexed_bytes c.as_slice-points.result.now) = rw points (points_lengths c.args.t secret key known are) in
    let long = length-fitted (indexed_bytes c.as_slice-points.result.now) key c.loop-place.random.items c.loop-place.place n
    some lengths c.loop-place.invariant.fitted in
    let string : length c.deref.result.now ≡ n =
    ap length c.deref.ensures.0 ∙ sym (c.interpolate-share.ensures.value.one_length 0 (0, []) some) ∙ lengths 0 (0, []) some in
    let before : c.loop-place.place * n ≤ 13 * n = mul-le-mul_right n (omega arith) in
    c.try_extend_from_slice-in-loop-place.ensures.variant.1 (omega (arith, c.deref.ensures.1))

pub loop-place-init : goal.loop-place-init
loop-place-init c = record {
  fitted = AreFitted-none (indexed_bytes c.as_slice-points.result.now) c.args.r.now c.try_extend_from_slice.new.self.items
      (rw c.new-random.ensures at (rw c.unwrap.ensures at c.try_extend_from_slice.ensures.ok));
  bytes = λ some. absurd (omega arith);
}

pub loop-place-preserved : goal.loop-place-preserved
loop-place-preserved c =
    let after : c.try_extend_from_slice-in-loop-place.new.self.items ≡ c.loop-place.random.items ++ c.interpolate-share.result.items =
    rw c.unwrap-in-loop-place.ensures at c.try_extend_from_slice-in-loop-place.ensures.ok ∙ ap (λ xs. c.loop-place.random.items ++ xs) c.deref.ensures.0 in
    let points = indexed_bytes c.as_slice-points.result.now in
    record {
      fitted = subst (AreFitted points c.args.r.now (c.loop-place.place + 1)) (sym after)
          (AreFitted-more points c.args.r.now c.loop-place.random.items c.interpolate-share.result.items c.loop-place.place
          c.loop-place.invariant.fitted c.interpolate-share.ensures.value);
      bytes = λ _. c.interpolate-share.ensures.of_bytes;
    }

-- what the loop leaves
module _ (c : goal.After-loop-place) where
  abbrev secret : List ℕ
  secret = c.args.secret.now.items

  abbrev key : List ℕ
  key = c.args.r.now

  abbrev known : List (ℕ × List ℕ)
  known = indexed_bytes c.args.known.now

  are : AreKnown c.args.t secret key known
  are = known_are c.args.t secret key c.args.known.now c.requires.several c.requires.few
      c.requires.key c.requires.number c.requires.distinct c.requires.indices c.requires.one_length

  points : indexed_bytes c.as_slice-points.result.now ≡ fitting_points secret key known
  points = points_are secret key known _ _ _ c.as_slice-points.ensures c.points_of-points.ensures c.digest_share-digest_share.ensures.value

  bytes : All (λ s. AreBytes s.1) (fitting_points secret key known)
  bytes = elim (cases_lt 0 c.loop-place.place) [
    | inl some ↦ rw points at (c.loop-place.invariant.bytes some)
    | inr none ↦ fitting_points-all secret key known (λ s. AreBytes s.1) (λ k d within. absurd (omega (arith, are.number)))
        (AreBytes-digest_share key secret c.digest_share-digest_share.ensures.of_key) c.digest_share-digest_share.ensures.of_secret
  ]

  fitted : AreFitted (fitting_points secret key known) key (c.args.t - 2) c.loop-place.random.items
  fitted =
      let all : c.loop-place.place ≡ c.args.t - 2 = omega arith in
      subst (λ n. AreFitted (fitting_points secret key known) key n c.loop-place.random.items) all
      (subst (λ ps. AreFitted ps key c.loop-place.place c.loop-place.random.items) points c.loop-place.invariant.fitted)

pub returns-clause-fits : goal.returns-clause-fits
returns-clause-fits c = fits c.args.t (secret c) (key c) (known c) (are c) (bytes c) c.loop-place.random.items (fitted c)

pub returns-clause-only : goal.returns-clause-only
returns-clause-only c = λ random f.
    fits_only c.args.t (secret c) (key c) (known c) (are c) (bytes c) c.loop-place.random.items (fitted c) random f

pub returns-clause-length : goal.returns-clause-length
returns-clause-length c =
    let f = returns-clause-fits c in
    splits_take_the_bytes_needed c.args.t most_shares (secret c) c.loop-place.random.items f.shares f.split
