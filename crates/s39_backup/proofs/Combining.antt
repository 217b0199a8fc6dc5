-- What shares of one level combine to, and what points of one level complete to, is like them.
use Rattle.std.proofs.Common.{◌≡◌, ℕ, ◌<◌, ◌≤◌, List, [], length, All, Option, Some, None, Result, Ok, Err, inl, inr, refl, sym, subst, ◌∙◌, arith}
use Rattle.std.specs.Prelude.{◌↔◌}
use Rattle.std.specs.Result.{IsOkAnd}
use Rattle.arrayvec.specs.ArrayVec.{ArrayVec}
use Rattle.s39_kdf.specs.Bytes.{AreBytes}
use Rattle.s39_kdf.specs.Limits.{shortest_secret}
use Rattle.s39_split.specs.Shares.{HaveOneLength, HaveByteIndices}
use Rattle.s39_split.specs.Recovery.{Combines, combined}
use Rattle.s39_split.specs.Completion.{Completes, completed}
use Rattle.s39_split.proofs.OneOutcome.{combine_once, shares_combine, secrets_are_like_their_shares}
use Rattle.s39_split.proofs.Completions.{complete_once, points_complete}
use Rattle.s39_split.proofs.SplitLaws.{AreBytes-interpolated}
use Rattle.s39_backup.specs.declared.combination.Mismatch.{Mismatch}
use Rattle.s39_backup.specs.declared.combination.Mismatch.TheVariants.{InGroup}
use Rattle.s39_backup.specs.Combination.{in_bytes, share_or_mismatch}
use Rattle.s39_backup.specs.GroupShares.{AreOfOneLevel}
use Rattle.s39_backup.specs.Reissuing.{ArePointsOfOneLevel}

-- bytes, and so many of them
abbrev pub IsLike : ℕ → List ℕ → Type 0
IsLike bytes value = (length value ≡ bytes) × AreBytes value

-- what can be combined can be completed
pub level-points : (bytes : ℕ) (points : List (ℕ × List ℕ)) → AreOfOneLevel bytes points → ArePointsOfOneLevel bytes points
level-points bytes points level = record {
  some = level.some;
  few = level.few;
  distinct = level.distinct;
  places = λ k d within. inl (level.indices k d within);
  lengths = level.lengths;
  long = level.long;
}

module _ (bytes : ℕ) (points : List (ℕ × List ℕ)) (level : ArePointsOfOneLevel bytes points) where
  pub points-one_length : HaveOneLength points
  points-one_length i j d before within = level.lengths i d (omega arith) ∙ sym (level.lengths j d within)

  pub points-long : All (λ point. shortest_secret ≤ length point.1) points
  points-long k d within =
      let long = level.long in
      let same = level.lengths k d within in
      omega arith

  pub low_places : HaveByteIndices points
  low_places k d within = elim (level.places k d within) [ inl low ↦ omega arith | inr last ↦ omega arith ]

  -- points of bytes complete to what is computed alone
  pub completed_is : All (λ point. AreBytes point.1) points → (threshold : ℕ) → length points ≡ threshold → (index : ℕ) (outcome : Option (List ℕ))
      → Completes threshold points index outcome ↔ (outcome ≡ completed points index)
  completed_is are_bytes threshold number index outcome = (
    complete_once threshold points index outcome level.some low_places level.distinct,
    λ is. subst (λ (t : ℕ). Completes t points index outcome) number
        (subst (Completes (length points) points index) (sym is)
        (points_complete (length points) points index level.some refl low_places are_bytes points-one_length level.distinct)),
  )

  -- which is like them
  pub completed_like : All (λ point. AreBytes point.1) points → (index : ℕ) (value : List ℕ) → index < 256 → completed points index ≡ Some value
      → IsLike bytes value
  completed_like are_bytes index value low is =
      let completes = subst (Completes (length points) points index) is
      (points_complete (length points) points index level.some refl low_places are_bytes points-one_length level.distinct) in (
        sym (completes.1.one_length 0 (0, []) level.some) ∙ level.lengths 0 (0, []) level.some,
        AreBytes-interpolated points index value low completes.1,
      )

module _ (bytes : ℕ) (shares : List (ℕ × List ℕ)) (level : AreOfOneLevel bytes shares) (are_bytes : All (λ share. AreBytes share.1) shares) where
  combines : Combines (length shares) shares (combined shares)
  combines =
      let points = level-points bytes shares level in
      shares_combine (length shares) shares level.some refl (low_places bytes shares points) are_bytes (points-one_length bytes shares points)
      level.distinct

  -- shares of bytes combine to what is computed alone
  pub combined_is : (threshold : ℕ) → length shares ≡ threshold → (outcome : Option (List ℕ))
      → Combines threshold shares outcome ↔ (outcome ≡ combined shares)
  combined_is threshold number outcome = (
    combine_once threshold shares outcome level.some (low_places bytes shares (level-points bytes shares level)) level.distinct,
    λ is. subst (λ (t : ℕ). Combines t shares outcome) number (subst (Combines (length shares) shares) (sym is) combines),
  )

  -- which is like them
  pub combined_like : (secret : List ℕ) → combined shares ≡ Some secret → IsLike bytes secret
  combined_like secret is =
      secrets_are_like_their_shares (length shares) bytes shares secret level.some (subst (Combines (length shares) shares) is combines)
      level.lengths are_bytes

-- the share of a group, or its mismatch
pub share_is : (group : ℕ) (outcome : Option (List ℕ)) (share : ℕ × List ℕ) → share_or_mismatch group outcome ≡ Ok share
    → (share.0 ≡ group) × (outcome ≡ Some share.1)
share_is group None share is = absurd (cc)
share_is group (Some value) share is =
    let same : (group, value) ≡ share = cc in
    subst (λ (s : ℕ × List ℕ). (s.0 ≡ group) × (Some value ≡ Some s.1)) same (refl, refl)

pub mismatch_is : (group : ℕ) (outcome : Option (List ℕ)) (mismatch : Mismatch) → share_or_mismatch group outcome ≡ Err mismatch
    → (mismatch ≡ InGroup group) × (outcome ≡ None)
mismatch_is group None mismatch is = let same : InGroup group ≡ mismatch = cc in (sym same, refl)
mismatch_is group (Some value) mismatch is = absurd (cc)

-- an answer that says the one value has it
pub ok_with : {E : Type 0} (result : Result (ArrayVec ℕ) E) (value : List ℕ) → in_bytes result ≡ Ok value
    → IsOkAnd result (λ v. v.items ≡ value)
ok_with (Ok v) value is = cc
ok_with (Err e) value is = absurd (cc)
