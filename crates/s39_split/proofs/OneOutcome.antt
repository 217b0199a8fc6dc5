-- Shares combine to one outcome, which is what is computed, and to a secret that is like them.
use Rattle.std.proofs.Common.{◌≡◌, ◌≢◌, ℕ, ◌<◌, List, [], ◌∷◌, Option, Some, None, length, get_or, take, drop, refl, sym, ap, ap₂, ◌∙◌, subst, inl, inr, arith}
use Rattle.std.specs.Prelude.{bytes_eq}
use Rattle.std.specs.Cmp.Lexicographic.{bytes_decides}
use Rattle.std.proofs.lemmas.Bool.{cases_eq, cases_Bool, false≢true}
use Rattle.std.proofs.lemmas.List.{get_or_default}
use Rattle.s39_field.specs.Interpolation.{InterpolatesBytes}
use Rattle.s39_field.proofs.Strings.{strings_have_a_value, strings_have_one_value}
use Rattle.s39_split.specs.Sharing.{digest_length, digest_place, secret_place, digest_of}
use Rattle.s39_split.specs.Recovery.{CombinesSeveral, interpolated, checked, combined}
use Rattle.s39_split.specs.Recovery.{SharesCombine, SharesCombineOnce, SecretsAreLikeTheirShares}
use Rattle.s39_kdf.specs.Bytes.{AreBytes}
use Rattle.s39_split.specs.Shares.{AreDistinct, HaveByteIndices}
use Rattle.s39_split.proofs.Choices.{several_combine_to, one_combines_to}
use Rattle.s39_split.proofs.Interpolations.{none, interpolates_itself}
use Rattle.s39_lists.proofs.Pairs.{All-from_same}
use Rattle.s39_split.proofs.SplitLaws.{ArePoints, AreBytes-interpolated}

-- ---- what is computed

-- points of one length interpolate what is computed
pub interpolates : (n : ℕ) (points : List (ℕ × List ℕ)) (x : ℕ) → ArePoints n points → 0 < length points
    → InterpolatesBytes points x (interpolated points x)
unfolding interpolated
interpolates n [] x are some = absurd (omega arith)
interpolates n (p ∷ ps) x are some =
    let first : length p.1 ≡ n = are.lengths 0 p (omega arith) in
    (strings_have_a_value (p ∷ ps) x (length p.1) are.places are.bytes (λ k d within. are.lengths k d within ∙ sym first) are.distinct).2

module _ (points : List (ℕ × List ℕ)) (x : ℕ) (y : List ℕ) (some : 0 < length points) (places : HaveByteIndices points) (distinct : AreDistinct points)
    (h : InterpolatesBytes points x y) where
  -- points that interpolate something consist of bytes
  interpolating : ArePoints (length y) points
  interpolating = record {
    places = places;
    bytes = λ k d within.
        let at = AreBytes-interpolated points (get_or points k none).0 (get_or points k none).1 (places k none within)
        (interpolates_itself points k x y within h) in
        let P : ℕ × List ℕ → Type 0 = λ point. AreBytes point.1 in
        subst P (get_or_default points k none d within) at;
    lengths = h.one_length;
    distinct = distinct;
  }

  -- and interpolate nothing else
  pub interpolated_once : y ≡ interpolated points x
  interpolated_once =
      strings_have_one_value points x y (interpolated points x) some places distinct h (interpolates (length y) points x interpolating some)

pub combined_one : (shares : List (ℕ × List ℕ)) (d : ℕ × List ℕ) → length shares ≡ 1 → combined shares ≡ Some (get_or shares 0 d).1
unfolding combined
combined_one [] d one = absurd (omega arith)
combined_one (s ∷ []) d one = refl
combined_one (s ∷ t ∷ rest) d one = absurd (omega arith)

pub combined_several : (shares : List (ℕ × List ℕ)) → 1 < length shares
    → combined shares ≡ checked (interpolated shares secret_place) (interpolated shares digest_place)
unfolding combined
combined_several [] several = absurd (omega arith)
combined_several (s ∷ []) several = absurd (omega arith)
combined_several (s ∷ t ∷ rest) several = refl

-- a digest share is accepted or refused
module _ (secret digest : List ℕ) where
  pub checked_same : take digest_length digest ≡ digest_of (drop digest_length digest) secret → checked secret digest ≡ Some secret
  checked_same same = rw ((bytes_decides (take digest_length digest) (digest_of (drop digest_length digest) secret)).1 same) refl

  pub checked_other : take digest_length digest ≢ digest_of (drop digest_length digest) secret → checked secret digest ≡ None
  checked_other other =
      let given = take digest_length digest in
      let made = digest_of (drop digest_length digest) secret in
      elim (cases_Bool (bytes_eq given made)) [
        | inl same ↦ absurd (other ((bytes_decides given made).0 same))
        | inr differs ↦ rw differs refl
      ]

-- ---- combined

several_combine_once : (shares : List (ℕ × List ℕ)) (outcome : Option (List ℕ)) (c : CombinesSeveral shares outcome)
    → outcome ≡ checked c.secret c.digest
several_combine_once shares outcome c =
    let given = take digest_length c.digest in
    let made = digest_of (drop digest_length c.digest) c.secret in
    elim (cases_Bool (bytes_eq given made)) [
      | inl same ↦
          let is : given ≡ made = (bytes_decides given made).0 same in
          c.accepted is ∙ sym (checked_same c.secret c.digest is)
      | inr differs ↦
          let other : given ≢ made = λ same. false≢true (sym differs ∙ (bytes_decides given made).1 same) in
          c.refused other ∙ sym (checked_other c.secret c.digest other)
    ]

-- shares at distinct places combine to nothing else than what is computed
pub combine_once : SharesCombineOnce
combine_once threshold shares outcome some places distinct c =
    elim (cases_eq threshold 1) [
      | inl one ↦
          let is = c.one_needed one in
          is.3 ∙ sym (ap combined is.2 ∙ combined_one ((is.0, is.1) ∷ []) none refl)
      | inr several ↦
          let m = c.more_needed several in
          let number = c.number in
          several_combine_once shares outcome m
          ∙ ap₂ checked (interpolated_once shares secret_place m.secret some places distinct m.secret_interpolated)
          (interpolated_once shares digest_place m.digest some places distinct m.digest_interpolated)
          ∙ sym (combined_several shares (omega arith))
    ]

-- shares of bytes, equally long and at distinct places, combine to it
pub shares_combine : SharesCombine
shares_combine threshold shares positive number places bytes one_length distinct =
    elim (cases_eq threshold 1) [
      | inl one ↦
          let first = (get_or shares 0 none).1 in
          rw (one, combined_one shares none (number ∙ one)) (one_combines_to shares first none (number ∙ one) refl)
      | inr several ↦
          let same = All-from_same (λ s. length s.1) shares one_length in
          let are : ArePoints same.0 shares = record { places = places; bytes = bytes; lengths = same.1; distinct = distinct } in
          let secret = interpolated shares secret_place in
          let digest = interpolated shares digest_place in
          rw (combined_several shares (omega arith))
          (several_combine_to threshold shares (checked secret digest) several number
          (record {
            secret = secret;
            digest = digest;
            secret_interpolated = interpolates same.0 shares secret_place are (omega arith);
            digest_interpolated = interpolates same.0 shares digest_place are (omega arith);
            accepted = checked_same secret digest;
            refused = checked_other secret digest;
          }))
    ]

-- the secret that shares combine to is as long as they are, and consists of bytes
pub secrets_are_like_their_shares : SecretsAreLikeTheirShares
secrets_are_like_their_shares threshold n shares secret positive combined lengths bytes =
    let some : 0 < length shares = omega (arith, combined.number) in
    let P : List ℕ → Type 0 = AreBytes in
    elim (cases_eq threshold 1) [
      | inl one ↦
          let o = combined.one_needed one in
          let is : (get_or shares 0 none).1 ≡ secret =
          let e : o.1 ≡ secret = cc in
          ap (λ (xs : List (ℕ × List ℕ)). (get_or xs 0 none).1) o.2 ∙ e in
          (ap length (sym is) ∙ lengths 0 none some, subst P is (bytes 0 none some))
      | inr several ↦
          let c = combined.more_needed several in
          let given = take digest_length c.digest in
          let made = digest_of (drop digest_length c.digest) c.secret in
          elim (cases_Bool (bytes_eq given made)) [
            | inl yes' ↦
                let same = c.accepted ((bytes_decides given made).0 yes') in
                let is : c.secret ≡ secret = cc in (
                  ap length (sym is) ∙ sym (c.secret_interpolated.one_length 0 none some) ∙ lengths 0 none some,
                  subst P is (AreBytes-interpolated shares secret_place c.secret (omega arith) c.secret_interpolated),
                )
            | inr no' ↦
                let differs : given ≢ made = λ e. false≢true (sym no' ∙ (bytes_decides given made).1 e) in
                let refused = c.refused differs in
                absurd (cc)
          ]
    ]
