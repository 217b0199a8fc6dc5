-- The points of which a split makes its shares.
use Rattle.std.proofs.Common.{◌≡◌, ℕ, ◌+◌, ◌<◌, ◌≤◌, List, [], ◌∷◌, length, get_or, sym, ap, ◌∙◌, inl, inr, ◌⊎◌, arith, length-append, zero-add}
use Rattle.std.specs.List.{All, enumerate_from}
use Rattle.std.proofs.lemmas.List.{get_or_append_left, get_or-append-add, get_or_at}
use Rattle.std.proofs.lemmas.List.FromFn.{length-enumerate_from, get_or-enumerate_from}
use Rattle.std.proofs.lemmas.Bool.{cases_lt}
use Rattle.std.proofs.lemmas.List.Elements.{All-append, All-cons, All-nil}
use Rattle.s39_split.specs.Sharing.{most_shares, digest_place, secret_place, base_points}
use Rattle.s39_split.specs.Shares.{AreDistinct}

module _ (random_shares : List (List ℕ)) (digest secret : List ℕ) where
  -- the points' number
  pub length-base_points : length (base_points random_shares digest secret) ≡ length random_shares + 2
  length-base_points =
      length-append (enumerate_from 0 random_shares) ((digest_place, digest) ∷ (secret_place, secret) ∷ [])
      ∙ ap (λ n. n + 2) (length-enumerate_from 0 random_shares)

  -- a random share stands at its index
  pub base_points-random : (k : ℕ) (d : ℕ × List ℕ) → k < length random_shares
      → get_or (base_points random_shares digest secret) k d ≡ (k, get_or random_shares k d.1)
  base_points-random k d within =
      let long = length-enumerate_from 0 random_shares in
      get_or_append_left (enumerate_from 0 random_shares) _ d k (omega arith) ∙ rw zero-add at (get_or-enumerate_from 0 random_shares k d within)

  -- then D, and then the secret
  pub base_points-digest : (d : ℕ × List ℕ) → get_or (base_points random_shares digest secret) (length random_shares) d ≡ (digest_place, digest)
  base_points-digest d =
      get_or_at (enumerate_from 0 random_shares) (digest_place, digest) ((secret_place, secret) ∷ []) d (length random_shares)
      (length-enumerate_from 0 random_shares)

  pub base_points-secret : (d : ℕ × List ℕ) → get_or (base_points random_shares digest secret) (length random_shares + 1) d ≡ (secret_place, secret)
  base_points-secret d =
      ap (λ n. get_or (base_points random_shares digest secret) (n + 1) d) (sym (length-enumerate_from 0 random_shares))
      ∙ get_or-append-add (enumerate_from 0 random_shares) ((digest_place, digest) ∷ (secret_place, secret) ∷ []) 1 d

  -- what is true of all strings is true of those of the points
  pub base_points-all : (P : List ℕ → Type 0) → All P random_shares → P digest → P secret → All (λ s. P s.1) (base_points random_shares digest secret)
  base_points-all P of_random of_digest of_secret =
      All-append (λ s. P s.1) (enumerate_from 0 random_shares) ((digest_place, digest) ∷ (secret_place, secret) ∷ [])
      (λ k d within.
      let in_shares : k < length random_shares = omega (arith, length-enumerate_from 0 random_shares) in
      rw (get_or-enumerate_from 0 random_shares k d in_shares) (of_random k d.1 in_shares))
      (All-cons (λ s. P s.1) (digest_place, digest) ((secret_place, secret) ∷ []) of_digest
      (All-cons (λ s. P s.1) (secret_place, secret) [] of_secret (All-nil (λ s. P s.1))))

  module _ (few : length random_shares + 2 ≤ most_shares) where
    -- the place of a point
    place : (k : ℕ) (d : ℕ × List ℕ) → k < length random_shares + 2
        → ((k < length random_shares) × ((get_or (base_points random_shares digest secret) k d).0 ≡ k))
        ⊎ ((length random_shares ≤ k) × ((get_or (base_points random_shares digest secret) k d).0 + length random_shares ≡ k + digest_place))
    place k d within = elim (cases_lt k (length random_shares)) [
      | inl low ↦ inl (low, ap (λ s. s.0) (base_points-random k d low))
      | inr high ↦ elim (cases_lt (length random_shares) k) [
        | inl last ↦
            let at : k ≡ length random_shares + 1 = omega arith in
            inr (high, rw (at, base_points-secret d) (omega arith))
        | inr first ↦
            let at : k ≡ length random_shares = omega arith in
            inr (high, rw (at, base_points-digest d) (omega arith))
      ]
    ]

    -- the places are bytes
    pub base_points-places : All (λ s. s.0 < 256) (base_points random_shares digest secret)
    base_points-places k d within =
        let count = length-base_points in
        elim (place k d (omega arith)) [ inl p ↦ omega arith | inr p ↦ omega arith ]

    -- no place comes twice
    pub base_points-distinct : AreDistinct (base_points random_shares digest secret)
    base_points-distinct i j d before within same =
        let count = length-base_points in
        elim (place i d (omega arith)) [
          | inl p ↦ elim (place j d (omega arith)) [ inl q ↦ omega arith | inr q ↦ omega arith ]
          | inr p ↦ elim (place j d (omega arith)) [ inl q ↦ omega arith | inr q ↦ omega arith ]
        ]
