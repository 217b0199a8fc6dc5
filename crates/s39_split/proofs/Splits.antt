-- A split's shares as they are made one by one.
use Rattle.std.proofs.Common.{◌≡◌, ◌≢◌, ℕ, ◌+◌, ◌-◌, ◌<◌, ◌≤◌, List, [], ◌++◌, Some, length, get_or, take, set, sym, ap, ◌∙◌, subst, inl, inr, arith}
use Rattle.std.proofs.Common.{length-append}
use Rattle.std.specs.List.{All, slice_get, concat, EachIndex}
use Rattle.std.proofs.lemmas.List.{get_or-map, length-map, get_or-set_other, get_or-set_same, get_or-append_right, map-append, take_at}
use Rattle.std.proofs.lemmas.List.Elements.{All-map}
use Rattle.std.proofs.lemmas.Option.{slice_get_within, get_or_from_slice_get, slice_get-get_or}
use Rattle.std.proofs.lemmas.Bool.{cases_lt}
use Rattle.arrayvec.specs.ArrayVec.{ArrayVec}
use Rattle.s39_field.specs.Interpolation.{InterpolatesBytes}
use Rattle.s39_split.specs.Sharing.{most_shares, digest_length, IsSplit, base_points, digest_share}
use Rattle.s39_split.specs.Shares.{bytes_of}

-- the bytes at an index
bytes-at : (shares : List (ArrayVec ℕ)) (k : ℕ) (s : List ℕ) (d : ArrayVec ℕ) → slice_get (bytes_of shares) k ≡ Some s
    → (k < length shares) × ((get_or shares k d).items ≡ s)
bytes-at shares k s d is =
    let within : k < length (bytes_of shares) = slice_get_within (bytes_of shares) k s is in
    let count : length (bytes_of shares) ≡ length shares = length-map shares (λ v. v.items) in
    let in_shares : k < length shares = omega arith in
    (in_shares, sym (get_or-map (λ v. v.items) shares k d [] in_shares) ∙ get_or_from_slice_get (bytes_of shares) k s [] is)

at-bytes : (shares : List (ArrayVec ℕ)) (k : ℕ) (s : List ℕ) (d : ArrayVec ℕ) → k < length shares → (get_or shares k d).items ≡ s
    → slice_get (bytes_of shares) k ≡ Some s
at-bytes shares k s d within is =
    let count : length (bytes_of shares) ≡ length shares = length-map shares (λ v. v.items) in
    slice_get-get_or (bytes_of shares) k [] (omega arith) ∙ ap Some (get_or-map (λ v. v.items) shares k d [] within ∙ is)

-- one more share is written
pub each_more : (P : ℕ → List ℕ → Type 0) (shares : List (ArrayVec ℕ)) (i : ℕ) (share : ArrayVec ℕ) → i < length shares
    → ((k : ℕ) → k < i → (s : List ℕ) → slice_get (bytes_of shares) k ≡ Some s → P k s) → P i share.items
    → (k : ℕ) → k < i + 1 → (s : List ℕ) → slice_get (bytes_of (set shares i share)) k ≡ Some s → P k s
each_more P shares i share within before here k below s is =
    let at = bytes-at (set shares i share) k s share is in
    elim (cases_lt k i) [
      | inl earlier ↦
          let other : k ≢ i = omega arith in
          before k earlier s (at-bytes shares k s share (omega arith)
          (sym (ap (λ (v : ArrayVec ℕ). v.items) (get_or-set_other shares i k share share other)) ∙ at.1))
      | inr later ↦
          let same : k ≡ i = omega arith in
          let Q : ℕ → Type 0 = λ j. P j share.items in
          let put : (get_or (set shares i share) k share).items ≡ share.items =
          rw same (ap (λ (v : ArrayVec ℕ). v.items) (get_or-set_same shares i share share within)) in
          rw (← at.1, put) (subst Q (sym same) here)
    ]

module _ (threshold : ℕ) (secret random key : List ℕ) (random_shares other_shares : List (ArrayVec ℕ))
    (several : 2 ≤ threshold) (enough : threshold ≤ length random_shares + length other_shares)
    (few : length random_shares + length other_shares ≤ most_shares) (key_length : length key ≡ length secret - digest_length)
    (random_number : length random_shares ≡ threshold - 2)
    (consumed : random ≡ key ++ concat (bytes_of random_shares))
    (interpolated : EachIndex other_shares (λ k. (share : List ℕ) → slice_get (bytes_of other_shares) k ≡ Some share
    → InterpolatesBytes (base_points (bytes_of random_shares) (digest_share key secret) secret) ((threshold - 2) + k) share)) where
  taken : take (threshold - 2) (bytes_of (random_shares ++ other_shares)) ≡ bytes_of random_shares
  taken =
      ap (take (threshold - 2)) (map-append (λ v. v.items) random_shares other_shares)
      ∙ take_at (bytes_of random_shares) (bytes_of other_shares) (threshold - 2) (length-map random_shares (λ v. v.items) ∙ random_number)

  -- the random shares and the others are a split
  pub split_is : IsSplit threshold (length (random_shares ++ other_shares)) secret random (bytes_of (random_shares ++ other_shares))
  split_is = record {
    positive = omega arith;
    enough = omega (arith, length-append random_shares other_shares);
    few = omega (arith, length-append random_shares other_shares);
    number = length-map (random_shares ++ other_shares) (λ v. v.items);
    one_needed = λ one. absurd (omega arith);
    more_needed = λ _. record {
      key = key;
      key_length = key_length;
      consumed = rw taken consumed;
      interpolated = λ index share later is.
          let none : ArrayVec ℕ = record { items = [] } in
          let all : List (ArrayVec ℕ) = random_shares ++ other_shares in
          let at = bytes-at all index share none is in
          let count : length all ≡ length random_shares + length other_shares = length-append random_shares other_shares in
          let k : ℕ = index - (threshold - 2) in
          let split_index : index ≡ (threshold - 2) + k = omega arith in
          let place : get_or all index none ≡ get_or other_shares k none =
          get_or-append_right random_shares other_shares (threshold - 2) index none random_number later in
          let here : slice_get (bytes_of other_shares) k ≡ Some share =
          at-bytes other_shares k share none (omega arith) (sym (ap (λ (v : ArrayVec ℕ). v.items) place) ∙ at.1) in
          rw (taken, split_index) (interpolated k (omega arith) share here);
    };
  }

-- where one share is enough, copies of the secret are a split
pub copies_are : (threshold : ℕ) (secret random : List ℕ) (shares : List (ArrayVec ℕ)) → threshold ≡ 1 → random ≡ []
    → threshold ≤ length shares → length shares ≤ most_shares
    → All (λ share. share.items ≡ secret) shares → IsSplit threshold (length shares) secret random (bytes_of shares)
copies_are threshold secret random shares one no_random enough few copies = record {
  positive = omega arith;
  enough = enough;
  few = few;
  number = length-map shares (λ v. v.items);
  one_needed = λ _. (no_random, All-map (λ share. share ≡ secret) (λ v. v.items) shares copies);
  more_needed = λ several. absurd (several one);
}
