-- Bytes cut into shares of n bytes.
use Rattle.std.proofs.Common.{◌≡◌, ℕ, ◌+◌, ◌-◌, ◌*◌, ◌<◌, ◌≤◌, List, [], ◌∷◌, ◌++◌, length, take, drop, set, refl, arith, length-drop}
use Rattle.std.specs.List.{concat}
use Rattle.std.proofs.lemmas.List.{map_push, take_more_set, length-take-le}
use Rattle.std.proofs.Math.Seq.{take-add}
use Rattle.std.proofs.Math.Nat.{mul-le-mul_right}
use Rattle.arrayvec.specs.ArrayVec.{ArrayVec}
use Rattle.s39_split.specs.Shares.{bytes_of}
use Rattle.s39_lists.proofs.Pushes.{concat-push}

module _ (shares : List (ArrayVec ℕ)) (share : ArrayVec ℕ) (bytes : List ℕ) (n i : ℕ) (within : i < length shares)
    (is : share.items ≡ take ((i + 1) * n - i * n) (drop (i * n) bytes)) where
  -- one more share is cut
  pub cut_more : concat (bytes_of (take i shares)) ≡ take (i * n) bytes
      → concat (bytes_of (take (i + 1) (set shares i share))) ≡ take ((i + 1) * n) bytes
  cut_more before =
      let piece : (i + 1) * n - i * n ≡ n = omega arith in
      let whole : (i + 1) * n ≡ i * n + n = omega arith in
      let is' : share.items ≡ take n (drop (i * n) bytes) = rw piece at is in
      let one : take (i + 1) (set shares i share) ≡ take i shares ++ share ∷ [] = take_more_set shares i share within in
      let two : bytes_of (take i shares ++ share ∷ []) ≡ bytes_of (take i shares) ++ share.items ∷ [] = map_push (λ s. s.items) (take i shares) share in
      let three = concat-push (bytes_of (take i shares)) share.items in
      let four : take (i * n + n) bytes ≡ take (i * n) bytes ++ take n (drop (i * n) bytes) = take-add (i * n) n bytes in
      rw (one, two, three, before, is', whole, four) refl

  -- it has n bytes
  pub length-cut : length bytes ≡ length shares * n → length share.items ≡ n
  length-cut whole =
      let piece : (i + 1) * n - i * n ≡ n = omega arith in
      let up_to : (i + 1) * n ≤ length shares * n = mul-le-mul_right n (omega arith) in
      rw (is, piece) (length-take-le n (drop (i * n) bytes) (omega (arith, length-drop (i * n) bytes)))
