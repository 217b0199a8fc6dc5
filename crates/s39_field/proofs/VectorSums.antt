-- Sums of rows, a vector at a time.
use Rattle.std.proofs.Common.{◌≡◌, ℕ, ◌+◌, ◌-◌, ◌<◌, ◌≤◌, ◌⊎◌, inl, inr, List, length, map, get_or, bit_xor, sym, ap, ap₂, ◌∙◌, subst, arith}
use Rattle.std.proofs.lemmas.List.{get_or-map, length-map}
use Rattle.std.proofs.lemmas.Simd.{length-zip2, get_or-zip2, length-chunk, get_or-chunk}
use Rattle.std.proofs.lemmas.Simd.{get_or-put_chunk_below, get_or-put_chunk_at, get_or-put_chunk_above}
use Rattle.std.specs.Simd.Lanes.{zip2, chunk, put_chunk}
use Rattle.s39_field.specs.FieldProduct.{byte_field}

before_or_not : (j k : ℕ) → (j < k) ⊎ (k ≤ j)
before_or_not j k = grind arith

-- w times the bytes of row from done on, n of them, added to those of acc
module _ (w n done : ℕ) (acc row : List ℕ) (room : done + n ≤ length acc) (also_room : done + n ≤ length row) where
  abbrev sums : List ℕ
  sums = zip2 bit_xor (chunk done n acc) (map (byte_field.mul w) (chunk done n row))

  length-products : length (map (byte_field.mul w) (chunk done n row)) ≡ n
  length-products = length-map (chunk done n row) (byte_field.mul w) ∙ length-chunk done n row also_room

  length-sums : length sums ≡ n
  length-sums =
      length-zip2 bit_xor (chunk done n acc) (map (byte_field.mul w) (chunk done n row))
      (length-chunk done n acc room ∙ sym length-products)
      ∙ length-chunk done n acc room

  sum-at : (i : ℕ) → i < n
      → get_or (put_chunk done acc sums) (done + i) 0 ≡ byte_field.add (get_or acc (done + i) 0) (byte_field.mul w (get_or row (done + i) 0))
  sum-at i within =
      get_or-put_chunk_at done acc sums i 0 (omega (arith, length-sums)) (omega (arith, length-sums))
      ∙ get_or-zip2 bit_xor (chunk done n acc) (map (byte_field.mul w) (chunk done n row)) i 0 0 0
      (omega (arith, length-chunk done n acc room))
      (omega (arith, length-products))
      ∙ ap₂ bit_xor
      (get_or-chunk done n acc i 0 within)
      (get_or-map (byte_field.mul w) (chunk done n row) i 0 0 (omega (arith, length-chunk done n row also_room))
      ∙ ap (byte_field.mul w) (get_or-chunk done n row i 0 within))

  -- the bytes that are sums, where those before done are, and the others are as in first
  pub summed_more : (first : List ℕ)
      → ((j : ℕ) → j < done → get_or acc j 0 ≡ byte_field.add (get_or first j 0) (byte_field.mul w (get_or row j 0)))
      → ((j : ℕ) → done ≤ j → get_or acc j 0 ≡ get_or first j 0)
      → (j : ℕ)
      → j < done + n
      → get_or (put_chunk done acc sums) j 0 ≡ byte_field.add (get_or first j 0) (byte_field.mul w (get_or row j 0))
  summed_more first summed rest j below =
      elim (before_or_not j done) [
        | inl before ↦ get_or-put_chunk_below done acc sums j 0 before ∙ summed j before
        | inr from ↦
            let place : done + (j - done) ≡ j = omega arith in
            subst
            (λ k. get_or (put_chunk done acc sums) k 0 ≡ byte_field.add (get_or acc k 0) (byte_field.mul w (get_or row k 0)))
            place (sum-at (j - done) (omega arith))
            ∙ ap (λ a. byte_field.add a (byte_field.mul w (get_or row j 0))) (rest j from)
      ]

  pub rest_less : (first : List ℕ)
      → ((j : ℕ) → done ≤ j → get_or acc j 0 ≡ get_or first j 0)
      → (j : ℕ)
      → done + n ≤ j
      → get_or (put_chunk done acc sums) j 0 ≡ get_or first j 0
  rest_less first rest j from =
      get_or-put_chunk_above done acc sums j 0 (omega (arith, length-sums)) ∙ rest j (omega arith)
