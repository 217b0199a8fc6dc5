-- Fields read from the words by shifts and masks.
use Rattle.std.proofs.Common.{◌≡◌, ℕ, ◌+◌, ◌-◌, ◌*◌, ◌/◌, ◌%◌, ◌^◌, ◌<◌, ◌≤◌, List, [], ◌∷◌, ◌++◌, length, take, drop}
use Rattle.std.proofs.Common.{get_or, sym, ap, ◌∙◌, arith, All, subst, bit_and, bit_or}
use Rattle.std.proofs.Math.Nat.{mod-eq_of_lt}
use Rattle.std.proofs.lemmas.Nat.{and_mask, or_shifted, one_shl}
use Rattle.std.proofs.lemmas.List.{append_assoc, drop_more, length-take-le, take-append-drop}
use Rattle.std.proofs.lemmas.List.Elements.{All-drop, All-get_or}
use Rattle.s39_words.specs.Layout.{IsIndex}
use Rattle.s39_words.specs.Reading.{number_at}
use Rattle.s39_words.proofs.Digits.{number_at-part}

module _ (ws : List ℕ) (place width : ℕ) (below : All IsIndex ws) (in_two : place % 10 + width ≤ 20) (within : place / 10 + 1 < length ws) where
  -- the two words at the place, as one number
  abbrev pair : ℕ
  pair = get_or ws (place / 10) 0 * 1024 + get_or ws (place / 10 + 1) 0

  number_at-pair : number_at ws place width ≡ pair / 2 ^ (20 - place % 10 - width) % 2 ^ width
  number_at-pair =
      let j = place / 10 in
      let a = get_or ws j 0 in
      let b = get_or ws (j + 1) 0 in
      let rest = drop (j + 1 + 1) ws in
      let parts : take j ws ++ (a ∷ b ∷ []) ++ rest ≡ ws =
      append_assoc (take j ws) (a ∷ b ∷ []) rest
      ∙ ap (λ xs. take j ws ++ xs) (sym (drop_more ws j 0 (omega arith) ∙ ap (λ xs. a ∷ xs) (drop_more ws (j + 1) 0 within)))
      ∙ take-append-drop j ws in
      let front : length (take j ws) ≡ j = length-take-le j ws (omega arith) in
      ap (λ xs. number_at xs place width) (sym parts)
      ∙ number_at-part (take j ws) (a ∷ b ∷ []) rest place (place % 10) width (All-drop IsIndex (j + 1 + 1) ws below) (omega (arith, front)) in_two
      ∙ ap (λ n. n / 2 ^ (20 - place % 10 - width) % 2 ^ width) (omega arith)

  -- what the code computes from the two words
  pub number_at-shifted : (a b : ℕ) → a ≡ get_or ws (place / 10) 0 → b ≡ get_or ws (place / 10 + 1) 0 → width ≤ 15
      → bit_and (bit_or (a * 1024 % 4294967296) b / 2 ^ (20 - place % 10 - width)) (1 * 2 ^ width % 4294967296 - 1) ≡ number_at ws place width
  number_at-shifted a b p q small =
      let la : a < 1024 = subst IsIndex (sym p) (All-get_or IsIndex ws (place / 10) 0 (omega arith) below) in
      let lb : b < 1024 = subst IsIndex (sym q) (All-get_or IsIndex ws (place / 10 + 1) 0 within below) in
      let m : a * 1024 % 4294967296 ≡ a * 1024 = mod-eq_of_lt (omega arith) in
      let o : bit_or (a * 1024) b ≡ pair = or_shifted a 10 b lb ∙ omega (arith, p, q) in
      let mask : 1 * 2 ^ width % 4294967296 ≡ 2 ^ width = one_shl width 32 (omega arith) in
      rw (m, o, mask) (and_mask (pair / 2 ^ (20 - place % 10 - width)) width ∙ sym number_at-pair)
