-- Lists cut into pieces of one length.
use Rattle.std.proofs.Common.{◌≡◌, ℕ, zero, suc, ◌+◌, ◌*◌, ◌<◌, ◌≤◌, List, [], ◌∷◌, ◌++◌, length, take, drop, refl, sym, ap, ap₂, ◌∙◌, arith}
use Rattle.std.proofs.Common.{length-append, length-drop}
use Rattle.std.specs.List.{All, concat}
use Rattle.std.proofs.lemmas.List.{take_at, drop_at, length-take-le, take-append-drop, nil_from_length}
use Rattle.std.proofs.lemmas.List.Elements.{All-nil, All-cons, All-head, All-tail, All-take, All-drop}
use Rattle.s39_kdf.specs.Bytes.{AreBytes}

-- the length of pieces that are joined
pub length-concat : (xss : List (List ℕ)) (n : ℕ) → All (λ xs. length xs ≡ n) xss → length (concat xss) ≡ length xss * n
length-concat [] n same = omega arith
length-concat (xs ∷ xss) n same =
    let first : length xs ≡ n = All-head (λ ys. length ys ≡ n) xs xss same in
    let rest = length-concat xss n (All-tail (λ ys. length ys ≡ n) xs xss same) in
    omega (arith, length-append xs (concat xss))

-- pieces of one length are known by their join
pub same_pieces : (xss yss : List (List ℕ)) (n : ℕ) → All (λ xs. length xs ≡ n) xss → All (λ ys. length ys ≡ n) yss
    → length xss ≡ length yss → concat xss ≡ concat yss → xss ≡ yss
same_pieces [] [] n xs_long ys_long number same = refl
same_pieces [] (ys ∷ yss) n xs_long ys_long number same = absurd (omega arith)
same_pieces (xs ∷ xss) [] n xs_long ys_long number same = absurd (omega arith)
same_pieces (xs ∷ xss) (ys ∷ yss) n xs_long ys_long number same =
    let long_x : length xs ≡ n = All-head (λ zs. length zs ≡ n) xs xss xs_long in
    let long_y : length ys ≡ n = All-head (λ zs. length zs ≡ n) ys yss ys_long in
    let first : xs ≡ ys = sym (take_at xs (concat xss) n long_x) ∙ ap (take n) same ∙ take_at ys (concat yss) n long_y in
    let joined : concat xss ≡ concat yss = sym (drop_at xs (concat xss) n long_x) ∙ ap (drop n) same ∙ drop_at ys (concat yss) n long_y in
    let rest : xss ≡ yss =
    same_pieces xss yss n (All-tail (λ zs. length zs ≡ n) xs xss xs_long) (All-tail (λ zs. length zs ≡ n) ys yss ys_long) (omega arith) joined in
    ap₂ (λ z zs. z ∷ zs) first rest

-- a list, cut into this many pieces of n elements
abbrev pub pieces : ℕ → ℕ → List ℕ → List (List ℕ)
pieces zero n xs = []
pieces (suc count) n xs = take n xs ∷ pieces count n (drop n xs)

pub length-pieces : (count n : ℕ) (xs : List ℕ) → length (pieces count n xs) ≡ count
length-pieces zero n xs = refl
length-pieces (suc count) n xs = ap suc (length-pieces count n (drop n xs))

module _ (n : ℕ) where
  -- what is left after one piece
  left : (count : ℕ) (xs : List ℕ) → length xs ≡ suc count * n → (n ≤ length xs) × (length (drop n xs) ≡ count * n)
  left count xs whole =
      let more : suc count * n ≡ count * n + n = omega arith in
      (omega arith, omega (arith, length-drop n xs))

  pub All-pieces : (count : ℕ) (xs : List ℕ) → length xs ≡ count * n → All (λ ys. length ys ≡ n) (pieces count n xs)
  All-pieces zero xs whole = All-nil (λ ys. length ys ≡ n)
  All-pieces (suc count) xs whole =
      let l = left count xs whole in
      All-cons (λ ys. length ys ≡ n) (take n xs) (pieces count n (drop n xs)) (length-take-le n xs l.0) (All-pieces count (drop n xs) l.1)

  pub concat-pieces : (count : ℕ) (xs : List ℕ) → length xs ≡ count * n → concat (pieces count n xs) ≡ xs
  concat-pieces zero xs whole = sym (nil_from_length xs (omega arith))
  concat-pieces (suc count) xs whole =
      let l = left count xs whole in
      ap (λ ys. take n xs ++ ys) (concat-pieces count (drop n xs) l.1) ∙ take-append-drop n xs

  pub AreBytes-pieces : (count : ℕ) (xs : List ℕ) → AreBytes xs → All AreBytes (pieces count n xs)
  AreBytes-pieces zero xs bytes = All-nil AreBytes
  AreBytes-pieces (suc count) xs bytes =
      All-cons AreBytes (take n xs) (pieces count n (drop n xs)) (All-take (λ byte. byte < 256) n xs bytes)
      (AreBytes-pieces count (drop n xs) (All-drop (λ byte. byte < 256) n xs bytes))
