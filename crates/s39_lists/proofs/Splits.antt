-- Texts that are cut at a byte, and texts that are joined by one.
use Rattle.std.proofs.Common.{◌≡◌, ◌≢◌, ℕ, suc, ◌+◌, ◌-◌, ◌<◌, ◌==◌, false, List, [], ◌∷◌, ◌++◌, length, get_or, take, drop, map}
use Rattle.std.proofs.Common.{All, Some, None, nat_lt, refl, sym, ap, ap₂, ◌∙◌, arith, add-one, drop-cons, length-append}
use Rattle.std.specs.List.{position, position_or_len, slice_split, join_with_byte}
use Rattle.std.proofs.lemmas.Bool.{eqb-true, eq-eqb, ne_eqb, false≢true, cond-true, lt-ltb}
use Rattle.std.proofs.lemmas.List.{get_or-take, length-take-le, length-map, get_or-map, take-append-drop, take_rest}
use Rattle.std.proofs.lemmas.List.Elements.{All-nil, All-cons, All-head, All-tail, All-append}
use Rattle.std.proofs.lemmas.List.Quantifiers.{position-Some}
use Rattle.std.proofs.lemmas.List.Splits.{slice_split_none, slice_split_at, length-slice_split, join_with_byte-slice_split}

-- the byte stands nowhere in the text
abbrev pub IsWithout : ℕ → List ℕ → Type 0
IsWithout byte text = All (λ b. (b == byte) ≡ false) text

-- ---- cut at the first such byte

clash : (byte b : ℕ) (bs : List ℕ) → IsWithout byte (b ∷ bs) → b ≡ byte → ⊥
clash byte b bs clear same = false≢true (sym (All-head (λ x. (x == byte) ≡ false) b bs clear) ∙ eq-eqb b byte same)

-- what stands before it and behind it is known
pub cut_once : (byte : ℕ) (front other back rest : List ℕ) → IsWithout byte front → IsWithout byte other → front ++ byte ∷ back ≡ other ++ byte ∷ rest
    → (front ≡ other) × (back ≡ rest)
cut_once byte [] [] back rest clear clear' e = (refl, cc)
cut_once byte [] (o ∷ other) back rest clear clear' e = let same : o ≡ byte = cc in absurd (clash byte o other clear' same)
cut_once byte (f ∷ front) [] back rest clear clear' e = let same : f ≡ byte = cc in absurd (clash byte f front clear same)
cut_once byte (f ∷ front) (o ∷ other) back rest clear clear' e =
    let first : f ≡ o = cc in
    let tails : front ++ byte ∷ back ≡ other ++ byte ∷ rest = cc in
    let (fronts, backs) = cut_once byte front other back rest
    (All-tail (λ x. (x == byte) ≡ false) f front clear) (All-tail (λ x. (x == byte) ≡ false) o other clear') tails in
    (ap₂ (λ (x : ℕ) xs. x ∷ xs) first fronts, backs)

-- a text that has the byte isn't without it
pub not_without : (byte : ℕ) (front back : List ℕ) → IsWithout byte (front ++ byte ∷ back) → ⊥
not_without byte [] back clear = clash byte byte back clear refl
not_without byte (f ∷ front) back clear = not_without byte front back (All-tail (λ x. (x == byte) ≡ false) f (front ++ byte ∷ back) clear)

-- the parts by the byte's position
pub cut_at : (byte : ℕ) (text : List ℕ) (at : ℕ) → position (λ b. b == byte) text ≡ Some at
    → IsWithout byte (take at text) × (text ≡ take at text ++ byte ∷ take (length text - (at + 1)) (drop (at + 1) text))
cut_at byte text at found =
    let is = position-Some (λ b. b == byte) text at 0 found in
    let here : get_or text at 0 ≡ byte = eqb-true (get_or text at 0) byte is.1 in
    let rest : drop at text ≡ get_or text at 0 ∷ drop (suc at) text = drop-cons text at 0 is.0 in
    let back : drop (suc at) text ≡ take (length text - (at + 1)) (drop (at + 1) text) =
    ap (λ k. drop k text) (sym (add-one at)) ∙ sym (take_rest text (at + 1)) in (
      λ k d below.
          let short : k < at = omega (arith, length-take-le at text (omega arith)) in
          rw (get_or-take at text k d short) ((position-Some (λ b. b == byte) text at d found).2 k short),
      sym (take-append-drop at text) ∙ ap (λ xs. take at text ++ xs) (rest ∙ ap₂ (λ (x : ℕ) xs. x ∷ xs) here back),
    )

position_or_len-cut : (byte : ℕ) (front back : List ℕ) → IsWithout byte front → position_or_len (λ b. b == byte) (front ++ byte ∷ back) ≡ length front
position_or_len-cut byte [] back clear = rw (eq-eqb byte byte refl) refl
position_or_len-cut byte (f ∷ front) back clear =
    let first = All-head (λ x. (x == byte) ≡ false) f front clear in
    let rest = position_or_len-cut byte front back (All-tail (λ x. (x == byte) ≡ false) f front clear) in
    rw (first, rest) (omega arith)

pub position-cut : (byte : ℕ) (front back : List ℕ) → IsWithout byte front → position (λ b. b == byte) (front ++ byte ∷ back) ≡ Some (length front)
position-cut byte front back clear =
    let text = front ++ byte ∷ back in
    let at = position_or_len (λ b. b == byte) text in
    let here : at ≡ length front = position_or_len-cut byte front back clear in
    cond-true (nat_lt at (length text)) (Some at) None (lt-ltb at (length text) (omega (arith, length-append front (byte ∷ back)))) ∙ ap Some here

-- ---- joined by a byte

-- what is cut in the texts of elements is these, joined
pub joined-from_parts : {X : Type 0} (byte : ℕ) (text_of : X → List ℕ) (text : List ℕ) (xs : List X)
    → map text_of xs ≡ slice_split (λ b. b == byte) text → (xs ≢ []) × (text ≡ join_with_byte byte (map text_of xs))
joined-from_parts byte text_of text xs parts = (
  λ none.
      let empty : length (map text_of xs) ≡ 0 = ap (λ ys. length (map text_of ys)) none in
      let long : length (map text_of xs) ≡ length (slice_split (λ b. b == byte) text) = ap length parts in
      absurd (omega (arith, length-slice_split (λ b. b == byte) text)),
  sym (join_with_byte-slice_split byte text) ∙ ap (join_with_byte byte) (sym parts),
)

-- texts without another byte are joined to a text without it
pub joined-without : {X : Type 0} (byte other : ℕ) (text_of : X → List ℕ) → byte ≢ other → (xs : List X)
    → All (λ x. IsWithout other (text_of x)) xs → IsWithout other (join_with_byte byte (map text_of xs))
joined-without byte other text_of apart [] clear = All-nil (λ b. (b == other) ≡ false)
joined-without byte other text_of apart (x ∷ []) clear = All-head (λ y. IsWithout other (text_of y)) x [] clear
joined-without byte other text_of apart (x ∷ y ∷ xs) clear =
    let rest = join_with_byte byte (map text_of (y ∷ xs)) in
    All-append (λ b. (b == other) ≡ false) (text_of x) (byte ∷ rest)
    (All-head (λ z. IsWithout other (text_of z)) x (y ∷ xs) clear)
    (All-cons (λ b. (b == other) ≡ false) byte rest (ne_eqb byte other apart)
    (joined-without byte other text_of apart (y ∷ xs) (All-tail (λ z. IsWithout other (text_of z)) x (y ∷ xs) clear)))

-- elements whose texts don't have the byte
module _ {X : Type 0} (byte : ℕ) (text_of : X → List ℕ) (IsIn : X → Type 0) (clear : (x : X) → IsIn x → IsWithout byte (text_of x)) where
  -- joined, they are cut in their texts
  pub split-joined : (xs : List X) → xs ≢ [] → All IsIn xs → slice_split (λ b. b == byte) (join_with_byte byte (map text_of xs)) ≡ map text_of xs
  split-joined [] some all = absurd (some refl)
  split-joined (x ∷ []) some all = slice_split_none (λ b. b == byte) (text_of x) (clear x (All-head IsIn x [] all))
  split-joined (x ∷ y ∷ xs) some all =
      slice_split_at (λ b. b == byte) (text_of x) byte (join_with_byte byte (map text_of (y ∷ xs)))
      (clear x (All-head IsIn x (y ∷ xs) all)) (eq-eqb byte byte refl)
      ∙ ap (λ parts. text_of x ∷ parts)
      (split-joined (y ∷ xs) (λ none. let l : length (y ∷ xs) ≡ 0 = ap length none in omega arith) (All-tail IsIn x (y ∷ xs) all))

  -- each part is an element's text
  pub part_is : (text part : List ℕ) (xs : List X) (k : ℕ) (d : X) → xs ≢ [] → All IsIn xs → text ≡ join_with_byte byte (map text_of xs)
      → k < length (slice_split (λ b. b == byte) text) → part ≡ get_or (slice_split (λ b. b == byte) text) k part
      → (k < length xs) × (part ≡ text_of (get_or xs k d))
  part_is text part xs k d some all text_is within here =
      let parts : slice_split (λ b. b == byte) text ≡ map text_of xs = ap (slice_split (λ b. b == byte)) text_is ∙ split-joined xs some all in
      let long : length (slice_split (λ b. b == byte) text) ≡ length xs = ap length parts ∙ length-map xs text_of in
      let below : k < length xs = omega arith in
      (below, here ∙ ap (λ ps. get_or ps k part) parts ∙ get_or-map text_of xs k d part below)

  module _ (once : (x y : X) → IsIn x → IsIn y → text_of x ≡ text_of y → x ≡ y) where
    -- texts are those of one list of elements
    pub same_texts : (xs ys : List X) → All IsIn xs → All IsIn ys → map text_of xs ≡ map text_of ys → xs ≡ ys
    same_texts [] [] all all' e = refl
    same_texts [] (y ∷ ys) all all' e = let l : 0 ≡ suc (length (map text_of ys)) = ap length e in absurd (omega arith)
    same_texts (x ∷ xs) [] all all' e = let l : suc (length (map text_of xs)) ≡ 0 = ap length e in absurd (omega arith)
    same_texts (x ∷ xs) (y ∷ ys) all all' e =
        let first : text_of x ≡ text_of y = cc in
        let rest : map text_of xs ≡ map text_of ys = cc in
        ap₂ (λ (z : X) zs. z ∷ zs)
        (once x y (All-head IsIn x xs all) (All-head IsIn y ys all') first)
        (same_texts xs ys (All-tail IsIn x xs all) (All-tail IsIn y ys all') rest)

    -- and so is their join
    pub joined_once : (xs ys : List X) → xs ≢ [] → ys ≢ [] → All IsIn xs → All IsIn ys
        → join_with_byte byte (map text_of xs) ≡ join_with_byte byte (map text_of ys) → xs ≡ ys
    joined_once xs ys some some' all all' e =
        same_texts xs ys all all' (sym (split-joined xs some all) ∙ ap (slice_split (λ b. b == byte)) e ∙ split-joined ys some' all')
