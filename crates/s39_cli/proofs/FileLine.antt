-- The line that names a file fits its room.
use Rattle.std.proofs.Common.{◌≡◌, ◌++◌, ◌∙◌, ◌<◌, ◌≤◌, ◌+◌, ◌-◌, ℕ, suc, zero, length, take, Bool, true, false, List, [], ◌∷◌, codes, if◌then◌else◌}
use Rattle.std.proofs.Common.{ap, arith, inl, inr, length-append, refl, sym}
use Rattle.std.proofs.lemmas.Bool.{cases_lt, le-leb, lt-leb}
use Rattle.std.specs.Prelude.{slice_index}
use Rattle.std.specs.Fmt.{is_char_start}
use Rattle.std.specs.Fmt.Cut.{cut_to, dots, floor_char_boundary}
use Rattle.clap.specs.Words.{Text}
use Rattle.s39_cli.specs.Said.{file_line, longest_name, longest_reason}

length-take-most : (n : ℕ) (xs : List ℕ) → length (take n xs) ≤ n
length-take-most zero xs = omega arith
length-take-most (suc n) [] = omega arith
length-take-most (suc n) (x ∷ xs) = let rest = length-take-most n xs in omega (arith, rest)

length-take-all : (n : ℕ) (xs : List ℕ) → length (take n xs) ≤ length xs
length-take-all zero xs = omega arith
length-take-all (suc n) [] = omega arith
length-take-all (suc n) (x ∷ xs) = let rest = length-take-all n xs in omega (arith, rest)

floor_low : (text : List ℕ) (i : ℕ) → floor_char_boundary text i ≤ i
unfolding floor_char_boundary
floor_low text zero = omega arith
floor_low text (suc i) = by (is_char_start (slice_index text (suc i))) (floor_low text i)
  where
    by : (b : Bool) → floor_char_boundary text i ≤ i → (if b then suc i else floor_char_boundary text i) ≤ suc i
    by true rest = omega arith
    by false rest = omega (arith, rest)

-- what is cut has the room's length at most
length-cut : (room : ℕ) (text : List ℕ) → 3 ≤ room → length (cut_to room text) ≤ room
unfolding cut_to
length-cut room text some = elim (cases_lt room (length text)) [
  | inl long ↦ (
      let kept = take (floor_char_boundary text (room - 3)) text in
      let both = length-append kept (dots room) in
      let front = length-take-most (floor_char_boundary text (room - 3)) text in
      let low = floor_low text (room - 3) in
      let end : length (dots room) ≤ 3 = length-take-all room (codes "...") in
      rw (lt-leb (length text) room long) (omega (arith, both, front, low, end, some))
      )
  | inr short ↦ rw (le-leb (length text) room short) short
]

-- a part that has room behind the earlier ones
abbrev IsAppended : List ℕ → ℕ → List ℕ → List ℕ → Type 0
IsAppended old most text new = length old + most < 4235 → new ≡ old ++ cut_to most text

pub file_line_is : (name reason : Text) (t₀ t₁ t₂ t₃ t₄ t₅ : List ℕ) → t₀ ≡ [] → IsAppended t₀ 8 (codes "shamir: ") t₁ → IsAppended t₁ 4095 name t₂
    → IsAppended t₂ 2 (codes ": ") t₃ → IsAppended t₃ 128 reason t₄ → IsAppended t₄ 1 (codes "\n") t₅ → t₅ ≡ file_line name reason
unfolding cut_to
file_line_is name reason t₀ t₁ t₂ t₃ t₄ t₅ none first second third fourth last =
    let n = length-cut longest_name name (omega arith) in
    let r = length-cut longest_reason reason (omega arith) in
    let e₁ : t₁ ≡ codes "shamir: " = first (rw none (omega arith)) ∙ rw none refl in
    let e₂ : t₂ ≡ codes "shamir: " ++ cut_to longest_name name = second (rw e₁ (omega arith)) ∙ ap (λ l. l ++ cut_to longest_name name) e₁ in
    let l₂ = ap length e₂ ∙ length-append (codes "shamir: ") (cut_to longest_name name) in
    let e₃ : t₃ ≡ codes "shamir: " ++ cut_to longest_name name ++ codes ": " = third (omega (arith, l₂, n)) ∙ ap (λ l. l ++ codes ": ") e₂ in
    let l₃ = ap length e₃ ∙ length-append (codes "shamir: " ++ cut_to longest_name name) (codes ": ")
    ∙ ap (λ k. k + 2) (length-append (codes "shamir: ") (cut_to longest_name name)) in
    let e₄ = fourth (omega (arith, l₃, n)) ∙ ap (λ l. l ++ cut_to longest_reason reason) e₃ in
    let l₄ = ap length e₄ ∙ length-append (codes "shamir: " ++ cut_to longest_name name ++ codes ": ") (cut_to longest_reason reason)
    ∙ ap (λ k. k + length (cut_to longest_reason reason)) (sym (ap length e₃) ∙ l₃) in
    last (omega (arith, l₄, n, r)) ∙ ap (λ l. l ++ codes "\n") e₄
