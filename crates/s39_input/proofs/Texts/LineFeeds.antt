-- Texts without line feeds, and how many lines a text has.
use Rattle.std.proofs.Common.{◌≡◌, ℕ, zero, suc, ◌+◌, ◌-◌, ◌/◌, ◌%◌, ◌==◌, Bool, true, false, not, cond, nat_lt, List, [], ◌∷◌, ◌++◌, length, take}
use Rattle.std.proofs.Common.{All, append_assoc, append-nil, refl, sym, ap, ◌∙◌, inl, inr, arith}
use Rattle.std.specs.Prelude.{slice_index}
use Rattle.std.specs.List.{flat_map, list_all}
use Rattle.std.specs.Fmt.{decimal, digits, digits_onto, digit_glyph}
use Rattle.std.proofs.lemmas.Bool.{cases_lt, ne_eqb}
use Rattle.std.proofs.lemmas.List.{length-append, get_or_past}
use Rattle.std.proofs.lemmas.List.Concat.{flat_map-append}
use Rattle.std.proofs.lemmas.List.Elements.{All-nil, All-cons, All-head, All-tail, All-push, All-get_or, All-weaker}
use Rattle.std.proofs.lemmas.List.Splits.{slice_split_at}
use Rattle.std.proofs.lemmas.List.Sums.{AllPass-from_list_all}
use Rattle.std.proofs.Math.Seq.{take-append_seam}
use Rattle.hex.specs.Hex.{encode_with, encode_lower, lower_digits}
use Rattle.s39_lists.proofs.Splits.{IsWithout}
use Rattle.s39_input.specs.Input.{is_line_feed, ended_line, parts_of, lines_in, bytes_before_last}

-- ---- texts without line feeds

abbrev other_byte : ℕ → Bool
other_byte b = not (b == 10)

from_not : (b : Bool) → not b ≡ true → b ≡ false
from_not true e = sym e
from_not false e = refl

-- a text whose bytes are known
pub without_feed : (text : List ℕ) → list_all other_byte text ≡ true → IsWithout 10 text
without_feed text passes =
    All-weaker (λ b. other_byte b ≡ true) (λ b. (b == 10) ≡ false) (λ b e. from_not (b == 10) e) text (AllPass-from_list_all other_byte text passes)

-- a number in decimal
glyph-other : (d : ℕ) → (digit_glyph false d == 10) ≡ false
glyph-other d = ne_eqb (digit_glyph false d) 10 (by (nat_lt d 10)) where
  by : (small : Bool) → cond small (48 + d) (87 + d) ≡ 10 → ⊥
  by true e = omega (arith, e)
  by false e = omega (arith, e)

either : (b : Bool) (xs ys : List ℕ) → IsWithout 10 xs → IsWithout 10 ys → IsWithout 10 (cond b xs ys)
either true xs ys p q = p
either false xs ys p q = q

onto-feedless : (k n : ℕ) (after : List ℕ) → IsWithout 10 after → IsWithout 10 (digits_onto k 10 false n after)
onto-feedless zero n after clear = clear
onto-feedless (suc k) n after clear =
    let more = All-cons (λ b. (b == 10) ≡ false) (digit_glyph false (n % 10)) after (glyph-other (n % 10)) clear in
    either (n / 10 == 0) (digit_glyph false (n % 10) ∷ after) (digits_onto k 10 false (n / 10) (digit_glyph false (n % 10) ∷ after)) more
    (onto-feedless k (n / 10) (digit_glyph false (n % 10) ∷ after) more)

pub decimal-feedless : (n : ℕ) → IsWithout 10 (decimal n)
unfolding digits
decimal-feedless n = onto-feedless 64 n [] (All-nil (λ b. (b == 10) ≡ false))

-- bytes in hexadecimal
digit-other : (k : ℕ) → (slice_index lower_digits k == 10) ≡ false
digit-other k = elim (cases_lt k 16) [
  | inl within ↦ All-get_or (λ b. (b == 10) ≡ false) lower_digits k 0 within (without_feed lower_digits refl)
  | inr past ↦ ap (λ b. b == 10) (get_or_past lower_digits k 0 past)
]

pub hex-feedless : (bytes : List ℕ) → IsWithout 10 (encode_lower bytes)
unfolding encode_with
hex-feedless [] = All-nil (λ b. (b == 10) ≡ false)
hex-feedless (b ∷ bytes) =
    All-cons (λ b. (b == 10) ≡ false) (slice_index lower_digits (b / 16)) (slice_index lower_digits (b % 16) ∷ encode_lower bytes) (digit-other (b / 16))
    (All-cons (λ b. (b == 10) ≡ false) (slice_index lower_digits (b % 16)) (encode_lower bytes) (digit-other (b % 16)) (hex-feedless bytes))

-- ---- lines

-- lines without line feeds are the lines of the text that they make, and an empty one is behind them
pub parts_of_lines : (lines : List (List ℕ)) → All (IsWithout 10) lines → parts_of (flat_map ended_line lines) ≡ lines ++ [] ∷ []
parts_of_lines [] none = refl
parts_of_lines (line ∷ lines) none =
    ap parts_of (append_assoc line (10 ∷ []) (flat_map ended_line lines))
    ∙ slice_split_at is_line_feed line 10 (flat_map ended_line lines) (All-head (IsWithout 10) line lines none) refl
    ∙ ap (λ parts. line ∷ parts) (parts_of_lines lines (All-tail (IsWithout 10) line lines none))

-- they are as many
pub lines_counted : (lines : List (List ℕ)) → All (IsWithout 10) lines → lines_in (flat_map ended_line lines) ≡ length lines
unfolding lines_in
lines_counted lines none = omega (arith, ap length (parts_of_lines lines none), length-append lines ([] ∷ []))

-- and the last starts where the others end
pub last_counted : (lines : List (List ℕ)) (last : List ℕ) → All (IsWithout 10) lines → IsWithout 10 last
    → (lines_in (flat_map ended_line lines ++ ended_line last) ≡ length lines + 1)
    × (bytes_before_last (flat_map ended_line lines ++ ended_line last) ≡ length (flat_map ended_line lines))
unfolding bytes_before_last
last_counted lines last none clear =
    let all = lines ++ last ∷ [] in
    let each : All (IsWithout 10) all = All-push (IsWithout 10) lines last none clear in
    let text : flat_map ended_line lines ++ ended_line last ≡ flat_map ended_line all =
    ap (λ t. flat_map ended_line lines ++ t) (sym (append-nil (ended_line last))) ∙ sym (flat_map-append ended_line lines (last ∷ [])) in
    let count : lines_in (flat_map ended_line lines ++ ended_line last) ≡ length lines + 1 =
    ap lines_in text ∙ lines_counted all each ∙ length-append lines (last ∷ []) in
    let parts : parts_of (flat_map ended_line lines ++ ended_line last) ≡ lines ++ (last ∷ [] ∷ []) =
    ap parts_of text ∙ parts_of_lines all each ∙ append_assoc lines (last ∷ []) ([] ∷ []) in
    let before : lines_in (flat_map ended_line lines ++ ended_line last) - 1 ≡ length lines = omega (arith, count) in (
      count,
      ap (λ n. length (flat_map ended_line (take n (parts_of (flat_map ended_line lines ++ ended_line last))))) before
          ∙ ap (λ ps. length (flat_map ended_line (take (length lines) ps))) parts
          ∙ ap (λ ls. length (flat_map ended_line ls)) (take-append_seam lines (last ∷ [] ∷ [])),
    )
