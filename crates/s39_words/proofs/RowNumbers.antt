-- The rows of the table, and their numbers.
use Rattle.std.proofs.Common.{◌≡◌, ℕ, zero, suc, ◌<◌, ◌==◌, Bool, true, ◌&&◌, List, [], ◌∷◌, length, get_or, refl, arith}
use Rattle.std.specs.Prelude.{nat_le, map}
use Rattle.std.specs.Int.{w64, from_be_bytes, to_be_bytes}
use Rattle.std.specs.List.{list_all}
use Rattle.std.proofs.lemmas.Bool.{and_parts, leb-true, eqb-true}
use Rattle.std.proofs.lemmas.Nat.{be_bytes_8}
use Rattle.s39_words.specs.WordList.{word_list}
use Rattle.s39_words.specs.Rows.{row_of, number_of_row}

abbrev is_row : List ℕ → Bool
is_row row = length row == 8 && list_all (λ b. nat_le b 255) row

rows_pass : list_all is_row (map row_of word_list) ≡ true
unfolding word_list
rows_pass = refl

passes_at : (p : List ℕ → Bool) (rows : List (List ℕ)) (k : ℕ) → list_all p rows ≡ true → k < length rows → p (get_or rows k []) ≡ true
passes_at p [] k passes within = absurd (omega arith)
passes_at p (row ∷ rows) zero passes within = (and_parts _ _ passes).0
passes_at p (row ∷ rows) (suc k) passes within = passes_at p rows k (and_parts _ _ passes).1 (omega arith)

are_bytes : (row : List ℕ) → list_all (λ b. nat_le b 255) row ≡ true → (k : ℕ) → get_or row k 0 < 256
are_bytes [] passes k = omega arith
are_bytes (b ∷ row) passes zero = let small = leb-true b 255 (and_parts _ _ passes).0 in omega arith
are_bytes (b ∷ row) passes (suc k) = are_bytes row (and_parts _ _ passes).1 k

-- a row is known from its number
pub row_from_number : (k : ℕ) → k < length (map row_of word_list)
    → to_be_bytes w64 (number_of_row (get_or (map row_of word_list) k [])) ≡ get_or (map row_of word_list) k []
unfolding number_of_row
row_from_number k within =
    let row = get_or (map row_of word_list) k [] in
    let passes = and_parts _ _ (passes_at is_row (map row_of word_list) k rows_pass within) in
    be_bytes_8 row (from_be_bytes w64 row) (eqb-true _ _ passes.0) (are_bytes row passes.1) refl
