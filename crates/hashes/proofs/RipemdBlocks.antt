-- The words that steps of RIPEMD-160 read, and its message in two parts.
use Rattle.std.proofs.Common.{◌≡◌, ℕ, zero, suc, ◌+◌, ◌*◌, ◌/◌, ◌%◌, ◌^◌, ◌-◌, ◌<◌, Bool, true, false, List, [], ◌∷◌, ◌++◌, length, get_or, take, drop, refl, sym, ap, ap₂, ◌∙◌, arith, add-one, ltb, cond, length-append, append_assoc, replicate, lit<}
use Rattle.std.proofs.lemmas.Bool.{ltb-true}
use Rattle.std.proofs.lemmas.List.{drop-append-le, length-drop, take-replicate}
use Rattle.std.specs.Int.{to_le_bytes, w64}
use Rattle.hashes.specs.Blocks.{after_blocks}
use Rattle.hashes.proofs.Blocks.{front, further}
use Rattle.hashes.specs.Ripemd160.{left_places, right_places, line, step, compress, initial_hash, padded_message, padding, digest_bytes, ripemd160}

are_small : List ℕ → Bool
are_small [] = true
are_small (x ∷ xs) = cond (ltb x 16) (are_small xs) false

both : (b c : Bool) → cond b c false ≡ true → (b ≡ true) × (c ≡ true)
both true c h = (refl, h)
both false c h = absurd (cc)

below_from : (xs : List ℕ) → are_small xs ≡ true → (i : ℕ) → get_or xs i 0 < 16
unfolding are_small
below_from [] h i = lit< tt
below_from (x ∷ xs) h zero = ltb-true x 16 (both (ltb x 16) (are_small xs) h).0
below_from (x ∷ xs) h (suc i) = below_from xs (both (ltb x 16) (are_small xs) h).1 i

pub left_below : (i : ℕ) → get_or left_places i 0 < 16
unfolding are_small
left_below i = below_from left_places refl i

pub right_below : (i : ℕ) → get_or right_places i 0 < 16
unfolding are_small
right_below i = below_from right_places refl i

pub line_more : (right : Bool) (h b v : List ℕ) (j : ℕ) → v ≡ line right h b j → step right b v j ≡ line right h b (j + 1)
unfolding line
line_more right h b v j e = rw (e, add-one j) refl

pub in_two : (m e h : List ℕ) → e ≡ drop (length m / 64 * 64) (padded_message m)
    → h ≡ after_blocks compress 64 (after_blocks compress 64 initial_hash m (length m / 64)) e (length e / 64) → digest_bytes h ≡ ripemd160 m
unfolding ripemd160
in_two m e h is made =
    let p = padded_message m in
    let n = length m / 64 in
    let k = length e / 64 in
    let long : length p ≡ length m + length (padding (length m)) = length-append m (padding (length m)) in
    let rest : length e ≡ length p - n * 64 = ap length is ∙ length-drop (n * 64) p in
    let all : n + k ≡ length p / 64 = omega arith in
    let begun = sym (front compress 64 initial_hash m (padding (length m)) n (omega arith)) in
    ap digest_bytes
    (made ∙ ap₂ (λ (s t : List ℕ). after_blocks compress 64 s t k) begun is ∙ further compress 64 initial_hash p n k
    ∙ ap (after_blocks compress 64 initial_hash p) all)

-- what follows the whole blocks, part by part
pub ending_is : (m a b c d : List ℕ) → a ≡ drop (length m - length m % 64) m → b ≡ a ++ 0x80 ∷ []
    → c ≡ b ++ take ((119 - length m % 64) % 64) (replicate 64 0) → d ≡ c ++ to_le_bytes w64 (length m * 8 % 2 ^ 64)
    → d ≡ drop (length m / 64 * 64) (padded_message m)
ending_is m a b c d e f g h =
    let n = length m in
    let zeros : List ℕ = replicate ((119 - n % 64) % 64) 0 in
    let count = to_le_bytes w64 (n * 8 % 2 ^ 64) in
    let rest = drop (n / 64 * 64) m in
    let place : n - n % 64 ≡ n / 64 * 64 = omega arith in
    h ∙ ap (λ x. x ++ count)
    (g ∙ ap₂ (λ x y. x ++ y) (f ∙ ap (λ x. x ++ 0x80 ∷ []) (e ∙ ap (λ k. drop k m) place)) (take-replicate ((119 - n % 64) % 64) 64 0 (omega arith)))
    ∙ append_assoc (rest ++ 0x80 ∷ []) zeros count ∙ append_assoc rest (0x80 ∷ []) (zeros ++ count)
    ∙ sym (drop-append-le (n / 64 * 64) m (padding n) (omega arith))
