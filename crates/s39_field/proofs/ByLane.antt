-- Vectors of bytes, lane by lane.
use Rattle.std.proofs.Common.{◌≡◌, ℕ, ◌+◌, ◌-◌, ◌*◌, ◌/◌, ◌%◌, ◌^◌, List, [], ◌∷◌, length, map, get_or, replicate}
use Rattle.std.proofs.Common.{inl, inr, bit_and, bit_xor, refl, sym, ap, ap₂, ◌∙◌, arith, w8, Fits, pow-add, pow_pos, mod-eq_of_lt}
use Rattle.std.proofs.lemmas.List.FromFn.{get_or-map-range_with_len}
use Rattle.std.proofs.lemmas.List.{map-id}
use Rattle.std.proofs.Math.Nat.{div-div-eq-div-mul}
use Rattle.std.proofs.lemmas.Nat.{and_mask, mod_below, mod-pow-add}
use Rattle.std.proofs.lemmas.Simd.{zip2_splat, zip2_of_maps, splat_is_map, map-map}
use Rattle.std.specs.Int.Bits.{xor_shifted, and_zero_r}
use Rattle.std.specs.List.{range_with_len}
use Rattle.std.specs.Simd.Lanes.{zip2, Each1}
use Rattle.s39_field.specs.FieldProduct.{byte_field, byte_modulus, reduction}
use Rattle.s39_field.specs.Theory.Powers.{byte_degree}
use Rattle.s39_field.specs.Theory.BinaryPolynomials.{bit_cases, product_commutes, sum_commutes, sum-zero_right}
use Rattle.s39_field.specs.Theory.Residues.{doubled, product-two, product_modulo-lt, product_modulo-one, product_modulo-zero}
use Rattle.s39_field.specs.Theory.Residues.{product_modulo-product, product_modulo_distributes}
use Rattle.s39_field.specs.BinaryPolynomial.{binary_sum, binary_product}

-- the operations of a lane
abbrev pub shift_left : ℕ → ℕ → ℕ
shift_left x k = x * 2 ^ k % 2 ^ 8

abbrev pub shift_right : ℕ → ℕ → ℕ
shift_right x k = x / 2 ^ k

abbrev pub subtract : ℕ → ℕ → ℕ
subtract x y = (x + (2 ^ 8 - y)) % 2 ^ 8

-- all bytes
abbrev bytes : List ℕ
bytes = range_with_len 0 (2 ^ 8)

-- what is computed to be the same of each byte is the same of the lanes of a vector
same_on_bytes : (f g : ℕ → ℕ) → map f bytes ≡ map g bytes → (x : ℕ) → byte_field.IsElement x → f x ≡ g x
same_on_bytes f g same x low =
    sym (get_or-map-range_with_len f 0 (2 ^ 8) x x 0 low (omega arith))
    ∙ ap (λ l. get_or l x 0) same
    ∙ get_or-map-range_with_len g 0 (2 ^ 8) x x 0 low (omega arith)

same_on_lanes : (f g : ℕ → ℕ) → ((x : ℕ) → byte_field.IsElement x → f x ≡ g x)
    → (row : List ℕ)
    → Each1 (Fits w8) row
    → map f row ≡ map g row
same_on_lanes f g same [] fits = refl
same_on_lanes f g same (x ∷ xs) fits = ap₂ (λ y ys. y ∷ ys) (same x fits.0.fits) (same_on_lanes f g same xs fits.1)

-- the double of a lane, by a shift, and by a mask where that drops x ^ 8
abbrev lane_doubled : ℕ → ℕ
lane_doubled x = bit_xor (shift_left x 1) (bit_and (subtract 0 (shift_right x 7)) 0x1B)

lane_doubled-is : (x : ℕ) → byte_field.IsElement x → lane_doubled x ≡ byte_field.mul x 2
lane_doubled-is x low =
    same_on_bytes lane_doubled (λ y. reduction byte_modulus 1 (2 * y)) refl x low ∙ doubled byte_modulus byte_degree x low

pub doubled_by_lanes : (n : ℕ) (row : List ℕ)
    → (length row ≡ n) × Each1 (Fits w8) row
    → zip2 bit_xor (zip2 shift_left row (replicate n 1))
    (zip2 bit_and (zip2 subtract (replicate n 0) (zip2 shift_right row (replicate n 7))) (replicate n 0x1B))
    ≡ map (λ a. byte_field.mul a 2) row
doubled_by_lanes n row fits =
    let tops = zip2_splat shift_right row n 7 fits.0 in
    let masks = zip2_of_maps subtract (λ _. 0) (λ x. shift_right x 7) row (splat_is_map row n 0 fits.0) tops in
    let low = splat_is_map row n 0x1B fits.0 in
    let reduced = zip2_of_maps bit_and (λ x. subtract 0 (shift_right x 7)) (λ _. 0x1B) row masks low in
    zip2_of_maps bit_xor (λ x. shift_left x 1) (λ x. bit_and (subtract 0 (shift_right x 7)) 0x1B) row
    (zip2_splat shift_left row n 1 fits.0) reduced
    ∙ same_on_lanes lane_doubled (λ a. byte_field.mul a 2) lane_doubled-is row fits.1

-- ---- the product of w with each lane, by the binary digits of the lane from the lowest on

the_same : (f g : ℕ → ℕ) (row : List ℕ) → ((x : ℕ) → f x ≡ g x) → map f row ≡ map g row
the_same f g row same = ap (λ h. map h row) (λ i x. same x i)

-- before the first digit, and after the last one
pub no_digits : (w n : ℕ) (row : List ℕ) → length row ≡ n → replicate n 0 ≡ map (λ x. byte_field.mul w (x % 2 ^ 0)) row
no_digits w n row size =
    splat_is_map row n 0 size
    ∙ the_same (λ x. 0) (λ x. byte_field.mul w (x % 2 ^ 0)) row
    (λ x.
    let none : 0 ≡ x % 2 ^ 0 = omega (arith, mod_below x 1 (omega arith)) in
    sym (product_modulo-zero byte_modulus w) ∙ ap (byte_field.mul w) none)

pub not_shifted : (w n : ℕ) (row : List ℕ) → byte_field.IsElement w → length row ≡ n → replicate n w ≡ map (λ x. byte_field.mul w (2 ^ 0)) row
not_shifted w n row low size =
    ap (replicate n) (sym (product_modulo-one byte_modulus byte_degree w low)) ∙ splat_is_map row n (byte_field.mul w 1) size

pub all_left : (row : List ℕ) → row ≡ map (λ x. x / 2 ^ 0) row
all_left row = sym (map-id row) ∙ the_same (λ x. x) (λ x. x / 2 ^ 0) row (λ x. omega arith)

pub all_digits : (w : ℕ) (row : List ℕ) → Each1 (Fits w8) row → map (λ x. byte_field.mul w (x % 2 ^ 8)) row ≡ map (byte_field.mul w) row
all_digits w row fits =
    same_on_lanes (λ x. byte_field.mul w (x % 2 ^ 8)) (byte_field.mul w) (λ x low. ap (byte_field.mul w) (mod-eq_of_lt low)) row fits

-- one digit more
pub shifted_more : (w k : ℕ) (row : List ℕ) {shifted double : List ℕ}
    → shifted ≡ map (λ x. byte_field.mul w (2 ^ k)) row
    → double ≡ map (λ a. byte_field.mul a 2) shifted
    → double ≡ map (λ x. byte_field.mul w (2 ^ (k + 1))) row
shifted_more w k row before doubles =
    doubles
    ∙ ap (map (λ a. byte_field.mul a 2)) before
    ∙ map-map (λ a. byte_field.mul a 2) (λ x. byte_field.mul w (2 ^ k)) row
    ∙ the_same (λ x. byte_field.mul (byte_field.mul w (2 ^ k)) 2) (λ x. byte_field.mul w (2 ^ (k + 1))) row
    (λ x. sym (product_modulo-product byte_modulus byte_degree w (2 ^ k) 2) ∙ ap (byte_field.mul w) twice)
  where
    twice : binary_product (2 ^ k) 2 ≡ 2 ^ (k + 1)
    twice = product_commutes (2 ^ k) 2 ∙ product-two (2 ^ k) ∙ omega (arith, pow-add 2 k 1)

pub rest_less : (k n : ℕ) (row : List ℕ) {rest : List ℕ} → length row ≡ n → rest ≡ map (λ x. x / 2 ^ k) row
    → zip2 shift_right rest (replicate n 1) ≡ map (λ x. x / 2 ^ (k + 1)) row
rest_less k n row size before =
    zip2_of_maps shift_right (λ x. x / 2 ^ k) (λ x. 1) row before (splat_is_map row n 1 size)
    ∙ the_same (λ x. shift_right (x / 2 ^ k) 1) (λ x. x / 2 ^ (k + 1)) row
    (λ x. div-div-eq-div-mul x (2 ^ k) 2 ∙ ap (λ n. x / n) (sym (pow-add 2 k 1)))

digit_taken : (w k x digit : ℕ) → digit ≡ w / 2 ^ k % 2
    → bit_xor (byte_field.mul x (w % 2 ^ k)) (bit_and (byte_field.mul x (2 ^ k)) (subtract 0 digit))
    ≡ byte_field.mul x (w % 2 ^ (k + 1))
digit_taken w k x digit is =
    let low = mod_below w (2 ^ k) (pow_pos k) in
    let more : w % 2 ^ (k + 1) ≡ w / 2 ^ k % 2 * 2 ^ k + w % 2 ^ k = ap (λ n. w % 2 ^ n) (omega arith) ∙ mod-pow-add w 1 k in
    elim (bit_cases w k) [
      | inl zero_digit ↦
          let gone : bit_and (byte_field.mul x (2 ^ k)) (subtract 0 digit) ≡ 0 =
          ap (λ b. bit_and (byte_field.mul x (2 ^ k)) (subtract 0 b)) (is ∙ zero_digit) ∙ and_zero_r (byte_field.mul x (2 ^ k)) in
          let same : w % 2 ^ k ≡ w % 2 ^ (k + 1) = omega (arith, more, ap (λ b. b * 2 ^ k) zero_digit) in
          ap (bit_xor (byte_field.mul x (w % 2 ^ k))) gone
          ∙ sum-zero_right (byte_field.mul x (w % 2 ^ k))
          ∙ ap (byte_field.mul x) same
      | inr one_digit ↦
          let kept : bit_and (byte_field.mul x (2 ^ k)) (subtract 0 digit) ≡ byte_field.mul x (2 ^ k) =
          ap (λ b. bit_and (byte_field.mul x (2 ^ k)) (subtract 0 b)) (is ∙ one_digit)
          ∙ and_mask (byte_field.mul x (2 ^ k)) 8
          ∙ mod-eq_of_lt (product_modulo-lt byte_modulus byte_degree x (2 ^ k)) in
          let joined : binary_sum (w % 2 ^ k) (2 ^ k) ≡ w % 2 ^ (k + 1) =
          sum_commutes (w % 2 ^ k) (2 ^ k)
          ∙ ap (λ p. bit_xor p (w % 2 ^ k)) (omega arith)
          ∙ xor_shifted 1 k (w % 2 ^ k) low
          ∙ omega (arith, more, ap (λ b. b * 2 ^ k) one_digit) in
          ap (bit_xor (byte_field.mul x (w % 2 ^ k))) kept
          ∙ sym (product_modulo_distributes byte_modulus byte_degree x (w % 2 ^ k) (2 ^ k))
          ∙ ap (byte_field.mul x) joined
    ]

pub sum_more : (w k n : ℕ) (row : List ℕ) {sum shifted rest : List ℕ}
    → length row ≡ n
    → sum ≡ map (λ x. byte_field.mul w (x % 2 ^ k)) row
    → shifted ≡ map (λ x. byte_field.mul w (2 ^ k)) row
    → rest ≡ map (λ x. x / 2 ^ k) row
    → zip2 bit_xor sum (zip2 bit_and shifted (zip2 subtract (replicate n 0) (zip2 bit_and rest (replicate n 1))))
    ≡ map (λ x. byte_field.mul w (x % 2 ^ (k + 1))) row
sum_more w k n row size sum_is shifted_is rest_is =
    let digits = zip2_of_maps bit_and (λ x. x / 2 ^ k) (λ x. 1) row rest_is (splat_is_map row n 1 size) in
    let masks = zip2_of_maps subtract (λ x. 0) (λ x. bit_and (x / 2 ^ k) 1) row (splat_is_map row n 0 size) digits in
    let mask : ℕ → ℕ = λ x. subtract 0 (bit_and (x / 2 ^ k) 1) in
    let taken = zip2_of_maps bit_and (λ x. byte_field.mul w (2 ^ k)) mask row shifted_is masks in
    zip2_of_maps bit_xor (λ x. byte_field.mul w (x % 2 ^ k)) (λ x. bit_and (byte_field.mul w (2 ^ k)) (mask x)) row sum_is taken
    ∙ the_same (λ x. bit_xor (byte_field.mul w (x % 2 ^ k)) (bit_and (byte_field.mul w (2 ^ k)) (mask x)))
    (λ x. byte_field.mul w (x % 2 ^ (k + 1))) row
    (λ x. digit_taken x k w (bit_and (x / 2 ^ k) 1) (and_mask (x / 2 ^ k) 1))
