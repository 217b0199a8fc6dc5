-- Programs in groups, there and back.
use Rattle.std.proofs.Common.{◌≡◌, ℕ, ◌+◌, ◌*◌, ◌/◌, ◌%◌, ◌^◌, ◌<◌, ◌≤◌, List, All, length, ap, ap₂, ◌∙◌, subst, arith}
use Rattle.std.proofs.lemmas.Nat.{pow-add, pow_pos, shl-shr, div-add-mod', div_below}
use Rattle.std.proofs.Math.Nat.{mod-eq_of_lt, mul-mod_left}
use Rattle.s39_lists.specs.Digits.{digits, number_of}
use Rattle.bech32.specs.Groups.{IsGroup, IsByte, group_count, padding, groups}
use Rattle.bech32.specs.Reading.{whole_bytes, left_over, bytes_of, padding_of}
use Rattle.s39_lists.proofs.Digits.{length-digits, digits-below, number-digits, digits-number, number-below}

row : (a b c : ℕ) → a < b → (a + 1) * c ≤ b * c
row a b c l = grind arith

shifted_below : (a b c : ℕ) → a < b → 0 < c → a * c < b * c
shifted_below a b c l m = omega (arith, row a b c l)

pub length-groups : (p : List ℕ) → length (groups p) ≡ group_count (length p)
length-groups p = length-digits 5 (group_count (length p)) (number_of 8 p * 2 ^ padding (length p))

pub groups-below : (p : List ℕ) → All IsGroup (groups p)
groups-below p = digits-below 5 (group_count (length p)) (number_of 8 p * 2 ^ padding (length p))

-- how many whole bytes and bits the groups of so many bytes have
pub whole : (n : ℕ) → 5 * group_count n / 8 ≡ n
whole n = omega arith

pub rest : (n : ℕ) → 5 * group_count n % 8 ≡ padding n
rest n = omega arith

-- the number of the groups
number_is : (p : List ℕ) → All IsByte p → number_of 5 (groups p) ≡ number_of 8 p * 2 ^ padding (length p)
number_is p h =
    let L = length p in
    let n = group_count L in
    let N = number_of 8 p in
    let s : 8 * L + padding L ≡ 5 * n = omega arith in
    let below : N * 2 ^ padding L < 2 ^ (8 * L + padding L) =
    rw (pow-add 2 (8 * L) (padding L)) (shifted_below N (2 ^ (8 * L)) (2 ^ padding L) (number-below 8 p h) (pow_pos (padding L))) in
    number-digits 5 n (N * 2 ^ padding L) ∙ mod-eq_of_lt (subst (λ k. N * 2 ^ padding L < 2 ^ k) s below)

pub left-groups : (p : List ℕ) → left_over (groups p) ≡ padding (length p)
left-groups p = ap (λ n. 5 * n % 8) (length-groups p) ∙ rest (length p)

pub whole-groups : (p : List ℕ) → whole_bytes (groups p) ≡ length p
whole-groups p = ap (λ n. 5 * n / 8) (length-groups p) ∙ whole (length p)

pub bytes_back : (p : List ℕ) → All IsByte p → bytes_of (groups p) ≡ p
bytes_back p h =
    let N = number_of 8 p in
    ap₂ (λ a b. digits 8 a b) (whole-groups p)
    (ap₂ (λ a b. a / 2 ^ b) (number_is p h) (left-groups p) ∙ shl-shr N (padding (length p)))
    ∙ digits-number 8 p h

pub padding_zero : (p : List ℕ) → All IsByte p → padding_of (groups p) ≡ 0
padding_zero p h =
    ap₂ (λ a b. a % 2 ^ b) (number_is p h) (left-groups p) ∙ mul-mod_left (number_of 8 p) (2 ^ padding (length p))

-- groups with at most four bits 0 behind their whole bytes are those of the bytes
pub groups_back : (gs : List ℕ) → All IsGroup gs → left_over gs ≤ 4 → padding_of gs ≡ 0 → groups (bytes_of gs) ≡ gs
groups_back gs h few none =
    let n = length gs in
    let L = whole_bytes gs in
    let r = left_over gs in
    let N = number_of 5 gs in
    let count : length (bytes_of gs) ≡ L = length-digits 8 L (N / 2 ^ r) in
    let same_count : group_count L ≡ n = omega arith in
    let same_rest : padding L ≡ r = omega arith in
    let bits : 5 * n ≡ 8 * L + r = omega arith in
    let small : N < 2 ^ (8 * L) * 2 ^ r = rw (← pow-add 2 (8 * L) r) (subst (λ k. N < 2 ^ k) bits (number-below 5 gs h)) in
    let high : N / 2 ^ r < 2 ^ (8 * L) = div_below N (2 ^ r) (2 ^ (8 * L)) (pow_pos r) small in
    let number : number_of 8 (bytes_of gs) ≡ N / 2 ^ r = number-digits 8 L (N / 2 ^ r) ∙ mod-eq_of_lt high in
    let all : N / 2 ^ r * 2 ^ r ≡ N = omega (arith, div-add-mod' N (2 ^ r), none) in
    ap₂ (λ a b. digits 5 a b) (ap group_count count ∙ same_count)
    (ap₂ (λ a b. a * 2 ^ b) number (ap padding count ∙ same_rest) ∙ all)
    ∙ digits-number 5 gs h
