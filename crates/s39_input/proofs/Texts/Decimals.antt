-- A number in decimal, its last digit taken off.
use Rattle.std.proofs.Common.{◌≡◌, ℕ, ◌+◌, ◌/◌, ◌%◌, ◌^◌, ◌<◌, ◌≤◌, [], ◌∷◌, ◌++◌, length, map, sym, ap, ◌∙◌, arith}
use Rattle.std.specs.Fmt.{decimal}
use Rattle.std.specs.Int.Digits.{digits_of}
use Rattle.std.proofs.lemmas.Fmt.{decimal-digits_of, decimal_digit, length-decimal-le}
use Rattle.std.proofs.lemmas.Int.Digits.{digits_of_step}
use Rattle.std.proofs.lemmas.List.{map-append}

-- a number of one digit
pub decimal-digit : (n : ℕ) → n < 10 → decimal n ≡ (48 + n % 10) ∷ []
decimal-digit n h = let e : n % 10 ≡ n = omega arith in rw e (decimal_digit n h)

-- a number of several digits
pub decimal-digits : (n : ℕ) → 10 ≤ n → n < 2 ^ 64 → decimal n ≡ decimal (n / 10) ++ (48 + n % 10) ∷ []
decimal-digits n h small =
    let some : 0 < n / 10 = omega arith in
    let less : n / 10 < 2 ^ 64 = omega arith in
    let step = digits_of_step 10 n (omega arith) (omega arith) in
    decimal-digits_of n (omega arith) small ∙ ap (map (λ d. 48 + d)) step ∙ map-append (λ d. 48 + d) (digits_of 10 (n / 10)) (n % 10 ∷ [])
    ∙ ap (λ l. l ++ (48 + n % 10) ∷ []) (sym (decimal-digits_of (n / 10) some less))

-- sixteen bits take at most five digits
pub length-decimal-u16 : (n : ℕ) → n < 2 ^ 16 → length (decimal n) ≤ 5
length-decimal-u16 n h = length-decimal-le 5 n (omega arith) (omega arith) (omega arith)
