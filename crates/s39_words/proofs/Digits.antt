-- The numbers at places in words.
use Rattle.std.proofs.Common.{◌≡◌, ℕ, zero, suc, ◌+◌, ◌-◌, ◌*◌, ◌/◌, ◌%◌, ◌^◌, ◌<◌, ◌≤◌, List, ◌++◌, length}
use Rattle.std.proofs.Common.{get_or, sym, ap, ◌∙◌, arith, All}
use Rattle.std.proofs.lemmas.Nat.{pow-add, shr-shr, shr_high, shr_split, field_of}
use Rattle.std.proofs.lemmas.List.{length-append}
use Rattle.std.proofs.Math.Nat.{mul-add-mod_self_right}
use Rattle.s39_lists.specs.Digits.{digits, number_of}
use Rattle.s39_lists.proofs.Digits.{number-append, number-below}
use Rattle.s39_words.specs.Layout.{IsIndex}
use Rattle.s39_words.specs.Reading.{number_at}

-- bits from some place up don't reach those below
pub low_field : (a k y m w : ℕ) → w + m ≤ k → (a * 2 ^ k + y) / 2 ^ m % 2 ^ w ≡ y / 2 ^ m % 2 ^ w
low_field a k y m w within =
    let e : k ≡ k - (w + m) + (w + m) = omega arith in
    let whole : a * 2 ^ k ≡ a * 2 ^ (k - (w + m)) * 2 ^ (w + m) = ap (λ n. a * 2 ^ n) e ∙ rw (pow-add 2 (k - (w + m)) (w + m)) (omega arith) in
    sym (field_of (a * 2 ^ k + y) w m)
    ∙ ap (λ n. (n + y) % 2 ^ (w + m) / 2 ^ m) whole
    ∙ ap (λ n. n / 2 ^ m) (mul-add-mod_self_right (a * 2 ^ (k - (w + m))) (2 ^ (w + m)) y)
    ∙ field_of y w m

-- the number at a place in some of the words is that of these words alone
pub number_at-part : (xs ys zs : List ℕ) (at place width : ℕ) → All IsIndex zs → at ≡ 10 * length xs + place → place + width ≤ 10 * length ys
    → number_at (xs ++ ys ++ zs) at width ≡ number_at ys place width
number_at-part xs ys zs at place width below here within =
    let m = 10 * length ys - place - width in
    let b = 10 * length zs in
    let e : 10 * length (xs ++ ys ++ zs) - at - width ≡ b + m = omega (arith, length-append (xs ++ ys) zs, length-append xs ys) in
    let front : number_of 10 (xs ++ ys ++ zs) / 2 ^ b ≡ number_of 10 xs * 2 ^ (10 * length ys) + number_of 10 ys =
    ap (λ n. n / 2 ^ b) (number-append 10 (xs ++ ys) zs) ∙ shr_high (number_of 10 (xs ++ ys)) b (number_of 10 zs) (number-below 10 zs below)
    ∙ number-append 10 xs ys in
    ap (λ k. number_of 10 (xs ++ ys ++ zs) / 2 ^ k % 2 ^ width) e
    ∙ ap (λ n. n % 2 ^ width) (sym (shr-shr (number_of 10 (xs ++ ys ++ zs)) b m) ∙ ap (λ n. n / 2 ^ m) front)
    ∙ low_field (number_of 10 xs) (10 * length ys) (number_of 10 ys) m width (omega arith)

-- the digit at a place
pub digit_at : (w k n i : ℕ) → i < k → get_or (digits w k n) i 0 ≡ n / 2 ^ (w * (k - 1 - i)) % 2 ^ w
digit_at w zero n i within = absurd (omega arith)
digit_at w (suc k) n zero within = let e : k ≡ suc k - 1 - 0 = omega arith in ap (λ j. n / 2 ^ (w * j) % 2 ^ w) e
digit_at w (suc k) n (suc i) within =
    let e : k - 1 - i ≡ suc k - 1 - suc i = omega arith in
    digit_at w k n i (omega arith) ∙ ap (λ j. n / 2 ^ (w * j) % 2 ^ w) e

-- the number at a place of a number at a place
pub number_at-inner : (ws : List ℕ) (at room place width : ℕ) → place + width ≤ room → at + room ≤ 10 * length ws
    → number_at ws at room / 2 ^ (room - place - width) % 2 ^ width ≡ number_at ws (at + place) width
number_at-inner ws at room place width within inside =
    let m = room - place - width in
    let e = 10 * length ws - at - room in
    let n = number_of 10 ws / 2 ^ e in
    let s : e + m ≡ 10 * length ws - (at + place) - width = omega arith in
    sym (low_field (n / 2 ^ room) room (n % 2 ^ room) m width (omega arith))
    ∙ ap (λ k. k / 2 ^ m % 2 ^ width) (shr_split n room)
    ∙ ap (λ k. k % 2 ^ width) (shr-shr (number_of 10 ws) e m ∙ ap (λ k. number_of 10 ws / 2 ^ k) s)
