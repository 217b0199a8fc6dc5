-- Letters and their digits.
use Rattle.std.proofs.Common.{◌≡◌, ℕ, ◌<◌, ◌≤◌, nat_eq, List, All, length, map, get_or, refl}
use Rattle.std.proofs.lemmas.Bool.{eqb-true}
use Rattle.std.proofs.lemmas.List.Sums.{passes_at_first}
use Rattle.s39_lists.proofs.Alphabets as A
use Rattle.base58.specs.Base58.{letters, letter, digit_of}
use Rattle.base58.specs.Reading.{first_bad_letter}

letter-digit : (c : ℕ) → digit_of c < 58 → letter (digit_of c) ≡ c
unfolding digit_of
letter-digit c l = eqb-true (get_or letters (digit_of c) 0) c (passes_at_first (λ x. nat_eq x c) letters 0 l)

pub digits-letters : (ds : List ℕ) → All (λ d. d < 58) ds → map digit_of (map letter ds) ≡ ds
unfolding A.agree digit_of
digits-letters ds h = A.digits-letters letter digit_of 58 ds refl h

pub letters-digits : (text : List ℕ) → length text ≤ first_bad_letter text → map letter (map digit_of text) ≡ text
letters-digits text h = A.letters-digits letter digit_of 58 text letter-digit (A.are_letters digit_of 58 text h)

pub digits-below : (text : List ℕ) → length text ≤ first_bad_letter text → All (λ d. d < 58) (map digit_of text)
digits-below text h = A.digits-below digit_of 58 text h
