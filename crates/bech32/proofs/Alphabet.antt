-- Letters and their groups.
use Rattle.std.proofs.Common.{◌≡◌, ℕ, ◌<◌, ◌≤◌, nat_eq, List, All, length, map, get_or, refl}
use Rattle.std.proofs.lemmas.Bool.{eqb-true}
use Rattle.std.proofs.lemmas.List.Sums.{passes_at_first}
use Rattle.s39_lists.proofs.Alphabets as A
use Rattle.bech32.specs.Segwit.{letters, letter, group_of}
use Rattle.bech32.specs.Reading.{first_bad_letter}

letter-group : (c : ℕ) → group_of c < 32 → letter (group_of c) ≡ c
unfolding group_of
letter-group c l = eqb-true (get_or letters (group_of c) 0) c (passes_at_first (λ x. nat_eq x c) letters 0 l)

pub groups-letters : (gs : List ℕ) → All (λ g. g < 32) gs → map group_of (map letter gs) ≡ gs
unfolding A.agree group_of
groups-letters gs h = A.digits-letters letter group_of 32 gs refl h

pub letters-groups : (text : List ℕ) → length text ≤ first_bad_letter text → map letter (map group_of text) ≡ text
letters-groups text h = A.letters-digits letter group_of 32 text letter-group (A.are_letters group_of 32 text h)

pub groups-below : (text : List ℕ) → length text ≤ first_bad_letter text → All (λ g. g < 32) (map group_of text)
groups-below text h = A.digits-below group_of 32 text h
