-- The three outcomes of a sum with 64 bytes.
use Rattle.std.proofs.Common.{◌≡◌, ◌≢◌, ◌<◌, ◌≤◌, ℕ, List, drop, Some, None, refl}
use Rattle.std.proofs.lemmas.Bool.{le-ltb, lt-ltb, eq-eqb}
use Rattle.curve_field.specs.Order.{order}
use Rattle.curve_points.proofs.Doubled.{eqb_not}
use Rattle.bip32.specs.Derivation.{left_number, sum_with, key_from}

pub too_large : (other : ℕ) (mac : List ℕ) → order ≤ left_number mac → key_from other mac ≡ None
unfolding key_from
too_large other mac h = let t = le-ltb (left_number mac) order h in rw t refl

pub no_sum : (other : ℕ) (mac : List ℕ) → left_number mac < order → sum_with other mac ≡ 0 → key_from other mac ≡ None
unfolding key_from
no_sum other mac h z =
    let t = lt-ltb (left_number mac) order h in
    let u = eq-eqb (sum_with other mac) 0 z in
    rw (t, u) refl

pub summed : (other : ℕ) (mac : List ℕ) → left_number mac < order → sum_with other mac ≢ 0
    → key_from other mac ≡ Some (record { key = sum_with other mac; chain_code = drop 32 mac })
unfolding key_from
summed other mac h n =
    let t = lt-ltb (left_number mac) order h in
    let u = eqb_not (sum_with other mac) 0 n in
    rw (t, u) refl
