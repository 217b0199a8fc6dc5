-- Lists of bytes xored place by place.
use Rattle.std.proofs.Common.{◌≡◌, ℕ, zero, suc, ◌<◌, List, [], ◌∷◌, length, replicate, get_or, bit_xor, refl, ap, sym, ◌∙◌, arith}
use Rattle.std.proofs.lemmas.Grind.{same_number_lists}
use Rattle.std.specs.Int.Bits.{xor_self, xor_zero_l, xor_zero_r}
use Rattle.s39_kdf.specs.Bytes.{xor_of}
use lib.Bits.{xor_assoc}

-- the xor of two lists of one length has that length
pub length-xor_of : (xs ys : List ℕ) → length xs ≡ length ys → length (xor_of xs ys) ≡ length xs
unfolding xor_of
length-xor_of [] ys e = refl
length-xor_of (x ∷ xs) [] e = cc
length-xor_of (x ∷ xs) (y ∷ ys) e = ap suc (length-xor_of xs ys cc)

-- a byte of the xor
pub get_or-xor_of : (xs ys : List ℕ) (k : ℕ) → k < length xs → length xs ≡ length ys
    → get_or (xor_of xs ys) k 0 ≡ bit_xor (get_or xs k 0) (get_or ys k 0)
unfolding xor_of
get_or-xor_of [] ys k h e = absurd (omega arith)
get_or-xor_of (x ∷ xs) [] k h e = cc
get_or-xor_of (x ∷ xs) (y ∷ ys) zero h e = refl
get_or-xor_of (x ∷ xs) (y ∷ ys) (suc k) h e = get_or-xor_of xs ys k (omega arith) cc

-- a list is the xor of two if each of its bytes is
pub xored_by_index : (zs xs ys : List ℕ) → length zs ≡ length xs → length xs ≡ length ys
    → ((k : ℕ) → k < length xs → get_or zs k 0 ≡ bit_xor (get_or xs k 0) (get_or ys k 0)) → zs ≡ xor_of xs ys
xored_by_index zs xs ys long same each =
    same_number_lists zs (xor_of xs ys) (long ∙ sym (length-xor_of xs ys same))
    (λ k h. each k (omega arith) ∙ sym (get_or-xor_of xs ys k (omega arith) same))

-- a second xor with the same list undoes the first
pub xor_of-xor_of : (xs ys : List ℕ) → length xs ≡ length ys → xor_of (xor_of xs ys) ys ≡ xs
unfolding xor_of
xor_of-xor_of [] ys e = refl
xor_of-xor_of (x ∷ xs) [] e = cc
xor_of-xor_of (x ∷ xs) (y ∷ ys) e =
    let at_head : bit_xor (bit_xor x y) y ≡ x = rw (xor_assoc x y y, xor_self y) (xor_zero_r x) in
    let tail : xor_of (xor_of xs ys) ys ≡ xs = xor_of-xor_of xs ys cc in
    cc

-- zeros change nothing
pub xor_of-replicate : (n : ℕ) (ys : List ℕ) → length ys ≡ n → xor_of (replicate n 0) ys ≡ ys
unfolding xor_of
xor_of-replicate zero [] e = refl
xor_of-replicate zero (y ∷ ys) e = cc
xor_of-replicate (suc n) [] e = cc
xor_of-replicate (suc n) (y ∷ ys) e =
    let at_head : bit_xor 0 y ≡ y = xor_zero_l y in
    let tail : xor_of (replicate n 0) ys ≡ ys = xor_of-replicate n ys cc in
    cc
