-- How long the values of HMAC and PBKDF2 are, and one block of PBKDF2.
use Rattle.std.proofs.Common.{◌≡◌, ℕ, zero, suc, ◌+◌, ◌-◌, ◌*◌, ◌/◌, ◌<◌, ◌≤◌, List, ◌++◌, length, take, refl, ap, ◌∙◌, arith}
use Rattle.std.proofs.Math.Seq.{take-append-add}
use Rattle.std.proofs.lemmas.List.{length-append, length-take-le, length-replicate}
use Rattle.sha2.proofs.Facts256.{length-sha256}
use Rattle.s39_kdf.specs.Hmac.{mac_length, hmac}
use Rattle.s39_kdf.specs.Pbkdf2.{iterate, block, blocks, pbkdf2, longest_derived_key}
use Rattle.s39_kdf.specs.Cipher.{round_function}
use Rattle.s39_kdf.specs.declared.params.Params.{Params}
use Rattle.s39_kdf.proofs.Xor.{length-xor_of, xor_of-replicate}

-- an HMAC has 32 bytes
pub length-hmac : (key message : List ℕ) → length (hmac key message) ≡ mac_length
unfolding hmac
length-hmac key message = length-sha256 _

-- U_1 and each U after it have the bytes of an HMAC
pub length-iterate : (password salt : List ℕ) (i k : ℕ) → length (iterate password salt i (suc k)) ≡ mac_length
unfolding iterate
length-iterate password salt i k = length-hmac password (iterate password salt i k)

-- a block has the bytes of an HMAC
pub length-block : (password salt : List ℕ) (i c : ℕ) → length (block password salt i c) ≡ mac_length
unfolding block
length-block password salt i zero = length-replicate {A = ℕ} mac_length 0
length-block password salt i (suc c) =
    let before = length-block password salt i c in
    let next = length-iterate password salt i c in
    length-xor_of (block password salt i c) (iterate password salt i (suc c)) (cc) ∙ before

-- l blocks have as many bytes as l HMACs
length-blocks : (password salt : List ℕ) (c l : ℕ) → length (blocks password salt c l) ≡ mac_length * l
unfolding blocks
length-blocks password salt c zero = refl
length-blocks password salt c (suc l) =
    let before = length-blocks password salt c l in
    let next = length-block password salt (suc l) c in
    let both = length-append (blocks password salt c l) (block password salt (suc l) c) in
    omega arith

-- a derived key is as long as was asked
pub length-pbkdf2 : (password salt : List ℕ) (c n : ℕ) → length (pbkdf2 password salt c n) ≡ n
unfolding pbkdf2
length-pbkdf2 password salt c n =
    let whole = length-blocks password salt c ((n + (mac_length - 1)) / mac_length) in
    length-take-le n _ (omega arith)

-- a block of one iteration is U_1
pub block_one : (password salt : List ℕ) (i : ℕ) → block password salt i 1 ≡ iterate password salt i 1
unfolding block
block_one password salt i = xor_of-replicate mac_length _ (length-iterate password salt i 0)

-- as many bytes as a block has, or fewer, come of the first block
pub pbkdf2_one_block : (password salt : List ℕ) (c n : ℕ) → n ≤ mac_length
    → pbkdf2 password salt c n ≡ take n (block password salt 1 c)
unfolding pbkdf2 blocks
pbkdf2_one_block password salt c zero h = refl
pbkdf2_one_block password salt c (suc n) h =
    let count : (suc n + (mac_length - 1)) / mac_length ≡ 1 = omega arith in
    rw count refl

-- more bytes, up to those of two blocks, are the first block and then bytes of the second
pub pbkdf2_two_blocks : (password salt : List ℕ) (c n : ℕ) → mac_length < n → n ≤ longest_derived_key
    → pbkdf2 password salt c n ≡ block password salt 1 c ++ take (n - mac_length) (block password salt 2 c)
unfolding pbkdf2 blocks
pbkdf2_two_blocks password salt c n more h =
    let count : (n + (mac_length - 1)) / mac_length ≡ 2 = omega arith in
    let first = block password salt 1 c in
    let split : n ≡ length first + (n - mac_length) = omega (arith, length-block password salt 1 c) in
    rw count (ap (λ k. take k (first ++ block password salt 2 c)) split ∙ take-append-add first (block password salt 2 c) (n - mac_length))

-- the round function gives as many bytes as the half has
pub length-round_function : (passphrase : List ℕ) (params : Params) (i : ℕ) (right : List ℕ)
    → length (round_function passphrase params i right) ≡ length right
unfolding round_function
length-round_function passphrase params i right = length-pbkdf2 _ _ _ (length right)
