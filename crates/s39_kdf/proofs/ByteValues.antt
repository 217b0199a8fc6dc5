-- The values of HMAC, of PBKDF2 and of the round function consist of bytes.
use Rattle.std.proofs.Common.{ℕ, zero, suc, ◌<◌, List, [], ◌∷◌, bit_xor, arith}
use Rattle.std.specs.Int.{byte_at, bytes_high_first, to_be_bytes, w32}
use Rattle.std.specs.Prelude.{slice_index}
use Rattle.std.proofs.lemmas.Nat.{xor_of_8}
use Rattle.std.proofs.lemmas.List.Elements.{All-nil, All-cons, All-head, All-tail, All-append, All-replicate, All-take}
use Rattle.sha2.specs.Sha256.{sha256, digest_bytes, final_hash, initial_hash_256}
use Rattle.s39_kdf.specs.Bytes.{AreBytes, xor_of}
use Rattle.s39_kdf.specs.Hmac.{mac_length, hmac}
use Rattle.s39_kdf.specs.Pbkdf2.{iterate, block, blocks, pbkdf2}
use Rattle.s39_kdf.specs.Cipher.{round_function}
use Rattle.s39_kdf.specs.declared.params.Params.{Params}

-- a number below 256
abbrev IsByte : ℕ → Type 0
IsByte byte = byte < 256

-- the bytes of a word
byte_at-lt : (i n : ℕ) → byte_at i n < 256
byte_at-lt zero n = omega arith
byte_at-lt (suc i) n = omega arith

AreBytes-word : (count n : ℕ) → AreBytes (bytes_high_first count n)
AreBytes-word zero n = All-nil IsByte
AreBytes-word (suc k) n = All-cons IsByte (byte_at k n) (bytes_high_first k n) (byte_at-lt k n) (AreBytes-word k n)

-- a digest
AreBytes-digest_bytes : (h : List ℕ) (n : ℕ) → AreBytes (digest_bytes h n)
unfolding digest_bytes
AreBytes-digest_bytes h zero = All-nil IsByte
AreBytes-digest_bytes h (suc n) =
    All-append IsByte (digest_bytes h n) (to_be_bytes w32 (slice_index h n)) (AreBytes-digest_bytes h n) (AreBytes-word 4 (slice_index h n))

AreBytes-sha256 : (m : List ℕ) → AreBytes (sha256 m)
unfolding sha256
AreBytes-sha256 m = AreBytes-digest_bytes (final_hash initial_hash_256 m) 8

-- an HMAC
pub AreBytes-hmac : (key message : List ℕ) → AreBytes (hmac key message)
unfolding hmac
AreBytes-hmac key message = AreBytes-sha256 _

-- bytes, xored with bytes
pub AreBytes-xor_of : (xs ys : List ℕ) → AreBytes xs → AreBytes ys → AreBytes (xor_of xs ys)
unfolding xor_of
AreBytes-xor_of [] ys bytes_x bytes_y = All-nil IsByte
AreBytes-xor_of (x ∷ xs) [] bytes_x bytes_y = All-nil IsByte
AreBytes-xor_of (x ∷ xs) (y ∷ ys) bytes_x bytes_y =
    All-cons IsByte (bit_xor x y) (xor_of xs ys) (xor_of_8 x y (All-head IsByte x xs bytes_x) (All-head IsByte y ys bytes_y))
    (AreBytes-xor_of xs ys (All-tail IsByte x xs bytes_x) (All-tail IsByte y ys bytes_y))

-- U_1 and each U after it
AreBytes-iterate : (password salt : List ℕ) (i k : ℕ) → AreBytes (iterate password salt i (suc k))
unfolding iterate
AreBytes-iterate password salt i k = AreBytes-hmac password (iterate password salt i k)

-- a block
AreBytes-block : (password salt : List ℕ) (i c : ℕ) → AreBytes (block password salt i c)
unfolding block
AreBytes-block password salt i zero = All-replicate IsByte mac_length 0 (omega arith)
AreBytes-block password salt i (suc c) =
    AreBytes-xor_of (block password salt i c) (iterate password salt i (suc c)) (AreBytes-block password salt i c) (AreBytes-iterate password salt i c)

AreBytes-blocks : (password salt : List ℕ) (c l : ℕ) → AreBytes (blocks password salt c l)
unfolding blocks
AreBytes-blocks password salt c zero = All-nil IsByte
AreBytes-blocks password salt c (suc l) =
    All-append IsByte (blocks password salt c l) (block password salt (suc l) c) (AreBytes-blocks password salt c l) (AreBytes-block password salt (suc l) c)

-- a derived key
AreBytes-pbkdf2 : (password salt : List ℕ) (c n : ℕ) → AreBytes (pbkdf2 password salt c n)
unfolding pbkdf2
AreBytes-pbkdf2 password salt c n = All-take IsByte n _ (AreBytes-blocks password salt c _)

-- the round function
pub AreBytes-round_function : (passphrase : List ℕ) (params : Params) (i : ℕ) (right : List ℕ) → AreBytes (round_function passphrase params i right)
unfolding round_function
AreBytes-round_function passphrase params i right = AreBytes-pbkdf2 _ _ _ _
