-- Digests are bytes, and so many.
use Rattle.std.proofs.Common.{◌≡◌, ◌<◌, ℕ, zero, suc, List, length, arith}
use Rattle.std.specs.Int.{byte_at, bytes_high_first, to_be_bytes, w32}
use Rattle.std.specs.Prelude.{slice_index}
use Rattle.std.proofs.lemmas.List.Elements.{All-append, All-cons, All-nil}
use Rattle.sha2.specs.Sha256.{sha256, digest_bytes, final_hash, initial_hash_256}
use Rattle.sha2.proofs.Facts256.{length-sha256}
use Rattle.s39_kdf.specs.Bytes.{AreBytes}
use Rattle.hashes.specs.Digests.{double_sha256}

byte_at-lt : (i n : ℕ) → byte_at i n < 256
byte_at-lt zero n = omega arith
byte_at-lt (suc i) n = omega arith

AreBytes-word : (count n : ℕ) → AreBytes (bytes_high_first count n)
AreBytes-word zero n = All-nil (λ b. b < 256)
AreBytes-word (suc k) n = All-cons (λ b. b < 256) (byte_at k n) (bytes_high_first k n) (byte_at-lt k n) (AreBytes-word k n)

AreBytes-digest_bytes : (h : List ℕ) (n : ℕ) → AreBytes (digest_bytes h n)
unfolding digest_bytes
AreBytes-digest_bytes h zero = All-nil (λ b. b < 256)
AreBytes-digest_bytes h (suc n) =
    All-append (λ b. b < 256) (digest_bytes h n) (to_be_bytes w32 (slice_index h n)) (AreBytes-digest_bytes h n) (AreBytes-word 4 (slice_index h n))

AreBytes-sha256 : (m : List ℕ) → AreBytes (sha256 m)
unfolding sha256
AreBytes-sha256 m = AreBytes-digest_bytes (final_hash initial_hash_256 m) 8

pub AreBytes-double_sha256 : (m : List ℕ) → AreBytes (double_sha256 m)
AreBytes-double_sha256 m = AreBytes-sha256 (sha256 m)

pub length-double_sha256 : (m : List ℕ) → length (double_sha256 m) ≡ 32
length-double_sha256 m = length-sha256 (sha256 m)
