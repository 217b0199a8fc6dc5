-- Keccak-256: the function Keccak[512] of Bertoni, Daemen, Peeters and Van Assche, with the padding of their submission, as Ethereum
-- has it. Section numbers are those of FIPS 202, whose SHA3-256 differs in the padding alone. A word is a number below 2 ^ 64, and
-- the state has 25: that of column x and row y is at the place x + 5 y.
use Rattle.std.specs.Prelude.{ℕ, zero, suc, ◌+◌, ◌-◌, ◌*◌, ◌/◌, ◌%◌, List, [], ◌∷◌, ◌++◌, length, map, replicate, bit_and, bit_xor, slice_index, if◌then◌else◌, nat_eq, nat_lt}
use Rattle.std.specs.Int.{w64, bit_not, rotate_left, from_le_bytes, to_le_bytes}
use Rattle.hashes.specs.Blocks.{after_blocks}

abbrev pub places : List ℕ
places = 0 ∷ 1 ∷ 2 ∷ 3 ∷ 4 ∷ 5 ∷ 6 ∷ 7 ∷ 8 ∷ 9 ∷ 10 ∷ 11 ∷ 12 ∷ 13 ∷ 14 ∷ 15 ∷ 16 ∷ 17 ∷ 18 ∷ 19 ∷ 20 ∷ 21 ∷ 22 ∷ 23 ∷ 24 ∷ []

-- how far rho rotates each word (table 2), modulo 64
abbrev pub rotations : List ℕ
rotations = 0 ∷ 1 ∷ 62 ∷ 28 ∷ 27 ∷ 36 ∷ 44 ∷ 6 ∷ 55 ∷ 20 ∷ 3 ∷ 10 ∷ 43 ∷ 25 ∷ 39 ∷ 41 ∷ 45 ∷ 15 ∷ 21 ∷ 8 ∷ 18 ∷ 2 ∷ 61 ∷ 56 ∷ 14 ∷ []

-- RC: what iota adds to the first word in each round (3.2.5)
abbrev pub round_constants : List ℕ
round_constants = 0x0000000000000001 ∷ 0x0000000000008082 ∷ 0x800000000000808a ∷ 0x8000000080008000 ∷ 0x000000000000808b ∷ 0x0000000080000001 ∷ 0x8000000080008081 ∷ 0x8000000000008009 ∷ 0x000000000000008a ∷ 0x0000000000000088 ∷ 0x0000000080008009 ∷ 0x000000008000000a ∷ 0x000000008000808b ∷ 0x800000000000008b ∷ 0x8000000000008089 ∷ 0x8000000000008003 ∷ 0x8000000000008002 ∷ 0x8000000000000080 ∷ 0x000000000000800a ∷ 0x800000008000000a ∷ 0x8000000080008081 ∷ 0x8000000000008080 ∷ 0x0000000080000001 ∷ 0x8000000080008008 ∷ []

-- C: the parity of a column (3.2.1)
abbrev pub parity : List ℕ → ℕ → ℕ
parity a x =
    bit_xor (bit_xor (bit_xor (bit_xor (slice_index a x) (slice_index a (x + 5))) (slice_index a (x + 10))) (slice_index a (x + 15)))
    (slice_index a (x + 20))

-- theta (3.2.1)
abbrev pub theta_at : List ℕ → ℕ → ℕ
theta_at a i = bit_xor (slice_index a i) (bit_xor (parity a ((i + 4) % 5)) (rotate_left w64 (parity a ((i + 1) % 5)) 1))

unfoldable pub theta : List ℕ → List ℕ
theta a = map (λ i. theta_at a i) places

-- where pi takes the word of this place from (3.2.3)
abbrev pub source : ℕ → ℕ
source i = (i % 5 + 3 * (i / 5)) % 5 + 5 * (i % 5)

-- rho (3.2.2), and then pi
abbrev pub rho_pi_at : List ℕ → ℕ → ℕ
rho_pi_at a i = rotate_left w64 (slice_index a (source i)) (slice_index rotations (source i))

unfoldable pub rho_pi : List ℕ → List ℕ
rho_pi a = map (λ i. rho_pi_at a i) places

-- chi (3.2.4)
abbrev pub chi_at : List ℕ → ℕ → ℕ
chi_at b i =
    bit_xor (slice_index b i)
    (bit_and (bit_not w64 (slice_index b (i / 5 * 5 + (i + 1) % 5))) (slice_index b (i / 5 * 5 + (i + 2) % 5)))

unfoldable pub chi : List ℕ → List ℕ
chi b = map (λ i. chi_at b i) places

-- iota (3.2.5)
abbrev pub iota : List ℕ → ℕ → List ℕ
iota [] constant = []
iota (x ∷ xs) constant = bit_xor x constant ∷ xs

-- a round (3.3)
abbrev pub round : List ℕ → ℕ → List ℕ
round a n = iota (chi (rho_pi (theta a))) (slice_index round_constants n)

-- the state after the first rounds
unfoldable pub rounds : List ℕ → ℕ → List ℕ
rounds a zero = a
rounds a (suc n) = round (rounds a n) n

-- the word at a byte, low byte first (3.1.2 and B.1)
abbrev pub word_at : List ℕ → ℕ → ℕ
word_at b i = from_le_bytes w64
    (slice_index b i ∷ slice_index b (i + 1) ∷ slice_index b (i + 2) ∷ slice_index b (i + 3)
    ∷ slice_index b (i + 4) ∷ slice_index b (i + 5) ∷ slice_index b (i + 6) ∷ slice_index b (i + 7) ∷ [])

-- the number of bytes of a block: 1,600 bits without the capacity of 512
abbrev pub rate : ℕ
rate = 136

-- the state with a block added to its first 17 words
unfoldable pub added : List ℕ → List ℕ → List ℕ
added a b = map (λ i. if nat_lt i 17 then bit_xor (slice_index a i) (word_at b (8 * i)) else slice_index a i) places

-- the state after a block more, by the sponge (4)
abbrev pub absorb : List ℕ → List ℕ → List ℕ
absorb a b = rounds (added a b) 24

-- a bit 1, bits 0, and a bit 1, which fill the last block of a message of so many bytes (5.1)
abbrev pub padding : ℕ → List ℕ
padding n = if nat_eq (n % rate) 135 then 0x81 ∷ [] else 1 ∷ (replicate (134 - n % rate) 0 ++ 0x80 ∷ [])

abbrev pub padded_message : List ℕ → List ℕ
padded_message m = m ++ padding (length m)

-- the first 32 bytes of the state
abbrev pub squeezed : List ℕ → List ℕ
squeezed a =
    to_le_bytes w64 (slice_index a 0) ++ (to_le_bytes w64 (slice_index a 1)
    ++ (to_le_bytes w64 (slice_index a 2) ++ to_le_bytes w64 (slice_index a 3)))

-- the digest of a message
unfoldable pub keccak256 : List ℕ → List ℕ
keccak256 m = squeezed (after_blocks absorb rate (replicate 25 0) (padded_message m) (length (padded_message m) / rate))
