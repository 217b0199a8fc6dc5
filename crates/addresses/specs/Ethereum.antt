-- Ethereum's address of a public key (the Yellow Paper, appendix F), with the capitals of ERC-55.
use Rattle.std.specs.Prelude.{ℕ, ◌/◌, ◌%◌, List, [], ◌∷◌, ◌++◌, map, take, drop, codes, slice_index, nat_lt, if◌then◌else◌}
use Rattle.keccak.specs.Keccak.{keccak256}

-- the last 20 bytes of the digest of both coordinates, of 32 bytes each
abbrev pub account : List ℕ → List ℕ
account coordinates = take 20 (drop 12 (keccak256 coordinates))

-- the halves of bytes, the higher first
abbrev pub halves : List ℕ → List ℕ
halves [] = []
halves (b ∷ bs) = b / 16 ∷ b % 16 ∷ halves bs

abbrev pub lower : ℕ → ℕ
lower n = slice_index (codes "0123456789abcdef") n

abbrev pub upper : ℕ → ℕ
upper n = slice_index (codes "0123456789ABCDEF") n

-- hexadecimal digits, in upper case where the other list has at least 8
abbrev pub cased : List ℕ → List ℕ → List ℕ
cased [] ms = []
cased (n ∷ ns) [] = []
cased (n ∷ ns) (m ∷ ms) = (if nat_lt 7 m then upper n else lower n) ∷ cased ns ms

-- "0x", and the bytes in hexadecimal, in upper case where the digest of the text in lower case has at least 8
abbrev pub erc55 : List ℕ → List ℕ
erc55 bytes = codes "0x" ++ cased (halves bytes) (halves (keccak256 (map lower (halves bytes))))

abbrev pub ethereum_address : List ℕ → List ℕ
ethereum_address coordinates = erc55 (account coordinates)
