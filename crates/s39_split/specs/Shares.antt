-- Shares or points as a list of indices and byte strings, and how contracts see those in memory.
use Rattle.std.specs.Prelude.{◌≡◌, ◌≢◌, ℕ, ◌<◌, List, length, map, All, AllPairs}
use Rattle.std.specs.Borrow.{Bor}
use Rattle.arrayvec.specs.ArrayVec.{ArrayVec}

-- the bytes of each share
abbrev pub bytes_of : List (ArrayVec ℕ) → List (List ℕ)
bytes_of shares = map (λ share. share.items) shares

-- each share's index and bytes
abbrev pub indexed_bytes : List (ℕ × Bor (ArrayVec ℕ)) → List (ℕ × List ℕ)
indexed_bytes shares = map (λ share. (share.0, share.1.now.items)) shares

-- the index of each share is a byte
abbrev pub HaveByteIndices : List (ℕ × List ℕ) → Type 0
HaveByteIndices shares = All (λ share. share.0 < 256) shares

-- no two shares have the same index
abbrev pub AreDistinct : List (ℕ × List ℕ) → Type 0
AreDistinct shares = AllPairs (λ a b. a.0 ≢ b.0) shares

-- all shares are equally long
abbrev pub HaveOneLength : List (ℕ × List ℕ) → Type 0
HaveOneLength shares = AllPairs (λ a b. length a.1 ≡ length b.1) shares
