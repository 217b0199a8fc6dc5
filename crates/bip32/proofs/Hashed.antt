-- What the HMAC of a hardened child is taken of.
use Rattle.std.proofs.Common.{◌≡◌, ◌≤◌, ℕ, List, [], ◌∷◌, ◌++◌, append-nil}
use Rattle.std.specs.Int.{bytes_high_first, to_be_bytes, w32}
use Rattle.std.proofs.lemmas.Bool.{le-ltb}
use Rattle.hashes.specs.Hmac.{hmac_sha512}
use Rattle.bip32.specs.Derivation.{child_data}

pub hardened : (chain : List ℕ) (key index : ℕ) (bytes number : List ℕ) → 2147483648 ≤ index
    → bytes ≡ bytes_high_first 32 key → number ≡ to_be_bytes w32 index
    → hmac_sha512 (chain ++ []) (0 ∷ (bytes ++ (number ++ []))) ≡ hmac_sha512 chain (child_data key index)
hardened chain key index bytes number h b n =
    let t = le-ltb index 2147483648 h in
    rw (b, n) (simp (append-nil, t))
