-- Shares with their indices.
use Rattle.std.proofs.Common.{◌≡◌, ℕ, ◌+◌, ◌<◌, ◌≤◌, List, [], ◌∷◌, ◌++◌, length, get_or, take, sym, ap, ◌∙◌, arith, zero-add}
use Rattle.std.specs.List.{enumerate_from}
use Rattle.std.proofs.lemmas.List.{map_push, take_more, length-map, length-take-le}
use Rattle.std.proofs.lemmas.List.FromFn.{length-enumerate_from}
use Rattle.arrayvec.specs.ArrayVec.{ArrayVec}
use Rattle.s39_split.specs.Shares.{bytes_of}
use Rattle.s39_lists.proofs.Pushes.{enumerate_from-push}

-- the first i shares, each with its index
abbrev pub enumerated : List (ArrayVec ℕ) → ℕ → List (ℕ × List ℕ)
enumerated shares i = enumerate_from 0 (bytes_of (take i shares))

-- their number
pub length-enumerated : (shares : List (ArrayVec ℕ)) (i : ℕ) → i ≤ length shares → length (enumerated shares i) ≡ i
length-enumerated shares i within =
    length-enumerate_from 0 (bytes_of (take i shares)) ∙ length-map (take i shares) (λ s. s.items) ∙ length-take-le i shares within

-- one more share
pub enumerated-more : (shares : List (ArrayVec ℕ)) (i : ℕ) (share : ArrayVec ℕ) → i < length shares → share ≡ get_or shares i share
    → enumerated shares (i + 1) ≡ enumerated shares i ++ (i, share.items) ∷ []
enumerated-more shares i share within is =
    let all = take_more shares i share within in
    let bytes : bytes_of (take i shares ++ get_or shares i share ∷ []) ≡ bytes_of (take i shares) ++ (get_or shares i share).items ∷ [] =
    map_push (λ s. s.items) (take i shares) (get_or shares i share) in
    let count : 0 + length (bytes_of (take i shares)) ≡ i =
    zero-add (length (bytes_of (take i shares))) ∙ length-map (take i shares) (λ s. s.items) ∙ length-take-le i shares (omega arith) in
    ap (λ ss. enumerate_from 0 (bytes_of ss)) all ∙ ap (enumerate_from 0) bytes
    ∙ enumerate_from-push 0 (bytes_of (take i shares)) (get_or shares i share).items
    ∙ ap (λ k. enumerated shares i ++ (k, (get_or shares i share).items) ∷ []) count
    ∙ ap (λ s. enumerated shares i ++ (i, s.items) ∷ []) (sym is)
