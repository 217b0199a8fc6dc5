-- A message that a hash function takes block by block: its whole blocks, and what follows them.
use Rattle.std.proofs.Common.{◌≡◌, ℕ, zero, suc, ◌+◌, ◌*◌, ◌≤◌, List, ◌++◌, length, take, drop, refl, ap, ap₂, ◌∙◌, arith, add-one}
use Rattle.std.proofs.lemmas.List.{take-append-le, drop-append-le, length-drop, drop-drop, drop-take}
use Rattle.std.proofs.lemmas.Slice.{between_is}
use Rattle.std.specs.List.{between}
use Rattle.hashes.specs.Blocks.{after_blocks}

-- what follows some blocks doesn't change the state after them
pub front : (step : List ℕ → List ℕ → List ℕ) (size : ℕ) (s m t : List ℕ) (n : ℕ) → n * size ≤ length m
    → after_blocks step size s (m ++ t) n ≡ after_blocks step size s m n
unfolding after_blocks
front step size s m t zero l = refl
front step size s m t (suc n) l =
    let block : take size (drop (n * size) (m ++ t)) ≡ take size (drop (n * size) m) =
    ap (take size) (drop-append-le (n * size) m t (omega arith))
    ∙ take-append-le size (drop (n * size) m) t (omega (arith, length-drop (n * size) m)) in
    ap₂ step (front step size s m t n (omega arith)) block

-- some blocks, and then the blocks behind them
pub further : (step : List ℕ → List ℕ → List ℕ) (size : ℕ) (s p : List ℕ) (n k : ℕ)
    → after_blocks step size (after_blocks step size s p n) (drop (n * size) p) k ≡ after_blocks step size s p (n + k)
unfolding after_blocks
further step size s p n zero = let e : n ≡ n + 0 = omega arith in ap (after_blocks step size s p) e
further step size s p n (suc k) =
    let place : n * size + k * size ≡ (n + k) * size = omega arith in
    let one : suc (n + k) ≡ n + suc k = omega arith in
    ap₂ step (further step size s p n k) (ap (take size) (drop-drop (k * size) (n * size) p ∙ ap (λ i. drop i p) place))
    ∙ ap (after_blocks step size s p) one

-- a block more
pub block_more : (step : List ℕ → List ℕ → List ℕ) (size : ℕ) (h p s r : List ℕ) (n i j : ℕ) → s ≡ after_blocks step size h p n
    → i ≡ n * size → j ≡ i + size → r ≡ step s (between i j p) → r ≡ after_blocks step size h p (n + 1)
unfolding after_blocks
block_more step size h p s r n i j before place end made =
    let block : between i j p ≡ take size (drop i p) =
    between_is p i j ∙ ap (λ k. drop i (take k p)) end ∙ drop-take i size p in
    rw (add-one n) (made ∙ ap₂ step before (block ∙ ap (λ k. take size (drop k p)) place))
