-- Indices of shares.
use Rattle.std.proofs.Common.{◌≡◌, ◌≢◌, ℕ, ◌<◌, ◌≤◌, List, length, map, arith}
use Rattle.std.specs.List.{All, AllPairs}
use Rattle.std.specs.Borrow.{Bor}
use Rattle.std.proofs.lemmas.List.{length-map}
use Rattle.std.proofs.lemmas.List.Elements.{All-map, All-contains}
use Rattle.std.proofs.lemmas.Map.Steps.{length-le_from_distinct_below}
use Rattle.std.proofs.lemmas.Map.Made.{IsDistinct-from_AllPairs}
use Rattle.std.proofs.lemmas.Map.Views.{Contains-from_any}
use Rattle.std.proofs.lemmas.Bool.{eqb-true}
use Rattle.std.proofs.lemmas.Bool.Decides.{Decides-eqb}
use Rattle.arrayvec.specs.ArrayVec.{ArrayVec}
use Rattle.s39_lists.proofs.Pairs.{AllPairs-map}
use Rattle.s39_split.specs.Sharing.{most_shares}
use Rattle.s39_split.specs.Shares.{indexed_bytes, AreDistinct}

-- shares with distinct indices are no more than there are indices
pub few_shares : (shares : List (ℕ × List ℕ)) → AreDistinct shares → All (λ s. s.0 < most_shares) shares → length shares ≤ most_shares
few_shares shares distinct low =
    let indices : List ℕ = map (λ s. s.0) shares in
    let apart : AllPairs (λ a b. a ≢ b) indices = AllPairs-map (λ a b. a ≢ b) (λ s. s.0) shares distinct in
    let below : All (λ i. i < most_shares) indices = All-map (λ i. i < most_shares) (λ s. s.0) shares low in
    let count : length indices ≡ length shares = length-map shares (λ s. s.0) in
    let few : length indices ≤ most_shares = length-le_from_distinct_below indices most_shares (IsDistinct-from_AllPairs Decides-eqb indices apart)
    (λ q found. All-contains (λ i. i < most_shares) indices q below (Contains-from_any eqb-true q indices found)) in
    omega arith

pub few_lent : (shares : List (ℕ × Bor (ArrayVec ℕ))) → AreDistinct (indexed_bytes shares)
    → All (λ s. s.0 < most_shares) (indexed_bytes shares) → length shares ≤ most_shares
few_lent shares distinct low =
    let count : length (indexed_bytes shares) ≡ length shares = length-map shares (λ s. (s.0, s.1.now.items)) in
    omega (arith, few_shares (indexed_bytes shares) distinct low)
