-- What a step adds to the looks, by its answer.
use Rattle.std.proofs.Common.{◌≡◌, ℕ, suc, ◌+◌, ◌<◌, ◌==◌, ◌&&◌, ◌++◌, true, false, [], ◌∷◌, length}
use Rattle.std.proofs.Common.{get_or, take, drop, sum_by, All, Some, Ok, Less, refl, sym, ap, ◌∙◌, arith, drop-cons}
use Rattle.std.proofs.lemmas.Bool.{cond-true, cond-false}
use Rattle.std.proofs.lemmas.Bool.Decides.{nat_tests}
use Rattle.std.proofs.lemmas.List.{length-take-le, take-append-drop}
use Rattle.std.proofs.lemmas.List.Elements.{All-head}
use Rattle.std.proofs.lemmas.List.Sums.{sum_by-cons}
use Rattle.s39_set.specs.Names.{Name, Names, name_cmp}
use Rattle.s39_set.specs.Looks.{test_looks, context_looks, place_looks, completion_looks, common_names, step_looks}

same_name : (g m : ℕ) → ((g == g) && (m == m)) ≡ true
same_name g m = grind (arith, nat_tests)

other_name : (g m h k : ℕ) → name_cmp (g, m) (h, k) ≡ Less → ((g == h) && (m == k)) ≡ false
other_name g m h k less = grind (arith, nat_tests)

-- lists that go on with a name, and with later ones, have the names before in common
pub common_names-front : (P S R : Names) (x : Name) → All (λ n. name_cmp x n ≡ Less) R → common_names (P ++ x ∷ S) (P ++ R) ≡ length P
common_names-front [] S [] x later = refl
common_names-front [] S (y ∷ ys) x later =
    cond-false ((x.0 == y.0) && (x.1 == y.1)) (1 + common_names S ys) 0 (other_name x.0 x.1 y.0 y.1 (All-head (λ n. name_cmp x n ≡ Less) y ys later))
common_names-front (p ∷ ps) S R x later =
    let rest : common_names (ps ++ x ∷ S) (ps ++ R) ≡ length ps = common_names-front ps S R x later in
    let here = cond-true ((p.0 == p.0) && (p.1 == p.1)) (1 + common_names (ps ++ x ∷ S) (ps ++ R)) 0 (same_name p.0 p.1) in
    omega arith

-- a step's looks, where its answer differs at a place
pub step_looks_next : (Q next R : Names) (i : ℕ) → i < length Q → next ≡ take i Q ++ R → All (λ n. name_cmp (get_or Q i (0, 0)) n ≡ Less) R
    → step_looks Q (Ok (Some next))
    ≡ test_looks Q + context_looks Q + (place_looks (get_or Q i (0, 0)) + sum_by place_looks (drop (suc i) Q)) + completion_looks i (get_or Q i (0, 0))
step_looks_next Q next R i below next_is later =
    let x = get_or Q i (0, 0) in
    let S = drop (suc i) Q in
    let parts : Q ≡ take i Q ++ x ∷ S = sym (take-append-drop i Q) ∙ ap (λ l. take i Q ++ l) (drop-cons Q i (0, 0) below) in
    let place : common_names Q next ≡ i =
    ap (common_names Q) next_is
    ∙ ap (λ q. common_names q (take i Q ++ R)) parts
    ∙ common_names-front (take i Q) S R x later
    ∙ length-take-le i Q (omega arith) in
    let sums : sum_by place_looks (drop i Q) ≡ place_looks x + sum_by place_looks S =
    ap (sum_by place_looks) (drop-cons Q i (0, 0) below) ∙ sum_by-cons place_looks x S in
    ap (λ k. test_looks Q + context_looks Q + sum_by place_looks (drop k Q) + completion_looks k (get_or Q k (0, 0))) place
    ∙ ap (λ n. test_looks Q + context_looks Q + n + completion_looks i x) sums
