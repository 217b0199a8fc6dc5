-- Points that are added to a row.
use Rattle.std.proofs.Common.{◌≡◌, ℕ, ◌+◌, ◌<◌, ◌≤◌, List, [], ◌∷◌, ◌++◌, Option, Some, None, take, set, length, refl, sym, ap, ◌∙◌, arith}
use Rattle.std.specs.Borrow.{Bor}
use Rattle.std.specs.Option.{option_map_or, ForSome, ForNone}
use Rattle.std.proofs.lemmas.List.{map_push, take_more_set, length-map, length-take-le}
use Rattle.arrayvec.specs.ArrayVec.{ArrayVec}
use Rattle.s39_split.specs.Sharing.{most_shares}
use Rattle.s39_split.specs.Shares.{indexed_bytes}
use Rattle.s39_split.specs.declared.lent_points.Row.{Row}

-- the points that stand in a row, if there is one
abbrev pub standing : Option Row → List (ℕ × Bor (ArrayVec ℕ))
standing row = option_map_or (λ r. r.points) row []

-- the number of points
pub length-standing : (row : Option Row) (len : ℕ) (points : List (ℕ × List ℕ)) → len ≤ most_shares
    → ForSome row (λ r. length r.points ≡ most_shares) → ForNone row (len ≡ 0)
    → indexed_bytes (take len (standing row)) ≡ points → len ≡ length points
length-standing None len points fits long none view = none refl ∙ ap length (sym (ap (λ n. indexed_bytes (take n [])) (none refl)) ∙ view)
length-standing (Some row) len points fits long none view =
    let whole : length row.points ≡ most_shares = long row refl in
    let count : length (indexed_bytes (take len row.points)) ≡ len =
    length-map (take len row.points) (λ p. (p.0, p.1.now.items)) ∙ length-take-le len row.points (omega arith) in
    sym count ∙ ap length view

-- a point that is written behind the first i follows these
pub point_written : (row : List (ℕ × Bor (ArrayVec ℕ))) (i : ℕ) (point : ℕ × Bor (ArrayVec ℕ)) (points : List (ℕ × List ℕ))
    → i < length row → indexed_bytes (take i row) ≡ points
    → indexed_bytes (take (i + 1) (set row i point)) ≡ points ++ (point.0, point.1.now.items) ∷ []
point_written row i point points within before =
    ap indexed_bytes (take_more_set row i point within)
    ∙ map_push (λ p. (p.0, p.1.now.items)) (take i row) point
    ∙ ap (λ ps. ps ++ (point.0, point.1.now.items) ∷ []) before

-- a row that is put is as long as what was put
pub put_row : (put row : Row) → Some put ≡ Some row → length put.points ≡ most_shares → length row.points ≡ most_shares
put_row put row is long =
    let same : put ≡ row = cc in
    ap (λ r. length r.points) (sym same) ∙ long
