use Rattle.std.proofs.Common.{◌≡◌, ℕ, ◌+◌, ◌++◌, [], ◌∷◌, length, take, replicate, arith, sym, ap, ◌∙◌}
use Rattle.std.specs.Borrow.{Bor}
use Rattle.std.proofs.lemmas.List.{length-replicate, length-set}
use Rattle.arrayvec.specs.ArrayVec.{ArrayVec}
use Rattle.s39_split.specs.Sharing.{most_shares}
use Rattle.s39_split.specs.Shares.{indexed_bytes}
use Rattle.s39_split.proofs.LentPoints.{standing, length-standing, put_row, point_written}
use Rattle.s39_split.proofs.lent_points.Points.push.Goals.{in-Some, in-None}
use Rattle.s39_split.proofs.lent_points.Points.push.Goals as goal

pub bounds-points-self-inside : goal.bounds-points-self-inside
bounds-points-self-inside c =
    let count = length-standing c.self.inside.row c.self.inside.len c.args.self.now c.self.invariant.0 c.self.invariant.1 c.self.invariant.2 c.self.view_is in
    omega arith

pub invariant_of-self : goal.invariant_of-self
invariant_of-self c =
    let count = length-standing c.self.inside.row c.self.inside.len c.args.self.now c.self.invariant.0 c.self.invariant.1 c.self.invariant.2 c.self.view_is in
    let point : ℕ × Bor (ArrayVec ℕ) = (c.args.place, c.args.value) in
    elim c.match-self.branch [
      | in-Some w ↦ (
        omega (arith, ap (λ i. i.len) w.self-inside-is),
        λ row is. put_row _ row (sym (ap (λ i. i.row) w.self-inside-is) ∙ is)
            (length-set w.in-Some.row.points c.self.inside.len point ∙ c.self.invariant.1 w.in-Some.row w.in-Some.is),
        λ none. let some = ap (λ i. i.row) w.self-inside-is in cc,
      )
      | in-None w ↦ (
        omega (arith, ap (λ i. i.len) w.self-inside-is),
        λ row is. put_row _ row (sym (ap (λ i. i.row) w.self-inside-is) ∙ is) (length-replicate {A = ℕ × Bor (ArrayVec ℕ)} most_shares point),
        λ none. let some = ap (λ i. i.row) w.self-inside-is in cc,
      )
    ]

pub returns : goal.returns
returns c =
    let count = length-standing c.self.inside.row c.self.inside.len c.args.self.now c.self.invariant.0 c.self.invariant.1 c.self.invariant.2 c.self.view_is in
    let point : ℕ × Bor (ArrayVec ℕ) = (c.args.place, c.args.value) in
    let len = c.self.inside.len in
    elim c.match-self.branch [
      | in-Some w ↦
          let long : length w.in-Some.row.points ≡ most_shares = c.self.invariant.1 w.in-Some.row w.in-Some.is in
          ap (λ i. indexed_bytes (take (i.len + 1) (standing i.row))) w.self-inside-is
          ∙ point_written w.in-Some.row.points len point c.args.self.now (omega arith)
          (ap (λ row. indexed_bytes (take len (standing row))) (sym w.in-Some.is) ∙ c.self.view_is)
      | in-None w ↦
          let none : len ≡ 0 = c.self.invariant.2 w.in-None.is in
          let empty : c.args.self.now ≡ [] =
          sym c.self.view_is ∙ ap (λ row. indexed_bytes (take len (standing row))) w.in-None.is ∙ ap (λ n. indexed_bytes (take n [])) none in
          ap (λ i. indexed_bytes (take (i.len + 1) (standing i.row))) w.self-inside-is
          ∙ ap (λ n. indexed_bytes (take (n + 1) (replicate most_shares point))) none
          ∙ ap (λ ps. ps ++ (c.args.place, c.args.value.now.items) ∷ []) (sym empty)
    ]
