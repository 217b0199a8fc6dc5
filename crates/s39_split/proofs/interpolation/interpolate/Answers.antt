use Rattle.std.proofs.Common.{◌≡◌, ℕ, ◌<◌, length, take, slice_index, arith, sym, ap, ◌∙◌, subst}
use Rattle.std.specs.Borrow.{Bor}
use Rattle.arrayvec.specs.ArrayVec.{ArrayVec}
use Rattle.std.proofs.lemmas.List.{take_all, length-map, length-replicate}
use Rattle.std.proofs.lemmas.List.Elements.{All-more}
use Rattle.s39_kdf.specs.Bytes.{AreBytes}
use Rattle.s39_split.proofs.Columns.{column, all_rows, AreBytes-rows, sum_more, sums_interpolate, length-row}
use Rattle.s39_split.proofs.interpolation.interpolate.Goals as goal

pub add_scaled-requires : goal.add_scaled-requires
add_scaled-requires c =
    let points = c.args.points.now in
    let rows = all_rows points c.requires.one_length.0 c.requires.one_length.1 in
    let first = rows 0 c.index-points-0.result c.requires.some in
    let this = length-row points c.requires.one_length.0 c.loop-i.i c.index-points-i.result rows c.loop-i-test.true c.index-points-i.is in
    let zeros : length c.zeros-value.result.items ≡ c.len.result = ap length c.zeros-value.ensures ∙ length-replicate {A = ℕ} c.len.result 0 in
    c.loop-i.invariant.long ∙ zeros ∙ c.len.ensures.value ∙ first ∙ sym this ∙ sym (ap length c.deref.ensures.0)

pub loop-i-preserved : goal.loop-i-preserved
loop-i-preserved c =
    let points = c.args.points.now in
    let rows = all_rows points c.requires.one_length.0 c.requires.one_length.1 in
    let ws = c.weights_at-weights.result in
    let i = c.loop-i.i in
    let point = c.index-points-i.result in
    let here : AreBytes point.1.now.items = rw c.deref.ensures.0 at c.add_scaled.ensures.bytes in
    let first = rows 0 c.index-points-0.result c.requires.some in
    let this = length-row points c.requires.one_length.0 i point rows c.loop-i-test.true c.index-points-i.is in
    let zeros : length c.zeros-value.result.items ≡ c.len.result = ap length c.zeros-value.ensures ∙ length-replicate {A = ℕ} c.len.result 0 in
    let row : length c.deref.result.now ≡ length point.1.now.items = ap length c.deref.ensures.0 in
    let long : length c.add_scaled.new.value.items ≡ length c.zeros-value.result.items =
    c.add_scaled.ensures.len ∙ row ∙ this ∙ sym first ∙ sym c.len.ensures.value ∙ sym zeros in
    record {
      long = long;
      bytes = All-more (λ p. AreBytes p.1.now.items) points i point c.loop-i-test.true c.loop-i.invariant.bytes
          (let P : ℕ × Bor (ArrayVec ℕ) → Type 0 = λ p. AreBytes p.1.now.items in subst P c.index-points-i.is here);
      sums = λ k below.
          let in_row : k < length c.deref.result.now = omega (arith, c.add_scaled.ensures.len) in
          let in_value : k < length c.loop-i.value.items = omega (arith, long, c.loop-i.invariant.long) in
          sum_more ws points i point c.index-weights-i.result k (slice_index c.loop-i.value.items k) (slice_index c.add_scaled.new.value.items k)
          (omega arith) c.loop-i-test.true c.index-points-i.is (c.loop-i.invariant.sums k in_value)
          (rw c.deref.ensures.0 at (c.add_scaled.ensures.sums k in_row));
    }

pub returns-clause-value : goal.returns-clause-value
returns-clause-value c =
    let points = c.args.points.now in
    let rows = all_rows points c.requires.one_length.0 c.requires.one_length.1 in
    let i : c.loop-i.i ≡ length points = omega arith in
    let all : take c.loop-i.i points ≡ points = take_all c.loop-i.i points c.loop-i-test.false in
    let first = rows 0 c.index-points-0.result c.requires.some in
    let zeros : length c.zeros-value.result.items ≡ c.len.result = ap length c.zeros-value.ensures ∙ length-replicate {A = ℕ} c.len.result 0 in
    let long : length c.loop-i.value.items ≡ c.requires.one_length.0 = c.loop-i.invariant.long ∙ zeros ∙ c.len.ensures.value ∙ first in
    sums_interpolate points c.args.place (take (length points) c.weights_at-weights.result) c.loop-i.value.items c.weights_at-weights.ensures.interpolates
    (rw long rows)
    (rw all at c.loop-i.invariant.bytes)
    (λ k below.
    let whole : take (length points) (column k points) ≡ column k points =
    take_all (length points) (column k points) (omega (arith, length-map points (λ p. slice_index p.1.now.items k))) in
    rw (i, whole) at (c.loop-i.invariant.sums k below))

pub returns-clause-of_bytes : goal.returns-clause-of_bytes
returns-clause-of_bytes c =
    let points = c.args.points.now in
    let all : take c.loop-i.i points ≡ points = take_all c.loop-i.i points c.loop-i-test.false in
    AreBytes-rows points (rw all at c.loop-i.invariant.bytes)
