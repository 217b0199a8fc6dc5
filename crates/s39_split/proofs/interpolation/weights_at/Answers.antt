use Rattle.std.proofs.Common.{◌≡◌, ◌≢◌, ℕ, List, ◌++◌, length, take, map, arith}
use Rattle.std.proofs.lemmas.List.{take_all, take_at, length-map}
use Rattle.s39_lists.proofs.Pairs.{AllPairs-map, AllPairs-from_map}
use Rattle.s39_split.proofs.interpolation.weights_at.Goals as goal

pub weights-requires-clause-distinct : goal.weights-requires-clause-distinct
weights-requires-clause-distinct c =
    let all : take c.loop-i.i c.args.points.now ≡ c.args.points.now = take_all c.loop-i.i c.args.points.now c.loop-i-test.false in
    let i : c.loop-i.i ≡ length c.args.points.now = omega arith in
    let are : take (length c.args.points.now) c.loop-i.places ≡ map (λ p. p.0) c.args.points.now = cc in
    rw are (AllPairs-map (λ a b. a ≢ b) (λ p. p.0) c.args.points.now
    (AllPairs-from_map {Y = ℕ × List ℕ} (λ a b. a.0 ≢ b.0) (λ p. (p.0, p.1.now.items)) c.args.points.now c.requires.distinct))

pub returns-clause-interpolates : goal.returns-clause-interpolates
returns-clause-interpolates c =
    let all : take c.loop-i.i c.args.points.now ≡ c.args.points.now = take_all c.loop-i.i c.args.points.now c.loop-i-test.false in
    let i : c.loop-i.i ≡ length c.args.points.now = omega arith in
    let are : take (length c.args.points.now) c.loop-i.places ≡ map (λ p. p.0) c.args.points.now = cc in
    let count : length (map (λ p. p.0) c.args.points.now) ≡ length c.args.points.now = length-map c.args.points.now (λ p. p.0) in
    let long : length c.weights.new.out ≡ length c.args.points.now = omega (arith, c.weights.auto.out) in
    let front : (rest : List ℕ) → take (length c.args.points.now) (c.weights.new.out ++ rest) ≡ c.weights.new.out =
    λ rest. take_at c.weights.new.out rest (length c.args.points.now) long in
    rw (front, ← count) (rw (are, c.from-2.ensures) at c.weights.ensures.interpolates)
