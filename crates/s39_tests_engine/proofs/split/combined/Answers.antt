use Rattle.std.proofs.Common.{◌≡◌, ℕ, ◌+◌, ◌*◌, ◌%◌, ◌<◌, List, [], ◌∷◌, ◌++◌, length, get_or, arith, sym, ap, ◌∙◌, subst, refl, inl, inr, ◌⊎◌, length-append}
use Rattle.std.proofs.lemmas.List.{get_or_push, get_or_append_left}
use Rattle.std.proofs.lemmas.Bool.{cases_lt}
use Rattle.s39_tests_engine.proofs.split.combined.Goals as goal

-- what holds of each element with its index holds with one more
each_pushed : {X : Type 0} (P : ℕ → X → Type 0) (xs : List X) (x : X) (i : ℕ) → length xs ≡ i
    → ((j : ℕ) (d : X) → j < i → P j (get_or xs j d)) → P i x
    → (j : ℕ) (d : X) → j < i + 1 → P j (get_or (xs ++ x ∷ []) j d)
each_pushed P xs x i count before here j d within = elim (cases_lt j i) [
  | inl earlier ↦ subst (P j) (sym (get_or_append_left xs (x ∷ []) d j (omega arith))) (before j d earlier)
  | inr last ↦
      let at : j ≡ i = omega arith in
      rw at (subst (P i) (sym (get_or_push xs x d i count)) here)
]

-- two of the indices differ
apart : (start stride i j : ℕ) → (stride ≡ 1) ⊎ (stride ≡ 5) → i < j → j < 16 → (start + stride * i) % 16 ≡ (start + stride * j) % 16 → ⊥
apart start stride i j (inl one) before within same =
    let same' : (start + 1 * i) % 16 ≡ (start + 1 * j) % 16 = rw one at same in
    omega arith
apart start stride i j (inr five) before within same =
    let same' : (start + 5 * i) % 16 ≡ (start + 5 * j) % 16 = rw five at same in
    omega arith

pub push-requires : goal.push-requires
push-requires c = omega (arith, c.loop-k.invariant.number)

pub loop-k-preserved : goal.loop-k-preserved
loop-k-preserved c =
    let i = c.loop-k.k in
    let index = (c.args.start + c.args.stride * i) % 16 in
    let points = c.loop-k.chosen in
    let share = (get_or c.args.shares.now index c.index-shares-index.result).items in
    let after : c.push.new.self ≡ points ++ (index, share) ∷ [] = c.push.ensures in
    let places : (j : ℕ) (d : ℕ × List ℕ) → j < i + 1 → (get_or (points ++ (index, share) ∷ []) j d).0 ≡ (c.args.start + c.args.stride * j) % 16 =
    each_pushed (λ j p. p.0 ≡ (c.args.start + c.args.stride * j) % 16) points (index, share) i c.loop-k.invariant.number c.loop-k.invariant.places refl in
    let rows : (j : ℕ) (d : ℕ × List ℕ) → j < i + 1 → length (get_or (points ++ (index, share) ∷ []) j d).1 ≡ 16 =
    each_pushed (λ j p. length p.1 ≡ 16) points (index, share) i c.loop-k.invariant.number c.loop-k.invariant.rows
    (c.requires.length index c.index-shares-index.result (omega arith)) in
    record {
      number = ap length after ∙ length-append points ((index, share) ∷ []) ∙ ap (λ n. n + 1) c.loop-k.invariant.number;
      places = λ j d within. ap (λ ps. (get_or ps j d).0) after ∙ places j d within;
      rows = λ j d within. ap (λ ps. length (get_or ps j d).1) after ∙ rows j d within;
    }

pub combine-requires-clause-distinct : goal.combine-requires-clause-distinct
combine-requires-clause-distinct c = rw c.as_slice.ensures (λ i j d before within same.
    apart c.args.start c.args.stride i j c.requires.stride before (omega (arith, c.loop-k.invariant.number))
    (sym (c.loop-k.invariant.places i d (omega (arith, c.loop-k.invariant.number))) ∙ same
    ∙ c.loop-k.invariant.places j d (omega (arith, c.loop-k.invariant.number))))

pub combine-requires-clause-indices : goal.combine-requires-clause-indices
combine-requires-clause-indices c = rw c.as_slice.ensures (λ k d within.
    omega (arith, c.loop-k.invariant.places k d (omega (arith, c.loop-k.invariant.number))))

pub combine-requires-clause-one_length : goal.combine-requires-clause-one_length
combine-requires-clause-one_length c = rw c.as_slice.ensures (λ i j d before within.
    c.loop-k.invariant.rows i d (omega (arith, c.loop-k.invariant.number))
    ∙ sym (c.loop-k.invariant.rows j d (omega (arith, c.loop-k.invariant.number))))

pub combine-requires-clause-long : goal.combine-requires-clause-long
combine-requires-clause-long c = rw c.as_slice.ensures (λ k d within.
    omega (arith, c.loop-k.invariant.rows k d (omega (arith, c.loop-k.invariant.number))))
