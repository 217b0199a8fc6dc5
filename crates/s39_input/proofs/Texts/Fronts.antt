-- Texts at the front of slices.
use Rattle.std.proofs.Common.{◌≡◌, ℕ, ◌+◌, List, ◌++◌, length, take, drop, refl, ap, ◌∙◌, arith}
use Rattle.std.proofs.lemmas.List.{length-append}
use Rattle.std.proofs.lemmas.Slice.{drop-append-drop}
use Rattle.std.proofs.Math.Seq.{take-append_seam}

-- bytes that are put behind those at the front of a slice
pub put_next : (text line old : List ℕ)
    → take (length text) (text ++ drop (length text) old) ++ line ++ drop (length text + length line) (text ++ drop (length text) old)
    ≡ (text ++ line) ++ drop (length (text ++ line)) old
put_next text line old =
    rw (
      take-append_seam text (drop (length text) old),
      drop-append-drop (length text) old text (length text + length line) (omega arith) refl,
      length-append text line,
    ) refl

-- the same at a place that is known to be its end
pub put_at : (text line old new after : List ℕ) (at : ℕ) → new ≡ text ++ drop (length text) old → at ≡ length text
    → after ≡ take at new ++ line ++ drop (at + length line) new → after ≡ (text ++ line) ++ drop (length (text ++ line)) old
put_at text line old new after at is place put =
    put
    ∙ ap (λ n. take n new ++ line ++ drop (n + length line) new) place
    ∙ ap (λ t. take (length text) t ++ line ++ drop (length text + length line) t) is
    ∙ put_next text line old
