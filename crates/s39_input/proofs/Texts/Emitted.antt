-- Lines that are written one after another.
use Rattle.std.proofs.Common.{◌≡◌, ℕ, ◌+◌, ◌<◌, ◌≤◌, List, [], ◌∷◌, ◌++◌, length, take, drop, get_or, sym, ap, ◌∙◌, append-nil, append_assoc, arith}
use Rattle.std.specs.List.{concat}
use Rattle.std.proofs.lemmas.List.{take_more, take_all, take-append-drop, length-append}
use Rattle.std.proofs.lemmas.List.Folds.{concat-append}
use Rattle.arrayvec.specs.ArrayVec.{ArrayVec}
use Rattle.s39_input.specs.Emission.{AreLines}

module _ {gives : ℕ → ArrayVec ℕ → Type 0} {count : ℕ} {texts : List (List ℕ)} (are : AreLines gives count texts) where
  -- all lines
  pub all_lines : (index : ℕ) → count ≤ index → concat (take index texts) ≡ concat texts
  all_lines index past = ap concat (take_all index texts (omega (arith, past, are.many)))

  module _ (index : ℕ) (line : ArrayVec ℕ) (below : index < count) (given : gives index line) where
    -- one line more
    pub one_more : concat (take (index + 1) texts) ≡ concat (take index texts) ++ line.items
    one_more =
        ap concat (take_more texts index [] (omega (arith, below, are.many)))
        ∙ concat-append (take index texts) (get_or texts index [] ∷ [])
        ∙ ap (λ l. concat (take index texts) ++ l) (append-nil (get_or texts index []) ∙ sym (are.each index line below given))

    -- and the others
    pub others : concat texts ≡ concat (take index texts) ++ (line.items ++ concat (drop (index + 1) texts))
    others =
        ap concat (sym (take-append-drop (index + 1) texts))
        ∙ concat-append (take (index + 1) texts) (drop (index + 1) texts)
        ∙ ap (λ l. l ++ concat (drop (index + 1) texts)) one_more
        ∙ append_assoc (concat (take index texts)) line.items (concat (drop (index + 1) texts))

    -- it fits in where all lines fit
    pub fits : length (concat (take index texts)) + length line.items ≤ length (concat texts)
    fits =
        let whole = ap length others in
        omega (
          arith,
          whole,
          length-append (concat (take index texts)) (line.items ++ concat (drop (index + 1) texts)),
          length-append line.items (concat (drop (index + 1) texts)),
        )
