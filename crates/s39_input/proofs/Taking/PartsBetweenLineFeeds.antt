-- The parts of bytes between line feeds, as bytes come.
use Rattle.std.proofs.Common.{◌≡◌, ℕ, ◌+◌, ◌-◌, ◌<◌, ◌≤◌, Bool, true, false, cond, ltb, List, [], ◌∷◌, ◌++◌, length}
use Rattle.std.proofs.Common.{take, drop, get_or, append_assoc, refl, sym, ap, ◌∙◌, ◌⊎◌, inl, inr, arith}
use Rattle.std.proofs.lemmas.Bool.Decides.{nat_tests}
use Rattle.std.specs.List.{onto_first}
use Rattle.std.specs.Prelude.{◌≢◌, All}
use Rattle.std.proofs.lemmas.List.{drop_more, take_rest, take-append-drop}
use Rattle.std.proofs.lemmas.List.Elements.{All-weaker}
use Rattle.std.proofs.lemmas.List.Splits.{slice_split_none}
use Rattle.s39_input.specs.Input.{longest_line, is_line_feed, parts_of, finished_parts}

-- the parts of two texts put together: the last part of the first goes on as the first part of the second
seam : List (List ℕ) → List (List ℕ) → List (List ℕ)
seam [] qs = qs
seam (u ∷ []) [] = u ∷ []
seam (u ∷ []) (f ∷ qs) = (u ++ f) ∷ qs
seam (u ∷ v ∷ us) qs = u ∷ seam (v ∷ us) qs

-- a text has a first part
pub first_part : (xs : List ℕ) → (f : List ℕ) × (fs : List (List ℕ)) × (parts_of xs ≡ f ∷ fs)
first_part [] = ([], [], refl)
first_part (x ∷ xs) =
    let rest = first_part xs in
    let by : (b : Bool) → (f : List ℕ) × (fs : List (List ℕ)) × (cond b ([] ∷ parts_of xs) (onto_first x (parts_of xs)) ≡ f ∷ fs) =
    elim [ true ↦ ([], parts_of xs, refl) | false ↦ (x ∷ rest.0, rest.1, ap (onto_first x) rest.2) ] in
    by (is_line_feed x)

onto_first-seam : (x : ℕ) (f : List ℕ) (fs qs : List (List ℕ)) → onto_first x (seam (f ∷ fs) qs) ≡ seam (onto_first x (f ∷ fs)) qs
unfolding seam
onto_first-seam x f [] [] = refl
onto_first-seam x f [] (g ∷ qs) = refl
onto_first-seam x f (h ∷ fs) qs = refl

seam_step : (b : Bool) (x : ℕ) (f : List ℕ) (fs s t qs : List (List ℕ)) → s ≡ f ∷ fs → t ≡ seam s qs
    → cond b ([] ∷ t) (onto_first x t) ≡ seam (cond b ([] ∷ s) (onto_first x s)) qs
unfolding seam
seam_step true x f fs s t qs e h = rw (h, e) refl
seam_step false x f fs s t qs e h = rw (h, e) (onto_first-seam x f fs qs)

parts_of-append : (xs ys : List ℕ) → parts_of (xs ++ ys) ≡ seam (parts_of xs) (parts_of ys)
unfolding seam
parts_of-append [] ys = let first = first_part ys in rw first.2 refl
parts_of-append (x ∷ xs) ys =
    let first = first_part xs in
    seam_step (is_line_feed x) x first.0 first.1 (parts_of xs) (parts_of (xs ++ ys)) (parts_of ys) first.2 (parts_of-append xs ys)

seam-last : (xs : List (List ℕ)) (u f : List ℕ) (qs : List (List ℕ)) → seam (xs ++ u ∷ []) (f ∷ qs) ≡ xs ++ (u ++ f) ∷ qs
unfolding seam
seam-last [] u f qs = refl
seam-last (x ∷ []) u f qs = refl
seam-last (x ∷ y ∷ xs) u f qs = ap (λ (l : List (List ℕ)). x ∷ l) (seam-last (y ∷ xs) u f qs)

-- the unfinished part goes on as the first part of what comes
pub parts_of-more : (came more : List ℕ) (lines : List (List ℕ)) (u f : List ℕ) (qs : List (List ℕ)) → parts_of came ≡ lines ++ u ∷ [] → parts_of more ≡ f ∷ qs
    → parts_of (came ++ more) ≡ lines ++ (u ++ f) ∷ qs
parts_of-more came more lines u f qs e h = rw (parts_of-append came more, e, h) (seam-last lines u f qs)

-- a part that no line feed is in
pub parts_of-part : (part : List ℕ) → All (λ b. b ≢ 10) part → parts_of part ≡ part ∷ []
parts_of-part part free = slice_split_none is_line_feed part (All-weaker (λ b. b ≢ 10) (λ b. is_line_feed b ≡ false)
    (λ b other. grind (arith, nat_tests)) part free)

pub parts_of-onto : (part rest f : List ℕ) (fs : List (List ℕ)) → All (λ b. b ≢ 10) part → parts_of rest ≡ f ∷ fs → parts_of (part ++ rest) ≡ (part ++ f) ∷ fs
parts_of-onto part rest f fs free e = parts_of-more part rest [] part f fs (parts_of-part part free) e

-- a piece that is done up to a line feed of its rest
pub done_to : (piece done rest : List ℕ) (end : ℕ) → piece ≡ done ++ rest → end < length rest → get_or rest end 0 ≡ 10
    → piece ≡ (done ++ (take end rest ++ 10 ∷ [])) ++ take (length rest - (end + 1)) (drop (end + 1) rest)
done_to piece done rest end e within feed =
    let left : take (length rest - (end + 1)) (drop (end + 1) rest) ≡ drop (end + 1) rest = take_rest rest (end + 1) in
    let behind : drop end rest ≡ 10 ∷ drop (end + 1) rest = drop_more rest end 0 within ∙ ap (λ b. b ∷ drop (end + 1) rest) feed in
    let split : rest ≡ take end rest ++ (10 ∷ drop (end + 1) rest) = sym (take-append-drop end rest) ∙ ap (λ bs. take end rest ++ bs) behind in
    e ∙ ap (λ bs. done ++ bs) (split ∙ sym (append_assoc (take end rest) (10 ∷ []) (drop (end + 1) rest)))
    ∙ sym (append_assoc done (take end rest ++ 10 ∷ []) (drop (end + 1) rest)) ∙ ap (λ bs. (done ++ (take end rest ++ 10 ∷ [])) ++ bs) (sym left)

-- a part that a line feed ended, or that is too long, stays
pub finished_parts-keeps : (xs : List (List ℕ)) (y : List ℕ) (ys : List (List ℕ)) → (0 < length ys) ⊎ (longest_line < length y)
    → (zs : List (List ℕ)) × (finished_parts (xs ++ y ∷ ys) ≡ xs ++ y ∷ zs)
finished_parts-keeps [] y [] (inl h) = absurd (omega arith)
finished_parts-keeps [] y [] (inr h) = let long : ltb longest_line (length y) ≡ true = grind (arith, nat_tests) in ([], rw long refl)
finished_parts-keeps [] y (z ∷ zs) h = (finished_parts (z ∷ zs), refl)
finished_parts-keeps (x ∷ []) y ys h = let rest = finished_parts-keeps [] y ys h in (rest.0, ap (λ (l : List (List ℕ)). x ∷ l) rest.1)
finished_parts-keeps (x ∷ w ∷ xs) y ys h = let rest = finished_parts-keeps (w ∷ xs) y ys h in (rest.0, ap (λ (l : List (List ℕ)). x ∷ l) rest.1)

-- the part that no line feed ended is dropped
pub finished_parts-drops : (xs : List (List ℕ)) (u : List ℕ) → length u ≤ longest_line → finished_parts (xs ++ u ∷ []) ≡ xs
finished_parts-drops [] u h = let short : ltb longest_line (length u) ≡ false = grind (arith, nat_tests) in rw short refl
finished_parts-drops (x ∷ []) u h = ap (λ (l : List (List ℕ)). x ∷ l) (finished_parts-drops [] u h)
finished_parts-drops (x ∷ w ∷ xs) u h = ap (λ (l : List (List ℕ)). x ∷ l) (finished_parts-drops (w ∷ xs) u h)
