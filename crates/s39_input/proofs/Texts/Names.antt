-- The written form of names, one after the other.
use Rattle.std.proofs.Common.{◌≡◌, ℕ, ◌<◌, ◌≤◌, [], ◌∷◌, ◌++◌, length, refl, sym, ap, ◌∙◌, append_assoc, arith}
use Rattle.std.specs.Fmt.{decimal}
use Rattle.std.proofs.lemmas.Fmt.{length-decimal-le}
use Rattle.s39_set.specs.Names.{Name, Names}
use Rattle.s39_set.specs.Written.{name_text, quorum_text}

-- an index takes at most two digits
pub length-index : (n : ℕ) → n < 16 → length (decimal n) ≤ 2
length-index n low = length-decimal-le 2 n (omega arith) (omega arith) (omega arith)

-- one more name
pub quorum_text-more : (first : Name) (names : Names) (name : Name)
    → quorum_text (first ∷ (names ++ name ∷ [])) ≡ quorum_text (first ∷ names) ++ 43 ∷ name_text name
quorum_text-more first [] name = refl
quorum_text-more first (next ∷ names) name =
    ap (λ l. name_text first ++ 43 ∷ l) (quorum_text-more next names name)
    ∙ sym (append_assoc (name_text first) (43 ∷ quorum_text (next ∷ names)) (43 ∷ name_text name))
