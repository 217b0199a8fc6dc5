-- Letters and the digits that they stand for.
use Rattle.std.proofs.Common.{◌≡◌, ℕ, zero, suc, ◌<◌, ◌≤◌, Bool, true, false, cond, eqb, nat_le, List, [], ◌∷◌, All, length, map, get_or, refl, sym, subst}
use Rattle.std.proofs.Common.{inl, inr, arith}
use Rattle.std.specs.List.{position_or_len}
use Rattle.std.proofs.lemmas.Bool.{eqb-true, leb-false, cases_eq}
use Rattle.std.proofs.lemmas.List.Sums.{fails_before_first}
use Rattle.std.proofs.lemmas.List.Elements.{All-from_get_or, All-head, All-map, All-tail}

-- whether the letter of each of the first n digits has this digit
unfoldable pub agree : (ℕ → ℕ) → (ℕ → ℕ) → ℕ → Bool
agree letter digit zero = true
agree letter digit (suc n) = cond (eqb (digit (letter n)) n) (agree letter digit n) false

both : (b c : Bool) → cond b c false ≡ true → (b ≡ true) × (c ≡ true)
both true c h = (refl, h)
both false c h = absurd (cc)

-- a digit's letter has this digit
pub digit-letter : (letter digit : ℕ → ℕ) (n d : ℕ) → agree letter digit n ≡ true → d < n → digit (letter d) ≡ d
unfolding agree
digit-letter letter digit zero d h l = absurd (omega arith)
digit-letter letter digit (suc n) d h l =
    let p = both (eqb (digit (letter n)) n) (agree letter digit n) h in
    elim (cases_eq d n) [
      | inl e ↦ subst (λ k. digit (letter k) ≡ k) (sym e) (eqb-true (digit (letter n)) n p.0)
      | inr ne ↦ digit-letter letter digit n d p.1 (omega arith)
    ]

pub digits-letters : (letter digit : ℕ → ℕ) (n : ℕ) (ds : List ℕ) → agree letter digit n ≡ true → All (λ d. d < n) ds → map digit (map letter ds) ≡ ds
digits-letters letter digit n [] a h = refl
digits-letters letter digit n (d ∷ ds) a h =
    let one : digit (letter d) ≡ d = digit-letter letter digit n d a (All-head (λ d. d < n) d ds h) in
    let rest = digits-letters letter digit n ds a (All-tail (λ d. d < n) d ds h) in
    cc

pub letters-digits : (letter digit : ℕ → ℕ) (n : ℕ) (text : List ℕ) → ((c : ℕ) → digit c < n → letter (digit c) ≡ c) → All (λ c. digit c < n) text
    → map letter (map digit text) ≡ text
letters-digits letter digit n [] back h = refl
letters-digits letter digit n (c ∷ cs) back h =
    let one : letter (digit c) ≡ c = back c (All-head (λ c. digit c < n) c cs h) in
    let rest = letters-digits letter digit n cs back (All-tail (λ c. digit c < n) c cs h) in
    cc

-- a text without another character has letters alone
pub are_letters : (digit : ℕ → ℕ) (n : ℕ) (text : List ℕ) → length text ≤ position_or_len (λ c. nat_le n (digit c)) text → All (λ c. digit c < n) text
are_letters digit n text h =
    All-from_get_or (λ c. digit c < n) text 0
    (λ k l. leb-false n (digit (get_or text k 0)) (fails_before_first (λ c. nat_le n (digit c)) text k 0 (omega arith)))

pub digits-below : (digit : ℕ → ℕ) (n : ℕ) (text : List ℕ) → length text ≤ position_or_len (λ c. nat_le n (digit c)) text
    → All (λ d. d < n) (map digit text)
digits-below digit n text h = All-map (λ d. d < n) digit text (are_letters digit n text h)
