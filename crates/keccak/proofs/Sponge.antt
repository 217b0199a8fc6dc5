-- A message in two parts: its whole blocks, and what follows them.
use Rattle.std.proofs.Common.{◌≡◌, ℕ, ◌+◌, ◌*◌, ◌/◌, ◌%◌, ◌-◌, cond, List, [], ◌∷◌, ◌++◌, length, take, drop, sym, ap, ap₂, ◌∙◌, arith, length-append, append_assoc, replicate, inl, inr, ◌≢◌}
use Rattle.std.proofs.lemmas.Bool.{cases_eq}
use Rattle.std.proofs.lemmas.Bool.Decides.{eqb_tells}
use Rattle.std.proofs.lemmas.List.{drop-append-le, length-drop, length-replicate, take-replicate}
use Rattle.hashes.specs.Blocks.{after_blocks}
use Rattle.hashes.proofs.Blocks.{front, further}
use Rattle.keccak.specs.Keccak.{rate, absorb, padded_message, padding, squeezed, keccak256}

-- the padding of a message that leaves one byte of its last block, and of any other
padding-short : (n : ℕ) → n % rate ≡ 135 → padding n ≡ 0x81 ∷ []
padding-short n e = elim (eqb_tells (n % rate) 135) [
  | inl t ↦ ap (λ b. cond b (0x81 ∷ []) (1 ∷ (replicate (134 - n % rate) 0 ++ 0x80 ∷ []))) t.0
  | inr t ↦ absurd (t.1 e)
]

padding-long : (n : ℕ) → n % rate ≢ 135 → padding n ≡ 1 ∷ (replicate (134 - n % rate) 0 ++ 0x80 ∷ [])
padding-long n l = elim (eqb_tells (n % rate) 135) [
  | inl t ↦ absurd (l t.1)
  | inr t ↦ ap (λ b. cond b (0x81 ∷ []) (1 ∷ (replicate (134 - n % rate) 0 ++ 0x80 ∷ []))) t.0
]

padding-length : (n : ℕ) → length (padding n) ≡ rate - n % rate
padding-length n = elim (cases_eq (n % rate) 135) [
  | inl e ↦ ap length (padding-short n e) ∙ (omega arith)
  | inr l ↦
      let zeros : List ℕ = replicate (134 - n % rate) 0 in
      let long : length (zeros ++ 0x80 ∷ []) ≡ length zeros + 1 = length-append zeros (0x80 ∷ []) in
      ap length (padding-long n l) ∙ (omega (arith, long, length-replicate {A = ℕ} (134 - n % rate) 0))
]

pub in_two : (m e h : List ℕ) → e ≡ drop (length m / rate * rate) (padded_message m)
    → h ≡ after_blocks absorb rate (after_blocks absorb rate (replicate 25 0) m (length m / rate)) e (length e / rate)
    → squeezed h ≡ keccak256 m
unfolding keccak256
in_two m e h is made =
    let p = padded_message m in
    let n = length m / rate in
    let k = length e / rate in
    let start : List ℕ = replicate 25 0 in
    let long : length p ≡ length m + (rate - length m % rate) =
    length-append m (padding (length m)) ∙ ap (λ k. length m + k) (padding-length (length m)) in
    let rest : length e ≡ length p - n * rate = ap length is ∙ length-drop (n * rate) p in
    let all : n + k ≡ length p / rate = omega arith in
    let begun = sym (front absorb rate start m (padding (length m)) n (omega arith)) in
    ap squeezed
    (made ∙ ap₂ (λ (s t : List ℕ). after_blocks absorb rate s t k) begun is ∙ further absorb rate start p n k
    ∙ ap (after_blocks absorb rate start p) all)

-- what follows the whole blocks, part by part
pub long_ending : (m a b c d : List ℕ) → length m % rate ≢ 135 → a ≡ drop (length m - length m % rate) m → b ≡ a ++ 1 ∷ []
    → c ≡ b ++ take (134 - length m % rate) (replicate rate 0) → d ≡ c ++ 0x80 ∷ []
    → d ≡ drop (length m / rate * rate) (padded_message m)
long_ending m a b c d l e f g h =
    let n = length m in
    let zeros : List ℕ = replicate (134 - n % rate) 0 in
    let rest = drop (n / rate * rate) m in
    let place : n - n % rate ≡ n / rate * rate = omega arith in
    h ∙ ap (λ x. x ++ 0x80 ∷ [])
    (g ∙ ap₂ (λ x y. x ++ y) (f ∙ ap (λ x. x ++ 1 ∷ []) (e ∙ ap (λ k. drop k m) place)) (take-replicate (134 - n % rate) rate 0 (omega arith)))
    ∙ append_assoc (rest ++ 1 ∷ []) zeros (0x80 ∷ []) ∙ append_assoc rest (1 ∷ []) (zeros ++ 0x80 ∷ [])
    ∙ ap (λ x. rest ++ x) (sym (padding-long n l)) ∙ sym (drop-append-le (n / rate * rate) m (padding n) (omega arith))
