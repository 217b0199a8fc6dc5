-- Bytes are as many as those of a secret, or refused for their number.
use Rattle.std.proofs.Common.{◌≡◌, ◌⊎◌, ℕ, ◌%◌, List, length, refl, sym, ap, ◌∙◌, inl, inr, arith, Ok, Err}
use Rattle.std.proofs.lemmas.Bool.{cases_lt}
use Rattle.s39_kdf.specs.Limits.{IsSecretLength}
use Rattle.s39_input.specs.Accepted.{IsMeasured}
use Rattle.s39_input.proofs.Steps.{AtMostOne, AtLeastOne}

length_or_not : (n : ℕ) → IsSecretLength n ⊎ ¬ IsSecretLength n
length_or_not n =
    elim (cases_lt 0 (n % 2)) [
      | inl odd ↦ inr (λ is. let even = is.0 in omega arith)
      | inr none ↦ elim (cases_lt n 16) [
        | inl short ↦ inr (λ is. let long = is.1 in omega arith)
        | inr long ↦ elim (cases_lt 128 n) [
          | inl more ↦ inr (λ is. let fits = is.2 in omega arith)
          | inr fits ↦ (let even : n % 2 ≡ 0 = omega arith in inl (even, long, fits))
        ]
      ]
    ]

pub measured_once : (bytes : List ℕ) → AtMostOne (IsMeasured bytes)
measured_once bytes (Ok _) (Ok _) p q = refl
measured_once bytes (Ok _) (Err bad) p q = absurd (q.0 p)
measured_once bytes (Err bad) (Ok _) p q = absurd (p.0 q)
measured_once bytes (Err bad) (Err other) p q = ap (λ (n : ℕ). Err (record { bytes = n })) (p.1 ∙ sym q.1)

pub some_measure : (bytes : List ℕ) → AtLeastOne (IsMeasured bytes)
some_measure bytes =
    elim (length_or_not (length bytes)) [
      | inl long ↦ (Ok tt, long)
      | inr not ↦ (Err (record { bytes = length bytes }), (not, refl))
    ]
