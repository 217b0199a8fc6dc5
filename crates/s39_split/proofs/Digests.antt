-- The digest of a secret.
use Rattle.std.proofs.Common.{◌≡◌, ℕ, ◌-◌, ◌+◌, List, [], ◌∷◌, ◌++◌, length, take, drop, get_or, refl, sym, ap, ◌∙◌, inl, inr, arith, length-append}
use Rattle.std.proofs.lemmas.List.{take_at, drop_at, take_all, drop_all, append-nil, nil_from_length}
use Rattle.std.proofs.lemmas.Bool.{cases_lt}
use Rattle.s39_split.specs.Sharing.{digest_length, digest_of, digest_share}

-- a split's digest share has the secret's digest, under its own key
pub digest_share-is_accepted : (key secret : List ℕ) (n : ℕ) → length (digest_share key secret) ≡ n → length key ≡ n - digest_length
    → take digest_length (digest_share key secret) ≡ digest_of (drop digest_length (digest_share key secret)) secret
digest_share-is_accepted key secret n whole rest =
    let digest = digest_of key secret in
    let parts : length (digest_share key secret) ≡ length digest + length key = length-append digest key in
    elim (cases_lt n digest_length) [
      | inl short ↦
          let no_key : key ≡ [] = nil_from_length key (omega arith) in
          take_all digest_length (digest_share key secret) (omega arith)
          ∙ ap (λ k. digest ++ k) no_key ∙ append-nil digest
          ∙ ap (λ k. digest_of k secret) (no_key ∙ sym (drop_all digest_length (digest_share key secret) (omega arith)))
      | inr long ↦
          let four : length digest ≡ digest_length = omega arith in
          take_at digest key digest_length four ∙ ap (λ k. digest_of k secret) (sym (drop_at digest key digest_length four))
    ]

-- four bytes, one by one
pub one_by_one : (bytes : List ℕ) → length bytes ≡ 4 → get_or bytes 0 0 ∷ get_or bytes 1 0 ∷ get_or bytes 2 0 ∷ get_or bytes 3 0 ∷ [] ≡ bytes
one_by_one [] four = absurd (omega arith)
one_by_one (a ∷ []) four = absurd (omega arith)
one_by_one (a ∷ b ∷ []) four = absurd (omega arith)
one_by_one (a ∷ b ∷ c ∷ []) four = absurd (omega arith)
one_by_one (a ∷ b ∷ c ∷ d ∷ []) four = refl
one_by_one (a ∷ b ∷ c ∷ d ∷ e ∷ rest) four = absurd (omega arith)
