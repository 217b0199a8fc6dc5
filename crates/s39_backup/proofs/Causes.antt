-- A creation gives one thing: its shares, or the first cause for which it is refused.
use Rattle.std.proofs.Common.{◌≡◌, ◌≢◌, ℕ, ◌%◌, List, length, Result, Ok, Err, ◌⊎◌, inl, inr, refl, sym, ap}
use Rattle.std.proofs.Common.{◌∙◌, arith}
use Rattle.std.proofs.lemmas.Bool.{cases_lt}
use Rattle.s39_kdf.specs.Limits.{IsSecretLength}
use Rattle.s39_kdf.specs.Passphrases.{PassphrasesHaveOneFirstUnprintable, PrintablePassphrasesHaveNone, PassphrasesArePrintableOrNot}
use Rattle.s39_words.specs.declared.share.ShareFields.{ShareFields}
use Rattle.s39_backup.specs.declared.create_error.CreateError.{CreateError}
use Rattle.s39_backup.specs.declared.create_error.CreateError.TheVariants.{Passphrase, SecretLength, BadRandomLength}
use Rattle.s39_backup.specs.Created.{Asked, needed_by, IsCreatedFrom, IsCreation}

-- ---- the lengths

secret_length_or_not : (n : ℕ) → IsSecretLength n ⊎ ¬ IsSecretLength n
secret_length_or_not n =
    elim (cases_lt 0 (n % 2)) [
      | inl odd ↦ inr (λ is. let even = is.0 in omega arith)
      | inr none ↦ elim (cases_lt n 16) [
        | inl short ↦ inr (λ is. let long = is.1 in omega arith)
        | inr long ↦ elim (cases_lt 128 n) [
          | inl more ↦ inr (λ is. let fits = is.2 in omega arith)
          | inr fits ↦ (let even : n % 2 ≡ 0 = omega arith in inl (even, long, fits))
        ]
      ]
    ]

pub same_or_not : (m n : ℕ) → (m ≡ n) ⊎ (m ≢ n)
same_or_not m n =
    elim (cases_lt m n) [
      | inl less ↦ inr (λ same. omega arith)
      | inr no_less ↦ elim (cases_lt n m) [
        | inl less ↦ inr (λ same. omega arith)
        | inr no_more ↦ (let same : m ≡ n = omega arith in inl same)
      ]
    ]

-- ---- what a creation gives

module _ (asked : Asked) (random : List ℕ) where
  pub creation_exists : PassphrasesArePrintableOrNot
      → (IsSecretLength (length asked.secret) → length random ≡ needed_by asked
      → (shares : List ShareFields) × IsCreatedFrom asked random shares)
      → (result : Result (List ShareFields) CreateError) × IsCreation asked random result
  creation_exists printable_or_not exists =
      elim (printable_or_not asked.passphrase) [
        | inr bad ↦ (Err (Passphrase (record { position = bad.0 })), bad.1)
        | inl printable ↦ elim (secret_length_or_not (length asked.secret)) [
          | inr other ↦ (Err (SecretLength (record { bytes = length asked.secret })), (printable, other, refl))
          | inl is_length ↦ elim (same_or_not (length random) (needed_by asked)) [
            | inr other ↦ (Err (BadRandomLength (needed_by asked)), (printable, is_length, refl, other))
            | inl same ↦ (
                let (shares, is) = exists is_length same in
                (Ok shares, (printable, is_length, same, is)))
          ]
        ]
      ]

  module _ (one_position : PassphrasesHaveOneFirstUnprintable) (no_position : PrintablePassphrasesHaveNone)
      (once : (shares other : List ShareFields) → IsCreatedFrom asked random shares
      → IsCreatedFrom asked random other → shares ≡ other) where
    refused_once : (shares : List ShareFields) (error : CreateError) → IsCreation asked random (Ok shares)
        → IsCreation asked random (Err error) → ⊥
    refused_once shares (Passphrase bad) r s = no_position asked.passphrase bad.position r.0 s
    refused_once shares (SecretLength bad) r s = s.1 r.1
    refused_once shares (BadRandomLength needed) r s = s.3 (r.2 ∙ sym s.2)

    cause_once : (error other : CreateError) → IsCreation asked random (Err error)
        → IsCreation asked random (Err other) → error ≡ other
    cause_once (Passphrase a) (Passphrase b) r s =
        ap (λ (p : ℕ). Passphrase (record { position = p })) (one_position asked.passphrase a.position b.position r s)
    cause_once (Passphrase a) (SecretLength b) r s = absurd (no_position asked.passphrase a.position s.0 r)
    cause_once (Passphrase a) (BadRandomLength n) r s = absurd (no_position asked.passphrase a.position s.0 r)
    cause_once (SecretLength a) (Passphrase b) r s = absurd (no_position asked.passphrase b.position r.0 s)
    cause_once (SecretLength a) (SecretLength b) r s = ap (λ (n : ℕ). SecretLength (record { bytes = n })) (r.2 ∙ sym s.2)
    cause_once (SecretLength a) (BadRandomLength n) r s = absurd (r.1 s.1)
    cause_once (BadRandomLength m) (Passphrase b) r s = absurd (no_position asked.passphrase b.position r.0 s)
    cause_once (BadRandomLength m) (SecretLength b) r s = absurd (s.1 r.1)
    cause_once (BadRandomLength m) (BadRandomLength n) r s = ap (λ (k : ℕ). BadRandomLength k) (r.2 ∙ sym s.2)

    pub creation_once : (result other : Result (List ShareFields) CreateError) → IsCreation asked random result
        → IsCreation asked random other → result ≡ other
    creation_once (Ok shares) (Ok other) r s = ap (λ (xs : List ShareFields). Ok xs) (once shares other r.3 s.3)
    creation_once (Ok shares) (Err error) r s = absurd (refused_once shares error r s)
    creation_once (Err error) (Ok shares) r s = absurd (refused_once shares error s r)
    creation_once (Err error) (Err other) r s = ap (λ (e : CreateError). Err e) (cause_once error other r s)
