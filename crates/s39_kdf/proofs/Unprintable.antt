-- The first byte of a passphrase that isn't printable.
use Rattle.std.proofs.Common.{◌≡◌, ℕ, suc, ◌+◌, ◌-◌, ◌<◌, List, [], ◌∷◌, length, get_or, take, All, ◌⊎◌, inl, inr, subst, arith}
use Rattle.std.specs.Prelude.{slice_index}
use Rattle.std.proofs.lemmas.Bool.{cases_lt, cases_order}
use Rattle.std.proofs.lemmas.List.{get_or-take, length-take}
use Rattle.std.proofs.lemmas.List.Elements.{All-nil, All-cons}
use Rattle.s39_kdf.specs.Limits.{IsPrintable, IsFirstUnprintable}

-- ---- there is at most one

not_before : (bytes : List ℕ) (p q : ℕ) → IsFirstUnprintable bytes p → IsFirstUnprintable bytes q → p < q → ⊥
not_before bytes p q first other before =
    let from_1 = first.counted_from_1 in
    let within = first.within in
    let long = length-take (q - 1) bytes in
    let below : p - 1 < length (take (q - 1) bytes) = omega arith in
    let same : get_or (take (q - 1) bytes) (p - 1) 0 ≡ slice_index bytes (p - 1) = get_or-take (q - 1) bytes (p - 1) 0 (omega arith) in
    first.unprintable (subst IsPrintable same (other.printable_before (p - 1) 0 below))

pub first_unprintable_once : (bytes : List ℕ) (p q : ℕ) → IsFirstUnprintable bytes p → IsFirstUnprintable bytes q → p ≡ q
first_unprintable_once bytes p q first other =
    elim (cases_order p q) [
      | inl same ↦ same
      | inr (inl before) ↦ absurd (not_before bytes p q first other before)
      | inr (inr after) ↦ absurd (not_before bytes q p other first after)
    ]

-- and none where all are printable
pub none_unprintable : (bytes : List ℕ) (p : ℕ) → All IsPrintable bytes → IsFirstUnprintable bytes p → ⊥
none_unprintable bytes p all first =
    let from_1 = first.counted_from_1 in
    let within = first.within in
    first.unprintable (all (p - 1) 0 (omega arith))

-- ---- there is one, or all are printable

printable_or_not : (byte : ℕ) → IsPrintable byte ⊎ ¬ IsPrintable byte
printable_or_not byte =
    elim (cases_lt byte 32) [
      | inl low ↦ inr (λ is. let least = is.0 in absurd (omega arith))
      | inr enough ↦ elim (cases_lt 126 byte) [
        | inl high ↦ inr (λ is. let most = is.1 in absurd (omega arith))
        | inr little ↦ inl (omega arith, omega arith)
      ]
    ]

-- the place, from 0
record IsFirstAt (bytes : List ℕ) (k : ℕ) : Type 0 where
  within : k < length bytes
  unprintable : ¬ IsPrintable (get_or bytes k 0)
  before : All IsPrintable (take k bytes)

first_at : (bytes : List ℕ) → All IsPrintable bytes ⊎ ((k : ℕ) × IsFirstAt bytes k)
first_at [] = inl (All-nil IsPrintable)
first_at (b ∷ bs) =
    elim (printable_or_not b) [
      | inl is ↦ elim (first_at bs) [
        | inl all ↦ inl (All-cons IsPrintable b bs is all)
        | inr (k, first) ↦ inr (
          suc k,
          record {
            within = let below = first.within in omega arith;
            unprintable = first.unprintable;
            before = All-cons IsPrintable b (take k bs) is first.before;
          },
        )
      ]
      | inr is_not ↦ inr (0, record { within = omega arith; unprintable = is_not; before = All-nil IsPrintable })
    ]

pub printable_or_first : (bytes : List ℕ) → All IsPrintable bytes ⊎ ((position : ℕ) × IsFirstUnprintable bytes position)
printable_or_first bytes =
    elim (first_at bytes) [
      | inl all ↦ inl all
      | inr (k, first) ↦
          let below = first.within in
          let place : k ≡ (k + 1) - 1 = omega arith in
          inr (
            k + 1,
            record {
              counted_from_1 = omega arith;
              within = omega arith;
              unprintable = subst (λ (n : ℕ). ¬ IsPrintable (get_or bytes n 0)) place first.unprintable;
              printable_before = subst (λ (n : ℕ). All IsPrintable (take n bytes)) place first.before;
            },
          )
    ]
