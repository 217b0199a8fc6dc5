-- The input that a reader gives in a call.
use Rattle.std.proofs.Common.{◌≡◌, ◌≢◌, ℕ, ◌+◌, ◌-◌, ◌^◌, ◌<◌, ◌≤◌, min, List, [], ◌∷◌, ◌++◌, length, take, Bool, true, false, ap, refl, ◌∙◌, subst, inl, inr}
use Rattle.std.proofs.Common.{append-nil, arith, Option, Some, None, IfSome}
use Rattle.std.proofs.lemmas.Bool.{cases_lt}
use Rattle.std.specs.Io.KnownBytes.{Consumes, IsAtEnd}
use Rattle.std.proofs.KnownBytes.{Consumes-nil, Consumes-trans, Consumes-whole}
use Rattle.s39_input.specs.Device.{Counted}
use Rattle.s39_input.specs.Input.{Input, whole}
use Rattle.s39_input.specs.Runs.{OfInput}

-- a read that gave nothing took nothing
pub consumed_nothing : (a m b : Option (List ℕ)) (came buf : List ℕ) (count : ℕ) → Consumes a m came → Consumes m b (take count buf) → count ≡ 0
    → Consumes a b came
consumed_nothing a m b came buf count first last none =
    subst (Consumes a b) (ap (λ (n : ℕ). came ++ take n buf) none ∙ append-nil came) (Consumes-trans a m b came (take count buf) first last)

-- a read that didn't fail is counted, as a reader that is worn out fails
pub one_more_read : (old new : ℕ) → (2 ^ 64 - 1 ≤ old → false ≡ true) → new ≡ min (old + 1) (2 ^ 64 - 1) → new ≡ old + 1
one_more_read old new failed is = elim (cases_lt old (2 ^ 64 - 1)) [ inl more ↦ omega arith | inr worn ↦ (let not = failed worn in absurd (cc)) ]

module _ {R : Type 0} (remaining : R → Option (List ℕ)) (first reader : Counted R) (came : List ℕ) (Is : Input → Type 0)
    (consumed : Consumes (remaining first.device) (remaining reader.device) came) where
  -- the reader is at its end
  pub of_end : IsAtEnd (remaining reader.device) → reader.failures ≡ first.failures → first.reads < reader.reads
      → reader.reads ≤ first.reads + length came + 1 → Is (whole came)
      → OfInput remaining first reader Is
  of_end end same asked few is = record {
    came = came;
    consumed = consumed;
    so = inr (inl (record { of_whole = is; at_end = end; no_failure = same; asked = asked; few_reads = few }));
  }

  -- what came decides, whatever follows
  pub of_beginning : reader.failures ≡ first.failures → (0 < length came → first.reads < reader.reads) → reader.reads ≤ first.reads + length came
      → ((rest : List ℕ) (ended : Bool) → Is (record { bytes = came ++ rest; ended = ended }))
      → OfInput remaining first reader Is
  of_beginning same asked few is = record {
    came = came;
    consumed = consumed;
    so = inl (record { whatever_follows = is; no_failure = same; asked = asked; few_reads = few });
  }

  -- a read failed
  pub of_failure : reader.failures ≡ first.failures + 1 → reader.reads ≤ first.reads + length came + 1 → Is (record { bytes = came; ended = false })
      → OfInput remaining first reader Is
  of_failure more few is = record {
    came = came;
    consumed = consumed;
    so = inr (inr (record { of_beginning = is; one_failure = more; few_reads = few }));
  }

-- what holds of every input holds where nothing is read
pub of_nothing : {R : Type 0} (remaining : R → Option (List ℕ)) (reader : Counted R) (Is : Input → Type 0) → ((input : Input) → Is input)
    → OfInput remaining reader reader Is
of_nothing remaining reader Is is =
    of_beginning remaining reader reader [] Is (Consumes-nil (remaining reader.device)) refl (λ some. absurd (omega arith)) (omega arith)
    (λ rest ended. is (record { bytes = rest; ended = ended }))

-- what follows from what holds of the input
pub OfInput-map : {R : Type 0} {remaining : R → Option (List ℕ)} {first reader : Counted R} {Is Is' : Input → Type 0} → OfInput remaining first reader Is
    → ((input : Input) → Is input → Is' input) → OfInput remaining first reader Is'
OfInput-map of then = record {
  came = of.came;
  consumed = of.consumed;
  so = elim of.so [
    | inl d ↦ inl (record {
      whatever_follows = λ rest ended. then (record { bytes = of.came ++ rest; ended = ended }) (d.whatever_follows rest ended);
      no_failure = d.no_failure;
      asked = d.asked;
      few_reads = d.few_reads;
    })
    | inr (inl e) ↦ inr (inl (record {
      of_whole = then (whole of.came) e.of_whole;
      at_end = e.at_end;
      no_failure = e.no_failure;
      asked = e.asked;
      few_reads = e.few_reads;
    }))
    | inr (inr f) ↦ inr (inr (record {
      of_beginning = then (record { bytes = of.came; ended = false }) f.of_beginning;
      one_failure = f.one_failure;
      few_reads = f.few_reads;
    }))
  ];
}

-- there is an input of which it is so
pub some_input : {R : Type 0} (remaining : R → Option (List ℕ)) (first reader : Counted R) (Is : Input → Type 0) → OfInput remaining first reader Is
    → (input : Input) × Is input
some_input remaining first reader Is of = elim of.so [
  | inl d ↦ (whole (of.came ++ []), d.whatever_follows [] true)
  | inr (inl e) ↦ (whole of.came, e.of_whole)
  | inr (inr f) ↦ (record { bytes = of.came; ended = false }, f.of_beginning)
]

no_bytes : (came : List ℕ) → (0 < length came → ⊥) → came ≡ []
no_bytes [] none = refl
no_bytes (b ∷ came) none = absurd (none (omega arith))

-- where nothing is read, it is so of every input
pub of_unread : {R : Type 0} (remaining : R → Option (List ℕ)) (first reader : Counted R) (Is : Input → Type 0) → OfInput remaining first reader Is
    → reader.reads ≡ first.reads → reader.failures ≡ first.failures → (input : Input) → Is input
of_unread remaining first reader Is of reads failures input = elim of.so [
  | inl d ↦
      let none : of.came ≡ [] = no_bytes of.came (λ some. (let more = d.asked some in omega arith)) in
      subst (λ (l : List ℕ). Is (record { bytes = l ++ input.bytes; ended = input.ended })) none (d.whatever_follows input.bytes input.ended)
  | inr (inl e) ↦ (let more = e.asked in absurd (omega arith))
  | inr (inr f) ↦ (let more = f.one_failure in absurd (omega arith))
]

-- What is known of a reader that tells its bytes: where no read failed, it is so of all of them, else of those that came
-- before; and it is asked once for each of them and once more at most.

-- what holds whatever follows holds of all bytes
of_all : (a b : Option (List ℕ)) (came : List ℕ) (P : List ℕ → Type 0) → Consumes a b came → ((rest : List ℕ) → P (came ++ rest)) → IfSome a P
of_all None b came P p h = tt
of_all (Some x) None came P p h = absurd p
of_all (Some x) (Some y) came P p h = rw p (h y)

pub of_known : {R : Type 0} (remaining : R → Option (List ℕ)) (first reader : Counted R) (Is : Input → Type 0) → OfInput remaining first reader Is
    → reader.failures ≡ first.failures → IfSome (remaining first.device) (λ bytes. Is (whole bytes))
of_known remaining first reader Is of same = elim of.so [
  | inl d ↦ of_all (remaining first.device) (remaining reader.device) of.came (λ bytes. Is (whole bytes)) of.consumed (λ rest. d.whatever_follows rest true)
  | inr (inl e) ↦ Consumes-whole (remaining first.device) (remaining reader.device) of.came (λ bytes. Is (whole bytes)) of.consumed e.at_end e.of_whole
  | inr (inr f) ↦ (let more = f.one_failure in absurd (omega arith))
]

pub of_cut_off : {R : Type 0} (remaining : R → Option (List ℕ)) (first reader : Counted R) (Is : Input → Type 0) → OfInput remaining first reader Is
    → reader.failures ≢ first.failures
    → (came : List ℕ) × Consumes (remaining first.device) (remaining reader.device) came × Is (record { bytes = came; ended = false })
of_cut_off remaining first reader Is of other = elim of.so [
  | inl d ↦ absurd (other d.no_failure)
  | inr (inl e) ↦ absurd (other e.no_failure)
  | inr (inr f) ↦ (of.came, of.consumed, f.of_beginning)
]
