-- What calls give step by step is one thing, and there is one.
use Rattle.std.proofs.Common.{◌≡◌, ℕ, List, [], ◌++◌, length, drop, refl, sym, ap, ◌∙◌, subst, inl, inr, arith, Result, Ok, Err}
use Rattle.std.proofs.lemmas.Bool.{cases_lt}
use Rattle.s39_input.proofs.Steps.{AtMostOne, AtLeastOne}
use Rattle.s39_input.specs.declared.fault.Fault.{Fault}
use Rattle.s39_c.specs.declared.answer.ShamirAnswer.{ShamirAnswer}
use Rattle.s39_c.specs.Answers.{GivesAs, GivesOutputAs, Step, Writes, filled, refused, too_short}

-- a slice and an answer are one
abbrev pub Once : (List ℕ → ShamirAnswer → Type 0) → Type 0
Once Gives = (new other : List ℕ) (answer another : ShamirAnswer) → Gives new answer → Gives other another → (new ≡ other) × (answer ≡ another)

-- there are such a slice and answer
abbrev pub Given : (List ℕ → ShamirAnswer → Type 0) → Type 0
Given Gives = (new : List ℕ) × (answer : ShamirAnswer) × Gives new answer

-- the same text is given in one way
pub gives_as_once : (success : ShamirAnswer) (text old : List ℕ) → Once (GivesAs success text old)
gives_as_once success text old new other answer another (inl (fits, is, says)) (inl (also, same, too)) = (is ∙ sym same, says ∙ sym too)
gives_as_once success text old new other answer another (inl (fits, is, says)) (inr (long, same, too)) = absurd (omega (arith, fits, long))
gives_as_once success text old new other answer another (inr (long, is, says)) (inl (fits, same, too)) = absurd (omega (arith, fits, long))
gives_as_once success text old new other answer another (inr (long, is, says)) (inr (also, same, too)) = (is ∙ sym same, says ∙ sym too)

pub gives_as_some : (success : ShamirAnswer) (text old : List ℕ) → Given (GivesAs success text old)
gives_as_some success text old = elim (cases_lt (length old) (length text)) [
  | inl short ↦ (old, too_short (length text), inr (short, refl, refl))
  | inr fits ↦ (text ++ drop (length text) old, success, inl (fits, refl, refl))
]

-- ---- a step

module _ {A E : Type 0} (First : Result A E → Type 0) (refusal : E → ShamirAnswer) (Next : A → List ℕ → ShamirAnswer → Type 0) (old : List ℕ) where
  pub step_once : AtMostOne First → ((a : A) → First (Ok a) → Once (Next a)) → Once (Step First refusal Next old)
  step_once first next new other answer another (inl (e, p, is, says)) (inl (d, q, is', says')) =
      let same = first (Err e) (Err d) p q in let cause : e ≡ d = cc in (is ∙ sym is', says ∙ ap refusal cause ∙ sym says')
  step_once first next new other answer another (inl (e, p, is, says)) (inr (a, q, given)) = let differ = first (Err e) (Ok a) p q in absurd (cc)
  step_once first next new other answer another (inr (a, p, given)) (inl (e, q, is, says)) = let differ = first (Ok a) (Err e) p q in absurd (cc)
  step_once first next new other answer another (inr (a, p, given)) (inr (b, q, also)) =
      let same = first (Ok a) (Ok b) p q in let here : b ≡ a = cc in
      next a p new other answer another given (subst (λ c. Next c other another) here also)

  pub step_some : AtLeastOne First → ((a : A) → First (Ok a) → Given (Next a)) → Given (Step First refusal Next old)
  step_some (Ok a, p) next = let (new, answer, given) = next a p in (new, answer, inr (a, p, given))
  step_some (Err e, p) next = (old, refusal e, inl (e, p, refl, refl))

  -- ---- a step with a struct

  module _ {T : Type 0} (this : A → T) (before : T) where
    -- what the step gives, with this struct
    abbrev Fills : T → Result A E → Type 0
    Fills after result = First result × (after ≡ filled this before result)

    -- the struct is one too
    pub filled_once : AtMostOne First → ((a : A) → First (Ok a) → Once (Next a)) → (after also : T) (new other : List ℕ) (answer another : ShamirAnswer)
        → Step (Fills after) refusal Next old new answer → Step (Fills also) refusal Next old other another
        → (after ≡ also) × (new ≡ other) × (answer ≡ another)
    filled_once first next after also new other answer another (inl (e, (p, fills), same, says)) (inl (d, (q, fills'), same', says')) =
        let both = step_once first next new other answer another (inl (e, p, same, says)) (inl (d, q, same', says')) in
        (fills ∙ ap (filled this before) (first (Err e) (Err d) p q) ∙ sym fills', both.0, both.1)
    filled_once first next after also new other answer another (inl (e, (p, fills), same, says)) (inr (b, (q, fills'), given')) =
        let both = step_once first next new other answer another (inl (e, p, same, says)) (inr (b, q, given')) in
        (fills ∙ ap (filled this before) (first (Err e) (Ok b) p q) ∙ sym fills', both.0, both.1)
    filled_once first next after also new other answer another (inr (a, (p, fills), given)) (inl (d, (q, fills'), same', says')) =
        let both = step_once first next new other answer another (inr (a, p, given)) (inl (d, q, same', says')) in
        (fills ∙ ap (filled this before) (first (Ok a) (Err d) p q) ∙ sym fills', both.0, both.1)
    filled_once first next after also new other answer another (inr (a, (p, fills), given)) (inr (b, (q, fills'), given')) =
        let both = step_once first next new other answer another (inr (a, p, given)) (inr (b, q, given')) in
        (fills ∙ ap (filled this before) (first (Ok a) (Ok b) p q) ∙ sym fills', both.0, both.1)

    pub filled_some : AtLeastOne First → ((a : A) → First (Ok a) → Given (Next a))
        → (after : T) × (new : List ℕ) × (answer : ShamirAnswer) × Step (Fills after) refusal Next old new answer
    filled_some (Ok a, p) next = let (new, answer, given) = next a p in (this a, new, answer, inr (a, (p, refl), given))
    filled_some (Err e, p) next = (before, old, refusal e, inl (e, (p, refl), refl, refl))

-- ---- the output of a command

-- there is one output
abbrev pub OneOutput : (List ℕ → Result (Unit {0}) Fault → Type 0) → Type 0
OneOutput IsOutput = (text other : List ℕ) (answer another : Result (Unit {0}) Fault) → IsOutput text answer → IsOutput other another
    → (text ≡ other) × (answer ≡ another)

module _ (success : List ℕ → ShamirAnswer) (IsOutput : List ℕ → Result (Unit {0}) Fault → Type 0) (old : List ℕ) where
  writes_once : OneOutput IsOutput → AtMostOne (Writes IsOutput)
  writes_once once (Ok text) (Ok other) p q = ap Ok (once text other (Ok tt) (Ok tt) p q).0
  writes_once once (Ok text) (Err fault) p q = let differ = (once text [] (Ok tt) (Err fault) p q).1 in absurd (cc)
  writes_once once (Err fault) (Ok text) p q = let differ = (once [] text (Err fault) (Ok tt) p q).1 in absurd (cc)
  writes_once once (Err fault) (Err other) p q = let same = (once [] [] (Err fault) (Err other) p q).1 in cc

  pub output_once : OneOutput IsOutput → Once (GivesOutputAs success IsOutput old)
  output_once once = step_once (Writes IsOutput) refused _ old (writes_once once) (λ text _. gives_as_once (success text) text old)
