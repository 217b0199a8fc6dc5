-- Of the faults of values the first is told, and it is one.
use Rattle.std.proofs.Common.{◌≡◌, ◌⊎◌, ◌∙◌, ◌≤◌, Bool, true, false, List, codes, Option, Some, None, arith, inl, inr, refl, subst, sym}
use Rattle.std.specs.Str.{bytes_eq}
use Rattle.std.proofs.lemmas.Slice.Eq.{bytes_eq-Decides}
use Rattle.clap.specs.Words.{Row, Text, subcommand_of}
use Rattle.s39_command.specs.declared.command.BadValues.{BadValues}
use Rattle.s39_command.specs.declared.command.BadValues.TheVariants.{NoSecret, TwoSecrets, TwoPassphrases, TwoForms, RandomInput}
use Rattle.s39_command.specs.Command.{HasBadValues, HasTwoPassphrases, HasTwoSecrets, LacksSecret, shamir_app, text_at}
use Rattle.s39_command.specs.Faults.{FirstFault, HasFault, OneFault, SomeFault, place_of}
use Rattle.s39_command.proofs.OneCall.{one_found, other_text}

-- this holds or doesn't
abbrev IsDecided : Type 0 → Type 0
IsDecided P = P ⊎ (P → ⊥)

both_decided : {P Q : Type 0} → IsDecided P → IsDecided Q → IsDecided (P × Q)
both_decided (inl p) (inl q) = inl (p, q)
both_decided (inl p) (inr never) = inr (λ both. never both.1)
both_decided (inr never) q = inr (λ both. never both.0)

none_or_not : (o : Option Text) → IsDecided (o ≡ None)
none_or_not None = inl refl
none_or_not (Some text) = inr (λ same. cc same)

some_or_not : (o : Option Text) → IsDecided ((text : Text) × (o ≡ Some text))
some_or_not None = inr (λ some. cc some.1)
some_or_not (Some text) = inl (text, refl)

same_or_not : (a b : Text) → IsDecided (a ≡ b)
same_or_not a b = by (bytes_eq a b) refl
  where
    by : (same : Bool) → bytes_eq a b ≡ same → IsDecided (a ≡ b)
    by true is = inl ((bytes_eq-Decides a b).0 is)
    by false is = inr (other_text a b is)

lacks_or_not : (name : Text) (found : Text → Option Text) → IsDecided (LacksSecret name found)
lacks_or_not name found =
    by (same_or_not name (codes "create"))
    (both_decided (none_or_not (found (codes "master-secret"))) (none_or_not (found (codes "master-secret-file"))))
  where
    by : IsDecided (name ≡ codes "create") → IsDecided ((found (codes "master-secret") ≡ None) × (found (codes "master-secret-file") ≡ None))
        → IsDecided (LacksSecret name found)
    by (inl is) (inl none) = inl (is, none.0, none.1)
    by (inl is) (inr never) = inr (λ lacks. never (lacks.1, lacks.2))
    by (inr other) none = inr (λ lacks. other lacks.0)

-- a secret isn't given, or something is
not_lacking : (name : Text) (found : Text → Option Text) → LacksSecret name found → HasTwoSecrets found → ⊥
not_lacking name found lacks two = let none = lacks.1 in let some = two.0.1 in cc

pub first_fault : FirstFault
first_fault name found NoSecret is = (is, λ other has. omega arith)
first_fault name found TwoSecrets is = (is, λ other has. omega arith)
first_fault name found TwoPassphrases (whole, single, two) = (two, later)
  where
    later : (other : BadValues) → HasFault name found other → 1 ≤ place_of other
    later NoSecret has = absurd (whole has)
    later TwoSecrets has = absurd (single has)
    later TwoPassphrases has = omega arith
    later TwoForms has = omega arith
    later RandomInput has = omega arith
first_fault name found TwoForms (whole, single, one, two) = (two, later)
  where
    later : (other : BadValues) → HasFault name found other → 2 ≤ place_of other
    later NoSecret has = absurd (whole has)
    later TwoSecrets has = absurd (single has)
    later TwoPassphrases has = absurd (one has)
    later TwoForms has = omega arith
    later RandomInput has = omega arith
first_fault name found RandomInput (whole, single, one, same, input) = (input, later)
  where
    later : (other : BadValues) → HasFault name found other → 3 ≤ place_of other
    later NoSecret has = absurd (whole has)
    later TwoSecrets has = absurd (single has)
    later TwoPassphrases has = absurd (one has)
    later TwoForms has = absurd (same has)
    later RandomInput has = omega arith

pub some_fault : SomeFault
some_fault name found fault has =
    by (lacks_or_not name found)
    (both_decided (some_or_not (found (codes "master-secret"))) (some_or_not (found (codes "master-secret-file"))))
    (both_decided (some_or_not (found (codes "passphrase"))) (some_or_not (found (codes "passphrase-file")))) fault has
  where
    by : IsDecided (LacksSecret name found) → IsDecided (HasTwoSecrets found) → IsDecided (HasTwoPassphrases found) → (fault : BadValues)
        → HasFault name found fault → (bad : BadValues) × HasBadValues name found bad
    by (inl lacks) secrets passphrases fault has = (NoSecret, lacks)
    by (inr whole) (inl two) passphrases fault has = (TwoSecrets, two)
    by (inr whole) (inr single) (inl two) fault has = (TwoPassphrases, (whole, single, two))
    by (inr whole) (inr single) (inr one) NoSecret has = absurd (whole has)
    by (inr whole) (inr single) (inr one) TwoSecrets has = absurd (single has)
    by (inr whole) (inr single) (inr one) TwoPassphrases has = absurd (one has)
    by (inr whole) (inr single) (inr one) TwoForms has = (TwoForms, (whole, single, one, has))
    by (inr whole) (inr single) (inr one) RandomInput has =
        (RandomInput, (whole, single, one, (λ forms. other_text (codes "resplit") (codes "drill") refl (sym has.0 ∙ forms.0)), has))

one_told : (name : Text) (found : Text → Option Text) (bad other : BadValues) → HasBadValues name found bad → HasBadValues name found other → bad ≡ other
one_told name found NoSecret NoSecret is also = refl
one_told name found TwoSecrets TwoSecrets is also = refl
one_told name found TwoPassphrases TwoPassphrases is also = refl
one_told name found TwoForms TwoForms is also = refl
one_told name found RandomInput RandomInput is also = refl
one_told name found NoSecret TwoSecrets is also = absurd (not_lacking name found is also)
one_told name found TwoSecrets NoSecret is also = absurd (not_lacking name found also is)
one_told name found NoSecret TwoPassphrases is also = absurd (also.0 is)
one_told name found NoSecret TwoForms is also = absurd (also.0 is)
one_told name found TwoSecrets TwoPassphrases is also = absurd (also.1 is)
one_told name found TwoSecrets TwoForms is also = absurd (also.1 is)
one_told name found TwoPassphrases NoSecret is also = absurd (is.0 also)
one_told name found TwoForms NoSecret is also = absurd (is.0 also)
one_told name found TwoPassphrases TwoSecrets is also = absurd (is.1 also)
one_told name found TwoForms TwoSecrets is also = absurd (is.1 also)
one_told name found TwoPassphrases TwoForms is also = absurd (also.2 is.2)
one_told name found TwoForms TwoPassphrases is also = absurd (is.2 also.2)
one_told name found NoSecret RandomInput is also = absurd (also.0 is)
one_told name found TwoSecrets RandomInput is also = absurd (also.1 is)
one_told name found TwoPassphrases RandomInput is also = absurd (also.2 is.2)
one_told name found TwoForms RandomInput is also = absurd (also.3 is.3)
one_told name found RandomInput NoSecret is also = absurd (is.0 also)
one_told name found RandomInput TwoSecrets is also = absurd (is.1 also)
one_told name found RandomInput TwoPassphrases is also = absurd (is.2 also.2)
one_told name found RandomInput TwoForms is also = absurd (is.3 also.3)

pub one_fault : OneFault
one_fault = record {
  once = λ words bad other is also.
      let found : (is.0, is.1) ≡ (also.0, also.1) = one_found (subcommand_of shamir_app words) (is.0, is.1) (also.0, also.1) is.2 also.2 in
      one_told also.0 (text_at also.1) bad other (subst (λ (p : Text × List Row). HasBadValues p.0 (text_at p.1) bad) found is.3) also.3;
  no_call = λ words bad call is also.
      let found : (is.0, is.1) ≡ (also.0, also.1) = one_found (subcommand_of shamir_app words) (is.0, is.1) (also.0, also.1) is.2 also.2 in
      also.6 (bad, subst (λ (p : Text × List Row). HasBadValues p.0 (text_at p.1) bad) found is.3);
}
