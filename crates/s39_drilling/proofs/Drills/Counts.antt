-- How many outcomes of a drill count as mismatches.
use Rattle.std.proofs.Common.{◌≡◌, ℕ, ◌+◌, ◌≤◌, List, ◌∷◌, length, Bool, true, false, arith, Result, Ok, Err}
use Rattle.std.specs.Prelude.{cond, filter, if◌then◌else◌}
use Rattle.s39_set.specs.Names.{Names}
use Rattle.s39_backup.specs.declared.combination.Mismatch.{Mismatch}
use Rattle.s39_kdf.specs.declared.secret_form.SecretForm.{SecretForm}
use Rattle.s39_input.specs.SecretForm.{is_unexpected}
use Rattle.s39_drilling.specs.Drill.{Listed, is_mismatch, mismatch_in, mismatches_in}

one_or_none : (b : Bool) → (if b then 1 else 0) ≤ 1
one_or_none true = omega arith
one_or_none false = omega arith

pub mismatch_most : (form : SecretForm) (outcome : Result (List ℕ) Mismatch) → mismatch_in form outcome ≤ 1
mismatch_most form (Ok secret) = one_or_none (is_unexpected form secret)
mismatch_most form (Err mismatch) = omega arith

counted : (b : Bool) (line : Listed) (rest : List Listed) → (if b then 1 else 0) + length rest ≡ length (cond b (line ∷ rest) rest)
counted true line rest = omega arith
counted false line rest = omega arith

pub mismatches-more : (form : SecretForm) (names : Names) (outcome : Result (List ℕ) Mismatch) (lines : List Listed)
    → mismatch_in form outcome + mismatches_in form lines ≡ mismatches_in form ((names, outcome) ∷ lines)
mismatches-more form names (Ok secret) lines =
    counted (is_unexpected form secret) (names, Ok secret) (filter (λ line. is_mismatch form line.1) lines)
mismatches-more form names (Err mismatch) lines = omega arith
