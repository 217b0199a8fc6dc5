-- Why a job isn't begun.
use Rattle.std.proofs.Common.{◌≡◌, ℕ, Bor, List, Option, Some, None, IsSomeAnd, subst, sym}
use Rattle.s39_kdf.specs.declared.secret_form.SecretForm.{SecretForm}
use Rattle.s39_command.specs.declared.command.Job.{Job}
use Rattle.s39_command.specs.declared.command.Job.TheVariants.{Drill}
use Rattle.s39_set.specs.Names.{Names}
use Rattle.s39_command.specs.Command.{text_in}
use Rattle.s39_cli.specs.Outcome.{HasBadCursor, HasBadFingerprint, IsCursor, WritesNoFingerprint, WritesNoNames}

-- a drill whose cursor is none isn't begun
pub bad_cursor : (job : Job) (after : Option (Bor (List ℕ))) (limit : ℕ) (form : SecretForm) (expected : Option (Bor (List ℕ)))
    → job ≡ Drill after limit form expected → IsSomeAnd after (λ text. WritesNoNames text.now) → HasBadCursor job
bad_cursor job None limit form expected is none = absurd none
bad_cursor job (Some text) limit form expected is none = subst HasBadCursor (sym is) none

-- nor is one whose fingerprint is none
pub bad_fingerprint : (job : Job) (after : Option (Bor (List ℕ))) (limit : ℕ) (form : SecretForm)
    (expected : Option (Bor (List ℕ))) (names : Option Names) → job ≡ Drill after limit form expected → IsCursor after names
    → IsSomeAnd (text_in expected) WritesNoFingerprint → HasBadFingerprint job
bad_fingerprint job None limit form expected names is cursor none = subst HasBadFingerprint (sym is) (tt, none)
bad_fingerprint job (Some text) limit form expected names is cursor none =
    subst HasBadFingerprint (sym is) ((cursor.0, cursor.2), none)
