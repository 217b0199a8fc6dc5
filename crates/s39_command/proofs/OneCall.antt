-- The words of a command line give one call, up to how its texts are lent.
use Rattle.std.proofs.Common.{◌≡◌, ◌∙◌, ℕ, Bool, true, false, List, codes, Option, Some, ap, ap₂, refl, subst, sym, true≢false}
use Rattle.std.specs.Str.{bytes_eq}
use Rattle.std.proofs.lemmas.Slice.Eq.{bytes_eq-Decides}
use Rattle.clap.specs.Words.{Row, Text, one_of, subcommand_of}
use Rattle.s39_clap.specs.Found.{HasNumber}
use Rattle.s39_kdf.specs.declared.secret_form.SecretForm.{SecretForm}
use Rattle.s39_kdf.specs.declared.secret_form.SecretForm.TheVariants.{Digits, Fingerprint, Expected}
use Rattle.s39_command.specs.declared.command.Job.{Job}
use Rattle.s39_command.specs.declared.command.Job.TheVariants as job
use Rattle.s39_command.specs.declared.command.Texts.{Texts}
use Rattle.s39_command.specs.Command.{AreFound, AreSameTexts, Gives, HaveSameValues, IsFormSaid, flag_text, shamir_app, text_at}
use Rattle.s39_command.specs.Words.{OneCall}

pub other_text : (a b : Text) → bytes_eq a b ≡ false → a ≡ b → ⊥
other_text a b differ same = true≢false (sym ((bytes_eq-Decides a b).1 same) ∙ differ)

pub said_same : {a b : Text} → Some a ≡ Some b → a ≡ b
said_same same = cc

-- the flag is said for one form
pub one_form : (rows : List Row) (form given : SecretForm) → IsFormSaid rows form → IsFormSaid rows given → given ≡ form
one_form rows Digits Digits is also = refl
one_form rows Fingerprint Fingerprint is also = refl
one_form rows Digits Fingerprint is also = absurd (other_text (codes "true") (codes "false") refl (said_same (sym also ∙ is)))
one_form rows Fingerprint Digits is also = absurd (other_text (codes "true") (codes "false") refl (said_same (sym is ∙ also)))
one_form rows (Expected noted) given is also = absurd is
one_form rows Digits (Expected noted) is also = absurd also
one_form rows Fingerprint (Expected noted) is also = absurd also

-- the name of a job's command
abbrev pub name_of : Job → Text
name_of job.Show = codes "show"
name_of (job.Create t e x) = codes "create"
name_of (job.Recover f e) = codes "recover"
name_of (job.Drill a l f e) = codes "drill"
name_of job.Status = codes "status"
name_of (job.Reissue t n) = codes "reissue"
name_of job.Repair = codes "repair"
name_of (job.Resplit t f) = codes "resplit"

name_given : (name : Text) (rows : List Row) (j : Job) → Gives name rows j → name ≡ name_of j
name_given name rows job.Show is = is
name_given name rows (job.Create t e x) is = is.0
name_given name rows (job.Recover f e) is = is.0
name_given name rows (job.Drill a l f e) is = is.0
name_given name rows job.Status is = is
name_given name rows (job.Reissue t n) is = is.0
name_given name rows job.Repair is = is
name_given name rows (job.Resplit t f) is = is.0

same_flag : (o : Option Text) (x y : Bool) → o ≡ Some (flag_text x) → o ≡ Some (flag_text y) → x ≡ y
same_flag o true true is also = refl
same_flag o false false is also = refl
same_flag o true false is also = absurd (other_text (codes "true") (codes "false") refl (said_same (sym is ∙ also)))
same_flag o false true is also = absurd (other_text (codes "true") (codes "false") refl (said_same (sym also ∙ is)))

same_number : (id : Text) (rows : List Row) (m n : ℕ) → HasNumber id rows m → HasNumber id rows n → m ≡ n
same_number id rows m n is also = cc

module _ (name : Text) (rows : List Row) where
  same_values : (j k : Job) → bytes_eq (name_of j) (name_of k) ≡ true → Gives name rows j → Gives name rows k → HaveSameValues j k
  same_values job.Show job.Show same is also = refl
  same_values (job.Create t e x) (job.Create t' e' x') same is also =
      let exponents = same_number (codes "exponent") rows e' e also.2 is.2 in
      let flags = same_flag (one_of (codes "extendable") rows) x' x also.3 is.3 in
      (t', ap₂ (λ (n : ℕ) (f : Bool). job.Create t' n f) exponents flags, said_same (sym is.1 ∙ also.1))
  same_values (job.Recover f e) (job.Recover f' e') same is also =
      (e', ap (λ (g : SecretForm). job.Recover g e') (one_form rows f f' is.1 also.1), is.2 ∙ sym also.2)
  same_values (job.Drill a l f e) (job.Drill a' l' f' e') same is also =
      let limits = same_number (codes "limit") rows l' l also.2 is.2 in
      let forms = one_form rows f f' is.3 also.3 in
      (a', e', ap₂ (λ (n : ℕ) (g : SecretForm). job.Drill a' n g e') limits forms, is.1 ∙ sym also.1, is.4 ∙ sym also.4)
  same_values job.Status job.Status same is also = refl
  same_values (job.Reissue t n) (job.Reissue t' n') same is also =
      (t', n', refl, said_same (sym is.1 ∙ also.1), said_same (sym is.2 ∙ also.2))
  same_values job.Repair job.Repair same is also = refl
  same_values (job.Resplit t f) (job.Resplit t' f') same is also =
      (t', f', refl, said_same (sym is.1 ∙ also.1), said_same (sym is.2 ∙ also.2))
  same_values _ _ same is also = cc same

pub one_found : (o : Option (Text × List Row)) (x y : Text × List Row) → o ≡ Some x → o ≡ Some y → x ≡ y
one_found o x y is also = cc

same_texts : (secret passphrase : Text) (found : Text → Option Text) (texts other : Texts) → AreFound secret passphrase found texts
    → AreFound secret passphrase found other → AreSameTexts texts other
same_texts secret passphrase found texts other is also =
    record { secret = is.secret_is ∙ sym also.secret_is; passphrase = is.passphrase_is ∙ sym also.passphrase_is }

pub one_call : OneCall
one_call words call other is also =
    let found : (is.0, is.1) ≡ (also.0, also.1) = one_found (subcommand_of shamir_app words) (is.0, is.1) (also.0, also.1) is.2 also.2 in
    let gives : Gives also.0 also.1 call.job = subst (λ (p : Text × List Row). Gives p.0 p.1 call.job) found is.3 in
    let rows : is.1 ≡ also.1 = ap (λ (p : Text × List Row). p.1) found in
    let names = sym (name_given also.0 also.1 call.job gives) ∙ name_given also.0 also.1 other.job also.3 in
    record {
      values = same_values also.0 also.1 call.job other.job ((bytes_eq-Decides (name_of call.job) (name_of other.job)).1 names) gives also.3;
      given = same_texts _ _ (text_at also.1) call.given other.given
          (subst (λ r. AreFound (codes "master-secret") (codes "passphrase") (text_at r) call.given) rows is.4) also.4;
      files = same_texts _ _ (text_at also.1) call.files other.files
          (subst (λ r. AreFound (codes "master-secret-file") (codes "passphrase-file") (text_at r) call.files) rows is.5) also.5;
    }
