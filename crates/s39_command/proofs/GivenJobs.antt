-- The words of a command give the call that is asked for.
use Rattle.std.proofs.Common.{◌≡◌, ◌∙◌, List, codes, Option, Some, None, ap, option_map, refl, subst, sym, unwrap_or}
use Rattle.std.specs.Prelude.{option_and_then, slice_get}
use Rattle.std.specs.Option.{option_or}
use Rattle.std.specs.Str.Parse.{digits_value, without_leading_plus}
use Rattle.clap.specs.Lexer.{without_minus}
use Rattle.clap.specs.Walk.{row_text}
use Rattle.clap.specs.Words.{Row, Shape, Text, first_of, one_of}
use Rattle.s39_clap.specs.Arguments.{Given, given_for}
use Rattle.s39_clap.specs.Found.{HasNumber}
use Rattle.s39_clap.proofs.Arguments.{row_at}
use Rattle.s39_clap.proofs.FoundArguments.{default_row}
use Rattle.s39_kdf.specs.declared.secret_form.SecretForm.{SecretForm}
use Rattle.s39_kdf.specs.declared.secret_form.SecretForm.TheVariants.{Digits, Fingerprint, Expected}
use Rattle.s39_command.specs.declared.command.BadValues.{BadValues}
use Rattle.s39_command.specs.declared.command.BadValues.TheVariants.{NoSecret, TwoSecrets, TwoPassphrases, TwoForms, RandomInput}
use Rattle.s39_command.specs.declared.command.Job.{Job}
use Rattle.s39_command.specs.declared.command.Job.TheVariants as job
use Rattle.s39_command.specs.Command.{Gives, HasBadValues, HasTwoForms, HasTwoPassphrases, HasTwoSecrets, IsFormSaid, IsGiven, LacksSecret, shamir_app, text_at}
use Rattle.s39_command.specs.Jobs.{AsksFor, IsAskedIn, WordsGive, WordsGiveFaults, text_or}
use Rattle.s39_command.specs.Words.{AreWords, command_of, number_in}
use Rattle.s39_command.proofs.Jobs.{shape_at}
use Rattle.s39_command.proofs.OneCall.{other_text, said_same}
use Rattle.s39_command.proofs.Words.{read, read_is, text_is}

module _ (name : Text) (given : List Given) (words : List Text) (are : AreWords name given words) where
  abbrev found : List Row
  found = (read name given words are).rows

  -- an argument without a default
  abbrev TextIs : Text → Type 0
  TextIs id = first_of id found ≡ given_for given id

  record Texts : Type 0 where
    pub secret : TextIs (codes "master-secret")
    pub secret_file : TextIs (codes "master-secret-file")
    pub passphrase : TextIs (codes "passphrase")
    pub passphrase_file : TextIs (codes "passphrase-file")
    pub expect : TextIs (codes "expect")
    pub after : TextIs (codes "after")
    pub plan : TextIs (codes "plan")
    pub names : TextIs (codes "names")
    pub random_file : TextIs (codes "random-file")

  texts : Texts
  unfolding shamir_app
  texts = record {
    secret = text_is name given words are (codes "master-secret") refl;
    secret_file = text_is name given words are (codes "master-secret-file") refl;
    passphrase = text_is name given words are (codes "passphrase") refl;
    passphrase_file = text_is name given words are (codes "passphrase-file") refl;
    expect = text_is name given words are (codes "expect") refl;
    after = text_is name given words are (codes "after") refl;
    plan = text_is name given words are (codes "plan") refl;
    names = text_is name given words are (codes "names") refl;
    random_file = text_is name given words are (codes "random-file") refl;
  }

  -- what is found for an argument of the command at a place
  abbrev Got : Shape → Text → Option Text → Option Row
  Got s id o = option_or (option_map (row_at s id) o) (default_row id s.rules)

  module _ (s : Shape) (command : Text) (is : name ≡ command) (named : command_of command ≡ Some s) (id : Text) where
    one_is : one_of id found ≡ option_and_then row_text (Got s id (given_for given id))
    one_is = ap (option_and_then row_text) (read_is name given words are s (ap command_of is ∙ named) id)

    first_is : first_of id found ≡ option_and_then (λ r. slice_get r.values 0) (Got s id (given_for given id))
    first_is = ap (option_and_then (λ (r : Row). slice_get r.values 0)) (read_is name given words are s (ap command_of is ∙ named) id)

  -- what is read of an argument with a default
  got : (s : Shape) (id default : Text) (reads : Row → Option Text) (as_read : Text → Text) → ((text : Text) → reads (row_at s id text) ≡ Some (as_read text))
      → option_and_then reads (default_row id s.rules) ≡ Some (as_read default) → (o : Option Text)
      → option_and_then reads (Got s id o) ≡ Some (as_read (unwrap_or o default))
  got s id default reads as_read there missing None = missing
  got s id default reads as_read there missing (Some text) = there text

  -- the number that is found is the one that is given, or else the default
  abbrev NumberIs : Text → Text → Type 0
  NumberIs id default = HasNumber id found (number_in (text_or given id default))

  exponent : name ≡ codes "create" → NumberIs (codes "exponent") (codes "0")
  unfolding shamir_app
  exponent is = ap (option_map (λ t. digits_value 10 (without_leading_plus t))) (one_is (shape_at 1) (codes "create") is refl (codes "exponent")
      ∙ got (shape_at 1) (codes "exponent") (codes "0") row_text without_minus (λ text. refl) refl (given_for given (codes "exponent")))

  limit : name ≡ codes "drill" → NumberIs (codes "limit") (codes "1000")
  unfolding shamir_app
  limit is = ap (option_map (λ t. digits_value 10 (without_leading_plus t))) (one_is (shape_at 3) (codes "drill") is refl (codes "limit")
      ∙ got (shape_at 3) (codes "limit") (codes "1000") row_text without_minus (λ text. refl) refl (given_for given (codes "limit")))

  -- and so the text of a flag
  abbrev FlagIs : Text → Type 0
  FlagIs id = one_of id found ≡ Some (text_or given id (codes "false"))

  extendable : name ≡ codes "create" → FlagIs (codes "extendable")
  unfolding shamir_app
  extendable is = one_is (shape_at 1) (codes "create") is refl (codes "extendable")
      ∙ got (shape_at 1) (codes "extendable") (codes "false") row_text (λ text. text) (λ text. refl) refl (given_for given (codes "extendable"))

  form_of_recovery : name ≡ codes "recover" → FlagIs (codes "fingerprint")
  unfolding shamir_app
  form_of_recovery is = one_is (shape_at 2) (codes "recover") is refl (codes "fingerprint")
      ∙ got (shape_at 2) (codes "fingerprint") (codes "false") row_text (λ text. text) (λ text. refl) refl (given_for given (codes "fingerprint"))

  form_of_drill : name ≡ codes "drill" → FlagIs (codes "fingerprint")
  unfolding shamir_app
  form_of_drill is = one_is (shape_at 3) (codes "drill") is refl (codes "fingerprint")
      ∙ got (shape_at 3) (codes "fingerprint") (codes "false") row_text (λ text. text) (λ text. refl) refl (given_for given (codes "fingerprint"))

  fingerprint : name ≡ codes "drill" → first_of (codes "fingerprint") found ≡ Some (text_or given (codes "fingerprint") (codes "false"))
  unfolding shamir_app
  fingerprint is = first_is (shape_at 3) (codes "drill") is refl (codes "fingerprint")
      ∙ got (shape_at 3) (codes "fingerprint") (codes "false") (λ r. slice_get r.values 0) (λ text. text) (λ text. refl) refl
      (given_for given (codes "fingerprint"))

  form_said : (form : SecretForm) → one_of (codes "fingerprint") found ≡ Some (text_or given (codes "fingerprint") (codes "false")) → IsAskedIn given form
      → IsFormSaid found form
  form_said Digits one asked = one ∙ ap (λ (t : Text). Some t) asked
  form_said Fingerprint one asked = one ∙ ap (λ (t : Text). Some t) asked
  form_said (Expected noted) one asked = absurd asked

  gives : (j : Job) → AsksFor name given j → Gives name found j
  gives job.Show asks = asks
  gives (job.Create text e x) (is, text_given, number, said) = (
    is,
    texts.plan ∙ text_given,
    subst (HasNumber (codes "exponent") found) (sym number) (exponent is),
    extendable is ∙ ap (λ (t : Text). Some t) said,
  )
  gives (job.Recover form e) (is, asked, expected) = (is, form_said form (form_of_recovery is) asked, expected ∙ sym texts.expect)
  gives (job.Drill a n form e) (is, start, number, asked, expected) = (
    is,
    start ∙ sym texts.after,
    subst (HasNumber (codes "limit") found) (sym number) (limit is),
    form_said form (form_of_drill is) asked,
    expected ∙ sym texts.expect,
  )
  gives job.Status asks = asks
  gives (job.Reissue text listed) (is, text_given, listed_given) = (is, texts.plan ∙ text_given, texts.names ∙ listed_given)
  gives job.Repair asks = asks
  gives (job.Resplit text file) (is, text_given, file_given) = (is, texts.plan ∙ text_given, texts.random_file ∙ file_given)

  -- ---- the faults of values

  to_found : (id : Text) → TextIs id → IsGiven id (given_for given) → IsGiven id (text_at found)
  to_found id same (text, is) = (text, same ∙ is)

  to_given : (id : Text) → TextIs id → IsGiven id (text_at found) → IsGiven id (given_for given)
  to_given id same (text, is) = (text, sym same ∙ is)

  lacks_found : LacksSecret name (given_for given) → LacksSecret name (text_at found)
  lacks_found (is, none, no_file) = (is, texts.secret ∙ none, texts.secret_file ∙ no_file)

  lacks_given : LacksSecret name (text_at found) → LacksSecret name (given_for given)
  lacks_given (is, none, no_file) = (is, sym texts.secret ∙ none, sym texts.secret_file ∙ no_file)

  secrets_found : HasTwoSecrets (given_for given) → HasTwoSecrets (text_at found)
  secrets_found (one, file) = (to_found (codes "master-secret") texts.secret one, to_found (codes "master-secret-file") texts.secret_file file)

  secrets_given : HasTwoSecrets (text_at found) → HasTwoSecrets (given_for given)
  secrets_given (one, file) = (to_given (codes "master-secret") texts.secret one, to_given (codes "master-secret-file") texts.secret_file file)

  passphrases_found : HasTwoPassphrases (given_for given) → HasTwoPassphrases (text_at found)
  passphrases_found (one, file) = (to_found (codes "passphrase") texts.passphrase one, to_found (codes "passphrase-file") texts.passphrase_file file)

  passphrases_given : HasTwoPassphrases (text_at found) → HasTwoPassphrases (given_for given)
  passphrases_given (one, file) = (to_given (codes "passphrase") texts.passphrase one, to_given (codes "passphrase-file") texts.passphrase_file file)

  forms_found : HasTwoForms name (given_for given) → HasTwoForms name (text_at found)
  forms_found (is, one, said) =
      (is, to_found (codes "expect") texts.expect one, fingerprint is ∙ ap (λ (o : Option Text). Some (unwrap_or o (codes "false"))) said)

  forms_given : HasTwoForms name (text_at found) → HasTwoForms name (given_for given)
  forms_given (is, one, said) = (is, to_given (codes "expect") texts.expect one, go (given_for given (codes "fingerprint")) (sym (fingerprint is) ∙ said))
    where
      go : (o : Option Text) → Some (unwrap_or o (codes "false")) ≡ Some (codes "true") → o ≡ Some (codes "true")
      go None same = absurd (other_text (codes "false") (codes "true") refl (said_same same))
      go (Some text) same = same

  bad_found : (bad : BadValues) → HasBadValues name (given_for given) bad → HasBadValues name (text_at found) bad
  bad_found NoSecret lacks = lacks_found lacks
  bad_found TwoSecrets two = secrets_found two
  bad_found TwoPassphrases (whole, single, two) = ((λ l. whole (lacks_given l)), (λ s. single (secrets_given s)), passphrases_found two)
  bad_found TwoForms (whole, single, one, two) =
      ((λ l. whole (lacks_given l)), (λ s. single (secrets_given s)), (λ p. one (passphrases_given p)), forms_found two)
  bad_found RandomInput (whole, single, one, same, (is, input)) = (
    (λ l. whole (lacks_given l)),
    (λ s. single (secrets_given s)),
    (λ p. one (passphrases_given p)),
    (λ f. same (forms_given f)),
    (is, texts.random_file ∙ input),
  )

  bad_given : (bad : BadValues) → HasBadValues name (text_at found) bad → HasBadValues name (given_for given) bad
  bad_given NoSecret lacks = lacks_given lacks
  bad_given TwoSecrets two = secrets_given two
  bad_given TwoPassphrases (whole, single, two) = ((λ l. whole (lacks_found l)), (λ s. single (secrets_found s)), passphrases_given two)
  bad_given TwoForms (whole, single, one, two) =
      ((λ l. whole (lacks_found l)), (λ s. single (secrets_found s)), (λ p. one (passphrases_found p)), forms_given two)
  bad_given RandomInput (whole, single, one, same, (is, input)) = (
    (λ l. whole (lacks_found l)),
    (λ s. single (secrets_found s)),
    (λ p. one (passphrases_found p)),
    (λ f. same (forms_found f)),
    (is, sym texts.random_file ∙ input),
  )

pub words_give : WordsGive
words_give name given words call are asks = (
  name,
  found name given words are,
  (read name given words are).met,
  gives name given words are call.job asks.job,
  record {
    secret_is = asks.values.secret_is ∙ sym (texts name given words are).secret;
    passphrase_is = asks.values.passphrase_is ∙ sym (texts name given words are).passphrase;
  },
  record {
    secret_is = asks.files.secret_is ∙ sym (texts name given words are).secret_file;
    passphrase_is = asks.files.passphrase_is ∙ sym (texts name given words are).passphrase_file;
  },
  λ bad. asks.sound (bad.0, bad_given name given words are bad.0 bad.1),
)

pub words_give_faults : WordsGiveFaults
words_give_faults name given words bad are has = (name, found name given words are, (read name given words are).met, bad_found name given words are bad has)
