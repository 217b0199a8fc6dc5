-- How many lines a drill has.
use Rattle.std.proofs.Common.{◌≡◌, ℕ, ◌+◌, ◌==◌, false, List, [], ◌∷◌, ◌++◌, length, codes, refl, sym, ap, ap₂, ◌∙◌, subst, append-nil, arith}
use Rattle.std.proofs.Common.{Option, Some, None, Result, Ok, Err, Bool, true}
use Rattle.std.specs.Prelude.{if◌then◌else◌}
use Rattle.std.specs.List.{flat_map}
use Rattle.std.specs.Fmt.{decimal}
use Rattle.std.proofs.lemmas.List.{length-append}
use Rattle.std.proofs.lemmas.List.Concat.{flat_map-append}
use Rattle.std.proofs.lemmas.List.Elements.{All-nil, All-cons, All-append}
use Rattle.s39_lists.proofs.Splits.{IsWithout, joined-without}
use Rattle.s39_set.specs.Names.{Name, Names}
use Rattle.s39_set.specs.Written.{name_text, quorum_text}
use Rattle.s39_backup.specs.declared.combination.Mismatch.{Mismatch}
use Rattle.s39_backup.specs.declared.combination.Mismatch.TheVariants.{InGroup, OfGroups}
use Rattle.s39_kdf.specs.Fingerprint.{fingerprint_of}
use Rattle.s39_kdf.specs.declared.secret_form.SecretForm.{SecretForm}
use Rattle.s39_kdf.specs.declared.secret_form.SecretForm.TheVariants.{Digits, Fingerprint, Expected}
use Rattle.s39_kdf.specs.Noted.{has_fingerprint}
use Rattle.s39_input.specs.SecretForm.{secret_in}
use Rattle.s39_drilling.specs.Drill.{Listed, mismatch_text, outcome_text, quorum_line, last_line}
use Rattle.s39_input.specs.Input.{ended_line, lines_in, bytes_before_last}
use Rattle.s39_drilling.specs.Slices.{IsLines}
use Rattle.s39_input.proofs.Texts.LineFeeds.{without_feed, decimal-feedless, hex-feedless, last_counted}

-- ---- lines of a text

pub no_lines : IsLines [] 0
no_lines = record { lines = []; each = All-nil (IsWithout 10); text_is = refl; count_is = refl }

pub one_line : (line : List ℕ) → IsWithout 10 line → IsLines (ended_line line) 1
one_line line clear = record {
  lines = line ∷ [];
  each = All-cons (IsWithout 10) line [] clear (All-nil (IsWithout 10));
  text_is = sym (append-nil (ended_line line));
  count_is = refl;
}

pub more_lines : {text rest : List ℕ} {m n : ℕ} → IsLines text m → IsLines rest n → IsLines (text ++ rest) (m + n)
more_lines p q = record {
  lines = p.lines ++ q.lines;
  each = All-append (IsWithout 10) p.lines q.lines p.each q.each;
  text_is = ap₂ (λ (a b : List ℕ). a ++ b) p.text_is q.text_is ∙ sym (flat_map-append ended_line p.lines q.lines);
  count_is = ap₂ (λ (a b : ℕ). a + b) p.count_is q.count_is ∙ sym (length-append p.lines q.lines);
}

-- ---- what a drill writes

name-feedless : (name : Name) → IsWithout 10 (name_text name)
name-feedless name =
    All-append (λ b. (b == 10) ≡ false) (decimal name.0) (46 ∷ decimal name.1) (decimal-feedless name.0)
    (All-cons (λ b. (b == 10) ≡ false) 46 (decimal name.1) refl (decimal-feedless name.1))

names-feedless : (names : Names) → IsWithout 10 (quorum_text names)
names-feedless names = joined-without 43 10 name_text (λ e. omega (arith, e)) names (λ k d within. name-feedless _)

told-feedless : (is : Bool) → IsWithout 10 (if is then codes "as expected" else codes "other secret")
told-feedless true = without_feed (codes "as expected") refl
told-feedless false = without_feed (codes "other secret") refl

secret-feedless : (form : SecretForm) (secret : List ℕ) → IsWithout 10 (secret_in form secret)
secret-feedless Digits secret = hex-feedless secret
secret-feedless Fingerprint secret = hex-feedless (fingerprint_of secret)
secret-feedless (Expected noted) secret = told-feedless (has_fingerprint noted secret)

mismatch-feedless : (mismatch : Mismatch) → IsWithout 10 (mismatch_text mismatch)
mismatch-feedless (InGroup group) =
    All-append (λ b. (b == 10) ≡ false) (codes "digest mismatch in group ") (decimal group)
    (without_feed (codes "digest mismatch in group ") refl) (decimal-feedless group)
mismatch-feedless OfGroups = without_feed (codes "digest mismatch of groups") refl

outcome-feedless : (form : SecretForm) (outcome : Result (List ℕ) Mismatch) → IsWithout 10 (outcome_text form outcome)
outcome-feedless form (Ok secret) = secret-feedless form secret
outcome-feedless form (Err mismatch) = mismatch-feedless mismatch

-- the line of a quorum is one line
pub line_of_quorum : (form : SecretForm) (listed : Listed) → IsLines (quorum_line form listed) 1
line_of_quorum form listed =
    one_line (quorum_text listed.0 ++ 32 ∷ outcome_text form listed.1)
    (All-append (λ b. (b == 10) ≡ false) (quorum_text listed.0) (32 ∷ outcome_text form listed.1) (names-feedless listed.0)
    (All-cons (λ b. (b == 10) ≡ false) 32 (outcome_text form listed.1) refl (outcome-feedless form listed.1)))

pub lines_of_quorums : (form : SecretForm) (listed : List Listed) → IsLines (flat_map (quorum_line form) listed) (length listed)
lines_of_quorums form [] = no_lines
lines_of_quorums form (first ∷ listed) =
    let count : 1 + length listed ≡ length (first ∷ listed) = omega arith in
    subst (IsLines (quorum_line form first ++ flat_map (quorum_line form) listed)) count
    (more_lines (line_of_quorum form first) (lines_of_quorums form listed))

-- the last line, without its line feed
abbrev last_text : Option Names → List ℕ
last_text None = codes "end"
last_text (Some names) = codes "more after " ++ quorum_text names

last_text-is : (more : Option Names) → last_line more ≡ ended_line (last_text more)
last_text-is None = refl
last_text-is (Some names) = refl

last-feedless : (more : Option Names) → IsWithout 10 (last_text more)
last-feedless None = without_feed (codes "end") refl
last-feedless (Some names) =
    All-append (λ b. (b == 10) ≡ false) (codes "more after ") (quorum_text names) (without_feed (codes "more after ") refl) (names-feedless names)

-- lines and the last line: how many they are, and where the last starts
pub lines_and_last : {text : List ℕ} {n : ℕ} → IsLines text n → (more : Option Names)
    → (n + 1 ≡ lines_in (text ++ last_line more)) × (length text ≡ bytes_before_last (text ++ last_line more))
lines_and_last {text} {n} p more =
    let whole : text ++ last_line more ≡ flat_map ended_line p.lines ++ ended_line (last_text more) =
    ap₂ (λ (a b : List ℕ). a ++ b) p.text_is (last_text-is more) in
    let both = last_counted p.lines (last_text more) p.each (last-feedless more) in (
      ap (λ k. k + 1) p.count_is ∙ sym both.0 ∙ sym (ap lines_in whole),
      ap length p.text_is ∙ sym both.1 ∙ sym (ap bytes_before_last whole),
    )
