-- How long the first line of a drill is, with the last line behind it.
use Rattle.std.proofs.Common.{◌≡◌, ℕ, ◌+◌, ◌*◌, ◌<◌, ◌≤◌, List, [], ◌∷◌, ◌++◌, length, map, replicate, All, sym, ap, subst, arith}
use Rattle.std.proofs.Common.{Option, Some, None, Result, Ok, Err}
use Rattle.std.specs.Prelude.{IfSome, codes, Bool, true, false, if◌then◌else◌}
use Rattle.std.specs.Fmt.{decimal}
use Rattle.std.specs.List.{flat_map}
use Rattle.std.proofs.lemmas.List.{length-append, length-map, length-take, length-replicate}
use Rattle.std.proofs.lemmas.List.Elements.{All-head}
use Rattle.hex.specs.Hex.{encode_lower, lower_digits}
use Rattle.hex.proofs.HexLemmas.{length-encode_with}
use Rattle.s39_kdf.specs.Fingerprint.{fingerprint_length, fingerprint_of}
use Rattle.s39_kdf.specs.Hmac.{hmac}
use Rattle.s39_kdf.specs.Limits.{longest_secret, IsSecretLength}
use Rattle.s39_words.specs.declared.ShareFields.{ShareFields}
use Rattle.s39_set.specs.Names.{Names, AreNames, most_groups}
use Rattle.s39_set.specs.Quorums.{IsQuorum}
use Rattle.s39_set.specs.ShareSet.{IsShareSet}
use Rattle.s39_set.specs.Written.{quorum_text, IsWrittenForm}
use Rattle.s39_backup.specs.declared.combination.Mismatch.{Mismatch}
use Rattle.s39_backup.specs.declared.combination.Mismatch.TheVariants.{InGroup, OfGroups}
use Rattle.s39_backup.specs.Outcome.{IsOutcome}
use Rattle.s39_drilling.specs.declared.drill.Done.{Done}
use Rattle.s39_input.specs.declared.fault.Fault.{Fault}
use Rattle.s39_kdf.specs.declared.secret_form.SecretForm.{SecretForm}
use Rattle.s39_kdf.specs.declared.secret_form.SecretForm.TheVariants.{Digits, Fingerprint, Expected}
use Rattle.s39_kdf.specs.Noted.{has_fingerprint}
use Rattle.s39_input.specs.SecretForm.{secret_in}
use Rattle.s39_input.specs.Accepted.{CheckedSetLaws}
use Rattle.s39_input.specs.Input.{Input}
use Rattle.s39_drilling.specs.Drill.{Listed, outcome_text, quorum_line, last_line, last_reached, GoesOn, IsDrill, IsDrillOutput}
use Rattle.s39_input.specs.Lengths.{longest_names}
use Rattle.s39_drilling.specs.Lengths.{longest_listing}
use Rattle.s39_input.specs.Steps.{gives, refuses}
use Rattle.s39_drilling.proofs.Drills.Complete.{listed_quorums}
use Rattle.s39_input.proofs.Texts.Names.{length-index}
use Rattle.s39_input.proofs.Texts.AllNames.{all_names, all_are_names}
use Rattle.s39_input.proofs.Texts.NamesShort.{length-all, names_short}

-- an outcome whose secret is no longer than a secret may be, or whose group is one that there may be
abbrev InRange : Result (List ℕ) Mismatch → Type 0
InRange (Ok secret) = length secret ≤ longest_secret
InRange (Err (InGroup group)) = group < most_groups
InRange (Err OfGroups) = Unit {0}

length-digits : (secret : List ℕ) → length (encode_lower secret) ≡ 2 * length secret
length-digits secret = length-encode_with lower_digits secret

-- no form of a secret takes more than its digits may
told_short : (is : Bool) → length (if is then codes "as expected" else codes "other secret") ≤ 2 * longest_secret
told_short true = omega arith
told_short false = omega arith

secret_short : (form : SecretForm) (secret : List ℕ) → length secret ≤ longest_secret → length (secret_in form secret) ≤ 2 * longest_secret
secret_short Digits secret short = omega (arith, short, length-digits secret)
secret_short Fingerprint secret short =
    omega (arith, length-digits (fingerprint_of secret), length-take fingerprint_length (hmac (codes "shamir fingerprint") secret))
secret_short (Expected noted) secret short = told_short (has_fingerprint noted secret)

outcome_short : (form : SecretForm) (outcome : Result (List ℕ) Mismatch) → InRange outcome → length (outcome_text form outcome) ≤ 2 * longest_secret
outcome_short form (Ok secret) short = secret_short form secret short
outcome_short form (Err (InGroup group)) low =
    omega (arith, length-append (codes "digest mismatch in group ") (decimal group), length-index group low)
outcome_short form (Err OfGroups) _ = omega arith

length-line : (form : SecretForm) (names : Names) (outcome : Result (List ℕ) Mismatch)
    → length (quorum_line form (names, outcome)) ≡ length (quorum_text names) + length (outcome_text form outcome) + 2
length-line form names outcome =
    let front = quorum_text names ++ 32 ∷ outcome_text form outcome in
    omega (arith, length-append front (10 ∷ []), length-append (quorum_text names) (32 ∷ outcome_text form outcome))

length-more : (names : Names) → length (last_line (Some names)) ≡ length (quorum_text names) + 12
length-more names =
    omega (arith, length-append (codes "more after " ++ quorum_text names) (10 ∷ []), length-append (codes "more after ") (quorum_text names))

last_short : (more : Option Names) → IfSome more AreNames → length (last_line more) ≤ longest_names + 12
last_short None none = omega arith
last_short (Some names) are = omega (arith, names_short names are, length-more names)

line_short : (form : SecretForm) (listed : Listed) → AreNames listed.0 → InRange listed.1
    → length (quorum_line form listed) ≤ longest_names + 2 * longest_secret + 2
line_short form listed are within =
    omega (arith, length-line form listed.0 listed.1, names_short listed.0 are, outcome_short form listed.1 within)

module _ (written : (set : List ShareFields) (names : Names) → IsShareSet set → IsQuorum set names → IsWrittenForm (quorum_text names) names)
    (secret_in_range : (set : List ShareFields) (names : Names) (passphrase secret : List ℕ) → IsShareSet set → IsQuorum set names
    → IsOutcome set names passphrase (Ok secret) → IsSecretLength (length secret))
    (group_in_range : (set : List ShareFields) (names : Names) (passphrase : List ℕ) (group : ℕ)
    → IsOutcome set names passphrase (Err (InGroup group)) → group < most_groups) where
  module _ (form : SecretForm) (set : List ShareFields) (passphrase : List ℕ) (is : IsShareSet set) where
    names_of : (names : Names) → IsQuorum set names → AreNames names
    names_of names quorum = (written set names is quorum).are_names

    in_range : (names : Names) → IsQuorum set names → (outcome : Result (List ℕ) Mismatch) → IsOutcome set names passphrase outcome → InRange outcome
    in_range names quorum (Ok secret) o = (secret_in_range set names passphrase secret is quorum o).2
    in_range names quorum (Err (InGroup group)) o = group_in_range set names passphrase group o
    in_range names quorum (Err OfGroups) o = tt

    -- what is reached is a quorum, so what a drill goes on after is one
    names_reached : (reached more : Option Names) → IfSome reached (IsQuorum set) → GoesOn set reached more → IfSome more AreNames
    names_reached reached None quorum goes_on = tt
    names_reached reached (Some names) quorum goes_on = names_of names (subst (λ r. IfSome r (IsQuorum set)) goes_on.0 quorum)

    lines_short : (after : Option Names) → IfSome after (IsQuorum set) → (lines : List Listed) → length lines ≤ 1
        → All (IsQuorum set) (map (λ line. line.0) lines) → All (λ line. IsOutcome set line.0 passphrase line.1) lines
        → (more : Option Names) → GoesOn set (last_reached after (map (λ line. line.0) lines)) more
        → length (flat_map (quorum_line form) lines ++ last_line more) ≤ longest_listing
    lines_short after cursor [] few quorums outcomes more goes_on =
        omega (arith, last_short more (names_reached after more cursor goes_on))
    lines_short after cursor (line ∷ []) few quorums outcomes more goes_on =
        let quorum : IsQuorum set line.0 = All-head (IsQuorum set) line.0 [] quorums in
        let outcome : IsOutcome set line.0 passphrase line.1 = All-head (λ (l : Listed). IsOutcome set l.0 passphrase l.1) line [] outcomes in
        omega (
          arith,
          length-append (quorum_line form line ++ []) (last_line more),
          length-append (quorum_line form line) [],
          line_short form line (names_of line.0 quorum) (in_range line.0 quorum line.1 outcome),
          last_short more (names_reached (Some line.0) more quorum goes_on),
        )
    lines_short after cursor (line ∷ next ∷ lines) few quorums outcomes more goes_on = absurd (omega arith)

    drill_short : (after more : Option Names) (lines : List ℕ) (mismatches : ℕ) → IfSome after (IsQuorum set)
        → IsDrill form set passphrase after 1 lines more mismatches → length (lines ++ last_line more) ≤ longest_listing
    drill_short after more lines mismatches cursor d =
        let listed = map (λ line. line.0) d.lines in
        let few : length d.lines ≤ 1 =
        omega (arith, length-map d.lines (λ line. line.0), ap length d.listing.listed_are, length-take 1 d.listing.all) in
        subst (λ t. length (t ++ last_line more) ≤ longest_listing) (sym d.text_is)
        (lines_short after cursor d.lines few (listed_quorums set after 1 listed d.listing) d.outcomes more d.goes_on)

  pub output_short : CheckedSetLaws → (form : SecretForm) (passphrase : List ℕ) (after : Option Names) (input : Input) (text : List ℕ)
      (answer : Result Done Fault) → IsDrillOutput form passphrase after 1 input text answer → length text ≤ longest_listing
  output_short laws form passphrase after input text answer (refuses fault checked nothing) =
      let none : text ≡ [] = ap (λ (w : List ℕ × Result Done Fault). w.0) nothing in omega (arith, ap length none)
  output_short laws form passphrase after input text answer (gives set checked (refuses cause so nothing)) =
      let none : text ≡ [] = ap (λ (w : List ℕ × Result Done Fault). w.0) nothing in omega (arith, ap length none)
  output_short laws form passphrase after input text answer (gives set checked (gives _ so (lines, more, mismatches, drill, all))) =
      let whole : text ≡ lines ++ last_line more = ap (λ (w : List ℕ × Result Done Fault). w.0) all in
      subst (λ t. length t ≤ longest_listing) (sym whole)
      (drill_short form set passphrase (laws.is_set passphrase input set checked) after more lines mismatches so.1 drill)

-- a secret of the most bytes
abbrev longest : List ℕ
longest = replicate longest_secret 0

pub sum_reached : (names : Names) × (secret : List ℕ) × AreNames names × (length secret ≡ longest_secret)
    × (length (quorum_line Digits (names, Ok secret) ++ last_line (Some names)) ≡ longest_listing)
sum_reached = (all_names, longest, all_are_names, length-longest, reached all_names length-all longest length-longest) where
  length-longest : length longest ≡ longest_secret
  length-longest = length-replicate {A = ℕ} longest_secret 0

  reached : (names : Names) → length (quorum_text names) ≡ longest_names → (secret : List ℕ) → length secret ≡ longest_secret
      → length (quorum_line Digits (names, Ok secret) ++ last_line (Some names)) ≡ longest_listing
  reached names long secret as_long =
      omega (
        arith,
        long,
        as_long,
        length-append (quorum_line Digits (names, Ok secret)) (last_line (Some names)),
        length-line Digits names (Ok secret),
        length-digits secret,
        length-more names,
      )
