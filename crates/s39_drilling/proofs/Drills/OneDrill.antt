-- A drill's text is one, and drills that go on after one another join.
use Rattle.std.proofs.Common.{◌≡◌, ℕ, zero, suc, ◌+◌, List, [], ◌∷◌, ◌++◌, map, take, All, Contains, refl, sym, ap, ap₂}
use Rattle.std.proofs.Common.{◌∙◌, subst, arith, Option, Some, None, Result}
use Rattle.std.specs.List.{flat_map}
use Rattle.std.proofs.lemmas.List.{map-append}
use Rattle.std.proofs.lemmas.List.Concat.{flat_map-append}
use Rattle.std.proofs.lemmas.List.Elements.{All-head, All-tail, All-append}
use Rattle.s39_lists.proofs.Sublists.{Contains-nil}
use Rattle.s39_words.specs.declared.ShareFields.{ShareFields}
use Rattle.s39_set.specs.Names.{Names}
use Rattle.s39_set.specs.ShareSet.{IsShareSet}
use Rattle.s39_set.specs.Quorums.{IsQuorum}
use Rattle.s39_set.specs.Listing.{IsListing}
use Rattle.s39_backup.specs.declared.combination.Mismatch.{Mismatch}
use Rattle.s39_backup.specs.Outcome.{IsOutcome}
use Rattle.s39_kdf.specs.declared.secret_form.SecretForm.{SecretForm}
use Rattle.s39_drilling.specs.Drill.{Listed, quorum_line, last_reached, mismatches_in, GoesOn, IsDrill}
use Rattle.s39_drilling.proofs.Drills.Complete.{listed_quorums}
use Rattle.s39_drilling.proofs.Drills.Counts.{mismatches-more}

pub goes_on_once : (set : List ShareFields) (reached more other : Option Names) → GoesOn set reached more → GoesOn set reached other → more ≡ other
goes_on_once set reached None None p q = refl
goes_on_once set reached None (Some names) p q = absurd (q.1 p)
goes_on_once set reached (Some names) None p q = absurd (p.1 q)
goes_on_once set reached (Some names) (Some others) p q = sym p.0 ∙ q.0

module _ (one_listing : (set : List ShareFields) (given : Option Names) (limit : ℕ) (listed others : List Names) → IsListing set given limit listed
    → IsListing set given limit others → listed ≡ others)
    (one_outcome : (set : List ShareFields) (names : Names) (passphrase : List ℕ) (outcome other : Result (List ℕ) Mismatch) → IsShareSet set
    → IsQuorum set names
    → IsOutcome set names passphrase outcome → IsOutcome set names passphrase other → outcome ≡ other)
    (set : List ShareFields) (passphrase : List ℕ) (is : IsShareSet set) where
  same_lines : (lines others : List Listed) → map (λ line. line.0) lines ≡ map (λ line. line.0) others → All (IsQuorum set) (map (λ line. line.0) lines)
      → All (λ line. IsOutcome set line.0 passphrase line.1) lines → All (λ line. IsOutcome set line.0 passphrase line.1) others → lines ≡ others
  same_lines [] [] same quorums p q = refl
  same_lines [] (other ∷ others) same quorums p q = absurd (cc)
  same_lines (line ∷ lines) [] same quorums p q = absurd (cc)
  same_lines ((names, outcome) ∷ lines) ((names', outcome') ∷ others) same quorums p q =
      let first : names ≡ names' = cc in
      let rest : map (λ line. line.0) lines ≡ map (λ line. line.0) others = cc in
      let quorum = All-head (IsQuorum set) names (map (λ line. line.0) lines) quorums in
      let shows = All-head (λ (line : Listed). IsOutcome set line.0 passphrase line.1) (names, outcome) lines p in
      let also = All-head (λ (line : Listed). IsOutcome set line.0 passphrase line.1) (names', outcome') others q in
      let outcomes = one_outcome set names passphrase outcome outcome' is quorum shows (subst (λ n. IsOutcome set n passphrase outcome') (sym first) also) in
      let more = same_lines lines others rest (All-tail (IsQuorum set) names (map (λ line. line.0) lines) quorums)
      (All-tail (λ (line : Listed). IsOutcome set line.0 passphrase line.1) (names, outcome) lines p)
      (All-tail (λ (line : Listed). IsOutcome set line.0 passphrase line.1) (names', outcome') others q) in
      cc

  -- a set has one drill
  pub one_drill_of_a_set : {form : SecretForm} (after : Option Names) (limit : ℕ) (text other : List ℕ) (more more' : Option Names) (m n : ℕ)
      → IsDrill form set passphrase after limit text more m
      → IsDrill form set passphrase after limit other more' n → (text ≡ other) × (more ≡ more') × (m ≡ n)
  one_drill_of_a_set {form} after limit text other more more' m n p q =
      let listed = map (λ line. line.0) p.lines in
      let names = one_listing set after limit listed (map (λ line. line.0) q.lines) p.listing q.listing in
      let lines = same_lines p.lines q.lines names (listed_quorums set after limit listed p.listing) p.outcomes q.outcomes in (
        p.text_is ∙ ap (flat_map (quorum_line form)) lines ∙ sym q.text_is,
        goes_on_once set (last_reached after listed) more more' p.goes_on (subst (λ l. GoesOn set (last_reached after l) more') (sym names) q.goes_on),
        p.mismatches_are ∙ ap (mismatches_in form) lines ∙ sym q.mismatches_are,
      )

-- ---- parts join

mismatches_in-append : (form : SecretForm) (lines others : List Listed)
    → mismatches_in form (lines ++ others) ≡ mismatches_in form lines + mismatches_in form others
mismatches_in-append form [] others = omega arith
mismatches_in-append form ((names, outcome) ∷ lines) others =
    let rest = mismatches_in-append form lines others in
    let first = mismatches-more form names outcome lines in
    let whole = mismatches-more form names outcome (lines ++ others) in
    omega (arith, rest, first, whole)

last_reached-append : (reached : Option Names) (listed others : List Names)
    → last_reached reached (listed ++ others) ≡ last_reached (last_reached reached listed) others
last_reached-append reached [] others = refl
last_reached-append reached (names ∷ listed) others = last_reached-append (Some names) listed others

-- the last of some quorums, and those before it
record EndsWith (reached : Option Names) (names : Names) (listed : List Names) : Type 0 where
  before : List Names
  last : Names
  parts : names ∷ listed ≡ before ++ last ∷ []
  is_last : last_reached reached (names ∷ listed) ≡ Some last

ends_with : (reached : Option Names) (names : Names) (listed : List Names) → EndsWith reached names listed
ends_with reached names [] = record { before = []; last = names; parts = refl; is_last = refl }
ends_with reached names (next ∷ listed) =
    let rest = ends_with (Some names) next listed in
    record { before = names ∷ rest.before; last = rest.last; parts = ap (λ l. names ∷ l) rest.parts; is_last = rest.is_last }

module _ (parts : (set : List ShareFields) (given : Option Names) (limit more : ℕ) (before : List Names) (last : Names) (others : List Names)
    → IsListing set given limit (before ++ last ∷ []) → IsListing set (Some last) more others
    → IsListing set given (limit + more) ((before ++ last ∷ []) ++ others))
    (set : List ShareFields) where
  -- a listing up to a quorum, and the listing after that one
  joined_listing : (after : Option Names) (limit more : ℕ) (listed : List Names) (names : Names) (others : List Names) → IsListing set after limit listed
      → GoesOn set (last_reached after listed) (Some names) → IsListing set (Some names) more others → IsListing set after (limit + more) (listed ++ others)
  joined_listing after zero more [] names others p goes_on q =
      subst (λ n. IsListing set after n others) (let e : more ≡ 0 + more = omega arith in e) (subst (λ a. IsListing set a more others) (sym goes_on.0) q)
  joined_listing after (suc limit) more [] names others p goes_on q = absurd (goes_on.1 (λ quorum is after_it. nothing_listed p.all p.listed_are
      ((p.all_are.each quorum).1 (is, after_it)))) where
        nothing_listed : (all : List Names) → [] ≡ take (suc limit) all → {quorum : Names} → ¬ Contains all quorum
        nothing_listed [] e among = Contains-nil _ among
        nothing_listed (first ∷ rest) e among = let bad : [] ≡ first ∷ take limit rest = e in cc
  joined_listing after limit more (first ∷ listed) names others p goes_on q =
      let end = ends_with after first listed in
      let reached : Some end.last ≡ Some names = sym end.is_last ∙ goes_on.0 in
      let same : names ≡ end.last = cc in
      subst (λ l. IsListing set after (limit + more) (l ++ others)) (sym end.parts)
      (parts set after limit more end.before end.last others (subst (IsListing set after limit) end.parts p)
      (subst (λ n. IsListing set (Some n) more others) same q))

  -- a drill up to a quorum, and the drill after that one, are one drill
  pub drills_join : {form : SecretForm} (passphrase : List ℕ) (after : Option Names) (limit extra : ℕ) (text others : List ℕ)
      (names : Names) (more : Option Names) (m n : ℕ)
      → IsDrill form set passphrase after limit text (Some names) m → IsDrill form set passphrase (Some names) extra others more n
      → IsDrill form set passphrase after (limit + extra) (text ++ others) more (m + n)
  drills_join {form} passphrase after limit extra text others names more m n p q =
      let listed = map (λ line. line.0) p.lines in
      let later = map (λ line. line.0) q.lines in
      let both : map (λ line. line.0) (p.lines ++ q.lines) ≡ listed ++ later = map-append (λ line. line.0) p.lines q.lines in record {
        lines = p.lines ++ q.lines;
        listing = subst (IsListing set after (limit + extra)) (sym both) (joined_listing after limit extra listed names later p.listing p.goes_on q.listing);
        outcomes = All-append (λ line. IsOutcome set line.0 passphrase line.1) p.lines q.lines p.outcomes q.outcomes;
        text_is = ap₂ (λ (a b : List ℕ). a ++ b) p.text_is q.text_is ∙ sym (flat_map-append (quorum_line form) p.lines q.lines);
        goes_on = subst (λ r. GoesOn set r more) (sym (ap (last_reached after) both ∙ last_reached-append after listed later
            ∙ ap (λ r. last_reached r later) p.goes_on.0)) q.goes_on;
        mismatches_are = ap₂ (λ (a b : ℕ). a + b) p.mismatches_are q.mismatches_are ∙ sym (mismatches_in-append form p.lines q.lines);
      }
