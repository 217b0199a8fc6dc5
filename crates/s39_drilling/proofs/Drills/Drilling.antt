-- A drill, a quorum at a time.
use Rattle.std.proofs.Common.{◌≡◌, ℕ, zero, suc, ◌+◌, List, [], ◌∷◌, ◌++◌, map, Bool, true, false, is_some, ◌⊎◌}
use Rattle.std.proofs.Common.{inl, inr, refl, sym, ap, ◌∙◌, subst, append_assoc, append-nil, arith, Option, Some}
use Rattle.std.proofs.Common.{None, Result}
use Rattle.std.specs.Borrow.{Bor}
use Rattle.std.specs.Bool.{then_some}
use Rattle.std.specs.Option.{option_copied}
use Rattle.std.proofs.lemmas.List.Elements.{All-nil, All-cons}
use Rattle.s39_words.specs.declared.ShareFields.{ShareFields}
use Rattle.s39_set.specs.Names.{Names}
use Rattle.s39_set.specs.ShareSet.{IsShareSet}
use Rattle.s39_set.specs.Quorums.{IsQuorum, IsFirstQuorumAfter, HasNoQuorumAfter}
use Rattle.s39_set.specs.Listing.{IsListing, IsWalk}
use Rattle.s39_backup.specs.declared.combination.Mismatch.{Mismatch}
use Rattle.s39_backup.specs.Outcome.{IsOutcome}
use Rattle.s39_kdf.specs.declared.secret_form.SecretForm.{SecretForm}
use Rattle.s39_input.specs.Device.{Counted}
use Rattle.s39_input.specs.Output.{WritesWhole, WritesPart}
use Rattle.s39_drilling.specs.Drill.{DrillLaws, quorum_line, last_line, mismatch_in, IsDrill, IsNext}
use Rattle.s39_drilling.specs.Slices.{more_after}
use Rattle.s39_drilling.proofs.Drills.Counts.{mismatches-more}
use Rattle.s39_input.proofs.Runs.Writing.{nothing_written, both_written, part_after}

-- no quorum is left
pub drill_ends : {form : SecretForm} (set : List ShareFields) (passphrase : List ℕ) (reached : Option Names) (limit : ℕ) → IsListing set reached limit []
    → HasNoQuorumAfter set reached
    → IsDrill form set passphrase reached limit [] None 0
drill_ends set passphrase reached limit listing none = record {
  lines = [];
  listing = listing;
  outcomes = All-nil (λ line. IsOutcome set line.0 passphrase line.1);
  text_is = refl;
  goes_on = none;
  mismatches_are = refl;
}

module _ (laws : DrillLaws) (set : List ShareFields) (passphrase : List ℕ) where
  -- a quorum and its outcome, and then the drill after it
  pub drill_step : {form : SecretForm} (reached : Option Names) (limit : ℕ) (names : Names) (outcome : Result (List ℕ) Mismatch)
      (text : List ℕ) (more : Option Names) (m : ℕ)
      → IsFirstQuorumAfter set reached names → IsOutcome set names passphrase outcome → IsDrill form set passphrase (Some names) limit text more m
      → IsDrill form set passphrase reached (suc limit) (quorum_line form (names, outcome) ++ text) more (mismatch_in form outcome + m)
  drill_step {form} reached limit names outcome text more m first is d = record {
    lines = (names, outcome) ∷ d.lines;
    listing = laws.first set reached names limit (map (λ line. line.0) d.lines) first d.listing;
    outcomes = All-cons (λ line. IsOutcome set line.0 passphrase line.1) (names, outcome) d.lines is d.outcomes;
    text_is = ap (λ t. quorum_line form (names, outcome) ++ t) d.text_is;
    goes_on = d.goes_on;
    mismatches_are = ap (λ n. mismatch_in form outcome + n) d.mismatches_are ∙ mismatches-more form names outcome d.lines;
  }

  module _ (is : IsShareSet set) where
    -- the limit is reached, and a quorum is left
    pub drill_stops : {form : SecretForm} (names next : Names) → IsFirstQuorumAfter set (Some names) next
        → IsDrill form set passphrase (Some names) 0 [] (Some names) 0
    drill_stops names next first =
        let (listed, l) = laws.exists set (Some names) 0 is in record {
          lines = [];
          listing = record { all = l.all; all_are = l.all_are; listed_are = refl };
          outcomes = All-nil (λ line. IsOutcome set line.0 passphrase line.1);
          text_is = refl;
          goes_on = (refl, λ none. none next first.quorum first.after);
          mismatches_are = refl;
        }

    first_of_walk : (reached : Option Names) (all : List Names) → IsWalk set reached all → (next : Option Names) × IsNext set reached next
    first_of_walk reached [] walk = (None, walk)
    first_of_walk reached (names ∷ others) walk = (Some names, walk.0)

    -- a quorum comes next, or none does
    pub next_or_none : (reached : Option Names) → (next : Option Names) × IsNext set reached next
    next_or_none reached =
        let (listed, l) = laws.exists set reached 0 is in
        first_of_walk reached l.all ((laws.walks set reached l.all).1 l.all_are)

    -- a text that a drill after some quorum has
    pub record SomeDrill (form : SecretForm) (reached : Option Names) (limit : ℕ) : Type 0 where
      pub text : List ℕ
      pub more : Option Names
      pub mismatches : ℕ
      pub drill : IsDrill form set passphrase reached limit text more mismatches

    pub drill_from : {form : SecretForm} (reached : Option Names) (names : Names) (limit : ℕ) → IsFirstQuorumAfter set reached names
        → SomeDrill form (Some names) limit → SomeDrill form reached (suc limit)
    drill_from {form} reached names limit first d =
        let (outcome, o) = laws.outcome set names passphrase is first.quorum in record {
          text = quorum_line form (names, outcome) ++ d.text;
          more = d.more;
          mismatches = mismatch_in form outcome + d.mismatches;
          drill = drill_step reached limit names outcome d.text d.more d.mismatches first o d.drill;
        }

    drill_ended : {form : SecretForm} (reached : Option Names) (limit : ℕ) → HasNoQuorumAfter set reached → SomeDrill form reached limit
    drill_ended reached limit none = record {
      text = [];
      more = None;
      mismatches = 0;
      drill = drill_ends set passphrase reached limit
          (laws.none set reached limit none) none;
    }

    drill_or_end : {form : SecretForm} (reached : Option Names) (limit : ℕ) → ((names : Names) → SomeDrill form (Some names) limit)
        → (next : Option Names) × IsNext set reached next → SomeDrill form reached (suc limit)
    drill_or_end reached limit later (None, none) = drill_ended reached (suc limit) none
    drill_or_end reached limit later (Some next, first) = drill_from reached next limit first (later next)

    -- every drill after a quorum has a text
    pub some_drill : {form : SecretForm} (names : Names) (limit : ℕ) → SomeDrill form (Some names) limit
    some_drill {form} names zero = by (next_or_none (Some names)) where
      by : (next : Option Names) × IsNext set (Some names) next → SomeDrill form (Some names) zero
      by (None, none) = drill_ended (Some names) zero none
      by (Some next, first) = record { text = []; more = Some names; mismatches = 0; drill = drill_stops names next first }
    some_drill names (suc limit) = drill_or_end (Some names) limit (λ next. some_drill next limit) (next_or_none (Some names))

    -- every drill of a set with a quorum has a text, where its limit is at least 1
    pub some_drill_of : (form : SecretForm) (reached : Option Names) (limit : ℕ) → SomeDrill form reached (suc limit)
    some_drill_of form reached limit = drill_or_end reached limit (λ next. some_drill next limit) (next_or_none reached)

-- the drill after the last listed quorum has no line
pub drill_over : {form : SecretForm} (laws : DrillLaws) (set : List ShareFields) (passphrase : List ℕ) → IsShareSet set
    → (names : Names) (next : Option Names) (left : ℕ) → IsNext set (Some names) next
    → (left ≡ 0) ⊎ (is_some next ≡ false) → IsDrill form set passphrase (Some names) left [] (more_after names next) 0
drill_over laws set passphrase is names None left none over = drill_ends set passphrase (Some names) left (laws.none set (Some names) left none) none
drill_over {form} laws set passphrase is names (Some next) left first (inl reached) =
    subst (λ (n : ℕ). IsDrill form set passphrase (Some names) n [] (Some names) 0) (sym reached) (drill_stops laws set passphrase is names next first)
drill_over laws set passphrase is names (Some next) left first (inr none) = absurd (let bad : true ≡ false = none in cc)

-- it names the quorum, where one comes after it
pub more_is : (quorum : Bor Names) (next : Option Names) (more : Bool) → more ≡ is_some next
    → option_copied (then_some more quorum) ≡ more_after quorum.now next
more_is quorum None more is = rw is refl
more_is quorum (Some next) more is = rw is refl

zero-left : (n : ℕ) → n ≡ 0 + n
zero-left n = omega arith

-- of a drill that starts at this quorum, the text before another quorum is written
pub record IsDrilling {W : Type 0} (contents : W → Option (List ℕ)) (old new : Counted W) (form : SecretForm) (set : List ShareFields)
    (passphrase : List ℕ) (start : Names) (limit : ℕ) (quorum : Names) (left mismatches : ℕ) : Type 0 where
  pub text : List ℕ
  pub written : WritesWhole contents old text new
  pub is_quorum : IsQuorum set quorum
  pub goes_on : (after : Option Names) → IsFirstQuorumAfter set after start
      → (reached : Option Names) × IsFirstQuorumAfter set reached quorum
      × ((rest : List ℕ) (more : Option Names) (m : ℕ) → IsDrill form set passphrase reached left rest more m
      → IsDrill form set passphrase after limit (text ++ rest) more (mismatches + m))

module _ {W : Type 0} {contents : W → Option (List ℕ)} {old : Counted W} {form : SecretForm}
    {set : List ShareFields} {passphrase : List ℕ} {start : Names} {limit : ℕ} where
  pub drilling_starts : IsQuorum set start → IsDrilling contents old old form set passphrase start limit start limit 0
  drilling_starts is = record {
    text = [];
    written = nothing_written contents old;
    is_quorum = is;
    goes_on = λ after first. (after, first, λ rest more m d. subst (λ n. IsDrill form set passphrase after limit rest more n) (zero-left m) d);
  }

  module _ {new : Counted W} {quorum : Names} {left mismatches : ℕ} (laws : DrillLaws) (outcome : Result (List ℕ) Mismatch)
      (d : IsDrilling contents old new form set passphrase start limit quorum (suc left) mismatches) (is : IsOutcome set quorum passphrase outcome) where
    abbrev line : List ℕ
    line = quorum_line form (quorum, outcome)

    -- the drill after the quorum is the rest of the drill
    joins : (after : Option Names) → IsFirstQuorumAfter set after start → (rest : List ℕ) (more : Option Names) (m : ℕ)
        → IsDrill form set passphrase (Some quorum) left rest more m
        → IsDrill form set passphrase after limit ((d.text ++ line) ++ rest) more ((mismatches + mismatch_in form outcome) + m)
    joins after first rest more m later =
        let (reached, from, then) = d.goes_on after first in
        let whole = then (line ++ rest) more (mismatch_in form outcome + m)
        (drill_step laws set passphrase reached left quorum outcome rest more m from is later) in
        let same : mismatches + (mismatch_in form outcome + m) ≡ (mismatches + mismatch_in form outcome) + m = omega arith in
        subst (λ n. IsDrill form set passphrase after limit ((d.text ++ line) ++ rest) more n) same
        (subst (λ t. IsDrill form set passphrase after limit t more (mismatches + (mismatch_in form outcome + m))) (sym (append_assoc d.text line rest)) whole)

    -- the write of its line failed
    pub drilling_fails : {after_line : Counted W} → IsShareSet set → WritesPart contents new line after_line
        → (after : Option Names) → IsFirstQuorumAfter set after start
        → (lines : List ℕ) × (more : Option Names) × (n : ℕ) × IsDrill form set passphrase after limit lines more n × WritesPart contents old
        (lines ++ last_line more) after_line
    drilling_fails {after_line} is_set part after first =
        let rest = some_drill laws set passphrase is_set quorum left in
        let whole = joins after first rest.text rest.more rest.mismatches rest.drill in
        let same : d.text ++ (line ++ (rest.text ++ last_line rest.more)) ≡ ((d.text ++ line) ++ rest.text) ++ last_line rest.more =
        sym (append_assoc d.text line (rest.text ++ last_line rest.more)) ∙ sym (append_assoc (d.text ++ line) rest.text (last_line rest.more)) in (
          (d.text ++ line) ++ rest.text,
          rest.more,
          (mismatches + mismatch_in form outcome) + rest.mismatches,
          whole,
          subst (λ t. WritesPart contents old t after_line) same (part_after contents old new after_line d.text line
              (rest.text ++ last_line rest.more) d.written part),
        )

    module _ {after_line : Counted W} (written : WritesWhole contents new line after_line) where
      both : WritesWhole contents old (d.text ++ line) after_line
      both = both_written contents old new after_line d.text line d.written written

      -- a quorum comes next
      pub drilling_goes_on : (next : Names) → IsFirstQuorumAfter set (Some quorum) next
          → IsDrilling contents old after_line form set passphrase start limit next left (mismatches + mismatch_in form outcome)
      drilling_goes_on next first = record {
        text = d.text ++ line;
        written = both;
        is_quorum = first.quorum;
        goes_on = λ after from. (Some quorum, first, joins after from);
      }

      module _ (more : Option Names) (last : IsDrill form set passphrase (Some quorum) left [] more 0) (end : Counted W) (after : Option Names)
          (first : IsFirstQuorumAfter set after start) where
        whole : IsDrill form set passphrase after limit (d.text ++ line) more (mismatches + mismatch_in form outcome)
        whole =
            let n : (mismatches + mismatch_in form outcome) + 0 ≡ mismatches + mismatch_in form outcome = omega arith in
            subst (λ k. IsDrill form set passphrase after limit (d.text ++ line) more k) n
            (subst (λ t. IsDrill form set passphrase after limit t more ((mismatches + mismatch_in form outcome) + 0)) (append-nil (d.text ++ line))
            (joins after first [] more 0 last))

        -- the last line is written
        pub drilling_ends : WritesWhole contents after_line (last_line more) end
            → (lines : List ℕ) × (more : Option Names) × IsDrill form set passphrase after limit lines more
            (mismatches + mismatch_in form outcome) × WritesWhole contents old (lines ++ last_line more) end
        drilling_ends w = (d.text ++ line, more, whole, both_written contents old after_line end (d.text ++ line) (last_line more) both w)

        -- its write failed
        pub drilling_fails_last : WritesPart contents after_line (last_line more) end
            → (lines : List ℕ) × (more : Option Names) × (n : ℕ) × IsDrill form set passphrase after limit lines more n × WritesPart contents old
            (lines ++ last_line more) end
        drilling_fails_last part = (
          d.text ++ line,
          more,
          mismatches + mismatch_in form outcome,
          whole,
          subst (λ t. WritesPart contents old t end) (ap (λ l. (d.text ++ line) ++ l) (append-nil (last_line more)))
              (part_after contents old after_line end (d.text ++ line) (last_line more) [] both part),
        )
