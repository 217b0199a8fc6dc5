-- How many quorums a drill has listed, as it is told.
use Rattle.std.proofs.Common.{◌≡◌, ◌∙◌, ◌⊎◌, ◌-◌, ◌+◌, ◌≤◌, ◌++◌, ℕ, zero, suc, All, List, [], ◌∷◌, append-nil, append_assoc, length, map, take, Bool, true, false, is_some, Option, Some, None, Result, inl, inr, refl, sym, ap, subst, arith}
use Rattle.std.specs.List.{flat_map}
use Rattle.std.proofs.Math.Seq.{take-append_seam, take-length}
use Rattle.std.proofs.lemmas.List.{length-append, map-append}
use Rattle.std.proofs.lemmas.List.Concat.{flat_map-append}
use Rattle.std.proofs.lemmas.List.Elements.{All-append, All-cons, All-nil}
use Rattle.s39_words.specs.declared.ShareFields.{ShareFields}
use Rattle.s39_set.specs.Names.{Names}
use Rattle.s39_set.specs.ShareSet.{IsShareSet}
use Rattle.s39_set.specs.Quorums.{IsFirstQuorumAfter}
use Rattle.s39_set.specs.Listing.{IsListing}
use Rattle.s39_backup.specs.declared.combination.Mismatch.{Mismatch}
use Rattle.s39_backup.specs.Outcome.{IsOutcome}
use Rattle.s39_kdf.specs.declared.secret_form.SecretForm.{SecretForm}
use Rattle.s39_input.specs.Device.{Counted}
use Rattle.s39_input.specs.Output.{WritesPart, WritesWhole}
use Rattle.s39_input.proofs.Runs.Writing.{both_written, nothing_written}
use Rattle.s39_drilling.specs.Drill.{DrillLaws, IsNext, Listed, quorum_line}
use Rattle.s39_drilling.specs.Watching.{AreSeen, WritesFirst}

-- one more is told of
pub seen_more : {P : Type 0} (sees : ℕ → P → P → Type 0) (n m : ℕ) (old mid new : P) → m ≡ suc n → AreSeen sees n old mid → sees m mid new
    → AreSeen sees m old new
seen_more sees n m old mid new is before last =
    subst (λ (k : ℕ). AreSeen sees k old new) (sym is) (mid, before, subst (λ (k : ℕ). sees k mid new) is last)

-- of a drill that starts at this quorum, the lines of so many more than are left are written before another
pub record IsCounting {W : Type 0} (contents : W → Option (List ℕ)) (old new : Counted W) (form : SecretForm) (set : List ShareFields)
    (passphrase : List ℕ) (start : Names) (limit : ℕ) (quorum : Names) (left : ℕ) : Type 0 where
  pub few : left ≤ limit
  pub lines : List Listed
  pub count : limit - left ≡ length lines
  pub outcomes : All (λ line. IsOutcome set line.0 passphrase line.1) lines
  pub written : WritesWhole contents old (flat_map (quorum_line form) lines) new
  pub goes_on : (after : Option Names) → IsFirstQuorumAfter set after start
      → (reached : Option Names) × IsFirstQuorumAfter set reached quorum
      × ((rest : List Names) → IsListing set reached left rest → IsListing set after limit (map (λ line. line.0) lines ++ rest))

module _ {W : Type 0} {contents : W → Option (List ℕ)} {form : SecretForm} where
  pub counting_starts : (output : Counted W) (set : List ShareFields) (passphrase : List ℕ) (start : Names) (limit : ℕ)
      → IsCounting contents output output form set passphrase start limit start limit
  counting_starts output set passphrase start limit = record {
    few = omega arith;
    lines = [];
    count = omega arith;
    outcomes = All-nil (λ line. IsOutcome set line.0 passphrase line.1);
    written = nothing_written contents output;
    goes_on = λ after first. (after, first, λ rest is. is);
  }

-- no quorum of the listing comes after this one
pub listing_over : (laws : DrillLaws) (set : List ShareFields) → IsShareSet set → (quorum : Names) (next : Option Names) (left : ℕ)
    → IsNext set (Some quorum) next → (left ≡ 0) ⊎ (is_some next ≡ false) → IsListing set (Some quorum) left []
listing_over laws set is quorum None left none over = laws.none set (Some quorum) left none
listing_over laws set is quorum (Some next) left first (inl reached) =
    let (listed, l) = laws.exists set (Some quorum) 0 is in
    subst (λ (n : ℕ). IsListing set (Some quorum) n []) (sym reached) (record { all = l.all; all_are = l.all_are; listed_are = refl })
listing_over laws set is quorum (Some next) left first (inr none) = absurd (let bad : true ≡ false = none in cc)

-- the names of quorums are as many as the quorums
names_length : (lines : List Listed) → length (map (λ line. line.0) lines) ≡ length lines
names_length [] = refl
names_length (line ∷ lines) = ap suc (names_length lines)

module _ {W : Type 0} {contents : W → Option (List ℕ)} {old new : Counted W} {form : SecretForm} {set : List ShareFields} {passphrase : List ℕ}
    {start : Names} {limit : ℕ} {quorum : Names} {left : ℕ} (laws : DrillLaws)
    (d : IsCounting contents old new form set passphrase start limit quorum (suc left)) where
  module _ (after : Option Names) (from : IsFirstQuorumAfter set after start) (listed : List Names) (is : IsListing set after limit listed) where
    -- the write of its line failed
    pub counting_fails : IsShareSet set → (text : List ℕ) (end : Counted W) → WritesPart contents new text end
        → (limit - suc left ≤ length listed) × WritesFirst contents old end form set passphrase (take (limit - suc left) listed)
    counting_fails is_set text end failed =
        let (reached, first, then) = d.goes_on after from in
        let (rest, r) = laws.exists set reached (suc left) is_set in
        let same : map (λ line. line.0) d.lines ++ rest ≡ listed = laws.once set after limit (map (λ line. line.0) d.lines ++ rest) listed (then rest r) is in
        let seam : take (limit - suc left) listed ≡ map (λ line. line.0) d.lines =
        subst (λ (l : List Names). take (limit - suc left) l ≡ map (λ line. line.0) d.lines) same
        (subst (λ (n : ℕ). take n (map (λ line. line.0) d.lines ++ rest) ≡ map (λ line. line.0) d.lines) (names_length d.lines ∙ sym d.count)
        (take-append_seam (map (λ line. line.0) d.lines) rest)) in
        let long = ap length same in
        let parts = length-append (map (λ line. line.0) d.lines) rest in
        let front = names_length d.lines in
        let count = d.count in (
          omega (arith, long, parts, front, count),
          record { lines = d.lines; quorums = sym seam; outcomes = d.outcomes; mid = new; written = d.written; rest = text; failed = failed },
        )

  module _ (outcome : Result (List ℕ) Mismatch) (is_outcome : IsOutcome set quorum passphrase outcome) (behind : Counted W)
      (line_written : WritesWhole contents new (quorum_line form (quorum, outcome)) behind) where
    abbrev line : Listed
    line = (quorum, outcome)

    abbrev lines : List Listed
    lines = d.lines ++ line ∷ []

    many : limit - left ≡ length lines
    many = let parts = length-append d.lines (line ∷ []) in let few = d.few in let count = d.count in omega (arith, parts, few, count)

    each : All (λ line. IsOutcome set line.0 passphrase line.1) lines
    each = All-append (λ line. IsOutcome set line.0 passphrase line.1) d.lines (line ∷ []) d.outcomes
        (All-cons (λ line. IsOutcome set line.0 passphrase line.1) line [] is_outcome (All-nil (λ line. IsOutcome set line.0 passphrase line.1)))

    text : WritesWhole contents old (flat_map (quorum_line form) lines) behind
    text =
        let one : flat_map (quorum_line form) (line ∷ []) ≡ quorum_line form line = append-nil (quorum_line form line) in
        subst (λ (t : List ℕ). WritesWhole contents old t behind)
        (ap (λ (t : List ℕ). flat_map (quorum_line form) d.lines ++ t) (sym one) ∙ sym (flat_map-append (quorum_line form) d.lines (line ∷ [])))
        (both_written contents old new behind (flat_map (quorum_line form) d.lines) (quorum_line form line) d.written line_written)

    -- the quorum is listed, and these come after it
    counted : (after : Option Names) → IsFirstQuorumAfter set after start → (rest : List Names) → IsListing set (Some quorum) left rest
        → IsListing set after limit (map (λ line. line.0) lines ++ rest)
    counted after from rest is =
        let (reached, first, then) = d.goes_on after from in
        let same : map (λ line. line.0) d.lines ++ (quorum ∷ rest) ≡ map (λ line. line.0) lines ++ rest =
        sym (append_assoc (map (λ line. line.0) d.lines) (quorum ∷ []) rest)
        ∙ ap (λ (l : List Names). l ++ rest) (sym (map-append (λ (line : Listed). line.0) d.lines (line ∷ []))) in
        subst (IsListing set after limit) same (then (quorum ∷ rest) (laws.first set reached quorum left rest first is))

    pub counting_goes_on : (next : Names) → IsFirstQuorumAfter set (Some quorum) next
        → IsCounting contents old behind form set passphrase start limit next left
    counting_goes_on next first = record {
      few = (let few = d.few in omega arith);
      lines = lines;
      count = many;
      outcomes = each;
      written = text;
      goes_on = λ after from. (Some quorum, first, counted after from);
    }

    module _ (after : Option Names) (from : IsFirstQuorumAfter set after start) (listed : List Names) (is : IsListing set after limit listed)
        (last : IsListing set (Some quorum) left []) where
      all : map (λ line. line.0) lines ≡ listed
      all = laws.once set after limit (map (λ line. line.0) lines) listed
          (subst (IsListing set after limit) (append-nil (map (λ line. line.0) lines)) (counted after from [] last)) is

      -- it was the last one
      pub counting_ends : limit - left ≡ length listed
      counting_ends = many ∙ sym (names_length lines) ∙ ap length all

      -- the write of the last line failed
      pub counting_fails_last : (rest : List ℕ) (end : Counted W) → WritesPart contents behind rest end
          → WritesFirst contents old end form set passphrase (take (limit - left) listed)
      counting_fails_last rest end failed = record {
        lines = lines;
        quorums = all ∙ sym (subst (λ (n : ℕ). take n listed ≡ listed) (sym counting_ends) (take-length listed));
        outcomes = each;
        mid = behind;
        written = text;
        rest = rest;
        failed = failed;
      }
