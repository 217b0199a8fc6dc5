-- Words that are taken name a subcommand.
use Rattle.std.proofs.Common.{ap, filter, subst, ◌∙◌, ◌≡◌, ◌||◌, Bool, cond, true, false, not, inl, inr, refl, sym, List, [], ◌∷◌, Option, Some, None, is_some, true≢false}
use Rattle.std.specs.Prelude.{find, option_map}
use Rattle.std.specs.List.{list_all, list_any}
use Rattle.std.specs.Option.{option_map_or}
use Rattle.std.specs.Str.{bytes_eq}
use Rattle.std.proofs.lemmas.Slice.Eq.{bytes_eq-Decides}
use Rattle.clap.specs.Facts.{explicit_source}
use Rattle.clap.specs.Walk.{Row, Text, answers_to, finished, nothing_held, rows_after, walk, walk_from}
use Rattle.clap.specs.Simple.{App, Shape, argument_words, built, entered, is_simple, label_of, names_of, rows_at, subcommand_of}
use Rattle.clap.specs.Takes.{default_passes, entered_passes, level_passes, settle_passes, takes, walk_passes}
use Rattle.clap.proofs.WalkLemmas.{both}
use Rattle.s39_clap.specs.Found.{EntersOne, IsFilled, is_single}
use Rattle.s39_clap.proofs.Filled.{level_filled}

-- a level that has to be given a subcommand, and passes, is given one
subcommand_given : (s : Shape) (names : List (Text × List Text)) (words : List Text) (has : Bool) → s.subcommand_required ≡ true
    → level_passes s names nothing_held words has ≡ true → has ≡ true
subcommand_given s names words has required passes =
    let end = (walk s.rules names nothing_held words).held in
    let rows = finished s.rules end in
    let settles = (both (walk_passes s names (walk_from nothing_held) words) _ passes).1 in
    let defaults = (both (settle_passes s.rules s.args_override_self end) _ settles).1 in
    let valid = (both (list_all default_passes s.rules) _ defaults).1 in
    let next = (both (not s.arg_required_else_help || (has || list_any (λ r. explicit_source r.source) rows)) _ valid).1 in
    go s.subcommand_required required (both (not s.subcommand_required || has) _ next).0
  where
    go : (wants : Bool) → wants ≡ true → (not wants || has) ≡ true → has ≡ true
    go true is given = given
    go false is given = absurd (true≢false (sym is))

enters_found : (p : Text × List Text) (subs : List Shape) → list_all is_single subs ≡ true
    → is_some (option_map (λ s. rows_at s p.1) (find (λ s. answers_to p.0 (label_of s)) subs)) ≡ true
    → option_map_or (λ s. level_passes s [] nothing_held p.1 false) (find (λ s. answers_to p.0 (label_of s)) subs) true ≡ true
    → EntersOne subs (option_map (λ s. rows_at s p.1) (find (λ s. answers_to p.0 (label_of s)) subs))
enters_found p [] single has passes = absurd (true≢false (sym has))
enters_found p (s ∷ rest) single has passes =
    let parts = both (is_single s) (list_all is_single rest) single in
    go (answers_to p.0 (label_of s)) (λ here. level_filled s p.1 parts.0 here) (enters_found p rest parts.1) has passes
  where
    rest_found : Option Shape
    rest_found = find (λ x. answers_to p.0 (label_of x)) rest

    go : (b : Bool) → (level_passes s [] nothing_held p.1 false ≡ true → IsFilled s.rules (rows_after s.rules [] p.1))
        → (is_some (option_map (λ x. rows_at x p.1) rest_found) ≡ true → option_map_or (λ x. level_passes x [] nothing_held p.1 false) rest_found true ≡ true
        → EntersOne rest (option_map (λ x. rows_at x p.1) rest_found))
        → is_some (option_map (λ x. rows_at x p.1) (cond b (Some s) rest_found)) ≡ true
        → option_map_or (λ x. level_passes x [] nothing_held p.1 false) (cond b (Some s) rest_found) true ≡ true
        → EntersOne (s ∷ rest) (option_map (λ x. rows_at x p.1) (cond b (Some s) rest_found))
    go true filled later has passes = inl (rows_after s.rules [] p.1, refl, filled passes)
    go false filled later has passes = inr (later has passes)

-- words that a command takes, which has to be given a subcommand, name one of its subcommands
pub taken_enters_one : (a : App) (words : List Text) → list_all is_single (built a).subs ≡ true → (built a).top.subcommand_required ≡ true
    → takes a words ≡ true → EntersOne (built a).subs (subcommand_of a words)
taken_enters_one a words single required taken =
    let b = built a in
    let given = argument_words a words in
    let stop = (walk b.top.rules (names_of b) nothing_held given).stopped in
    let passes = both (entered_passes b stop) _ (both (is_simple a) _ taken).1 in
    go stop (subcommand_given b.top (names_of b) given (is_some (entered b stop)) required passes.1) passes.0
  where
    go : (stop : Option (Text × List Text)) → is_some (entered (built a) stop) ≡ true → entered_passes (built a) stop ≡ true → EntersOne (built a).subs
        (entered (built a) stop)
    go None has passes = absurd (true≢false (sym has))
    go (Some p) has passes = enters_found p (built a).subs single has passes

-- and then there is one
pub enters_some : (subs : List Shape) (found : Option (Text × List Row)) → EntersOne subs found → is_some found ≡ true
enters_some [] found enters = absurd enters
enters_some (s ∷ rest) found (inl here) = ap is_some here.1
enters_some (s ∷ rest) found (inr later) = enters_some rest found later

-- ---- a name picks its command

same_entered : (f g : Text × List Row) → Some f ≡ Some g → (f.0 ≡ g.0) × (f.1 ≡ g.1)
same_entered f g same = (cc, cc)

-- the commands of a name
abbrev pub named : Text → List Shape → List Shape
named name = filter (λ s. bytes_eq s.name name)

none_entered : (subs : List Shape) (name : Text) (rows : List Row) → named name subs ≡ [] → EntersOne subs (Some (name, rows)) → ⊥
none_entered [] name rows none enters = enters
none_entered (s ∷ rest) name rows none enters = go (bytes_eq s.name name) refl none (none_entered rest name rows) enters
  where
    go : (b : Bool) → bytes_eq s.name name ≡ b → cond b (s ∷ named name rest) (named name rest) ≡ []
        → (named name rest ≡ [] → EntersOne rest (Some (name, rows)) → ⊥) → EntersOne (s ∷ rest) (Some (name, rows)) → ⊥
    go true is none later enters = cc
    go false is none later (inl here) = true≢false (sym ((bytes_eq-Decides s.name name).1 (sym (same_entered _ _ here.1).0)) ∙ is)
    go false is none later (inr there) = later none there

-- what is found for the only command of a name fills that command's arguments
pub entered_fills : (subs : List Shape) (name : Text) (rows : List Row) (s : Shape) → named name subs ≡ s ∷ [] → EntersOne subs (Some (name, rows))
    → IsFilled s.rules rows
entered_fills [] name rows s only enters = absurd enters
entered_fills (x ∷ rest) name rows s only enters = go (bytes_eq x.name name) refl only (entered_fills rest name rows s) enters
  where
    go : (b : Bool) → bytes_eq x.name name ≡ b → cond b (x ∷ named name rest) (named name rest) ≡ s ∷ []
        → (named name rest ≡ s ∷ [] → EntersOne rest (Some (name, rows)) → IsFilled s.rules rows) → EntersOne (x ∷ rest) (Some (name, rows))
        → IsFilled s.rules rows
    go true is only later (inl here) =
        let same : x ≡ s = cc in
        subst (λ (y : Shape). IsFilled y.rules rows) same (subst (IsFilled x.rules) (sym (same_entered _ _ here.1).1) here.2)
    go true is only later (inr there) = let none : named name rest ≡ [] = cc in absurd (none_entered rest name rows none there)
    go false is only later (inl here) = absurd (true≢false (sym ((bytes_eq-Decides x.name name).1 (sym (same_entered _ _ here.1).0)) ∙ is))
    go false is only later (inr there) = later only there
