-- What is found for a command's arguments in words, whatever their order.
use Rattle.std.proofs.Common.{◌≡◌, ◌∙◌, ◌&&◌, ◌||◌, ℕ, Bool, cond, true, false, not, List, [], ◌∷◌, codes, find}
use Rattle.std.proofs.Common.{Option, Some, None, ap, is_some, option_map, refl, subst, sym, true≢false}
use Rattle.std.specs.List.{fold, list_all, list_any}
use Rattle.std.specs.Option.{option_map_or, option_or}
use Rattle.std.specs.Str.{bytes_eq}
use Rattle.std.proofs.lemmas.Bool.{and_from}
use Rattle.std.proofs.lemmas.List.Folds.{find-append}
use Rattle.std.proofs.lemmas.Slice.Eq.{bytes_eq-Decides}
use Rattle.clap.specs.Facts.{explicit_source, parser_of_value}
use Rattle.clap.specs.Walk.{Row, Rule, Text, answers_to, default_rows}
use Rattle.clap.specs.Walk.{finished, has_row, is_empty, more_values, nothing_held}
use Rattle.clap.specs.Walk.{reading_by, with_default}
use Rattle.clap.specs.Simple.{App, Shape, built, is_simple, label_of, subcommand_of}
use Rattle.clap.specs.Takes.{default_passes, is_given, is_valid}
use Rattle.clap.specs.Takes.{takes, value_passes}
use Rattle.clap.specs.declared.parser.matches.ValueSource.TheVariants.{DefaultValue}
use Rattle.clap.proofs.SimpleLemmas.{is_nil, label_first}
use Rattle.clap.proofs.ValueTestLemmas.{accepts-Accepts}
use Rattle.clap.proofs.WalkLemmas.{both}
use Rattle.s39_clap.specs.Arguments.{AreGivenFrom, AreGivenTo, AreWordsOfAll, Given, given_for, is_kind, met_at}
use Rattle.s39_clap.specs.Arguments.{name_of, place_after, value_of}
use Rattle.s39_clap.specs.Found.{has_some}
use Rattle.s39_clap.proofs.Commands.{Completes, HasCommand, reading_found, reading_taken}
use Rattle.s39_clap.proofs.Filled.{absent_at}
use Rattle.s39_clap.proofs.Readings.{reads_none}
use Rattle.s39_clap.proofs.Arguments.{all_held, ids_differ, is_id, is_no, row_at, rows_of_all}

-- ---- what is found then

-- the row that an argument has by default
abbrev row_by_default : Rule → Row
row_by_default a = record { id = a.id; values = a.defaults; count = None; source = Some DefaultValue; reading = reading_by a }

abbrev default_of : Text → Rule → Option Row
default_of id a = cond (bytes_eq a.id id && has_some a.defaults) (Some (row_by_default a)) None

-- that of the argument of this id
abbrev pub default_row : Text → List Rule → Option Row
default_row id [] = None
default_row id (a ∷ rest) = option_or (default_of id a) (default_row id rest)

or_none : {X : Type 0} (o : Option X) → option_or o None ≡ o
or_none None = refl
or_none (Some x) = refl

or_assoc : {X : Type 0} (o p q : Option X) → option_or (option_or o p) q ≡ option_or o (option_or p q)
or_assoc None p q = refl
or_assoc (Some x) p q = refl

found_if_there : (id : Text) (rows : List Row) → has_row id rows ≡ true → is_some (find (is_id id) rows) ≡ true
found_if_there id [] has = absurd (true≢false (sym has))
found_if_there id (r ∷ rest) has = go (bytes_eq r.id id) has (found_if_there id rest)
  where
    go : (b : Bool) → (b || has_row id rest) ≡ true → (has_row id rest ≡ true → is_some (find (is_id id) rest) ≡ true)
        → is_some (cond b (Some r) (find (is_id id) rest)) ≡ true
    go true has later = refl
    go false has later = later has

default_found : (id : Text) (a : Rule) (rows : List Row) → find (is_id id) (with_default rows a) ≡ option_or (find (is_id id) rows) (default_of id a)
default_found id a rows = go (has_row a.id rows) (bytes_eq a.id id) a.defaults refl refl refl
  where
    there : (o : Option Row) (p : Option Row) → is_some o ≡ true → o ≡ option_or o p
    there None p some = absurd (true≢false (sym some))
    there (Some r) p some = refl

    go : (has same : Bool) (defaults : List Text) → has_row a.id rows ≡ has → bytes_eq a.id id ≡ same → a.defaults ≡ defaults
        → find (is_id id) (cond has rows (default_rows a.id (reading_by a) defaults rows))
        ≡ option_or (find (is_id id) rows) (cond (same && has_some defaults) (Some (record (row_by_default a) { values = defaults })) None)
    go true true defaults has same is =
        there (find (is_id id) rows) _
        (found_if_there id rows (ap (λ (i : Text). has_row i rows) (sym ((bytes_eq-Decides a.id id).0 same)) ∙ has))
    go true false defaults has same is = sym (or_none (find (is_id id) rows))
    go false true [] has same is = sym (or_none (find (is_id id) rows))
    go false false [] has same is = sym (or_none (find (is_id id) rows))
    go false b (v ∷ rest) has same is =
        ap (find (is_id id)) (absent_at a.id (more_values DefaultValue (v ∷ rest)) _ rows has)
        ∙ find-append (is_id id) rows _
        ∙ ap (λ (c : Bool). option_or (find (is_id id) rows) (cond c (Some (record (row_by_default a) { values = v ∷ rest })) None)) (same ∙ sym (and_true b))
      where
        and_true : (b : Bool) → (b && true) ≡ b
        and_true true = refl
        and_true false = refl

defaults_found : (id : Text) (rules : List Rule) (rows : List Row)
    → find (is_id id) (fold with_default rows rules) ≡ option_or (find (is_id id) rows) (default_row id rules)
defaults_found id [] rows = sym (or_none (find (is_id id) rows))
defaults_found id (a ∷ rest) rows =
    defaults_found id rest (with_default rows a) ∙ ap (λ (o : Option Row). option_or o (default_row id rest)) (default_found id a rows)
    ∙ or_assoc (find (is_id id) rows) (default_of id a) (default_row id rest)

given_found : (s : Shape) (id : Text) (given : List Given) → find (is_id id) (rows_of_all s given) ≡ option_map (row_at s id) (given_for given id)
given_found s id [] = refl
given_found s id (g ∷ rest) = go (bytes_eq (name_of g) id) refl (given_found s id rest)
  where
    go : (b : Bool) → bytes_eq (name_of g) id ≡ b → find (is_id id) (rows_of_all s rest) ≡ option_map (row_at s id) (given_for rest id)
        → cond b (Some (row_at s (name_of g) (value_of g))) (find (is_id id) (rows_of_all s rest))
        ≡ option_map (row_at s id) (option_map value_of (cond b (Some g) (find (λ x. bytes_eq (name_of x) id) rest)))
    go true same later = ap (λ (i : Text). Some (row_at s i (value_of g))) ((bytes_eq-Decides (name_of g) id).0 same)
    go false same later = later

-- what is found for an id: what is given, or else the default
abbrev pub IsFoundIn : Shape → List Given → List Row → Type 0
IsFoundIn s given rows =
    (id : Text) → find (λ r. bytes_eq r.id id) rows ≡ option_or (option_map (row_at s id) (given_for given id)) (default_row id s.rules)

all_found : (s : Shape) (given : List Given) → IsFoundIn s given (fold with_default (rows_of_all s given) s.rules)
all_found s given id =
    defaults_found id s.rules (rows_of_all s given) ∙ ap (λ (o : Option Row). option_or o (default_row id s.rules)) (given_found s id given)

-- ---- a command with them

-- the command's arguments differ, and the definition of it is one of those that are read so
abbrev pub is_plain_command : Shape → Bool
is_plain_command s = ids_differ s.rules && (list_all default_passes s.rules && (list_all (λ a. a.is_free) s.rules
    && (not s.arg_required_else_help && (not s.subcommand_required && is_empty s.aliases))))

completes : (s : Shape) (given : List Given) → is_plain_command s ≡ true → AreGivenTo s given → Completes s (rows_of_all s given)
completes s given plain are =
    let one = both (ids_differ s.rules) _ plain in
    let two = both (list_all default_passes s.rules) _ one.1 in
    let three = both (list_all (λ a. a.is_free) s.rules) _ two.1 in
    let four = both (not s.arg_required_else_help) _ three.1 in
    let five = both (not s.subcommand_required) (is_empty s.aliases) four.1 in record {
      defaults = two.0;
      valid = and_from _ _ (ap (λ (b : Bool). b || list_any (λ r. explicit_source r.source) rows) four.0)
          (and_from _ _ (ap (λ (b : Bool). b || false) five.0) (and_from _ _ three.0 (either s.subcommand_negates_reqs (required s.rules are.complete))));
    }
  where
    rows : List Row
    rows = fold with_default (rows_of_all s given) s.rules

    either : {b : Bool} (negates : Bool) → b ≡ true → ((negates && false) || b) ≡ true
    either true is = is
    either false is = is

    given_too : (id : Text) → is_some (given_for given id) ≡ true → is_given id rows ≡ true
    given_too id some = go (given_for given id) refl some
      where
        go : (o : Option Text) → given_for given id ≡ o → is_some o ≡ true → is_given id rows ≡ true
        go None is some = absurd (true≢false (sym some))
        go (Some text) is some =
            ap (λ (o : Option Row). option_map_or (λ r. explicit_source r.source) o false)
            (all_found s given id ∙ ap (λ (o : Option Text). option_or (option_map (row_at s id) o) (default_row id s.rules)) is)

    required : (rules : List Rule) → list_all (λ a. not a.required || is_some (given_for given a.id)) rules ≡ true
        → list_all (λ a. not a.required || is_given a.id rows) rules ≡ true
    required [] all = refl
    required (a ∷ rest) all =
        let parts = both (not a.required || is_some (given_for given a.id)) _ all in and_from _ _ (go a.required parts.0) (required rest parts.1)
      where
        go : (b : Bool) → (not b || is_some (given_for given a.id)) ≡ true → (not b || is_given a.id rows) ≡ true
        go true is = given_too a.id is
        go false is = refl

-- a program whose commands are such
pub record IsPlainApp (a : App) : Type 0 where
  pub simple : is_simple a ≡ true
  pub program_first : a.top.no_binary_name ≡ false
  pub no_help : (built a).top.disable_help_subcommand ≡ true
  pub defaults : list_all default_passes (built a).top.rules ≡ true
  pub valid : is_valid (built a).top (finished (built a).top.rules nothing_held) true ≡ true
  pub commands : list_all is_plain_command (built a).subs ≡ true

module _ {X : Type 0} (test : X → Bool) where
  -- what is found passes the test, and what holds of all holds of it
  found_passes : (xs : List X) (x : X) → find test xs ≡ Some x → test x ≡ true
  found_passes [] x found = absurd (let bad : None ≡ Some x = found in cc)
  found_passes (y ∷ rest) x found = go (test y) refl (found_passes rest x) found
    where
      go : (b : Bool) → test y ≡ b → (find test rest ≡ Some x → test x ≡ true) → cond b (Some y) (find test rest) ≡ Some x → test x ≡ true
      go true is later found = let same : y ≡ x = cc in subst (λ (z : X). test z ≡ true) same is
      go false is later found = later found

  pub found_one_of : (p : X → Bool) (xs : List X) (x : X) → list_all p xs ≡ true → find test xs ≡ Some x → p x ≡ true
  found_one_of p [] x all found = absurd (let bad : None ≡ Some x = found in cc)
  found_one_of p (y ∷ rest) x all found =
      let parts = both (p y) (list_all p rest) all in go parts.0 (test y) (found_one_of p rest x parts.1) found
    where
      go : p y ≡ true → (b : Bool) → (find test rest ≡ Some x → p x ≡ true) → cond b (Some y) (find test rest) ≡ Some x → p x ≡ true
      go here true later found = let same : y ≡ x = cc in subst (λ (z : X). p z ≡ true) same here
      go here false later found = later found

-- the command of this name
abbrev pub command_named : App → Text → Option Shape
command_named a name = find (λ s. answers_to name (label_of s)) (built a).subs

-- these words are taken, and this is found in them
pub record AreRead (a : App) (name : Text) (s : Shape) (given : List Given) (words : List Text) : Type 0 where
  pub taken : takes a words ≡ true
  pub rows : List Row
  pub met : subcommand_of a words ≡ Some (name, rows)
  pub found : IsFoundIn s given rows

module _ (a : App) (plain : IsPlainApp a) (name : Text) (s : Shape) (named : command_named a name ≡ Some s) where
  plain_command : is_plain_command s ≡ true
  plain_command = found_one_of (λ x. answers_to name (label_of x)) is_plain_command (built a).subs s plain.commands named

  name_is : s.name ≡ name
  name_is =
      let one = both (ids_differ s.rules) _ plain_command in
      let two = both (list_all default_passes s.rules) _ one.1 in
      let three = both (list_all (λ a. a.is_free) s.rules) _ two.1 in
      let four = both (not s.arg_required_else_help) _ three.1 in
      let five = both (not s.subcommand_required) (is_empty s.aliases) four.1 in
      (bytes_eq-Decides s.name name).0
      (only (bytes_eq s.name name) (sym (ap (λ (l : List Text). bytes_eq s.name name || list_any (λ alias. bytes_eq alias name) l) (is_nil s.aliases five.1))
      ∙ found_passes (λ x. answers_to name (label_of x)) (built a).subs s named))
    where
      only : (b : Bool) → (b || false) ≡ true → b ≡ true
      only true is = refl
      only false is = is

  has_command : HasCommand a name s
  has_command = record {
    simple = plain.simple;
    program_first = plain.program_first;
    met = sym (label_first name (built a).subs) ∙ ap (option_map (λ (x : Shape). x.name)) named ∙ ap (λ (n : Text). Some n) name_is;
    is_no_help = either (not (bytes_eq name (codes "help"))) plain.no_help;
    found = named;
    defaults = plain.defaults;
    valid = plain.valid;
  }
    where
      either : (b : Bool) {c : Bool} → c ≡ true → (b || c) ≡ true
      either true is = refl
      either false is = is

  -- the words of a command with what is given to it
  pub words_are_read : (program : Text) (given : List Given) → AreGivenTo s given → (level : List Text) → AreWordsOfAll given level
      → AreRead a name s given (program ∷ name ∷ level)
  words_are_read program given are level words =
      let all = all_held s 1 [] [] (reads_none s) (both (ids_differ s.rules) _ plain_command).0 given are.each (λ id has some. true≢false (sym has)) level words in
      record {
        taken = reading_taken a name s has_command level program all.0 (rows_of_all s given) all.1 (completes s given plain_command are);
        rows = fold with_default (rows_of_all s given) s.rules;
        met = reading_found a name s has_command level program all.0 (rows_of_all s given) all.1
            ∙ ap (λ (n : Text). Some (n, fold with_default (rows_of_all s given) s.rules)) name_is;
        found = all_found s given;
      }

-- ---- what is given, checked

abbrev is_use : Option Rule → Given → Bool
is_use o g = option_map_or (λ a. bytes_eq a.id (name_of g) && (is_kind a g && value_passes a (value_of g))) o false

abbrev are_given_from : List Rule → ℕ → List Given → Bool
are_given_from rules place [] = true
are_given_from rules place (g ∷ rest) = is_use (met_at rules place g) g
    && (not (is_some (given_for rest (name_of g))) && are_given_from rules (place_after place g) rest)

given_from : (rules : List Rule) (place : ℕ) (given : List Given) → are_given_from rules place given ≡ true → AreGivenFrom rules place given
given_from rules place [] are = tt
given_from rules place (g ∷ rest) are =
    let parts = both (is_use (met_at rules place g) g) _ are in
    let more = both (not (is_some (given_for rest (name_of g)))) (are_given_from rules (place_after place g) rest) parts.1 in
    go (met_at rules place g) refl parts.0 (is_none (given_for rest (name_of g)) (is_no (is_some (given_for rest (name_of g))) more.0))
    (given_from rules (place_after place g) rest more.1)
  where
    is_none : (o : Option Text) → is_some o ≡ false → o ≡ None
    is_none None none = refl
    is_none (Some text) none = absurd (true≢false none)

    go : (o : Option Rule) → met_at rules place g ≡ o → is_use o g ≡ true → given_for rest (name_of g) ≡ None
        → AreGivenFrom rules (place_after place g) rest → AreGivenFrom rules place (g ∷ rest)
    go None met is once later = absurd (true≢false (sym is))
    go (Some a) met is once later =
        let parts = both (bytes_eq a.id (name_of g)) _ is in
        let more = both (is_kind a g) (value_passes a (value_of g)) parts.1 in (
          a,
          met,
          (bytes_eq-Decides a.id (name_of g)).0 parts.0,
          more.0,
          accepts-Accepts a.ignore_case (parser_of_value a.parser) (value_of g) more.1,
          once,
          later,
        )

-- all conditions on it
abbrev pub are_given_to : Shape → List Given → Bool
are_given_to s given = are_given_from s.rules 1 given && list_all (λ a. not a.required || is_some (given_for given a.id)) s.rules

pub given_to : (s : Shape) (given : List Given) → are_given_to s given ≡ true → AreGivenTo s given
given_to s given are =
    let parts = both (are_given_from s.rules 1 given) _ are in
    record { each = given_from s.rules 1 given parts.0; complete = parts.1 }
