-- The rows of a level hold values that its arguments' parsers accept.
use Rattle.std.proofs.Common.{◌≡◌, ◌∙◌, ◌&&◌, ◌||◌, ◌++◌, arith, ℕ, Bool, cond, true, false, not, zero, suc, inl, inr, refl, sym, ap, subst, List, [], ◌∷◌}
use Rattle.std.proofs.Common.{length, drop, fold, Option, Some, None, is_some, true≢false}
use Rattle.std.specs.Prelude.{encode_utf8, find, nat_le, nat_lt, slice_get}
use Rattle.std.specs.List.{list_all}
use Rattle.std.specs.Option.{option_map_or}
use Rattle.std.specs.Str.{bytes_eq, chars}
use Rattle.std.proofs.lemmas.Bool.{and_from, leb-true, ne_eqb}
use Rattle.std.proofs.lemmas.Slice.Eq.{bytes_eq-Decides}
use Rattle.std.proofs.lemmas.List.{append-nil}
use Rattle.clap.specs.Lexer.{long_of, short_of}
use Rattle.clap.specs.Values.{is_request}
use Rattle.clap.specs.Facts.{explicit_source, unwrap_or_range}
use Rattle.clap.specs.Walk.{Held, Names, Outcome, Row, Rule, Step, Text, Waiting, Walk, action_of, after_flag, after_step, arg_by_id, arg_by_index}
use Rattle.clap.specs.Walk.{arg_by_long, arg_by_short, at_row, attached_value, bundle, bundle_met, bundle_step}
use Rattle.clap.specs.Walk.{default_rows, done, has_long, has_row, has_short, idle, is_empty, is_pending, long_met, long_or_other, more_values, most_values}
use Rattle.clap.specs.Walk.{next, nothing_held, option, option_met}
use Rattle.clap.specs.Walk.{option_word, plain, plain_word, positional, reacted, reading_by, refused, rows_after, settled, short_met, short_or_plain}
use Rattle.clap.specs.Walk.{subcommand, subcommand_met}
use Rattle.clap.specs.Walk.{flag_met, settled_rows, subcommand_or_other, takes_several, takes_values, to_positional, trailing, used, used_as, used_by_id}
use Rattle.clap.specs.Walk.{value, values_or_missing, waits, walk, walk_from, walked, walked_from, with_default, with_values, without, word_met}
use Rattle.clap.specs.Simple.{Shape}
use Rattle.clap.specs.Takes.{action_passes, bundle_passes, bundle_step_passes, default_passes, flag_word_passes, flags_pass, is_given, level_passes}
use Rattle.clap.specs.Takes.{long_passes, option_passes, other_passes, positional_passes}
use Rattle.clap.specs.Takes.{react_passes, set_passes, settle_passes, short_passes, step_passes, turn_passes, use_passes, values_pass, walk_passes, word_passes}
use Rattle.clap.specs.declared.builder.action.ArgAction.{ArgAction}
use Rattle.clap.specs.declared.builder.action.ArgAction.TheVariants as action
use Rattle.clap.specs.declared.parser.matches.ValueSource.{ValueSource}
use Rattle.clap.specs.declared.parser.matches.ValueSource.TheVariants.{DefaultValue, CommandLine}
use Rattle.clap.proofs.SimpleLemmas.{is_false}
use Rattle.clap.proofs.WalkLemmas.{both}
use Rattle.s39_clap.specs.Found.{AllFit, Fits, FitsOne, IsFilled, gives_a_value, has_some, is_setting, is_single}

or_true : (a b : Bool) → b ≡ true → (a || b) ≡ true
or_true true b is = refl
or_true false b is = is

or_from : (a b other : Bool) → (b ≡ true → other ≡ true) → (a || b) ≡ true → (a || other) ≡ true
or_from true b other later is = refl
or_from false b other later is = later is

is_empty-is : (xs : List Text) → is_empty xs ≡ not (has_some xs)
is_empty-is [] = refl
is_empty-is (x ∷ xs) = ne_eqb _ _ (λ e. omega arith)

-- ---- rows

-- a row with a new id goes to the end
pub absent_at : (id : Text) (change : Row → List Row) (missing rows : List Row) → has_row id rows ≡ false → at_row id change missing rows ≡ rows ++ missing
absent_at id change missing [] none = refl
absent_at id change missing (r ∷ rest) none = go (bytes_eq r.id id) none (absent_at id change missing rest)
  where
    go : (b : Bool) → (b || has_row id rest) ≡ false → (has_row id rest ≡ false → at_row id change missing rest ≡ rest ++ missing)
        → cond b (change r ++ rest) (r ∷ at_row id change missing rest) ≡ r ∷ (rest ++ missing)
    go true none later = absurd (true≢false none)
    go false none later = ap (λ rs. r ∷ rs) (later none)

all_fit_push : (c : List Rule) (rows : List Row) (r : Row) → AllFit c rows → FitsOne c r → AllFit c (rows ++ r ∷ [])
all_fit_push c [] r all fits = (fits, tt)
all_fit_push c (x ∷ rest) r all fits = (all.0, all_fit_push c rest r all.1 fits)

pub has_row-push : (id : Text) (rows more : List Row) → has_row id rows ≡ true → has_row id (rows ++ more) ≡ true
has_row-push id [] more has = absurd (true≢false (sym has))
has_row-push id (r ∷ rest) more has = go (bytes_eq r.id id) has (has_row-push id rest more)
  where
    go : (b : Bool) → (b || has_row id rest) ≡ true → (has_row id rest ≡ true → has_row id (rest ++ more) ≡ true) → (b || has_row id (rest ++ more)) ≡ true
    go true has later = refl
    go false has later = later has

pub has_row-last : (id : Text) (rows : List Row) (r : Row) → bytes_eq r.id id ≡ true → has_row id (rows ++ r ∷ []) ≡ true
has_row-last id [] r same = ap (λ b. b || false) same
has_row-last id (x ∷ rest) r same = go (bytes_eq x.id id) (has_row-last id rest r same)
  where
    go : (b : Bool) → has_row id (rest ++ r ∷ []) ≡ true → (b || has_row id (rest ++ r ∷ [])) ≡ true
    go true later = refl
    go false later = later

-- ---- the arguments of a list

-- a row that fits the argument fits one of the list, and a use of it gives a value
record IsKnown (c : List Rule) (a : Rule) : Type 0 where
  fits : (r : Row) → Fits a r → FitsOne c r
  gives : gives_a_value a ≡ true

abbrev IsKnownIf : List Rule → Option Rule → Type 0
IsKnownIf c None = Unit {0}
IsKnownIf c (Some a) = IsKnown c a

known_later : (c : List Rule) (b : Rule) (o : Option Rule) → IsKnownIf c o → IsKnownIf (b ∷ c) o
known_later c b None known = tt
known_later c b (Some a) known = record { fits = λ r f. inr (known.fits r f); gives = known.gives }

found_known : (test : Rule → Bool) (c : List Rule) → list_all gives_a_value c ≡ true → IsKnownIf c (find test c)
found_known test [] all = tt
found_known test (a ∷ rest) all = go (test a) (known_later rest a (find test rest) (found_known test rest (both _ _ all).1))
  where
    go : (b : Bool) → IsKnownIf (a ∷ rest) (find test rest) → IsKnownIf (a ∷ rest) (cond b (Some a) (find test rest))
    go true later = record { fits = λ r f. inl f; gives = (both _ _ all).0 }
    go false later = later

-- ---- one use of an argument

set_fits : (c : List Rule) (a : Rule) (values : List Text) (rows : List Row) (source : ValueSource) → IsKnown c a → has_row a.id rows ≡ false
    → has_some values ≡ true → values_pass a values ≡ true → AllFit c rows → AllFit c (with_values a.id (reading_by a) source values rows)
set_fits c a values rows source known none some passes all =
    subst (AllFit c) (sym (absent_at a.id (more_values source values) _ rows none))
    (all_fit_push c rows _ all (known.fits _ (record { id = (bytes_eq-Decides a.id a.id).1 refl; reading = refl; some = some; passes = passes })))

given_some : (a : Rule) (values : List Text) → nat_le (unwrap_or_range a.range).start_inclusive (length values) ≡ true
    → (nat_lt 0 (unwrap_or_range a.range).start_inclusive || has_some a.missing) ≡ true → has_some (values_or_missing a values) ≡ true
given_some a [] least gives = go (unwrap_or_range a.range).start_inclusive least gives
  where
    go : (n : ℕ) → nat_le n 0 ≡ true → (nat_lt 0 n || has_some a.missing) ≡ true → has_some a.missing ≡ true
    go zero least gives = gives
    go (suc n) least gives = absurd (omega (arith, leb-true (suc n) 0 least))
given_some a (v ∷ vs) least gives = refl

module _ (c : List Rule) (all : list_all gives_a_value c ≡ true) (again : Bool) (once : again ≡ false) where
  -- what passes keeps the rows fitting
  abbrev Keeps : Bool → Held → Held → Type 0
  Keeps passes old new = passes ≡ true → AllFit c old.rows → AllFit c new.rows

  once_used : (a : Rule) (values : List Text) (rows : List Row) → IsKnown c a → has_some values ≡ true → set_passes again a values rows ≡ true
      → AllFit c rows → AllFit c (with_values a.id (reading_by a) CommandLine values (without a.id rows))
  once_used a values rows known some passes fits =
      let parts = both (not (has_row a.id rows) || again) (values_pass a values) passes in
      let none = absent (has_row a.id rows) again once parts.0 in
      let same = absent_at a.id (λ _. []) [] rows none ∙ append-nil rows in
      subst (λ rs. AllFit c (with_values a.id (reading_by a) CommandLine values rs)) (sym same)
      (set_fits c a values rows CommandLine known none some parts.1 fits)
    where
      absent : (has twice : Bool) → twice ≡ false → (not has || twice) ≡ true → has ≡ false
      absent false twice once passes = refl
      absent true twice once passes = absurd (true≢false (sym passes ∙ once))

  use_fits : (a : Rule) (values : List Text) (rows : List Row) → IsKnown c a → use_passes again a values rows ≡ true → AllFit c rows → AllFit c
      (used a values rows)
  use_fits a values rows known passes fits =
      let least = both (nat_le (unwrap_or_range a.range).start_inclusive (length values)) _ passes in
      let most = both (nat_le (length values) (most_values a)) _ least.1 in
      go (action_of a) known.gives (λ gives. given_some a values least.0 gives) most.1
    where
      go : (x : ArgAction) → (is_request x || (is_setting x && (nat_lt 0 (unwrap_or_range a.range).start_inclusive || has_some a.missing))) ≡ true
          → ((nat_lt 0 (unwrap_or_range a.range).start_inclusive || has_some a.missing) ≡ true → has_some (values_or_missing a values) ≡ true)
          → action_passes x again a (values_or_missing a values) rows ≡ true → AllFit c (used_as x a.id (reading_by a) (values_or_missing a values) rows)
      go action.Set gives some here = once_used a (values_or_missing a values) rows known (some gives) here fits
      go action.SetTrue gives some here = once_used a (values_or_missing a values) rows known (some gives) here fits
      go action.SetFalse gives some here = once_used a (values_or_missing a values) rows known (some gives) here fits
      go action.Append gives some here = absurd (true≢false (sym gives))
      go action.Count gives some here = absurd (true≢false (sym gives))
      go action.Help gives some here = absurd (true≢false (sym here))
      go action.HelpShort gives some here = absurd (true≢false (sym here))
      go action.HelpLong gives some here = absurd (true≢false (sym here))
      go action.Version gives some here = absurd (true≢false (sym here))

  -- ---- the walk

  settle_fits : (h : Held) → Keeps (settle_passes c again h) h (settled c h)
  settle_fits h passes fits = go h.pending passes
    where
      used_by : (values : List Text) (o : Option Rule) → IsKnownIf c o → option_map_or (λ a. use_passes again a values h.rows) o true ≡ true
          → AllFit c (used_by_id o values h.rows)
      used_by values None known passes = fits
      used_by values (Some a) known passes = use_fits a values h.rows known passes fits

      go : (o : Option (Text × List Text)) → option_map_or (λ p. option_map_or (λ a. use_passes again a p.1 h.rows) (arg_by_id c p.0) true) o true ≡ true
          → AllFit c (settled_rows c o h.rows)
      go None passes = fits
      go (Some p) passes = used_by p.1 (arg_by_id c p.0) (found_known (λ a. bytes_eq a.id p.0) c all) passes

  react_fits : (a : Rule) (values : List Text) (h : Held) → IsKnown c a → Keeps (react_passes c again a values h) h (reacted c a values h)
  react_fits a values h known passes fits =
      let parts = both (settle_passes c again h) _ passes in
      use_fits a values (settled c h).rows known parts.1 (settle_fits h parts.0 fits)

  option_fits : (a : Rule) (v : Option Text) (h : Held) → IsKnown c a → Keeps (option_passes c again a v h) h (option_met c a v h).0
  option_fits a (Some v) h known = react_fits a (v ∷ []) h known
  option_fits a None h known = settle_fits h

  long_fits : (o : Option Rule) (v : Option Text) (h : Held) → IsKnownIf c o → Keeps (long_passes c again o v h) h (long_met c o v h).0
  long_fits None v h known passes fits = absurd (true≢false (sym passes))
  long_fits (Some a) v h known passes fits = go (takes_values a) v passes
    where
      go : (takes : Bool) (v : Option Text) → cond takes (option_passes c again a v h) (not (is_some v) && react_passes c again a [] h) ≡ true
          → AllFit c (cond takes (option_met c a v h) (flag_met c a v h)).0.rows
      go true v passes = option_fits a v h known passes fits
      go false (Some v) passes = absurd (true≢false (sym passes))
      go false None passes = react_fits a [] h known passes fits

  short_fits : (o : Option Rule) (rest : Text) (h : Held) (then : Held → Held × Outcome) (later_passes : Held → Bool) → IsKnownIf c o
      → ((g : Held) → Keeps (later_passes g) g (then g).0) → Keeps (short_passes c again o rest h later_passes) h (short_met c o rest h then).0
  short_fits None rest h then later_passes known later passes fits = absurd (true≢false (sym passes))
  short_fits (Some a) rest h then later_passes known later passes fits = go (takes_values a) passes
    where
      go : (takes : Bool) → cond takes (option_passes c again a (attached_value rest) h) (react_passes c again a [] h && later_passes (reacted c a [] h)) ≡ true
          → AllFit c (cond takes (option_met c a (attached_value rest) h) (then (reacted c a [] h))).0.rows
      go true passes = option_fits a (attached_value rest) h known passes fits
      go false passes =
          let parts = both (react_passes c again a [] h) _ passes in
          later (reacted c a [] h) parts.1 (react_fits a [] h known parts.0 fits)

  bundle_step_fits : (o : Option ℕ) (flags : Text) (skip : ℕ) (so_far : Outcome) (h : Held) (then : Text → ℕ → Outcome → Held → Held × Outcome)
      (later_passes : Text → ℕ → Held → Bool) → ((t : Text) (n : ℕ) (x : Outcome) (g : Held) → Keeps (later_passes t n g) g (then t n x g).0)
      → Keeps (bundle_step_passes c again o flags skip h later_passes) h (bundle_step c o flags skip so_far h then).0
  bundle_step_fits None flags skip so_far h then later_passes later passes fits = fits
  bundle_step_fits (Some x) flags zero so_far h then later_passes later passes fits =
      let rest : Text = drop (length (encode_utf8 x)) flags in
      short_fits (arg_by_short c x) rest h (then rest 0 done) (later_passes rest 0) (found_known (λ a. not (is_some a.index) && has_short a x) c all)
      (later rest 0 done) passes fits
  bundle_step_fits (Some x) flags (suc skip) so_far h then later_passes later passes fits = later
      (drop (length (encode_utf8 x)) flags) skip so_far h passes fits

  flags_fit : (k : ℕ) (flags : Text) (skip : ℕ) (so_far : Outcome) (h : Held) → Keeps (flags_pass c again k flags skip h) h
      (bundle_met c k flags skip so_far h).0
  unfolding flags_pass bundle_met
  flags_fit zero flags skip so_far h passes fits = fits
  flags_fit (suc k) flags skip so_far h passes fits = bundle_step_fits (slice_get (chars flags) 0) flags skip so_far h (bundle_met c k)
      (flags_pass c again k) (flags_fit k) passes fits

  plain_rows : (waiting : Waiting) (word : Text) (h : Held) → AllFit c h.rows → AllFit c (plain_word c waiting word h).0.rows
  plain_rows idle word h fits = fits
  plain_rows positional word h fits = fits
  plain_rows (option id) word h fits = go (arg_by_id c id)
    where
      go : (o : Option Rule) → AllFit c (option_word o id word h).0.rows
      go None = fits
      go (Some a) = fits

  flag_rows : (waiting : Waiting) (word : Text) (h : Held) (met : Outcome) → AllFit c h.rows → AllFit c (after_flag c waiting word h met).0.rows
  flag_rows waiting word h done fits = fits
  flag_rows waiting word h (waits id) fits = fits
  flag_rows waiting word h plain fits = plain_rows waiting word h fits
  flag_rows waiting word h refused fits = plain_rows waiting word h fits

  flag_word_fits : (o : Option (Text × Option Text)) (waiting : Waiting) (word : Text) (h : Held) → Keeps (flag_word_passes c again o word h) h
      (long_or_other c waiting word o h).0
  flag_word_fits (Some p) waiting word h passes fits =
      flag_rows waiting word (long_met c (arg_by_long c p.0) p.1 h).0 _
      (long_fits (arg_by_long c p.0) p.1 h (found_known (λ a. not (is_some a.index) && has_long a p.0) c all) passes fits)
  flag_word_fits None waiting word h passes fits = go (short_of word) passes
    where
      go : (o : Option Text) → option_map_or (λ flags. bundle_passes c again flags h) o true ≡ true → AllFit c (short_or_plain c waiting word o h).0.rows
      go None passes = plain_rows waiting word h fits
      go (Some flags) passes = flag_rows waiting word (bundle c flags h).0 _ (flags_fit (length flags) flags h.skip plain (record h { skip = 0 }) passes fits)

module _ (s : Shape) (all : list_all gives_a_value s.rules ≡ true) (once : s.args_override_self ≡ false) where
  word_fits : (names : Names) (is_trailing : Bool) (waiting : Waiting) (position : ℕ) (word : Text) (h : Held)
      → Keeps s.rules all s.args_override_self once (word_passes s names is_trailing waiting word h) h
      (word_met s.rules names is_trailing waiting position word h).0
  word_fits names true waiting position word h passes fits = fits
  word_fits names false waiting position word h passes fits = go (subcommand_met names waiting word) passes
    where
      other : (ends : Bool) → (ends || flag_word_passes s.rules s.args_override_self (long_of word) word h) ≡ true
          → AllFit s.rules (cond ends (h, trailing position) (long_or_other s.rules waiting word (long_of word) h)).0.rows
      other true passes = fits
      other false passes = flag_word_fits s.rules all s.args_override_self once (long_of word) waiting word h passes fits

      go : (o : Option Text) → other_passes s o word h ≡ true → AllFit s.rules (subcommand_or_other s.rules o waiting position word h).0.rows
      go (Some name) passes = fits
      go None passes = other (bytes_eq word (45 ∷ 45 ∷ [])) passes

  step_fits : (word : Text) (w : Walk) (h : Held) (step : Step) → step_passes s w.position h step ≡ true → AllFit s.rules h.rows → AllFit s.rules
      (after_step s.rules word w h step).held.rows
  step_fits word w h (next waiting) passes fits = fits
  step_fits word w h (trailing n) passes fits = fits
  step_fits word w h (subcommand name) passes fits = fits
  step_fits word w h value passes fits = go (arg_by_index s.rules w.position) passes
    where
      settles : (a : Rule) (keeps : Bool) → (keeps || settle_passes s.rules s.args_override_self h) ≡ true → AllFit s.rules
          (cond keeps h (settled s.rules h)).rows
      settles a true passes = fits
      settles a false passes = settle_fits s.rules all s.args_override_self once h passes fits

      go : (o : Option Rule) → option_map_or (λ a. positional_passes s.rules s.args_override_self a h) o false ≡ true → AllFit s.rules
          (to_positional s.rules o word w h).held.rows
      go None passes = absurd (true≢false (sym passes))
      go (Some a) passes = settles a (is_pending a h.pending && takes_several a) passes

  turn_fits : (names : Names) (w : Walk) (word : Text) → turn_passes s names w word ≡ true → AllFit s.rules w.held.rows → AllFit s.rules
      (walked s.rules names w word).held.rows
  unfolding walked
  turn_fits names w word passes fits = go w.stopped passes
    where
      go : (o : Option (Text × List Text)) → (is_some o || (word_passes s names w.is_trailing w.waiting word w.held
          && step_passes s w.position (word_met s.rules names w.is_trailing w.waiting w.position word w.held).0
          (word_met s.rules names w.is_trailing w.waiting w.position word w.held).1)) ≡ true
          → AllFit s.rules (walked_from s.rules names o w word).held.rows
      go (Some p) passes = fits
      go None passes =
          let met = word_met s.rules names w.is_trailing w.waiting w.position word w.held in
          let parts = both (word_passes s names w.is_trailing w.waiting word w.held) (step_passes s w.position met.0 met.1) passes in
          step_fits word w met.0 met.1 parts.1 (word_fits names w.is_trailing w.waiting w.position word w.held parts.0 fits)

  walk_fits : (names : Names) (w : Walk) (words : List Text) → walk_passes s names w words ≡ true → AllFit s.rules w.held.rows
      → AllFit s.rules (fold (walked s.rules names) w words).held.rows
  unfolding walk_passes
  walk_fits names w [] passes fits = fits
  walk_fits names w (word ∷ rest) passes fits =
      let parts = both (turn_passes s names w word) _ passes in
      walk_fits names (walked s.rules names w word) rest parts.1 (turn_fits names w word parts.0 fits)

-- ---- after the walk

abbrev EachKnown : List Rule → List Rule → Type 0
EachKnown c [] = Unit {0}
EachKnown c (a ∷ rest) = IsKnown c a × EachKnown c rest

each_later : (c : List Rule) (b : Rule) (rules : List Rule) → EachKnown c rules → EachKnown (b ∷ c) rules
each_later c b [] known = tt
each_later c b (a ∷ rest) known = (known_later c b (Some a) known.0, each_later c b rest known.1)

each_known : (c : List Rule) → list_all gives_a_value c ≡ true → EachKnown c c
each_known [] all = tt
each_known (a ∷ rest) all =
    let parts = both (gives_a_value a) (list_all gives_a_value rest) all in
    (record { fits = λ r f. inl f; gives = parts.0 }, each_later rest a rest (each_known rest parts.1))

abbrev row_by_default : Rule → List Text → Row
row_by_default a values = record { id = a.id; values = values; count = None; source = Some DefaultValue; reading = reading_by a }

default_fits : (c : List Rule) (a : Rule) (rows : List Row) → IsKnown c a → default_passes a ≡ true → AllFit c rows → AllFit c (with_default rows a)
default_fits c a rows known passes fits = go (has_row a.id rows) refl
  where
    values_fit : (values : List Text) → has_row a.id rows ≡ false → (not (has_some values) || (not (is_request (action_of a)) && values_pass a values)) ≡ true
        → AllFit c (default_rows a.id (reading_by a) values rows)
    values_fit [] none passes = fits
    values_fit (v ∷ vs) none passes = set_fits c a (v ∷ vs) rows DefaultValue known none refl (both (not (is_request (action_of a))) _ passes).1 fits

    go : (has : Bool) → has_row a.id rows ≡ has → AllFit c (cond has rows (default_rows a.id (reading_by a) a.defaults rows))
    go true is = fits
    go false is = values_fit a.defaults is (ap (λ b. b || (not (is_request (action_of a)) && values_pass a a.defaults)) (sym (is_empty-is a.defaults)) ∙ passes)

defaults_fit : (c rules : List Rule) (rows : List Row) → EachKnown c rules → list_all default_passes rules ≡ true → AllFit c rows → AllFit c
    (fold with_default rows rules)
defaults_fit c [] rows known passes fits = fits
defaults_fit c (a ∷ rest) rows known passes fits =
    let parts = both (default_passes a) (list_all default_passes rest) passes in
    defaults_fit c rest (with_default rows a) known.1 parts.1 (default_fits c a rows known.0 parts.0 fits)

has_row-default : (id : Text) (a : Rule) (rows : List Row) → has_row id rows ≡ true → has_row id (with_default rows a) ≡ true
has_row-default id a rows has = go (has_row a.id rows) refl
  where
    filled : (values : List Text) → has_row a.id rows ≡ false → has_row id (default_rows a.id (reading_by a) values rows) ≡ true
    filled [] none = has
    filled (v ∷ vs) none = subst (λ rs. has_row id rs ≡ true)
        (sym (absent_at a.id (more_values DefaultValue (v ∷ vs)) (row_by_default a (v ∷ vs) ∷ []) rows none))
        (has_row-push id rows (row_by_default a (v ∷ vs) ∷ []) has)

    go : (b : Bool) → has_row a.id rows ≡ b → has_row id (cond b rows (default_rows a.id (reading_by a) a.defaults rows)) ≡ true
    go true is = has
    go false is = filled a.defaults is

has_row-defaults : (id : Text) (rules : List Rule) (rows : List Row) → has_row id rows ≡ true → has_row id (fold with_default rows rules) ≡ true
has_row-defaults id [] rows has = has
has_row-defaults id (a ∷ rest) rows has = has_row-defaults id rest (with_default rows a) (has_row-default id a rows has)

-- an argument with a default has a row
default_found : (a : Rule) (rows : List Row) → (not (has_some a.defaults) || has_row a.id (with_default rows a)) ≡ true
default_found a rows = go (has_row a.id rows) refl
  where
    filled : (values : List Text) → has_row a.id rows ≡ false → (not (has_some values) || has_row a.id (default_rows a.id (reading_by a) values rows)) ≡ true
    filled [] none = refl
    filled (v ∷ vs) none = subst (λ rs. has_row a.id rs ≡ true)
        (sym (absent_at a.id (more_values DefaultValue (v ∷ vs)) (row_by_default a (v ∷ vs) ∷ []) rows none))
        (has_row-last a.id rows (row_by_default a (v ∷ vs)) ((bytes_eq-Decides a.id a.id).1 refl))

    go : (b : Bool) → has_row a.id rows ≡ b →
        (not (has_some a.defaults) || has_row a.id (cond b rows (default_rows a.id (reading_by a) a.defaults rows))) ≡ true
    go true is = or_true (not (has_some a.defaults)) (has_row a.id rows) is
    go false is = filled a.defaults is

defaults_found : (rules : List Rule) (rows : List Row) → list_all (λ a. not (has_some a.defaults) || has_row a.id (fold with_default rows rules)) rules ≡ true
defaults_found rules rows = go rules rows (fold with_default rows rules) (λ id has. has)
  where
    go : (rs : List Rule) (now end : List Row) → ((id : Text) → has_row id (fold with_default now rs) ≡ true → has_row id end ≡ true)
        → list_all (λ a. not (has_some a.defaults) || has_row a.id end) rs ≡ true
    go [] now end ends = refl
    go (a ∷ rest) now end ends =
        and_from (not (has_some a.defaults) || has_row a.id end) _
        (or_from (not (has_some a.defaults)) (has_row a.id (with_default now a)) (has_row a.id end)
        (λ has. ends a.id (has_row-defaults a.id rest (with_default now a) has)) (default_found a now))
        (go rest (with_default now a) end ends)

given_found : (id : Text) (rows : List Row) → is_given id rows ≡ true → has_row id rows ≡ true
given_found id [] given = absurd (true≢false (sym given))
given_found id (r ∷ rest) given = go (bytes_eq r.id id) (given_found id rest) given
  where
    go : (b : Bool) → (is_given id rest ≡ true → has_row id rest ≡ true)
        → option_map_or (λ x. explicit_source x.source) (cond b (Some r) (find (λ x. bytes_eq x.id id) rest)) false ≡ true → (b || has_row id rest) ≡ true
    go true later given = refl
    go false later given = later given

required_found : (rules : List Rule) (rows : List Row) → list_all (λ a. not a.required || is_given a.id rows) rules ≡ true
    → list_all (λ a. not (has_some a.defaults) || has_row a.id rows) rules ≡ true
    → list_all (λ a. not (a.required || has_some a.defaults) || has_row a.id rows) rules ≡ true
required_found [] rows required defaults = refl
required_found (a ∷ rest) rows required defaults =
    let one = both (not a.required || is_given a.id rows) _ required in
    let other = both (not (has_some a.defaults) || has_row a.id rows) _ defaults in
    and_from (not (a.required || has_some a.defaults) || has_row a.id rows) _
    (go a.required (is_given a.id rows) (has_some a.defaults) (has_row a.id rows) (given_found a.id rows) one.0 other.0)
    (required_found rest rows one.1 other.1)
  where
    go : (required given default has : Bool) → (given ≡ true → has ≡ true) → (not required || given) ≡ true → (not default || has) ≡ true →
        (not (required || default) || has) ≡ true
    go required given default true found one other = or_true (not (required || default)) true refl
    go true given default false found one other = absurd (true≢false (sym (found one)))
    go false given true false found one other = absurd (true≢false (sym other))
    go false given false false found one other = refl

-- what a level that passes finds
pub level_filled : (s : Shape) (words : List Text) → is_single s ≡ true → level_passes s [] nothing_held words false ≡ true → IsFilled s.rules
    (rows_after s.rules [] words)
level_filled s words single passes =
    let rules = both (not s.args_override_self) (list_all gives_a_value s.rules) single in
    let once = is_false s.args_override_self rules.0 in
    let walks = both (walk_passes s [] (walk_from nothing_held) words) _ passes in
    let end = (walk s.rules [] nothing_held words).held in
    let settles = both (settle_passes s.rules s.args_override_self end) _ walks.1 in
    let defaults = both (list_all default_passes s.rules) _ settles.1 in
    let rows = (settled s.rules end).rows in
    let before = settle_fits s.rules rules.1 s.args_override_self once end settles.0 (walk_fits s rules.1 once [] (walk_from nothing_held) words walks.0 tt) in
    record {
      fits = defaults_fit s.rules s.rules rows (each_known s.rules rules.1) defaults.0 before;
      present = required_found s.rules _ (wanted _ _ defaults.1) (defaults_found s.rules rows);
    }
  where
    wanted : (helps : Bool) (negates : Bool) → (helps && ((not s.subcommand_required || false) && (list_all (λ a. a.is_free) s.rules
        && ((negates && false) || list_all (λ a. not a.required || is_given a.id (rows_after s.rules [] words)) s.rules)))) ≡ true
        → list_all (λ a. not a.required || is_given a.id (rows_after s.rules [] words)) s.rules ≡ true
    wanted helps true is = (both _ _ (both _ _ (both helps _ is).1).1).1
    wanted helps false is = (both _ _ (both _ _ (both helps _ is).1).1).1
