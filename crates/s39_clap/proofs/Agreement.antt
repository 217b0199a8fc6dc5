-- Each step of a parse beside its test: the test holds where no kind of error comes, and the kinds are one request or mistakes.
use Rattle.std.proofs.Common.{◌≡◌, ◌⊎◌, ◌∙◌, ◌&&◌, ◌||◌, ◌+◌, arith, ℕ, Bool, cond, codes, true, false, not, zero, suc, inl, inr, refl, sym, ap, List, []}
use Rattle.std.proofs.Common.{◌∷◌, length, min, drop, Option, Some, None, is_some, true≢false}
use Rattle.std.specs.Prelude.{◌==◌, encode_utf8, find, nat_le, nat_lt, slice_get}
use Rattle.std.specs.List.{list_all, list_any}
use Rattle.std.specs.Option.{option_map_or}
use Rattle.std.specs.Str.{bytes_eq, chars}
use Rattle.std.proofs.lemmas.Bool.{and_from, eqb-true, le-leb, ltb-false}
use Rattle.clap.specs.Lexer.{long_of, short_of}
use Rattle.clap.specs.Values.{refused_kind}
use Rattle.clap.specs.ValueTests.{accepts}
use Rattle.clap.specs.Matches.{count_text}
use Rattle.clap.specs.Facts.{explicit_source, parser_of_value, unwrap_or_range}
use Rattle.clap.specs.Walk.{Held, Names, Row, Rule, Step, Text, Walk, action_of, answers_to, arg_by_id, arg_by_index, arg_by_long, arg_by_short}
use Rattle.clap.specs.Walk.{attached_value, count_of, finished, has_row}
use Rattle.clap.specs.Walk.{is_empty, is_pending, most_values, next, nothing_held, reacted, settled, subcommand, subcommand_met, takes_several, takes_values}
use Rattle.clap.specs.Walk.{trailing, value, values_or_missing}
use Rattle.clap.specs.Walk.{walk, walk_from, walked, with_default, word_met}
use Rattle.clap.specs.Simple.{App, Shape, argument_words, built, entered, is_simple, label_of, names_of}
use Rattle.clap.specs.Kinds.{IsAmong, Kinds, check_kinds, or_else, range_kinds, request_kinds, value_kinds, values_kinds}
use Rattle.clap.specs.Takes.{action_passes, built_takes, bundle_passes, bundle_step_passes, count_passes, default_passes, entered_passes, flag_word_passes}
use Rattle.clap.specs.Takes.{flags_pass, is_given, is_valid, level_passes}
use Rattle.clap.specs.Takes.{long_passes, option_passes, other_passes, positional_passes, react_passes, settle_passes, short_passes, step_passes, takes}
use Rattle.clap.specs.Takes.{turn_passes, use_passes, values_pass, walk_passes}
use Rattle.clap.specs.Faults.{action_fault, bundle_fault, bundle_step_fault, check_fault, count_fault, default_fault, defaults_fault, entered_fault, fault_of}
use Rattle.clap.specs.Faults.{flag_word_fault, flags_fault}
use Rattle.clap.specs.Faults.{level_fault, long_fault, option_fault, other_fault, positional_fault, react_fault, repeat_fault, settle_fault, short_fault}
use Rattle.clap.specs.Faults.{step_fault, stray_fault, turn_fault, use_fault, values_fault}
use Rattle.clap.specs.Faults.{walk_fault}
use Rattle.clap.specs.declared.builder.action.ArgAction.{ArgAction}
use Rattle.clap.specs.declared.builder.action.ArgAction.TheVariants as action
use Rattle.clap.specs.declared.builder.value_parser.ValueParser.{ValueParser}
use Rattle.clap.specs.declared.builder.value_parser.ValueParser.TheVariants as vp
use Rattle.clap.specs.declared.error.kind.ErrorKind.{ErrorKind}
use Rattle.clap.specs.declared.error.kind.ErrorKind.TheVariants as kind
use Rattle.clap.proofs.WalkLemmas.{both}
use Rattle.s39_clap.specs.Faults.{IsRequestOrMistakes, is_mistake, is_settled, is_settled_app}

-- where a step has no kind of error its test holds, and its kinds are one request or mistakes
record Agrees (fault : Kinds) (test : Bool) : Type 0 where
  passes : fault ≡ [] → test ≡ true
  kinds : IsRequestOrMistakes fault

abbrev has_some : Kinds → Bool
has_some [] = false
has_some (k ∷ ks) = true

some_kind : (k : ErrorKind) (ks : Kinds) → k ∷ ks ≡ [] → ⊥
some_kind k ks none = true≢false (ap has_some none)

-- a step that goes on, and one that can't
goes : Agrees [] true
goes = record { passes = λ none. refl; kinds = inr (inr refl) }

stops : (k : ErrorKind) (ks : Kinds) (test : Bool) → IsRequestOrMistakes (k ∷ ks) → Agrees (k ∷ ks) test
stops k ks test are = record { passes = λ none. absurd (some_kind k ks none); kinds = are }

refuses : (k : ErrorKind) (test : Bool) → is_mistake k ≡ true → Agrees (k ∷ []) test
refuses k test is = stops k [] test (inr (inr (ap (λ b. b && true) is)))

agrees_then : (a b : Kinds) (p q : Bool) → Agrees a p → Agrees b q → Agrees (or_else a b) (p && q)
agrees_then [] b p q first second = record { passes = λ none. and_from p q (first.passes refl) (second.passes none); kinds = second.kinds }
agrees_then (k ∷ ks) b p q first second = stops k ks (p && q) first.kinds

agrees_if : (test : Bool) (a b : Kinds) (p q : Bool) → Agrees a p → Agrees b q → Agrees (cond test a b) (cond test p q)
agrees_if true a b p q first second = first
agrees_if false a b p q first second = second

agrees_unless : (test : Bool) (k : ErrorKind) (b : Kinds) (q : Bool) → is_mistake k ≡ true → Agrees b q → Agrees (cond test (k ∷ []) b) (not test && q)
agrees_unless true k b q is second = refuses k false is
agrees_unless false k b q is second = second

agrees_or : (test : Bool) (b : Kinds) (q : Bool) → Agrees b q → Agrees (cond test [] b) (test || q)
agrees_or true b q second = goes
agrees_or false b q second = second

-- ---- one use of an argument

refused_is_mistake : (parser : ValueParser) → is_mistake (refused_kind parser) ≡ true
refused_is_mistake vp.NonEmptyString = refl
refused_is_mistake vp.Bool = refl
refused_is_mistake (vp.Names names) = refl
refused_is_mistake (vp.Values values) = refl
refused_is_mistake _ = refl

value_agrees : (ignore_case : Bool) (parser : ValueParser) (text : Text) → Agrees (value_kinds ignore_case parser text) (accepts ignore_case parser text)
value_agrees ignore_case parser text = go (accepts ignore_case parser text)
  where
    go : (b : Bool) → Agrees (cond b [] (refused_kind parser ∷ [])) b
    go true = goes
    go false = refuses (refused_kind parser) false (refused_is_mistake parser)

values_agree : (ignore_case : Bool) (parser : ValueParser) (values : List Text) → Agrees (values_kinds ignore_case parser values)
    (list_all (accepts ignore_case parser) values)
values_agree ignore_case parser [] = goes
values_agree ignore_case parser (v ∷ vs) = agrees_then _ _ _ _ (value_agrees ignore_case parser v) (values_agree ignore_case parser vs)

values_agree_of : (a : Rule) (values : List Text) → Agrees (values_fault a values) (values_pass a values)
values_agree_of a values = values_agree a.ignore_case (parser_of_value a.parser) values

range_agrees : (least most n : ℕ) → Agrees (range_kinds least most n) (nat_le least n && nat_le n most)
range_agrees least most n = go (nat_lt 0 least && n == 0) (least == most) (least == n) (nat_lt n least) (nat_lt most n) refl refl refl refl
  where
    within : nat_le least n ≡ true → nat_le n most ≡ true → Agrees [] (nat_le least n && nat_le n most)
    within low high = record { passes = λ none. and_from (nat_le least n) (nat_le n most) low high; kinds = inr (inr refl) }

    go : (nothing exact fits few many : Bool) → (least == most) ≡ exact → (least == n) ≡ fits → nat_lt n least ≡ few → nat_lt most n ≡ many
        → Agrees (cond nothing (kind.InvalidValue ∷ [])
        (cond exact (cond fits [] (kind.WrongNumberOfValues ∷ [])) (cond few (kind.TooFewValues ∷ []) (cond many (kind.TooManyValues ∷ []) []))))
        (nat_le least n && nat_le n most)
    go true exact fits few many is_exact is_fit is_few is_many = refuses _ _ refl
    go false true true few many is_exact is_fit is_few is_many =
        let same = eqb-true least most is_exact in
        let here = eqb-true least n is_fit in
        within (le-leb least n (omega arith)) (le-leb n most (omega arith))
    go false true false few many is_exact is_fit is_few is_many = refuses _ _ refl
    go false false fits true many is_exact is_fit is_few is_many = refuses _ _ refl
    go false false fits false true is_exact is_fit is_few is_many = refuses _ _ refl
    go false false fits false false is_exact is_fit is_few is_many = within (le-leb least n (ltb-false n least is_few))
        (le-leb n most (ltb-false most n is_many))

count_agrees : (a : Rule) (values : List Text) (rows : List Row) → Agrees (count_fault a values rows) (count_passes a values rows)
count_agrees a [] rows = value_agrees a.ignore_case (parser_of_value a.parser) (count_text (min (count_of a.id rows + 1) 255))
count_agrees a (v ∷ vs) rows = values_agree_of a (v ∷ vs)

set_agrees : (again : Bool) (a : Rule) (values : List Text) (rows : List Row)
    → Agrees (or_else (repeat_fault again a.id rows) (values_fault a values)) ((not (has_row a.id rows) || again) && values_pass a values)
set_agrees again a values rows = agrees_then _ _ _ _ (go (has_row a.id rows) again) (values_agree_of a values)
  where
    go : (used again : Bool) → Agrees (cond (used && not again) (kind.ArgumentConflict ∷ []) []) (not used || again)
    go false again = goes
    go true true = goes
    go true false = refuses _ _ refl

action_agrees : (x : ArgAction) (again : Bool) (a : Rule) (values : List Text) (rows : List Row) → Agrees (action_fault x again a values rows)
    (action_passes x again a values rows)
action_agrees action.Set again a values rows = set_agrees again a values rows
action_agrees action.SetTrue again a values rows = set_agrees again a values rows
action_agrees action.SetFalse again a values rows = set_agrees again a values rows
action_agrees action.Append again a values rows = values_agree_of a values
action_agrees action.Count again a values rows = count_agrees a values rows
action_agrees action.Help again a values rows = stops _ _ _ (inl refl)
action_agrees action.HelpShort again a values rows = stops _ _ _ (inl refl)
action_agrees action.HelpLong again a values rows = stops _ _ _ (inl refl)
action_agrees action.Version again a values rows = stops _ _ _ (inr (inl refl))

use_agrees : (again : Bool) (a : Rule) (values : List Text) (rows : List Row) → Agrees (use_fault again a values rows) (use_passes again a values rows)
use_agrees again a values rows = regroup (nat_le least (length values)) (nat_le (length values) (most_values a))
    (agrees_then _ _ _ _ (range_agrees least (most_values a) (length values)) (action_agrees (action_of a) again a (values_or_missing a values) rows))
  where
    least : ℕ
    least = (unwrap_or_range a.range).start_inclusive

    regroup : (p q : Bool) → Agrees (use_fault again a values rows) ((p && q) && action_passes (action_of a) again a (values_or_missing a values) rows)
        → Agrees (use_fault again a values rows) (p && (q && action_passes (action_of a) again a (values_or_missing a values) rows))
    regroup true q all = all
    regroup false q all = all

-- ---- the walk

module _ (c : List Rule) (again : Bool) where
  settle_agrees : (h : Held) → Agrees (settle_fault c again h) (settle_passes c again h)
  settle_agrees h = go h.pending
    where
      used_by : (values : List Text) (o : Option Rule)
          → Agrees (option_map_or (λ a. use_fault again a values h.rows) o []) (option_map_or (λ a. use_passes again a values h.rows) o true)
      used_by values None = goes
      used_by values (Some a) = use_agrees again a values h.rows

      go : (o : Option (Text × List Text))
          → Agrees (option_map_or (λ p. option_map_or (λ a. use_fault again a p.1 h.rows) (arg_by_id c p.0) []) o [])
          (option_map_or (λ p. option_map_or (λ a. use_passes again a p.1 h.rows) (arg_by_id c p.0) true) o true)
      go None = goes
      go (Some p) = used_by p.1 (arg_by_id c p.0)

  react_agrees : (a : Rule) (values : List Text) (h : Held) → Agrees (react_fault c again a values h) (react_passes c again a values h)
  react_agrees a values h = agrees_then _ _ _ _ (settle_agrees h) (use_agrees again a values (settled c h).rows)

  option_agrees : (a : Rule) (v : Option Text) (h : Held) → Agrees (option_fault c again a v h) (option_passes c again a v h)
  option_agrees a (Some v) h = react_agrees a (v ∷ []) h
  option_agrees a None h = settle_agrees h

  long_agrees : (o : Option Rule) (v : Option Text) (h : Held) → Agrees (long_fault c again o v h) (long_passes c again o v h)
  long_agrees None v h = refuses _ _ refl
  long_agrees (Some a) v h = agrees_if (takes_values a) _ _ _ _ (option_agrees a v h) (agrees_unless (is_some v) _ _ _ refl (react_agrees a [] h))

  short_agrees : (o : Option Rule) (rest : Text) (h : Held) (then : Held → Kinds) (passes : Held → Bool) → ((g : Held) → Agrees (then g) (passes g))
      → Agrees (short_fault c again o rest h then) (short_passes c again o rest h passes)
  short_agrees None rest h then passes later = refuses _ _ refl
  short_agrees (Some a) rest h then passes later =
      agrees_if (takes_values a) _ _ _ _ (option_agrees a (attached_value rest) h) (agrees_then _ _ _ _ (react_agrees a [] h) (later (reacted c a [] h)))

  bundle_step_agrees : (o : Option ℕ) (flags : Text) (skip : ℕ) (h : Held) (then : Text → ℕ → Held → Kinds) (passes : Text → ℕ → Held → Bool)
      → ((t : Text) (n : ℕ) (g : Held) → Agrees (then t n g) (passes t n g)) → Agrees (bundle_step_fault c again o flags skip h then)
      (bundle_step_passes c again o flags skip h passes)
  bundle_step_agrees None flags skip h then passes later = goes
  bundle_step_agrees (Some x) flags zero h then passes later =
      let rest : Text = drop (length (encode_utf8 x)) flags in
      short_agrees (arg_by_short c x) rest h (then rest 0) (passes rest 0) (later rest 0)
  bundle_step_agrees (Some x) flags (suc skip) h then passes later = later (drop (length (encode_utf8 x)) flags) skip h

  flags_agree : (k : ℕ) (flags : Text) (skip : ℕ) (h : Held) → Agrees (flags_fault c again k flags skip h) (flags_pass c again k flags skip h)
  unfolding flags_fault flags_pass
  flags_agree zero flags skip h = goes
  flags_agree (suc k) flags skip h = bundle_step_agrees (slice_get (chars flags) 0) flags skip h (flags_fault c again k) (flags_pass c again k) (flags_agree k)

  flag_word_agrees : (o : Option (Text × Option Text)) (word : Text) (h : Held) → Agrees (flag_word_fault c again o word h) (flag_word_passes c again o word h)
  flag_word_agrees (Some p) word h = long_agrees (arg_by_long c p.0) p.1 h
  flag_word_agrees None word h = go (short_of word)
    where
      go : (o : Option Text) → Agrees (option_map_or (λ flags. bundle_fault c again flags h) o [])
          (option_map_or (λ flags. bundle_passes c again flags h) o true)
      go None = goes
      go (Some flags) = flags_agree (length flags) flags h.skip (record h { skip = 0 })

module _ (s : Shape) (disabled : s.disable_help_subcommand ≡ true) where
  other_agrees : (o : Option Text) (word : Text) (h : Held) → Agrees (other_fault s o word h) (other_passes s o word h)
  other_agrees (Some name) word h = go (bytes_eq name (codes "help")) s.disable_help_subcommand disabled
    where
      go : (x off : Bool) → off ≡ true → Agrees (cond (x && not off) (kind.DisplayHelp ∷ kind.InvalidSubcommand ∷ []) []) (not x || off)
      go false off is = goes
      go true true is = goes
      go true false is = absurd (true≢false (sym is))
  other_agrees None word h = agrees_or (bytes_eq word (45 ∷ 45 ∷ [])) _ _ (flag_word_agrees s.rules s.args_override_self (long_of word) word h)

  step_agrees : (position : ℕ) (h : Held) (step : Step) → Agrees (step_fault s position h step) (step_passes s position h step)
  step_agrees position h value = go (arg_by_index s.rules position)
    where
      stray : (leaf : Bool) → Agrees (cond leaf (kind.UnknownArgument ∷ []) (kind.UnknownArgument ∷ kind.InvalidSubcommand ∷ [])) false
      stray true = refuses _ _ refl
      stray false = stops _ _ _ (inr (inr refl))

      go : (o : Option Rule) → Agrees (option_map_or (λ a. positional_fault s.rules s.args_override_self a h) o (stray_fault s))
          (option_map_or (λ a. positional_passes s.rules s.args_override_self a h) o false)
      go None = stray s.is_leaf
      go (Some a) = agrees_or (is_pending a h.pending && takes_several a) _ _ (settle_agrees s.rules s.args_override_self h)
  step_agrees position h (next waiting) = goes
  step_agrees position h (trailing n) = goes
  step_agrees position h (subcommand name) = goes

  turn_agrees : (names : Names) (w : Walk) (word : Text) → Agrees (turn_fault s names w word) (turn_passes s names w word)
  turn_agrees names w word =
      let met = word_met s.rules names w.is_trailing w.waiting w.position word w.held in
      agrees_or (is_some w.stopped) _ _
      (agrees_then _ _ _ _ (agrees_or w.is_trailing _ _ (other_agrees (subcommand_met names w.waiting word) word w.held)) (step_agrees w.position met.0 met.1))

  walk_agrees : (names : Names) (w : Walk) (words : List Text) → Agrees (walk_fault s names w words) (walk_passes s names w words)
  unfolding walk_fault walk_passes
  walk_agrees names w [] = goes
  walk_agrees names w (word ∷ rest) = agrees_then _ _ _ _ (turn_agrees names w word) (walk_agrees names (walked s.rules names w word) rest)

-- ---- after the walk

-- the kinds alone, where no test is wanted
abbrev OnlyKinds : Kinds → Type 0
OnlyKinds fault = Agrees fault true

request_agrees : (x : ArgAction) → OnlyKinds (request_kinds x)
request_agrees action.Help = stops _ _ _ (inl refl)
request_agrees action.HelpShort = stops _ _ _ (inl refl)
request_agrees action.HelpLong = stops _ _ _ (inl refl)
request_agrees action.Version = stops _ _ _ (inr (inl refl))
request_agrees action.Set = goes
request_agrees action.SetTrue = goes
request_agrees action.SetFalse = goes
request_agrees action.Append = goes
request_agrees action.Count = goes

kinds_or : (a b : Kinds) → IsRequestOrMistakes a → IsRequestOrMistakes b → IsRequestOrMistakes (or_else a b)
kinds_or [] b first second = second
kinds_or (k ∷ ks) b first second = first

defaults_kinds : (rules : List Rule) (rows : List Row) → IsRequestOrMistakes (defaults_fault rows rules)
unfolding defaults_fault
defaults_kinds [] rows = inr (inr refl)
defaults_kinds (a ∷ rest) rows = kinds_or (default_fault rows a) (defaults_fault (with_default rows a) rest)
    (agrees_or (has_row a.id rows || is_empty a.defaults) _ _ (agrees_then _ _ _ _ (request_agrees (action_of a)) (values_agree_of a a.defaults))).kinds
    (defaults_kinds rest (with_default rows a))

none_missing : (rules : List Rule) (rows : List Row) → list_any (λ a. a.required && not (is_given a.id rows)) rules ≡ false
    → list_all (λ a. not a.required || is_given a.id rows) rules ≡ true
none_missing [] rows none = refl
none_missing (a ∷ rest) rows none =
    go a.required (is_given a.id rows) (list_any (λ x. x.required && not (is_given x.id rows)) rest)
    (list_all (λ x. not x.required || is_given x.id rows) rest) (none_missing rest rows) none
  where
    go : (required given missing passes : Bool) → (missing ≡ false → passes ≡ true) → ((required && not given) || missing) ≡ false →
        ((not required || given) && passes) ≡ true
    go false given missing passes later none = later none
    go true true missing passes later none = later none
    go true false missing passes later none = absurd (true≢false none)

check_agrees : (s : Shape) (rows : List Row) (has : Bool) → list_all (λ a. a.is_free) s.rules ≡ true → Agrees (check_fault s rows has) (is_valid s rows has)
check_agrees s rows has free =
    go has s.arg_required_else_help (list_any (λ r. explicit_source r.source) rows) s.subcommand_required
    (list_all (λ a. a.is_free) s.rules) s.subcommand_negates_reqs
    (list_any (λ a. a.required && not (is_given a.id rows)) s.rules) (list_all (λ a. not a.required || is_given a.id rows) s.rules) free
    (none_missing s.rules rows)
  where
    wanted : (negates missing passes : Bool) → (missing ≡ false → passes ≡ true) → Agrees
        (cond (not negates && missing) (kind.MissingRequiredArgument ∷ []) []) (negates || passes)
    wanted true missing passes later = goes
    wanted false true passes later = refuses _ _ refl
    wanted false false passes later = record { passes = λ none. later refl; kinds = inr (inr refl) }

    go : (has helps used wants free negates missing passes : Bool) → free ≡ true → (missing ≡ false → passes ≡ true)
        → Agrees (check_kinds (not has && (helps && not used)) (not has && wants) (not (negates && has) && missing))
        ((not helps || (has || used)) && ((not wants || has) && (free && ((negates && has) || passes))))
    go has helps used wants false negates missing passes is_free later = absurd (true≢false (sym is_free))
    go false true false wants true negates missing passes is_free later = refuses _ _ refl
    go false true true true true negates missing passes is_free later = refuses _ _ refl
    go false true true false true negates missing passes is_free later = wanted (negates && false) missing passes later
    go false false used true true negates missing passes is_free later = refuses _ _ refl
    go false false used false true negates missing passes is_free later = wanted (negates && false) missing passes later
    go true true used true true negates missing passes is_free later = wanted (negates && true) missing passes later
    go true true used false true negates missing passes is_free later = wanted (negates && true) missing passes later
    go true false used true true negates missing passes is_free later = wanted (negates && true) missing passes later
    go true false used false true negates missing passes is_free later = wanted (negates && true) missing passes later

none_of : (a b : Kinds) → or_else a b ≡ [] → (a ≡ []) × (b ≡ [])
none_of [] b none = (refl, none)
none_of (k ∷ ks) b none = absurd (some_kind k ks none)

level_agrees : (s : Shape) (names : Names) (h : Held) (words : List Text) (has : Bool) (below : Kinds) (entered : Bool) → is_settled s ≡ true
    → Agrees below entered
    → Agrees (level_fault s names h words has below) (entered && level_passes s names h words has)
level_agrees s names h words has below entered settles inner =
    let all = both s.disable_help_subcommand _ settles in
    let parts = both (list_all default_passes s.rules) (list_all (λ a. a.is_free) s.rules) all.1 in
    let end = (walk s.rules names h words).held in
    let settle = settle_fault s.rules s.args_override_self end in
    let fills = defaults_fault (settled s.rules end).rows s.rules in
    let checks = check_fault s (finished s.rules end) has in
    let walks = walk_agrees s all.0 names (walk_from h) words in
    let settling = settle_agrees s.rules s.args_override_self end in
    let checking = check_agrees s (finished s.rules end) has parts.1 in
    record {
      passes = λ none.
          let outer = none_of (walk_fault s names (walk_from h) words) (or_else below (or_else settle (or_else fills checks))) none in
          let second = none_of below (or_else settle (or_else fills checks)) outer.1 in
          let third = none_of settle (or_else fills checks) second.1 in
          let last = none_of fills checks third.1 in
          and_from entered (level_passes s names h words has) (inner.passes second.0)
          (and_from (walk_passes s names (walk_from h) words) _ (walks.passes outer.0)
          (and_from (settle_passes s.rules s.args_override_self end) _ (settling.passes third.0)
          (and_from (list_all default_passes s.rules) _ parts.0 (checking.passes last.1))));
      kinds = kinds_or _ (or_else below (or_else settle (or_else fills checks))) walks.kinds
          (kinds_or below (or_else settle (or_else fills checks)) inner.kinds
          (kinds_or settle (or_else fills checks) settling.kinds (kinds_or fills checks (defaults_kinds s.rules _) checking.kinds)));
    }

abbrev fault_in : Text × List Text → Option Shape → Kinds
fault_in p found = option_map_or (λ s. level_fault s [] nothing_held p.1 false []) found []

abbrev passes_in : Text × List Text → Option Shape → Bool
passes_in p found = option_map_or (λ s. level_passes s [] nothing_held p.1 false) found true

found_agrees : (p : Text × List Text) (shapes : List Shape) → list_all is_settled shapes ≡ true
    → Agrees (fault_in p (find (λ s. answers_to p.0 (label_of s)) shapes)) (passes_in p (find (λ s. answers_to p.0 (label_of s)) shapes))
found_agrees p [] all = goes
found_agrees p (s ∷ rest) all =
    let parts = both (is_settled s) (list_all is_settled rest) all in
    first_or_later (answers_to p.0 (label_of s)) (level_agrees s [] nothing_held p.1 false [] true parts.0 goes) (found_agrees p rest parts.1)
  where
    first_or_later : (b : Bool) → Agrees (fault_in p (Some s)) (passes_in p (Some s))
        → Agrees (fault_in p (find (λ x. answers_to p.0 (label_of x)) rest)) (passes_in p (find (λ x. answers_to p.0 (label_of x)) rest))
        → Agrees (fault_in p (cond b (Some s) (find (λ x. answers_to p.0 (label_of x)) rest)))
        (passes_in p (cond b (Some s) (find (λ x. answers_to p.0 (label_of x)) rest)))
    first_or_later true here later = here
    first_or_later false here later = later

entered_agrees : (a : App) (stop : Option (Text × List Text)) → list_all is_settled a.subs ≡ true → Agrees (entered_fault a stop) (entered_passes a stop)
entered_agrees a None subs = goes
entered_agrees a (Some p) subs = found_agrees p a.subs subs

app_agrees : (a : App) (words : List Text) → is_settled_app a ≡ true → Agrees (fault_of a words) (built_takes (built a) nothing_held (argument_words a words))
app_agrees a words settles =
    let levels = both (is_settled (built a).top) _ (both (is_simple a) _ settles).1 in
    let b = built a in
    let given = argument_words a words in
    let stop = (walk b.top.rules (names_of b) nothing_held given).stopped in
    level_agrees b.top (names_of b) nothing_held given (is_some (entered b stop)) (entered_fault b stop) (entered_passes b stop) levels.0
    (entered_agrees b stop levels.1)

-- words in which no step fails are taken
pub faultless_taken : (a : App) (words : List Text) → is_settled_app a ≡ true → fault_of a words ≡ [] → takes a words ≡ true
faultless_taken a words settles none = and_from (is_simple a) _ (both (is_simple a) _ settles).0 ((app_agrees a words settles).passes none)

-- words ask for one text, or have mistakes, or have no fault
pub one_request_or_mistakes : (a : App) (words : List Text) → is_settled_app a ≡ true → IsRequestOrMistakes (fault_of a words)
one_request_or_mistakes a words settles = (app_agrees a words settles).kinds

-- where a kind asks for a text, it is the only one
pub request_alone : (k : ErrorKind) (kinds : Kinds) → is_mistake k ≡ false → IsRequestOrMistakes kinds → IsAmong k kinds
    → (kinds ≡ kind.DisplayHelp ∷ []) ⊎ (kinds ≡ kind.DisplayVersion ∷ [])
request_alone k kinds asks (inl help) among = inl help
request_alone k kinds asks (inr (inl version)) among = inr version
request_alone k kinds asks (inr (inr all)) among = absurd (go kinds all among)
  where
    go : (xs : Kinds) → list_all is_mistake xs ≡ true → IsAmong k xs → ⊥
    go [] all among = among
    go (x ∷ xs) all (inl is) = true≢false (sym (both (is_mistake x) _ all).0 ∙ (ap is_mistake (sym is) ∙ asks))
    go (x ∷ xs) all (inr later) = go xs (both (is_mistake x) _ all).1 later
