-- The words of a command's arguments are read in whatever order.
use Rattle.std.proofs.Common.{◌≡◌, ◌∙◌, ◌==◌, ◌+◌, ◌&&◌, ◌||◌, ℕ, zero, suc, Bool, cond, true, false, not, List, [], ◌∷◌, ◌++◌, codes, find, map}
use Rattle.std.proofs.Common.{Option, Some, None, ap, append-nil, append_assoc, arith, inl, inr, is_some, min, option_map, refl, subst, sym, true≢false}
use Rattle.std.specs.Prelude.{nat_le, nat_lt}
use Rattle.std.specs.List.{after_first, list_any}
use Rattle.std.specs.Option.{option_map_or}
use Rattle.std.specs.Str.{bytes_eq}
use Rattle.std.proofs.lemmas.Bool.{and_from, eqb-true}
use Rattle.std.proofs.lemmas.Bool.Decides.{eqb_tells}
use Rattle.std.proofs.lemmas.Slice.Eq.{bytes_eq-Decides}
use Rattle.clap.specs.Facts.{parser_of_value, unwrap_or_range}
use Rattle.clap.specs.Lexer.{has_byte, long_of, usize_max}
use Rattle.clap.specs.Values.{Accepts}
use Rattle.clap.specs.Walk.{Held, Row, Rule, Step, Text, action_of, after_flag, after_step, arg_by_id, arg_by_index, arg_by_long}
use Rattle.clap.specs.Walk.{flag_met, has_long, has_row, idle, is_append, long_met, long_or_other, more_values, most_values, nothing_held, option_met, reacted}
use Rattle.clap.specs.Walk.{reading_by, takes_several, trailing, used, used_as, walk_from, walked, with_values, without, word_met}
use Rattle.clap.specs.Simple.{Shape}
use Rattle.clap.specs.Takes.{action_passes, flag_word_passes, long_passes, option_passes, react_passes, set_passes, step_passes}
use Rattle.clap.specs.Takes.{turn_passes, use_passes, value_passes, values_pass, word_passes}
use Rattle.clap.specs.declared.builder.action.ArgAction.{ArgAction}
use Rattle.clap.specs.declared.builder.action.ArgAction.TheVariants.{Set, SetTrue}
use Rattle.clap.specs.declared.builder.value_parser.Reading.TheVariants as reading
use Rattle.clap.specs.declared.parser.matches.ValueSource.TheVariants.{CommandLine}
use Rattle.clap.proofs.CutLemmas.{Lacks, after_first-at, before_first-Lacks, before_first-at, list_any-at}
use Rattle.clap.proofs.ValueTestLemmas.{Accepts-accepts}
use Rattle.clap.proofs.WalkLemmas.{both}
use Rattle.s39_clap.specs.Arguments.{AreGivenFrom, AreWordsOf, AreWordsOfAll, Given, flag, given_for, is_kind, is_sayable, is_set, is_set_true, met_at}
use Rattle.s39_clap.specs.Arguments.{name_of, option, place_after, positional, says_true, takes_just, takes_one, value_of}
use Rattle.s39_clap.specs.Options.{AreOptionWords, HasNoDash, name_word}
use Rattle.s39_clap.proofs.Filled.{absent_at}
use Rattle.s39_clap.proofs.Options.{IsSaid, leads_by, leads_then, standing}
use Rattle.s39_clap.proofs.Readings.{MayHave, Reads, reads_option, reads_positional}

abbrev pub is_id : Text → Row → Bool
is_id id r = bytes_eq r.id id

pub same_text : (text : Text) → bytes_eq text text ≡ true
same_text text = (bytes_eq-Decides text text).1 refl

-- ---- the argument of an id

-- no two have the same
abbrev pub ids_differ : List Rule → Bool
ids_differ [] = true
ids_differ (a ∷ rest) = not (list_any (λ b. bytes_eq b.id a.id) rest) && ids_differ rest

pub is_no : (b : Bool) → not b ≡ true → b ≡ false
is_no false is = refl
is_no true is = absurd (true≢false (sym is))

lacks_id : (test : Rule → Bool) (id : Text) (rules : List Rule) (a : Rule) → list_any (λ b. bytes_eq b.id id) rules ≡ false → find test rules ≡ Some a
    → bytes_eq a.id id ≡ false
lacks_id test id [] a lacks found = absurd (let bad : None ≡ Some a = found in cc)
lacks_id test id (b ∷ rest) a lacks found = go (test b) (bytes_eq b.id id) refl (lacks_id test id rest a) lacks found
  where
    go : (t here : Bool) → bytes_eq b.id id ≡ here
        → (list_any (λ x. bytes_eq x.id id) rest ≡ false → find test rest ≡ Some a → bytes_eq a.id id ≡ false)
        → (here || list_any (λ x. bytes_eq x.id id) rest) ≡ false → cond t (Some b) (find test rest) ≡ Some a → bytes_eq a.id id ≡ false
    go t true is later lacks found = absurd (true≢false lacks)
    go true false is later lacks found = let same : b ≡ a = cc in subst (λ (x : Rule). bytes_eq x.id id ≡ false) same is
    go false false is later lacks found = later lacks found

own_id : (test : Rule → Bool) (rules : List Rule) (a : Rule) → ids_differ rules ≡ true → find test rules ≡ Some a → arg_by_id rules a.id ≡ Some a
own_id test [] a differ found = absurd (let bad : None ≡ Some a = found in cc)
own_id test (b ∷ rest) a differ found =
    let parts = both (not (list_any (λ x. bytes_eq x.id b.id) rest)) (ids_differ rest) differ in
    go (is_no _ parts.0) (own_id test rest a parts.1) (test b) (bytes_eq b.id a.id) refl found
  where
    go : list_any (λ x. bytes_eq x.id b.id) rest ≡ false → (find test rest ≡ Some a → arg_by_id rest a.id ≡ Some a)
        → (t here : Bool) → bytes_eq b.id a.id ≡ here → cond t (Some b) (find test rest) ≡ Some a → cond here (Some b) (arg_by_id rest a.id) ≡ Some a
    go lacks later true true is found = found
    go lacks later true false is found =
        let same : b ≡ a = cc in
        absurd (true≢false (sym (ap (λ (x : Rule). bytes_eq x.id a.id) same ∙ same_text a.id) ∙ is))
    go lacks later false false is found = later found
    go lacks later false true is found =
        let key : b.id ≡ a.id = (bytes_eq-Decides b.id a.id).0 is in
        absurd (true≢false (sym (ap (bytes_eq a.id) key ∙ same_text a.id) ∙ lacks_id test b.id rest a lacks found))

-- ---- the words that say a name

lacks_byte : (c : ℕ) (text : List ℕ) → has_byte c text ≡ false → Lacks c text
lacks_byte c [] none i lt same = omega (arith, lt)
lacks_byte c (x ∷ rest) none zero lt same = elim (eqb_tells x c) [
  | inl here ↦ true≢false (sym (ap (λ b. b || has_byte c rest) here.0) ∙ none)
  | inr other ↦ other.1 same
]
lacks_byte c (x ∷ rest) none (suc i) lt same = lacks_byte c rest (later (x == c) none) i (omega (arith, lt)) same
  where
    later : (b : Bool) → (b || has_byte c rest) ≡ false → has_byte c rest ≡ false
    later true is = absurd (true≢false is)
    later false is = is

said : (name : Text) → is_sayable name ≡ true → IsSaid name
said [] sayable = absurd (true≢false (sym sayable))
said (c ∷ rest) sayable =
    let none = is_no (has_byte 61 (c ∷ rest)) sayable in
    let lacks = lacks_byte 61 (c ∷ rest) none in record {
      alone = λ i. Some (before_first-Lacks 61 (c ∷ rest) lacks i, cond (none i) (Some (after_first (λ x. x == 61) (c ∷ rest))) None);
      joined = λ value i. Some (before_first-at 61 (c ∷ rest) value lacks i, cond (list_any-at 61 (c ∷ rest) value i) (Some (after_first-at 61 (c ∷ rest) value lacks i)) None);
      alone_goes_on = refl;
      joined_goes_on = λ value. refl;
    }

-- ---- a flag

-- the name is that of one of the level's flags
record IsFlag (s : Shape) (a : Rule) (name : Text) : Type 0 where
  pub by_name : arg_by_long s.rules name ≡ Some a
  pub none : most_values a ≡ 0
  pub is_said : IsSaid name

module _ (s : Shape) (a : Rule) (name : Text) (is : IsFlag s a name) (position : ℕ) (h : Held) where
  abbrev after : Held
  after = reacted s.rules a [] h

  flag_reads : word_met s.rules [] false idle position (name_word name) h
      ≡ after_flag s.rules idle (name_word name) (flag_met s.rules a None h).0 (flag_met s.rules a None h).1
  flag_reads =
      ap (λ (b : Bool). cond b (h, trailing position) (long_or_other s.rules idle (name_word name) (long_of (name_word name)) h)) is.is_said.alone_goes_on
      ∙ ap (λ (l : Option (Text × Option Text)). long_or_other s.rules idle (name_word name) l h) is.is_said.alone
      ∙ ap (λ (r : Option Rule). after_flag s.rules idle (name_word name) (long_met s.rules r None h).0 (long_met s.rules r None h).1) is.by_name
      ∙ ap (λ (n : ℕ). after_flag s.rules idle (name_word name) (cond (not (n == 0)) (option_met s.rules a None h) (flag_met s.rules a None h)).0
      (cond (not (n == 0)) (option_met s.rules a None h) (flag_met s.rules a None h)).1) is.none

  flag_is_taken : react_passes s.rules s.args_override_self a [] h ≡ true → word_passes s [] false idle (name_word name) h ≡ true
  flag_is_taken passes =
      ap (λ (b : Bool). b || flag_word_passes s.rules s.args_override_self (long_of (name_word name)) (name_word name) h) is.is_said.alone_goes_on
      ∙ ap (λ (l : Option (Text × Option Text)). flag_word_passes s.rules s.args_override_self l (name_word name) h) is.is_said.alone
      ∙ ap (λ (r : Option Rule). long_passes s.rules s.args_override_self r None h) is.by_name
      ∙ ap (λ (n : ℕ). cond (not (n == 0)) (option_passes s.rules s.args_override_self a None h)
      (react_passes s.rules s.args_override_self a [] h)) is.none ∙ passes

  flag_is : walked s.rules [] (standing position h) (name_word name) ≡ standing position after
  unfolding walked
  flag_is = ap (λ (p : Held × Step). after_step s.rules (name_word name) (standing position h) p.0 p.1) flag_reads

  flag_passes : react_passes s.rules s.args_override_self a [] h ≡ true → turn_passes s [] (standing position h) (name_word name) ≡ true
  flag_passes passes =
      ap (λ (b : Bool). b && step_passes s position (word_met s.rules [] false idle position (name_word name) h).0
      (word_met s.rules [] false idle position (name_word name) h).1) (flag_is_taken passes)
      ∙ ap (λ (p : Held × Step). step_passes s position p.0 p.1) flag_reads

-- and then a flag
reads_flag : (s : Shape) (position : ℕ) (before : List Text) (rows : List Row) → Reads s position before rows → (a : Rule) (name : Text)
    → IsFlag s a name → use_passes s.args_override_self a [] rows ≡ true → Reads s position (before ++ name_word name ∷ []) (used a [] rows)
reads_flag s position before rows reads a name is may =
    let passes : react_passes s.rules s.args_override_self a [] reads.end ≡ true =
    and_from _ _ reads.settles (ap (λ (r : List Row). use_passes s.args_override_self a [] r) reads.rows_are ∙ may) in record {
      end = reacted s.rules a [] reads.end;
      leads = leads_then s before (name_word name ∷ []) (walk_from nothing_held) (standing position reads.end)
          (standing position (reacted s.rules a [] reads.end)) reads.leads
          (leads_by s (name_word name) (standing position reads.end) (standing position (reacted s.rules a [] reads.end))
          (flag_is s a name is position reads.end) (flag_passes s a name is position reads.end passes));
      rows_are = ap (used a []) reads.rows_are;
      settles = refl;
    }

-- ---- one use

-- the row of an argument that is given this text
abbrev pub row_at : Shape → Text → Text → Row
row_at s id text = record {
  id = id;
  values = text ∷ [];
  count = None;
  source = Some CommandLine;
  reading = option_map_or reading_by (arg_by_id s.rules id) reading.AsWritten;
}

set_is : (x : ArgAction) → is_set x ≡ true → x ≡ Set
set_is Set is = refl
set_is _ is = absurd (true≢false (sym is))

set_true_is : (x : ArgAction) → is_set_true x ≡ true → x ≡ SetTrue
set_true_is SetTrue is = refl
set_true_is _ is = absurd (true≢false (sym is))

true_is : (texts : List Text) → says_true texts ≡ true → texts ≡ codes "true" ∷ []
true_is [] is = absurd (true≢false (sym is))
true_is (text ∷ []) is = ap (λ (t : Text). t ∷ []) ((bytes_eq-Decides text (codes "true")).0 (both (bytes_eq text (codes "true")) true is).0)
true_is (text ∷ more ∷ rest) is = absurd (true≢false (sym (both (bytes_eq text (codes "true")) false is).1))

takes_just_is : (n : ℕ) (a : Rule) → takes_just n a ≡ true → ((unwrap_or_range a.range).start_inclusive ≡ n) × (most_values a ≡ n)
takes_just_is n a is =
    let parts = both ((unwrap_or_range a.range).start_inclusive == n) (most_values a == n) is in
    (eqb-true _ _ parts.0, eqb-true _ _ parts.1)

module _ (s : Shape) (a : Rule) (name text : Text) (named : a.id ≡ name) (own : arg_by_id s.rules a.id ≡ Some a) (rows : List Row)
    (none : has_row name rows ≡ false) where
  absent : has_row a.id rows ≡ false
  absent = ap (λ (id : Text). has_row id rows) named ∙ none

  row_is : (record { id = a.id; values = text ∷ []; count = None; source = Some CommandLine; reading = reading_by a }) ≡ row_at s name text
  row_is =
      ap (λ (r : Option Rule). record {
        id = a.id;
        values = text ∷ [];
        count = None;
        source = Some CommandLine;
        reading = option_map_or reading_by r reading.AsWritten;
      }) (sym own)
      ∙ ap (λ (id : Text). row_at s id text) named

  set_once : with_values a.id (reading_by a) CommandLine (text ∷ []) (without a.id rows) ≡ rows ++ row_at s name text ∷ []
  set_once =
      ap (with_values a.id (reading_by a) CommandLine (text ∷ [])) (absent_at a.id (λ _. []) [] rows absent ∙ append-nil rows)
      ∙ absent_at a.id (more_values CommandLine (text ∷ [])) _ rows absent ∙ ap (λ (r : Row). rows ++ r ∷ []) row_is

  set_passes_once : value_passes a text ≡ true → ((not (has_row a.id rows) || s.args_override_self) && values_pass a (text ∷ [])) ≡ true
  set_passes_once accepted =
      ap (λ (b : Bool). (not b || s.args_override_self) && values_pass a (text ∷ [])) absent ∙ and_from _ _ accepted refl

module _ (s : Shape) (place : ℕ) (before : List Text) (rows : List Row) (held : Reads s place before rows) (differ : ids_differ s.rules ≡ true) (a : Rule)
    (name : Text) (named : a.id ≡ name) (none : has_row name rows ≡ false) where
  module _ (value : Text) (one : takes_one a ≡ true) (accepted : value_passes a value ≡ true) (own : arg_by_id s.rules a.id ≡ Some a) where
    sets : action_of a ≡ Set
    sets = set_is (action_of a) (both (is_set (action_of a)) (takes_just 1 a) one).0

    just : ((unwrap_or_range a.range).start_inclusive ≡ 1) × (most_values a ≡ 1)
    just = takes_just_is 1 a (both (is_set (action_of a)) (takes_just 1 a) one).1

    value_used : used a (value ∷ []) rows ≡ rows ++ row_at s name value ∷ []
    value_used = ap (λ (x : ArgAction). used_as x a.id (reading_by a) (value ∷ []) rows) sets ∙ set_once s a name value named own rows none

    may_have : MayHave s a value rows
    may_have =
        ap (λ (n : ℕ). nat_le n 1 && (nat_le 1 (most_values a) && action_passes (action_of a) s.args_override_self a (value ∷ []) rows)) just.0
        ∙ ap (λ (n : ℕ). nat_le 1 n && action_passes (action_of a) s.args_override_self a (value ∷ []) rows) just.1
        ∙ ap (λ (x : ArgAction). action_passes x s.args_override_self a (value ∷ []) rows) sets
        ∙ set_passes_once s a name value named own rows none accepted

  option_held : (value : Text) → is_kind a (option name value) ≡ true → value_passes a value ≡ true → arg_by_long s.rules name ≡ Some a
      → (words : List Text) → AreOptionWords name value words → Reads s place (before ++ words) (rows ++ row_at s name value ∷ [])
  option_held value kind accepted met words are =
      let parts = both (is_sayable name) (takes_one a) kind in
      let own = own_id (λ x. not (is_some x.index) && has_long x name) s.rules a differ met in
      subst (Reads s place (before ++ words)) (value_used value parts.1 accepted own)
      (reads_option s place before rows held a name value words (record {
        by_name = met;
        by_id = own;
        one = (just value parts.1 accepted own).1;
        is_said = said name parts.0;
      }) are (may_have value parts.1 accepted own))

  flag_held : is_kind a (flag name) ≡ true → value_passes a (codes "true") ≡ true → arg_by_long s.rules name ≡ Some a
      → Reads s place (before ++ name_word name ∷ []) (rows ++ row_at s name (codes "true") ∷ [])
  flag_held kind accepted met =
      let parts = both (is_sayable name) (is_set_true (action_of a) && (takes_just 0 a && says_true a.missing)) kind in
      let more = both (is_set_true (action_of a)) (takes_just 0 a && says_true a.missing) parts.1 in
      let last = both (takes_just 0 a) (says_true a.missing) more.1 in
      let sets = set_true_is (action_of a) more.0 in
      let missing = true_is a.missing last.1 in
      let just = takes_just_is 0 a last.0 in
      let own = own_id (λ x. not (is_some x.index) && has_long x name) s.rules a differ met in
      subst (Reads s place (before ++ name_word name ∷ []))
      (ap (λ (x : ArgAction). used_as x a.id (reading_by a) a.missing rows) sets
      ∙ ap (λ (v : List Text). with_values a.id (reading_by a) CommandLine v (without a.id rows)) missing
      ∙ set_once s a name (codes "true") named own rows none)
      (reads_flag s place before rows held a name (record { by_name = met; none = just.1; is_said = said name parts.0 })
      (ap (λ (n : ℕ). nat_le n 0 && (nat_le 0 (most_values a) && action_passes (action_of a) s.args_override_self a a.missing rows)) just.0
      ∙ ap (λ (n : ℕ). nat_le 0 n && action_passes (action_of a) s.args_override_self a a.missing rows) just.1
      ∙ ap (λ (x : ArgAction). action_passes x s.args_override_self a a.missing rows) sets
      ∙ ap (λ (v : List Text). set_passes s.args_override_self a v rows) missing
      ∙ set_passes_once s a name (codes "true") named own rows none accepted))

  positional_held : (value : Text) → is_kind a (positional name value) ≡ true → value_passes a value ≡ true → arg_by_index s.rules place ≡ Some a
      → HasNoDash value → Reads s (min (place + 1) usize_max) (before ++ value ∷ []) (rows ++ row_at s name value ∷ [])
  positional_held value kind accepted met no_dash =
      let parts = both (takes_one a) (not a.trailing_var_arg) kind in
      let own = own_id (λ x. option_map_or (λ k. k == place) x.index false) s.rules a differ met in
      let only = just value parts.0 accepted own in
      let several : takes_several a ≡ false =
      ap (λ (n : ℕ). not (n == most_values a) || nat_lt 1 n) only.0 ∙ ap (λ (n : ℕ). not (1 == n) || false) only.1 in
      subst (Reads s (min (place + 1) usize_max) (before ++ value ∷ [])) (value_used value parts.0 accepted own)
      (reads_positional s place before rows held a value (record {
        at = met;
        by_id = own;
        one = ap (λ (b : Bool). b || is_append (action_of a)) several ∙ ap is_append (sets value parts.0 accepted own);
        several = several;
        goes_on = is_no a.trailing_var_arg parts.1;
      }) no_dash (may_have value parts.0 accepted own))

-- ---- all that are given

-- no argument that is given has a row yet
abbrev AreNew : List Row → List Given → Type 0
AreNew rows given = (id : Text) → has_row id rows ≡ true → is_some (given_for given id) ≡ true → ⊥

some_more : (g : Given) (rest : List Given) (id : Text) → is_some (given_for rest id) ≡ true → is_some (given_for (g ∷ rest) id) ≡ true
some_more g rest id some = go (bytes_eq (name_of g) id)
  where
    go : (b : Bool) → is_some (option_map value_of (cond b (Some g) (find (λ x. bytes_eq (name_of x) id) rest))) ≡ true
    go true = refl
    go false = some

head_new : (rows : List Row) (g : Given) (rest : List Given) → AreNew rows (g ∷ rest) → has_row (name_of g) rows ≡ false
head_new rows g rest new = go (has_row (name_of g) rows) refl
  where
    go : (b : Bool) → has_row (name_of g) rows ≡ b → has_row (name_of g) rows ≡ false
    go false is = is
    go true is = absurd (new (name_of g) is
        (ap (λ (b : Bool). is_some (option_map value_of (cond b (Some g) (find (λ x. bytes_eq (name_of x) (name_of g)) rest)))) (same_text (name_of g))))

has_row-one : (id : Text) (rows : List Row) (r : Row) → has_row id (rows ++ r ∷ []) ≡ (has_row id rows || bytes_eq r.id id)
has_row-one id [] r = or_none (bytes_eq r.id id)
  where
    or_none : (b : Bool) → (b || false) ≡ b
    or_none true = refl
    or_none false = refl
has_row-one id (x ∷ rest) r = go (bytes_eq x.id id) (has_row-one id rest r)
  where
    go : (b : Bool) → has_row id (rest ++ r ∷ []) ≡ (has_row id rest || bytes_eq r.id id)
        → (b || has_row id (rest ++ r ∷ [])) ≡ ((b || has_row id rest) || bytes_eq r.id id)
    go true later = refl
    go false later = later

rest_new : (s : Shape) (rows : List Row) (g : Given) (rest : List Given) → AreNew rows (g ∷ rest) → given_for rest (name_of g) ≡ None
    → AreNew (rows ++ row_at s (name_of g) (value_of g) ∷ []) rest
rest_new s rows g rest new once id has some =
    go (has_row id rows) refl (sym (has_row-one id rows (row_at s (name_of g) (value_of g))) ∙ has)
  where
    go : (b : Bool) → has_row id rows ≡ b → (has_row id rows || bytes_eq (name_of g) id) ≡ true → ⊥
    go true is either = new id is (some_more g rest id some)
    go false is either =
        let same : name_of g ≡ id = (bytes_eq-Decides (name_of g) id).0 (sym (ap (λ (b : Bool). b || bytes_eq (name_of g) id) is) ∙ either) in
        true≢false (sym some ∙ ap (λ (i : Text). is_some (given_for rest i)) (sym same) ∙ ap (λ (o : Option Text). is_some o) once)

abbrev pub rows_of_all : Shape → List Given → List Row
rows_of_all s = map (λ g. row_at s (name_of g) (value_of g))

one_held : (s : Shape) (place : ℕ) (before : List Text) (rows : List Row) → Reads s place before rows → ids_differ s.rules ≡ true → (g : Given)
    (a : Rule) → met_at s.rules place g ≡ Some a → a.id ≡ name_of g → is_kind a g ≡ true → Accepts a.ignore_case (parser_of_value a.parser) (value_of g)
    → has_row (name_of g) rows ≡ false → (words : List Text) → AreWordsOf g words
    → Reads s (place_after place g) (before ++ words) (rows ++ row_at s (name_of g) (value_of g) ∷ [])
one_held s place before rows held differ (option name value) a met named kind accepted none words are =
    option_held s place before rows held differ a name named none value kind (Accepts-accepts a.ignore_case (parser_of_value a.parser) value accepted) met
    words are
one_held s place before rows held differ (flag name) a met named kind accepted none words are =
    subst (λ (w : List Text). Reads s place (before ++ w) (rows ++ row_at s name (codes "true") ∷ [])) (sym are)
    (flag_held s place before rows held differ a name named none kind
    (Accepts-accepts a.ignore_case (parser_of_value a.parser) (codes "true") accepted) met)
one_held s place before rows held differ (positional name value) a met named kind accepted none words are =
    subst (λ (w : List Text). Reads s (min (place + 1) usize_max) (before ++ w) (rows ++ row_at s name value ∷ [])) (sym are.1)
    (positional_held s place before rows held differ a name named none value kind
    (Accepts-accepts a.ignore_case (parser_of_value a.parser) value accepted) met are.0)

pub all_held : (s : Shape) (place : ℕ) (before : List Text) (rows : List Row) → Reads s place before rows → ids_differ s.rules ≡ true → (given : List Given)
    → AreGivenFrom s.rules place given → AreNew rows given → (words : List Text) → AreWordsOfAll given words
    → (end : ℕ) × Reads s end (before ++ words) (rows ++ rows_of_all s given)
all_held s place before rows held differ [] are new words none = (
  place,
  subst (λ (r : List Row). Reads s place (before ++ words) r) (sym (append-nil rows))
      (subst (λ (w : List Text). Reads s place w rows) (sym (ap (λ (w : List Text). before ++ w) none ∙ append-nil before)) held),
)
all_held s place before rows held differ (g ∷ rest) (a, met, named, kind, accepted, once, later) new words (first, others, split, here, there) =
    let r = row_at s (name_of g) (value_of g) in
    let one = one_held s place before rows held differ g a met named kind accepted (head_new rows g rest new) first here in
    let all = all_held s (place_after place g) (before ++ first) (rows ++ r ∷ []) one differ rest later (rest_new s rows g rest new once) others there in (
      all.0,
      subst (λ (l : List Row). Reads s all.0 (before ++ words) l) (append_assoc rows (r ∷ []) (rows_of_all s rest))
          (subst (λ (w : List Text). Reads s all.0 w ((rows ++ r ∷ []) ++ rows_of_all s rest))
          (append_assoc before first others ∙ ap (λ (w : List Text). before ++ w) (sym split)) all.1),
    )
