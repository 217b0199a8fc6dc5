-- How the words of an option are read, in front of any others.
use Rattle.std.proofs.Common.{◌≡◌, ◌∙◌, ◌==◌, ◌&&◌, ◌||◌, ℕ, Bool, cond, true, false, not, List, [], ◌∷◌, ◌++◌, codes, Option, Some, None, ap, append_assoc}
use Rattle.std.proofs.Common.{inl, inr, is_some, nat_lt, refl, subst, sym}
use Rattle.std.specs.List.{fold}
use Rattle.std.specs.Option.{option_map_or}
use Rattle.std.specs.Str.{bytes_eq}
use Rattle.std.proofs.lemmas.Bool.{and_from, eqb-true}
use Rattle.std.proofs.lemmas.Slice.Eq.{bytes_eq-Decides}
use Rattle.clap.specs.Lexer.{long_of, short_of}
use Rattle.clap.specs.Walk.{Held, Rule, Step, Text, Waiting, Walk, after_flag, after_step, arg_by_id, arg_by_long, flag_met, idle, long_met, long_or_other}
use Rattle.clap.specs.Walk.{most_values, next, option, option_met, option_word, reacted, settled, short_or_plain, trailing, used, used_by_id, walked, word_met}
use Rattle.clap.specs.Simple.{Shape}
use Rattle.clap.specs.Takes.{bundle_passes, flag_word_passes, long_passes, option_passes, react_passes, settle_passes, step_passes, turn_passes, use_passes}
use Rattle.clap.specs.Takes.{walk_passes, word_passes}
use Rattle.s39_clap.specs.Options.{AreOptionWords, HasNoDash, joined_word, name_word}

-- between two words, where nothing waits for a value
abbrev pub standing : ℕ → Held → Walk
standing position held = record { held = held; waiting = idle; position = position; is_trailing = false; stopped = None }

-- where an option's name was read, which waits for its value
abbrev expecting : Text → ℕ → Held → Walk
expecting id position held = record { held = held; waiting = option id; position = position; is_trailing = false; stopped = None }

abbrev went_on : Held → Waiting → Held × Step
went_on h waiting = (h, next waiting)

-- Whatever follows, these words lead from one place to another, and none of them is refused.
pub record Leads (s : Shape) (words : List Text) (old new : Walk) : Type 0 where
  pub walks : (rest : List Text) → fold (walked s.rules []) old (words ++ rest) ≡ fold (walked s.rules []) new rest
  pub passes : (rest : List Text) → walk_passes s [] old (words ++ rest) ≡ walk_passes s [] new rest

pub leads_then : (s : Shape) (first second : List Text) (a b c : Walk) → Leads s first a b → Leads s second b c → Leads s (first ++ second) a c
leads_then s first second a b c one two = record {
  walks = λ rest. ap (fold (walked s.rules []) a) (append_assoc first second rest) ∙ one.walks (second ++ rest) ∙ two.walks rest;
  passes = λ rest. ap (walk_passes s [] a) (append_assoc first second rest) ∙ one.passes (second ++ rest) ∙ two.passes rest;
}

-- one word
pub leads_by : (s : Shape) (word : Text) (old new : Walk) → walked s.rules [] old word ≡ new → turn_passes s [] old word ≡ true
    → Leads s (word ∷ []) old new
unfolding walk_passes
leads_by s word old new is passes = record {
  walks = λ rest. ap (λ (w : Walk). fold (walked s.rules []) w rest) is;
  passes = λ rest.
      ap (λ (b : Bool). b && walk_passes s [] (walked s.rules [] old word) rest) passes
      ∙ ap (λ (w : Walk). walk_passes s [] w rest) is;
}

-- `--name` says the name, and `--name=value` the name and the value
pub record IsSaid (name : Text) : Type 0 where
  pub alone : long_of (name_word name) ≡ Some (name, None)
  pub joined : (value : Text) → long_of (joined_word name value) ≡ Some (name, Some value)
  pub alone_goes_on : bytes_eq (name_word name) (codes "--") ≡ false
  pub joined_goes_on : (value : Text) → bytes_eq (joined_word name value) (codes "--") ≡ false

-- the name is that of one of the level's options, of which each use takes one value
pub record IsOption (s : Shape) (a : Rule) (name : Text) : Type 0 where
  pub by_name : arg_by_long s.rules name ≡ Some a
  pub by_id : arg_by_id s.rules a.id ≡ Some a
  pub one : most_values a ≡ 1
  pub is_said : IsSaid name

-- the value may be given, in this place
abbrev pub MayBeGiven : Shape → Rule → Text → Held → Type 0
MayBeGiven s a value h = (use_passes s.args_override_self a (value ∷ []) (settled s.rules h).rows ≡ true)
    × (settle_passes s.rules s.args_override_self h ≡ true)

-- what is held after the option, from what was
pub record Enters (s : Shape) (a : Rule) (value : Text) (old new : Held) : Type 0 where
  pub rows_are : (settled s.rules new).rows ≡ used a (value ∷ []) (settled s.rules old).rows
  pub settles : settle_passes s.rules s.args_override_self new ≡ true

-- ---- a word that doesn't begin with a dash

-- the word is neither the name of an option nor flags
pub record IsPlain (word : Text) : Type 0 where
  pub goes_on : bytes_eq word (codes "--") ≡ false
  pub no_long : long_of word ≡ None
  pub no_short : short_of word ≡ None

pub plain_word : (word : Text) → HasNoDash word → IsPlain word
plain_word [] none = record { goes_on = refl; no_long = refl; no_short = refl }
plain_word (x ∷ rest) none = go (x == 45) refl
  where
    go : (b : Bool) → (x == 45) ≡ b → IsPlain (x ∷ rest)
    go true is = absurd (none rest (ap (λ (y : ℕ). y ∷ rest) (eqb-true x 45 is)))
    go false is = record { goes_on = rw is refl; no_long = rw is refl; no_short = rw is refl }

module _ (s : Shape) (a : Rule) (name : Text) (is : IsOption s a name) (position : ℕ) (h : Held) where
  -- ---- a word that has a name

  word_reads : (word : Text) (value : Option Text) → bytes_eq word (codes "--") ≡ false → long_of word ≡ Some (name, value)
      → word_met s.rules [] false idle position word h ≡ after_flag s.rules idle word (option_met s.rules a value h).0 (option_met s.rules a value h).1
  word_reads word value goes_on named =
      ap (λ (b : Bool). cond b (h, trailing position) (long_or_other s.rules idle word (long_of word) h)) goes_on
      ∙ ap (λ (l : Option (Text × Option Text)). long_or_other s.rules idle word l h) named
      ∙ ap (λ (r : Option Rule). after_flag s.rules idle word (long_met s.rules r value h).0 (long_met s.rules r value h).1) is.by_name
      ∙ ap (λ (n : ℕ). after_flag s.rules idle word (cond (not (n == 0)) (option_met s.rules a value h) (flag_met s.rules a value h)).0
      (cond (not (n == 0)) (option_met s.rules a value h) (flag_met s.rules a value h)).1) is.one

  word_is_taken : (word : Text) (value : Option Text) → bytes_eq word (codes "--") ≡ false → long_of word ≡ Some (name, value)
      → option_passes s.rules s.args_override_self a value h ≡ true → word_passes s [] false idle word h ≡ true
  word_is_taken word value goes_on named passes =
      ap (λ (b : Bool). b || flag_word_passes s.rules s.args_override_self (long_of word) word h) goes_on
      ∙ ap (λ (l : Option (Text × Option Text)). flag_word_passes s.rules s.args_override_self l word h) named
      ∙ ap (λ (r : Option Rule). long_passes s.rules s.args_override_self r value h) is.by_name
      ∙ ap (λ (n : ℕ). cond (not (n == 0)) (option_passes s.rules s.args_override_self a value h)
      (not (is_some value) && react_passes s.rules s.args_override_self a [] h)) is.one ∙ passes

  -- ---- in one word

  module _ (value : Text) where
    abbrev after_joined : Held
    after_joined = reacted s.rules a (value ∷ []) h

    joined_is : walked s.rules [] (standing position h) (joined_word name value) ≡ standing position after_joined
    unfolding walked
    joined_is =
        ap (λ (p : Held × Step). after_step s.rules (joined_word name value) (standing position h) p.0 p.1)
        (word_reads (joined_word name value) (Some value) (is.is_said.joined_goes_on value) (is.is_said.joined value))

    joined_passes : MayBeGiven s a value h → turn_passes s [] (standing position h) (joined_word name value) ≡ true
    joined_passes fits =
        ap (λ (b : Bool). b && step_passes s position (word_met s.rules [] false idle position (joined_word name value) h).0
        (word_met s.rules [] false idle position (joined_word name value) h).1)
        (word_is_taken (joined_word name value) (Some value) (is.is_said.joined_goes_on value) (is.is_said.joined value) (and_from _ _ fits.1 fits.0))
        ∙ ap (λ (p : Held × Step). step_passes s position p.0 p.1)
        (word_reads (joined_word name value) (Some value) (is.is_said.joined_goes_on value) (is.is_said.joined value))

    by_joined : MayBeGiven s a value h → Leads s (joined_word name value ∷ []) (standing position h) (standing position after_joined)
    by_joined fits = leads_by s (joined_word name value) (standing position h) (standing position after_joined) joined_is (joined_passes fits)

    -- ---- in two words

    abbrev after_name : Held
    after_name = record (settled s.rules h) { pending = Some (a.id, []) }

    name_is : walked s.rules [] (standing position h) (name_word name) ≡ expecting a.id position after_name
    unfolding walked
    name_is =
        ap (λ (p : Held × Step). after_step s.rules (name_word name) (standing position h) p.0 p.1)
        (word_reads (name_word name) None is.is_said.alone_goes_on is.is_said.alone)

    name_passes : MayBeGiven s a value h → turn_passes s [] (standing position h) (name_word name) ≡ true
    name_passes fits =
        ap (λ (b : Bool). b && step_passes s position (word_met s.rules [] false idle position (name_word name) h).0
        (word_met s.rules [] false idle position (name_word name) h).1)
        (word_is_taken (name_word name) None is.is_said.alone_goes_on is.is_said.alone fits.1)
        ∙ ap (λ (p : Held × Step). step_passes s position p.0 p.1) (word_reads (name_word name) None is.is_said.alone_goes_on is.is_said.alone)

    abbrev after_value : Held
    after_value = record (settled s.rules h) { pending = Some (a.id, value ∷ []) }

    value_reads : IsPlain value → word_met s.rules [] false (option a.id) position value after_name ≡ (after_value, next idle)
    value_reads plain =
        ap (λ (b : Bool). cond b (after_name, trailing position) (long_or_other s.rules (option a.id) value (long_of value) after_name)) plain.goes_on
        ∙ ap (λ (l : Option (Text × Option Text)). long_or_other s.rules (option a.id) value l after_name) plain.no_long
        ∙ ap (λ (o : Option Text). short_or_plain s.rules (option a.id) value o after_name) plain.no_short
        ∙ ap (λ (r : Option Rule). went_on (option_word r a.id value after_name).0 (option_word r a.id value after_name).1) is.by_id
        ∙ ap (λ (b : Bool). went_on after_value (cond (nat_lt (cond b 1 0) (most_values a)) (option a.id) idle)) ((bytes_eq-Decides a.id a.id).1 refl)
        ∙ ap (λ (n : ℕ). went_on after_value (cond (nat_lt 1 n) (option a.id) idle)) is.one

    value_is : IsPlain value → walked s.rules [] (expecting a.id position after_name) value ≡ standing position after_value
    unfolding walked
    value_is plain =
        ap (λ (p : Held × Step). after_step s.rules value (expecting a.id position after_name) p.0 p.1) (value_reads plain)

    value_passes : IsPlain value → turn_passes s [] (expecting a.id position after_name) value ≡ true
    value_passes plain =
        ap (λ (p : Held × Step). word_passes s [] false (option a.id) value after_name && step_passes s position p.0 p.1) (value_reads plain)
        ∙ ap (λ (b : Bool). (b || flag_word_passes s.rules s.args_override_self (long_of value) value after_name) && true) plain.goes_on
        ∙ ap (λ (l : Option (Text × Option Text)). flag_word_passes s.rules s.args_override_self l value after_name && true) plain.no_long
        ∙ ap (λ (o : Option Text). option_map_or (λ flags. bundle_passes s.rules s.args_override_self flags after_name) o true && true) plain.no_short

    by_two : IsPlain value → MayBeGiven s a value h → Leads s (name_word name ∷ value ∷ []) (standing position h) (standing position after_value)
    by_two plain fits =
        leads_then s (name_word name ∷ []) (value ∷ []) (standing position h) (expecting a.id position after_name) (standing position after_value)
        (leads_by s (name_word name) (standing position h) (expecting a.id position after_name) name_is (name_passes fits))
        (leads_by s value (expecting a.id position after_name) (standing position after_value) (value_is plain) (value_passes plain))

    -- the words of the option, in either form, in front of any others: its value is held then
    pub option_taken : MayBeGiven s a value h → (words : List Text) → AreOptionWords name value words
        → (after : Held) × Leads s words (standing position h) (standing position after) × Enters s a value h after
    option_taken fits words (inl joined) = (
      after_joined,
      subst (λ (w : List Text). Leads s w (standing position h) (standing position after_joined)) (sym joined) (by_joined fits),
      record { rows_are = refl; settles = refl },
    )
    option_taken fits words (inr two) = (
      after_value,
      subst (λ (w : List Text). Leads s w (standing position h) (standing position after_value)) (sym two.1) (by_two (plain_word value two.0) fits),
      record {
        rows_are = ap (λ (r : Option Rule). used_by_id r (value ∷ []) (settled s.rules h).rows) is.by_id;
        settles =
            ap (λ (r : Option Rule). option_map_or (λ (b : Rule). use_passes s.args_override_self b (value ∷ []) (settled s.rules h).rows) r true) is.by_id
            ∙ fits.0;
      },
    )
