-- The words of a subcommand, from those of its arguments.
use Rattle.std.proofs.Common.{◌≡◌, ℕ, ◌∙◌, ◌&&◌, Bool, cond, true, false, List, [], ◌∷◌, ◌++◌, find, Option, Some, ap, append-nil, is_some, option_map, refl}
use Rattle.std.proofs.Common.{sym}
use Rattle.std.specs.List.{fold, list_all}
use Rattle.std.specs.Option.{option_map_or}
use Rattle.std.proofs.lemmas.Bool.{and_from}
use Rattle.clap.specs.Walk.{Names, Row, Text, Walk, after_step, answers_to, finished, idle, nothing_held, rows_after, subcommand_met, subcommand_or_other, walk}
use Rattle.clap.specs.Walk.{walk_from, walked, with_default}
use Rattle.clap.specs.Simple.{App, Shape, built, entered, is_simple, label_of, names_of, rows_at, subcommand_of}
use Rattle.clap.specs.Takes.{built_takes, default_passes, entered_passes, is_valid, level_passes, other_passes, settle_passes, step_passes, takes, turn_passes}
use Rattle.clap.specs.Takes.{walk_passes}
use Rattle.clap.proofs.WalkLemmas.{walk_stopped}
use Rattle.s39_clap.proofs.Options.{Leads, standing}
use Rattle.s39_clap.proofs.Readings.{Reads}

-- ---- all words of a level

module _ (s : Shape) (words : List Text) (old new : Walk) (leads : Leads s words old new) where
  walks_all : fold (walked s.rules []) old words ≡ new
  walks_all = ap (fold (walked s.rules []) old) (sym (append-nil words)) ∙ leads.walks []

  passes_all : walk_passes s [] old words ≡ true
  unfolding walk_passes
  passes_all = ap (walk_passes s [] old) (sym (append-nil words)) ∙ leads.passes []

-- the level with these rows passes
pub record Completes (s : Shape) (rows : List Row) : Type 0 where
  pub defaults : list_all default_passes s.rules ≡ true
  pub valid : is_valid s (fold with_default rows s.rules) false ≡ true

module _ (s : Shape) (position : ℕ) (words : List Text) (rows : List Row) (reads : Reads s position words rows) where
  ends_there : fold (walked s.rules []) (walk_from nothing_held) words ≡ standing position reads.end
  ends_there = walks_all s words (walk_from nothing_held) (standing position reads.end) reads.leads

  -- what is found on the level
  pub rows_found : rows_after s.rules [] words ≡ fold with_default rows s.rules
  rows_found = ap (λ (w : Walk). finished s.rules w.held) ends_there ∙ ap (λ (r : List Row). fold with_default r s.rules) reads.rows_are

  pub level_taken : Completes s rows → level_passes s [] nothing_held words false ≡ true
  level_taken completes =
      ap (λ (w : Walk). walk_passes s [] (walk_from nothing_held) words && (settle_passes s.rules s.args_override_self w.held
      && (list_all default_passes s.rules && is_valid s (finished s.rules w.held) false))) ends_there
      ∙ and_from _ _ (passes_all s words (walk_from nothing_held) (standing position reads.end) reads.leads)
      (and_from _ _ reads.settles (and_from _ _ completes.defaults
      (ap (λ (r : List Row). is_valid s (fold with_default r s.rules) false) reads.rows_are ∙ completes.valid)))

-- ---- the level above

stopped_passes : (s : Shape) (names : Names) (w : Walk) (p : Text × List Text) (words : List Text)
    → walk_passes s names (record w { stopped = Some p }) words ≡ true
unfolding walk_passes walked
stopped_passes s names w p [] = refl
stopped_passes s names w p (x ∷ xs) = stopped_passes s names w (p.0, p.1 ++ x ∷ []) xs

-- the command has a subcommand of this name, after which its own arguments aren't read
pub record HasCommand (a : App) (name : Text) (s : Shape) : Type 0 where
  pub simple : is_simple a ≡ true
  pub program_first : a.top.no_binary_name ≡ false
  pub met : subcommand_met (names_of (built a)) idle name ≡ Some name
  pub is_no_help : other_passes (built a).top (Some name) name nothing_held ≡ true
  pub found : find (λ (x : Shape). answers_to name (label_of x)) (built a).subs ≡ Some s
  pub defaults : list_all default_passes (built a).top.rules ≡ true
  pub valid : is_valid (built a).top (finished (built a).top.rules nothing_held) true ≡ true

module _ (a : App) (name : Text) (s : Shape) (has : HasCommand a name s) (words : List Text) where
  abbrev top : Shape
  top = (built a).top

  abbrev names : Names
  names = names_of (built a)

  abbrev stopped : List Text → Walk
  stopped left = record (walk_from nothing_held) { stopped = Some (name, left) }

  name_is : walked top.rules names (walk_from nothing_held) name ≡ stopped []
  unfolding walked
  name_is =
      ap (λ (o : Option Text). after_step top.rules name (walk_from nothing_held)
      (subcommand_or_other top.rules o idle 1 name nothing_held).0 (subcommand_or_other top.rules o idle 1 name nothing_held).1) has.met

  walk_is : walk top.rules names nothing_held (name ∷ words) ≡ stopped words
  walk_is = ap (λ (w : Walk). fold (walked top.rules names) w words) name_is ∙ sym (walk_stopped top.rules names (walk_from nothing_held) name [] words)

  name_passes : turn_passes top names (walk_from nothing_held) name ≡ true
  name_passes =
      ap (λ (o : Option Text). other_passes top o name nothing_held && step_passes top 1
      (subcommand_or_other top.rules o idle 1 name nothing_held).0 (subcommand_or_other top.rules o idle 1 name nothing_held).1) has.met
      ∙ and_from _ _ has.is_no_help refl

  walk_is_taken : walk_passes top names (walk_from nothing_held) (name ∷ words) ≡ true
  unfolding walk_passes
  walk_is_taken =
      ap (λ (w : Walk). turn_passes top names (walk_from nothing_held) name && walk_passes top names w words) name_is
      ∙ and_from _ _ name_passes (stopped_passes top names (walk_from nothing_held) (name, []) words)

  abbrev passes_at : Walk → Bool → Bool
  passes_at w passes = entered_passes (built a) w.stopped && (passes && (settle_passes top.rules top.args_override_self w.held
      && (list_all default_passes top.rules && is_valid top (finished top.rules w.held) (is_some (entered (built a) w.stopped)))))

  abbrev passes_with : Option Shape → Bool
  passes_with o = option_map_or (λ (x : Shape). level_passes x [] nothing_held words false) o true
      && (list_all default_passes top.rules && is_valid top (finished top.rules nothing_held) (is_some (option_map (λ (x : Shape). rows_at x words) o)))

  -- the words are taken where those of the subcommand are
  command_taken : (program : Text) → level_passes s [] nothing_held words false ≡ true → takes a (program ∷ name ∷ words) ≡ true
  command_taken program level =
      ap (λ (b : Bool). is_simple a && built_takes (built a) nothing_held (cond b (program ∷ name ∷ words) (name ∷ words))) has.program_first
      ∙ and_from _ _ has.simple (ap (λ (w : Walk). passes_at w (walk_passes top names (walk_from nothing_held) (name ∷ words))) walk_is
      ∙ ap (λ (b : Bool). passes_at (stopped words) b) walk_is_taken
      ∙ ap passes_with has.found ∙ and_from _ _ level (and_from _ _ has.defaults has.valid))

  -- and what is found for its arguments is what is found in them
  command_found : (program : Text) → subcommand_of a (program ∷ name ∷ words) ≡ Some (s.name, rows_after s.rules [] words)
  command_found program =
      ap (λ (b : Bool). entered (built a) (walk top.rules names nothing_held (cond b (program ∷ name ∷ words) (name ∷ words))).stopped) has.program_first
      ∙ ap (λ (w : Walk). entered (built a) w.stopped) walk_is ∙ ap (option_map (λ (x : Shape). rows_at x words)) has.found

  -- words of the subcommand that are read, so that nothing is missing, are taken
  pub reading_taken : (program : Text) (position : ℕ) (rows : List Row) → Reads s position words rows → Completes s rows
      → takes a (program ∷ name ∷ words) ≡ true
  reading_taken program position rows reads completes = command_taken program (level_taken s position words rows reads completes)

  -- and what is found is what is held then, with the defaults
  pub reading_found : (program : Text) (position : ℕ) (rows : List Row) → Reads s position words rows
      → subcommand_of a (program ∷ name ∷ words) ≡ Some (s.name, fold with_default rows s.rules)
  reading_found program position rows reads =
      command_found program ∙ ap (λ (r : List Row). Some (s.name, r)) (rows_found s position words rows reads)
