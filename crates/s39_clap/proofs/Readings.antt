-- What is held after the words of a level, one argument after the other.
use Rattle.std.proofs.Common.{◌≡◌, ◌∙◌, ◌+◌, ◌&&◌, ◌||◌, ℕ, Bool, cond, true, false, List, [], ◌∷◌, ◌++◌, Option, Some, None, ap, min, refl}
use Rattle.std.specs.Option.{option_map_or}
use Rattle.clap.specs.Lexer.{long_of, usize_max}
use Rattle.clap.specs.Walk.{Held, Row, Rule, Step, Text, Walk, after_step, arg_by_id, arg_by_index, idle, is_multiple, is_pending, long_or_other, nothing_held}
use Rattle.clap.specs.Walk.{positional, pushed, settled, short_or_plain, takes_several, to_positional, trailing, used, used_by_id, value, walk_from, walked}
use Rattle.clap.specs.Walk.{word_met}
use Rattle.clap.specs.Simple.{Shape}
use Rattle.clap.specs.Takes.{bundle_passes, flag_word_passes, settle_passes, step_passes, turn_passes, use_passes, word_passes}
use Rattle.s39_clap.specs.Options.{AreOptionWords, HasNoDash}
use Rattle.s39_clap.proofs.Options.{MayBeGiven, IsOption, IsPlain, Leads, leads_by, leads_then, option_taken, plain_word, standing}

-- These words of the level are read, none of them is refused, and then these rows are held.
pub record Reads (s : Shape) (position : ℕ) (words : List Text) (rows : List Row) : Type 0 where
  pub end : Held
  pub leads : Leads s words (walk_from nothing_held) (standing position end)
  pub rows_are : (settled s.rules end).rows ≡ rows
  pub settles : settle_passes s.rules s.args_override_self end ≡ true

pub reads_none : (s : Shape) → Reads s 1 [] []
reads_none s = record {
  end = nothing_held;
  leads = record { walks = λ rest. refl; passes = λ rest. refl };
  rows_are = refl;
  settles = refl;
}

-- the argument may have this value behind these rows
abbrev pub MayHave : Shape → Rule → Text → List Row → Type 0
MayHave s a text rows = use_passes s.args_override_self a (text ∷ []) rows ≡ true

-- and then those of an option
pub reads_option : (s : Shape) (position : ℕ) (before : List Text) (rows : List Row) → Reads s position before rows → (a : Rule) (name text : Text)
    (words : List Text) → IsOption s a name → AreOptionWords name text words → MayHave s a text rows
    → Reads s position (before ++ words) (used a (text ∷ []) rows)
reads_option s position before rows reads a name text words is are may =
    let fits : MayBeGiven s a text reads.end =
    (ap (λ (r : List Row). use_passes s.args_override_self a (text ∷ []) r) reads.rows_are ∙ may, reads.settles) in
    let taken = option_taken s a name is position reads.end text fits words are in
    record {
      end = taken.0;
      leads = leads_then s before words (walk_from nothing_held) (standing position reads.end) (standing position taken.0) reads.leads taken.1;
      rows_are = taken.2.rows_are ∙ ap (used a (text ∷ [])) reads.rows_are;
      settles = taken.2.settles;
    }

-- this positional is the level's at the place, and takes one value
pub record IsPositional (s : Shape) (a : Rule) (position : ℕ) : Type 0 where
  pub at : arg_by_index s.rules position ≡ Some a
  pub by_id : arg_by_id s.rules a.id ≡ Some a
  pub one : is_multiple a ≡ false
  pub several : takes_several a ≡ false
  pub goes_on : a.trailing_var_arg ≡ false

and_none : (b : Bool) → (b && false) ≡ false
and_none true = refl
and_none false = refl

module _ (s : Shape) (a : Rule) (position : ℕ) (is : IsPositional s a position) (h : Held) (word : Text) (plain : IsPlain word) where
  word_reads : word_met s.rules [] false idle position word h ≡ (h, value)
  word_reads =
      ap (λ (b : Bool). cond b (h, trailing position) (long_or_other s.rules idle word (long_of word) h)) plain.goes_on
      ∙ ap (λ (l : Option (Text × Option Text)). long_or_other s.rules idle word l h) plain.no_long
      ∙ ap (λ (o : Option Text). short_or_plain s.rules idle word o h) plain.no_short

  word_is_taken : word_passes s [] false idle word h ≡ true
  word_is_taken =
      ap (λ (b : Bool). b || flag_word_passes s.rules s.args_override_self (long_of word) word h) plain.goes_on
      ∙ ap (λ (l : Option (Text × Option Text)). flag_word_passes s.rules s.args_override_self l word h) plain.no_long
      ∙ ap (λ (o : Option Text). option_map_or (λ flags. bundle_passes s.rules s.args_override_self flags h) o true) plain.no_short

  none_more : (is_pending a h.pending && takes_several a) ≡ false
  none_more = ap (λ (b : Bool). is_pending a h.pending && b) is.several ∙ and_none (is_pending a h.pending)

  abbrev after_word : Held
  after_word = pushed a.id word (settled s.rules h)

  abbrev next_place : ℕ
  next_place = min (position + 1) usize_max

  abbrev ends_at : Bool → Bool → Bool → Walk
  ends_at again many trails = record {
    held = pushed a.id word (cond again h (settled s.rules h));
    waiting = cond many positional idle;
    position = cond many position next_place;
    is_trailing = trails;
    stopped = None;
  }

  pub word_is : walked s.rules [] (standing position h) word ≡ standing next_place after_word
  unfolding walked
  word_is =
      ap (λ (p : Held × Step). after_step s.rules word (standing position h) p.0 p.1) word_reads
      ∙ ap (λ (r : Option Rule). to_positional s.rules r word (standing position h) h) is.at
      ∙ ap (λ (b : Bool). ends_at b (is_multiple a) a.trailing_var_arg) none_more
      ∙ ap (λ (b : Bool). ends_at false b a.trailing_var_arg) is.one
      ∙ ap (λ (b : Bool). ends_at false false b) is.goes_on

  pub word_passes_here : settle_passes s.rules s.args_override_self h ≡ true → turn_passes s [] (standing position h) word ≡ true
  word_passes_here settles =
      ap (λ (b : Bool). b && step_passes s position (word_met s.rules [] false idle position word h).0 (word_met s.rules [] false idle position word h).1)
      word_is_taken
      ∙ ap (λ (p : Held × Step). step_passes s position p.0 p.1) word_reads
      ∙ ap (λ (r : Option Rule). option_map_or (λ (b : Rule). (is_pending b h.pending && takes_several b)
      || settle_passes s.rules s.args_override_self h) r false) is.at
      ∙ ap (λ (b : Bool). b || settle_passes s.rules s.args_override_self h) none_more ∙ settles

-- and then a positional
pub reads_positional : (s : Shape) (position : ℕ) (before : List Text) (rows : List Row) → Reads s position before rows → (a : Rule) (word : Text)
    → IsPositional s a position → HasNoDash word → MayHave s a word rows
    → Reads s (min (position + 1) usize_max) (before ++ word ∷ []) (used a (word ∷ []) rows)
reads_positional s position before rows reads a word is none may =
    let plain = plain_word word none in
    let after = after_word s a position is reads.end word plain in
    let next = next_place s a position is reads.end word plain in
    record {
      end = after;
      leads = leads_then s before (word ∷ []) (walk_from nothing_held) (standing position reads.end) (standing next after) reads.leads
          (leads_by s word (standing position reads.end) (standing next after) (word_is s a position is reads.end word plain)
          (word_passes_here s a position is reads.end word plain reads.settles));
      rows_are = ap (λ (r : Option Rule). used_by_id r (word ∷ []) (settled s.rules reads.end).rows) is.by_id ∙ ap (used a (word ∷ [])) reads.rows_are;
      settles =
          ap (λ (r : Option Rule). option_map_or (λ (b : Rule). use_passes s.args_override_self b (word ∷ []) (settled s.rules reads.end).rows) r true) is.by_id
          ∙ ap (λ (r : List Row). use_passes s.args_override_self a (word ∷ []) r) reads.rows_are ∙ may;
    }
