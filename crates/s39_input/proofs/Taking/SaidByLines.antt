-- What a line says by its length, by what it begins with, and by its reading.
use Rattle.std.proofs.Common.{◌≡◌, ℕ, ◌≤◌, Bool, true, false, cond, List, length, ap, ◌∙◌, Some, None, Result, Ok, Err}
use Rattle.std.specs.Prelude.{nat_lt}
use Rattle.std.proofs.lemmas.Bool.{le-ltb}
use Rattle.s39_words.specs.declared.ShareFields.{ShareFields}
use Rattle.s39_words.specs.declared.WordError.{WordError}
use Rattle.s39_words.specs.Reading.{reading}
use Rattle.s39_input.specs.declared.fault.LineRefusal.{LineRefusal}
use Rattle.s39_input.specs.declared.fault.LineRefusal.TheVariants.{Word, TooLong}
use Rattle.s39_input.specs.Input.{longest_line, is_skipped}
use Rattle.s39_input.specs.Lines.{held, said, Holds}

module _ {A E : Type 0} (refusal_of : E → LineRefusal) (line : List ℕ) (read : Result A E) where
  pub said_short : length line ≤ longest_line → said refusal_of line read ≡ cond (is_skipped line) (Ok None) (held refusal_of read)
  said_short short = ap (λ b. cond b (Err TooLong) (cond (is_skipped line) (Ok None) (held refusal_of read))) (le-ltb longest_line (length line) short)

  pub said_skipped : length line ≤ longest_line → is_skipped line ≡ true → said refusal_of line read ≡ Ok None
  said_skipped short skipped = said_short short ∙ ap (λ b. cond b (Ok None) (held refusal_of read)) skipped

  pub said_held : length line ≤ longest_line → is_skipped line ≡ false → said refusal_of line read ≡ held refusal_of read
  said_held short other = said_short short ∙ ap (λ b. cond b (Ok None) (held refusal_of read)) other

-- a line holds the share that it is read as
pub holds_read : (line : List ℕ) (share : ShareFields) → length line ≤ longest_line → is_skipped line ≡ false → reading line ≡ Ok share
    → Holds line (Some share)
holds_read line share short other read = said_held Word line (reading line) short other ∙ ap (held Word) read

-- and no other
pub held_is_read : (line : List ℕ) (share : ShareFields) → Holds line (Some share) → reading line ≡ Ok share
held_is_read line share holds = by (nat_lt longest_line (length line)) (is_skipped line) (reading line) holds where
  by : (long skipped : Bool) (read : Result ShareFields WordError) → cond long (Err TooLong) (cond skipped (Ok None) (held Word read)) ≡ Ok (Some share)
      → read ≡ Ok share
  by true skipped read is = absurd (cc)
  by false true read is = absurd (cc)
  by false false (Err error) is = absurd (cc)
  by false false (Ok other) is = cc
