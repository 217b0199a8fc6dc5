-- Lines that are too long.
use Rattle.std.specs.Prelude.{◌≡◌, ◌<◌, ℕ, List, length, None, Result, Ok, Err, if◌then◌else◌}
use Rattle.std.proofs.Common.{ap}
use Rattle.std.proofs.lemmas.Bool.{lt-ltb}
use Rattle.s39_input.specs.declared.fault.LineRefusal.{LineRefusal}
use Rattle.s39_input.specs.declared.fault.LineRefusal.TheVariants.{TooLong}
use Rattle.s39_input.specs.Input.{longest_line, is_skipped}
use Rattle.s39_input.specs.Lines.{held, said}

-- a line that is too long is refused, whatever its reading
pub long_is_refused : {A E : Type 0} (refusal_of : E → LineRefusal) (line : List ℕ) (read : Result A E) → longest_line < length line
    → said refusal_of line read ≡ Err TooLong
long_is_refused refusal_of line read long =
    ap (λ b. if b then Err TooLong else (if is_skipped line then Ok None else held refusal_of read)) (lt-ltb longest_line (length line) long)
