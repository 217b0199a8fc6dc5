-- What lines hold, and where the lines of an input lead.
use Rattle.std.specs.Prelude.{◌≡◌, ℕ, suc, List, [], ◌∷◌, length, Option, Some, None, Bool, true, false, nat_lt, if◌then◌else◌, Result, Ok, Err}
use Rattle.s39_lists.specs.Each.{and_then}
use Rattle.s39_words.specs.declared.ShareFields.{ShareFields}
use Rattle.s39_words.specs.Reading.{reading}
use Rattle.s39_input.specs.declared.fault.LineRefusal.{LineRefusal}
use Rattle.s39_input.specs.declared.fault.LineRefusal.TheVariants.{Word, TooLong}
use Rattle.s39_input.specs.declared.fault.Stop.{Stop}
use Rattle.s39_input.specs.declared.fault.Stop.TheVariants.{AtLine, ReadFailed}
use Rattle.s39_input.specs.Input.{longest_line, is_skipped}
use Rattle.s39_input.specs.Fault.{line_number}

-- what a line holds that is neither too long nor skipped
abbrev pub held : {A E : Type 0} → (E → LineRefusal) → Result A E → Result (Option A) LineRefusal
held refusal_of (Ok read) = Ok (Some read)
held refusal_of (Err error) = Err (refusal_of error)

-- What a line says by itself, if this is its reading. It is refused if it is too long. It says nothing if it is skipped, and
-- otherwise what it is read as, or it is refused for the error of its reading.
abbrev pub said : {A E : Type 0} → (E → LineRefusal) → List ℕ → Result A E → Result (Option A) LineRefusal
said refusal_of line read =
    if nat_lt longest_line (length line) then Err TooLong else if is_skipped line then Ok None else held refusal_of read

-- what a line holds: nothing if it is skipped, else the share that it is read as; or why it is refused by itself
abbrev pub share_in : List ℕ → Result (Option ShareFields) LineRefusal
share_in line = said Word line (reading line)

-- the line holds this: nothing, or a share
abbrev pub Holds : List ℕ → Option ShareFields → Type 0
Holds line held = share_in line ≡ Ok held

-- the line isn't refused by itself: it holds a share, or nothing
abbrev pub IsReadable : List ℕ → Type 0
IsReadable line = (held : Option ShareFields) × Holds line held

-- what a line leads to that comes after n others, or that it is refused
abbrev pub at_line : {S C : Type 0} → ℕ → Result S C → Result S (Stop C)
at_line n (Ok s) = Ok s
at_line n (Err cause) = Err (AtLine (record { number = line_number n; refusal = cause }))

-- what all lines lead to if the input ended, or that a read failed
abbrev pub at_end : {S C : Type 0} → Bool → S → Result S (Stop C)
at_end true s = Ok s
at_end false s = Err ReadFailed

-- Where lines lead from a state, each in turn, up to the first that is refused. They come after n others of an input, which
-- ended or failed behind them.
abbrev pub led : {S C : Type 0} → (S → List ℕ → Result S C) → Bool → ℕ → S → List (List ℕ) → Result S (Stop C)
led step ended n s [] = at_end ended s
led step ended n s (line ∷ lines) = and_then (λ t. led step ended (suc n) t lines) (at_line n (step s line))
