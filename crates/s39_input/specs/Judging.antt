-- What a mnemonic is beside lines that were taken before. Two mnemonics are taken to be of one backup if they have one identifier.
use Rattle.std.specs.Prelude.{ℕ, List, [], length, Option, Some, None, Bool, true, false, filter, nat_lt, ◌==◌, if◌then◌else◌, Result, Ok, Err}
use Rattle.std.specs.Option.{option_map_or}
use Rattle.s39_lists.specs.Each.{and_then}
use Rattle.s39_words.specs.declared.ShareFields.{ShareFields}
use Rattle.s39_words.specs.declared.word_error.WordError.{WordError}
use Rattle.s39_words.specs.Reading.{reading}
use Rattle.s39_set.specs.declared.set_error.SetError.{SetError}
use Rattle.s39_set.specs.ShareSet.{refusal_of}
use Rattle.s39_input.specs.declared.fault.LineRefusal.{LineRefusal}
use Rattle.s39_input.specs.declared.fault.LineRefusal.TheVariants.{Word, TooLong, Set}
use Rattle.s39_input.specs.declared.fault.Stop.{Stop}
use Rattle.s39_input.specs.declared.fault.Refusal.TheVariants.{Line}
use Rattle.s39_input.specs.declared.fault.Fault.{Fault}
use Rattle.s39_input.specs.declared.judging.Judged.{Judged}
use Rattle.s39_input.specs.Accepted.{held_share, shares_in, with_held, with_share}
use Rattle.s39_input.specs.Fault.{fault_of, fault_of_stop}
use Rattle.s39_input.specs.Input.{longest_line, whole, lines_of}
use Rattle.s39_input.specs.Lines.{share_in, led}

-- the share that is held, if it has this identifier
abbrev pub mate_in : ℕ → Option ShareFields → Option ShareFields
mate_in id None = None
mate_in id (Some share) = if share.id == id then Some share else None

-- The set with the share that a line holds, if this has the identifier. A line that holds another share, or nothing, leaves the set
-- as it is. A line is refused by itself, or because a share with the identifier can't join the set.
abbrev pub with_mate : ℕ → List ShareFields → List ℕ → Result (List ShareFields) LineRefusal
with_mate id set line = and_then (λ held. with_held set (mate_in id held)) (share_in line)

-- the set of the shares of these lines that have this identifier, or the first line that is refused
unfoldable pub mates : ℕ → List ℕ → Result (List ShareFields) (Stop LineRefusal)
mates id lines = led (with_mate id) true 0 [] (lines_of (whole lines))

-- a line holds a share with this identifier
abbrev pub holds_mate : ℕ → List ℕ → Bool
holds_mate id line = option_map_or (λ share. share.id == id) (held_share (share_in line)) false

-- the shares with this identifier that these lines hold, in the order of the lines
abbrev pub mate_shares : ℕ → List ℕ → List ShareFields
mate_shares id lines = shares_in (filter (holds_mate id) (lines_of (whole lines)))

-- that set, or the fault of the lines
abbrev pub set_or_fault : Result (List ShareFields) (Stop LineRefusal) → Result (List ShareFields) Fault
set_or_fault (Ok set) = Ok set
set_or_fault (Err stop) = Err (fault_of_stop stop)

-- the share that a text is read as; or the fault that it is no mnemonic, which has no line
abbrev pub share_or_fault : Result ShareFields WordError → Result ShareFields Fault
share_or_fault (Ok share) = Ok share
share_or_fault (Err error) = Err (fault_of (Line (Word error)))

-- the share of a mnemonic; or the fault that a text is too long for a line, or no mnemonic, which has no line
abbrev pub share_of : List ℕ → Result ShareFields Fault
share_of line = if nat_lt longest_line (length line) then Err (fault_of (Line TooLong)) else share_or_fault (reading line)

-- whether the set has the share already: then it doesn't grow by it
abbrev pub is_again : List ShareFields → ShareFields → Bool
is_again set share = length (with_share share set) == length set

-- a share, whether it came before, and the set with it
abbrev pub judged : ShareFields → Bool → List ShareFields → Judged
judged share again set = record { share = share; again = again; set = set }

-- a share beside the set of its mates, and the set with it; or the fault that this error refuses it, which has no line
abbrev pub beside : ShareFields → List ShareFields → Option SetError → Result Judged Fault
beside share set None = Ok (judged share (is_again set share) (with_share share set))
beside share set (Some error) = Err (fault_of (Line (Set error)))

-- What a line is beside lines. It is judged by itself first, then those lines, and at last whether its share can join theirs.
abbrev pub judgement : List ℕ → List ℕ → Result Judged Fault
judgement lines line =
    and_then (λ share. and_then (λ set. beside share set (refusal_of set share)) (set_or_fault (mates share.id lines)))
    (share_of line)
