-- The output of `status`.
use Rattle.std.specs.Prelude.{◌≡◌, ℕ, List, [], ◌∷◌, ◌++◌, length, map, codes, Option, Some, None, Result, Ok}
use Rattle.std.specs.Fmt.{decimal}
use Rattle.std.specs.List.{range_with_len, flat_map}
use Rattle.s39_words.specs.declared.ShareFields.{ShareFields}
use Rattle.s39_set.specs.Names.{most_groups}
use Rattle.s39_set.specs.Written.{quorum_text}
use Rattle.s39_set.specs.Status.{status_of, group_status_of}
use Rattle.s39_set.specs.declared.set_lack.SetLack.TheVariants.{NoShares}
use Rattle.s39_set.specs.declared.status.Status.{Status}
use Rattle.s39_set.specs.declared.status.GroupStatus.{GroupStatus}
use Rattle.s39_input.specs.declared.fault.Refusal.TheVariants.{Lack}
use Rattle.s39_input.specs.declared.fault.Fault.{Fault}
use Rattle.s39_input.specs.Input.{Input, ended_line}
use Rattle.s39_input.specs.Fault.{fault_of, fault_of_stop}
use Rattle.s39_input.specs.Accepted.{IsReadAs}
use Rattle.s39_input.specs.Steps.{Then, nothing_for}

-- the first line: how many groups are complete, and how many are needed
abbrev pub first_line : Status → List ℕ
first_line status = ended_line (codes "groups " ++ decimal status.complete ++ codes " of " ++ decimal status.required)

-- the line of a group: how many of its members are at hand, how many are needed, and the names of those at hand
abbrev pub group_line : GroupStatus → List ℕ
group_line status =
    ended_line (codes "group " ++ decimal status.group ++ codes " members " ++ decimal (length status.names)
    ++ codes " of " ++ decimal status.threshold ++ 32 ∷ quorum_text status.names)

-- what is written for a group: its line, if it has a share at hand
abbrev pub group_text : Option GroupStatus → List ℕ
group_text None = []
group_text (Some status) = group_line status

-- the first line, and the line of each group of which a share is at hand, in ascending order
abbrev pub status_text : List ShareFields → Status → List ℕ
status_text set status = first_line status ++ flat_map (λ group. group_text (group_status_of set group)) (range_with_len 0 most_groups)

-- these lines, of which that of a group may be empty
abbrev pub lines_of_status : List ShareFields → Status → List (List ℕ)
lines_of_status set status = first_line status ∷ map (λ group. group_text (group_status_of set group)) (range_with_len 0 most_groups)

-- what is written and answered for a set with this status; nothing is written if it has no shares
abbrev pub status_written : List ShareFields → Option Status → List ℕ × Result Status Fault
status_written set None = nothing_for (fault_of (Lack NoShares))
status_written set (Some status) = (status_text set status, Ok status)

-- `status` writes this text for lines with the shares of this set, and gives this answer
abbrev pub IsStatusOf : List ShareFields → List ℕ → Result Status Fault → Type 0
IsStatusOf set text answer = (text, answer) ≡ status_written set (status_of set)

-- `status` writes this text for the input, and gives this answer. It judges the lines of the input first, and then the
-- set of their shares.
abbrev pub IsStatusOutput : Input → List ℕ → Result Status Fault → Type 0
IsStatusOutput input text answer =
    Then (IsReadAs input) (λ stop. nothing_for (fault_of_stop stop)) (λ set written. written ≡ status_written set (status_of set)) (text, answer)
