-- What `shamir_quorums` gives.
use Rattle.std.specs.Prelude.{◌-◌, ◌^◌, min, List, [], ◌∷◌, Result, Ok, Err}
use Rattle.s39_words.specs.declared.ShareFields.{ShareFields}
use Rattle.s39_set.specs.Counting.{quorum_count}
use Rattle.s39_set.specs.declared.set_lack.SetLack.TheVariants.{NoShares}
use Rattle.s39_input.specs.declared.fault.Refusal.TheVariants.{Lack}
use Rattle.s39_input.specs.declared.fault.LineRefusal.{LineRefusal}
use Rattle.s39_input.specs.declared.fault.Stop.{Stop}
use Rattle.s39_input.specs.Fault.{fault_of, fault_of_stop}
use Rattle.s39_c.specs.declared.answer.ShamirAnswer.{ShamirAnswer}
use Rattle.s39_c.specs.Answers.{number, refused}

-- how many quorums a set has, up to the greatest number of 64 bits; a set without shares is refused
abbrev pub set_answer : List ShareFields → ShamirAnswer
set_answer [] = refused (fault_of (Lack NoShares))
set_answer (share ∷ shares) = number (min (quorum_count (share ∷ shares)) (2 ^ 64 - 1))

-- the same for the set of lines, or the refusal of a line
abbrev pub counted_answer : Result (List ShareFields) (Stop LineRefusal) → ShamirAnswer
counted_answer (Ok set) = set_answer set
counted_answer (Err stop) = refused (fault_of_stop stop)
