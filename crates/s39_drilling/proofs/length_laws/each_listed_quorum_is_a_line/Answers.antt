use Rattle.std.proofs.Common.{sym}
use Rattle.s39_drilling.proofs.Drills.LinesOfDrills.{lines_of_quorums, lines_and_last}
use Rattle.s39_drilling.proofs.length_laws.each_listed_quorum_is_a_line.Goals as goal

pub returns-clause-lines : goal.returns-clause-lines
returns-clause-lines c = λ form listed more. sym (lines_and_last (lines_of_quorums form listed) more).0

pub returns-clause-last : goal.returns-clause-last
returns-clause-last c = λ form listed more. sym (lines_and_last (lines_of_quorums form listed) more).1
