use Rattle.s39_drilling.proofs.Lengths.FirstLines.{output_short, sum_reached}
use Rattle.s39_drilling.proofs.length_laws.first_lines_are_short.Goals as goal

pub returns-clause-most : goal.returns-clause-most
returns-clause-most c =
    output_short c.written_forms.ensures.quorums c.outcomes_in_range.ensures.secret c.outcomes_in_range.ensures.group c.one_checked_set.ensures

pub returns-clause-reached : goal.returns-clause-reached
returns-clause-reached c = sum_reached
