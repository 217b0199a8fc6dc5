use Rattle.s39_input.proofs.Sets.WrittenLines.{some_lines_hold, all_lines_hold}
use Rattle.s39_input.proofs.laws.written_mnemonics_are_of_the_backup.Goals as goal

pub returns-clause-all_lines : goal.returns-clause-all_lines
returns-clause-all_lines c = all_lines_hold c.printed_forms.ensures.first c.printed_forms.ensures.letters c.printed_forms.ensures.short

pub returns-clause-some_lines : goal.returns-clause-some_lines
returns-clause-some_lines c = λ asked random text bytes plan created.
    some_lines_hold c.printed_forms.ensures.first c.printed_forms.ensures.letters c.printed_forms.ensures.short asked random text plan created bytes
