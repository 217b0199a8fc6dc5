use Rattle.s39_input.specs.Input.{whole}
use Rattle.s39_input.proofs.Sets.WholeTexts.{whole_text_meets}
use Rattle.s39_reading.proofs.Runs.WholeTexts.{recovers_whole}
use Rattle.s39_reading.proofs.round_trips.written_mnemonics_recover.Goals as goal

pub returns-clause-all_lines : goal.returns-clause-all_lines
returns-clause-all_lines c = λ form expected asked random text plan created told.
    let (output, answer, recovers) = c.some_recover_output.ensures form expected asked.passphrase (whole text) in
    let (set, read, gives) =
    c.created_backups_recover.ensures form expected asked.passphrase (whole text) output answer recovers asked.secret
    (c.written_mnemonics_are_of_the_backup.ensures.all_lines asked random text plan created) in
    let meets =
    whole_text_meets c.printed_forms.ensures.first c.printed_forms.ensures.letters c.printed_forms.ensures.short
    c.whole_backups_meet_the_thresholds.ensures asked random text set plan created read
    (c.accepted_inputs_are_share_sets.ensures (whole text) set read) in
    recovers_whole form expected set meets asked.secret told asked.passphrase (whole text) output answer recovers gives

pub returns-clause-some_lines : goal.returns-clause-some_lines
returns-clause-some_lines c = λ form expected asked random text bytes output answer plan created lines recovers.
    c.created_backups_recover.ensures form expected asked.passphrase (whole bytes) output answer recovers asked.secret
    (c.written_mnemonics_are_of_the_backup.ensures.some_lines asked random text bytes plan created lines)
