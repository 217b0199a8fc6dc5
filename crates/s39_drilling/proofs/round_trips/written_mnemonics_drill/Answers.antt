use Rattle.std.proofs.Common.{None}
use Rattle.s39_input.specs.Input.{whole}
use Rattle.s39_input.proofs.Sets.WholeTexts.{whole_text_meets}
use Rattle.s39_drilling.proofs.Drills.WholeTexts.{lists_whole}
use Rattle.s39_drilling.proofs.round_trips.written_mnemonics_drill.Goals as goal

pub returns-clause-all_lines : goal.returns-clause-all_lines
returns-clause-all_lines c = λ form asked random text limit output answer plan created drills.
    let (set, read, gives) =
    c.created_backups_drill.ensures form asked.passphrase None limit (whole text) output answer drills asked.secret
    (c.written_mnemonics_are_of_the_backup.ensures.all_lines asked random text plan created) in
    let meets =
    whole_text_meets c.printed_forms.ensures.first c.printed_forms.ensures.letters c.printed_forms.ensures.short
    c.whole_backups_meet_the_thresholds.ensures asked random text set plan created read
    (c.accepted_inputs_are_share_sets.ensures (whole text) set read) in
    let listed = lists_whole form set meets asked.secret limit output answer gives in
    (set, read, listed)

pub returns-clause-some_lines : goal.returns-clause-some_lines
returns-clause-some_lines c = λ form asked random text bytes after limit output answer plan created lines drills.
    c.created_backups_drill.ensures form asked.passphrase after limit (whole bytes) output answer drills asked.secret
    (c.written_mnemonics_are_of_the_backup.ensures.some_lines asked random text bytes plan created lines)
